-- What is built of the clauses and the routes of a file, one item behind the other.
use Rattle.std.proofs.Common.{◌≡◌, ℕ, ◌+◌, ◌<◌, List, [], ◌∷◌, ◌++◌, length, get_or, drop, Option, Some, None, refl, sym, ap, ◌∙◌, append_assoc}
use Rattle.std.proofs.lemmas.List.{at_drop_more}
use Rattle.eip_exchange.specs.declared.setting.Clause.{Clause}
use Rattle.eip_text.specs.Json.{Json, Members, json, items_json}
use Rattle.eip_text.specs.declared.tree.Tree.{Tree}
use Rattle.eip_route.specs.Nest.{NestedClause, NestedRoute, FlatClauses, FlatRoutes, number_of, flat_last, flat_block, flat_clauses, flat_routes}
use Rattle.eip_route.specs.declared.route.Block.{Block}
use Rattle.eip_route.specs.declared.route.Route.{Route}
use Rattle.eip_route_grammar.specs.declared.keys.Key.TheVariants as key
use Rattle.eip_route_values.specs.Built.{IsRoute, MayBeRoute, numbered}
use Rattle.eip_route_values.specs.Leaves.{members_in}
use Rattle.eip_route_values.specs.Sets.{clause_in, clauses_of, with_clause, route_given, routes_of, with_route}
use Rattle.eip_route_values.specs.declared.built.BuiltRoute.{BuiltRoute}
use Rattle.eip_route_blocks.proofs.Appended.{with_clauses, with_routes}

-- ---- clauses

-- the clause of these blocks, of which the first has the number n
abbrev pub clause_at : ℕ → NestedClause → List Block → Clause
clause_at n c blocks = record { names = c.names; policy = c.policy; handled = c.handled; continued = c.continued; block = number_of n blocks }

regrouped_clauses : (cs ds : List Clause) (bs es : List Block) (r : FlatClauses) → with_clauses cs bs (with_clauses ds es r) ≡ with_clauses (cs ++ ds) (bs ++ es) r
regrouped_clauses cs ds bs es r = λ j. record { clauses = sym (append_assoc cs ds r.clauses) j; blocks = sym (append_assoc bs es r.blocks) j }

-- one more clause behind those before
pub clause_built : (ts : List Tree) (i : ℕ) (x : Tree) (ms : Members) (n m : ℕ) (cs all_cs : List Clause) (c : Clause) (bs more all_bs : List Block) (all : FlatClauses) → x ≡ get_or ts i x → i < length ts
    → all ≡ with_clauses cs bs (flat_clauses n (clauses_of (items_json (drop i ts)))) → Some ms ≡ members_in key.OnException (json x)
    → more ≡ flat_last n (clause_in ms).steps → c ≡ clause_at n (clause_in ms) more → m ≡ n + length more → all_cs ≡ cs ++ (c ∷ []) → all_bs ≡ bs ++ more
    → all ≡ with_clauses all_cs all_bs (flat_clauses m (clauses_of (items_json (drop (i + 1) ts))))
clause_built ts i x ms n m cs all_cs c bs more all_bs all same l e some p q at r t =
    let rest = clauses_of (items_json (drop (i + 1) ts)) in
    let blocks = flat_last n (clause_in ms).steps in
    let first = clause_at n (clause_in ms) blocks in
    let opened : all ≡ with_clauses cs bs (with_clauses (first ∷ []) blocks (flat_clauses (n + length blocks) rest)) =
    e
    ∙ (at_drop_more (λ y. with_clauses cs bs (flat_clauses n (clauses_of (items_json y)))) ts i x l
    ∙ (ap (λ (y : Tree). with_clauses cs bs (flat_clauses n (with_clause (members_in key.OnException (json y)) rest))) (sym same)
    ∙ ap (λ (o : Option Members). with_clauses cs bs (flat_clauses n (with_clause o rest))) (sym some))) in
    let there : n + length blocks ≡ m = sym (at ∙ ap (λ (y : List Block). n + length y) p) in
    let clauses : cs ++ (first ∷ []) ≡ all_cs = sym (r ∙ ap (λ (y : Clause). cs ++ (y ∷ [])) (q ∙ ap (λ (y : List Block). clause_at n (clause_in ms) y) p)) in
    let stay : bs ++ blocks ≡ all_bs = sym (t ∙ ap (λ (y : List Block). bs ++ y) p) in
    opened ∙ (regrouped_clauses cs (first ∷ []) bs blocks (flat_clauses (n + length blocks) rest) ∙ (λ j. with_clauses (clauses j) (stay j) (flat_clauses (there j) rest)))

-- an item that is no clause
pub clause_passed : (ts : List Tree) (i : ℕ) (x : Tree) (n : ℕ) (cs : List Clause) (bs : List Block) (all : FlatClauses) → x ≡ get_or ts i x → i < length ts
    → all ≡ with_clauses cs bs (flat_clauses n (clauses_of (items_json (drop i ts)))) → None ≡ members_in key.OnException (json x)
    → all ≡ with_clauses cs bs (flat_clauses n (clauses_of (items_json (drop (i + 1) ts))))
clause_passed ts i x n cs bs all same l e none =
    let rest = clauses_of (items_json (drop (i + 1) ts)) in
    e
    ∙ (at_drop_more (λ y. with_clauses cs bs (flat_clauses n (clauses_of (items_json y)))) ts i x l
    ∙ (ap (λ (y : Tree). with_clauses cs bs (flat_clauses n (with_clause (members_in key.OnException (json y)) rest))) (sym same)
    ∙ ap (λ (o : Option Members). with_clauses cs bs (flat_clauses n (with_clause o rest))) (sym none)))

-- ---- routes

-- the route of an item, of which k is the position
abbrev pub route_of : ℕ → Json → Option NestedRoute
route_of k t = route_given k (members_in key.Route t) (members_in key.From t)

-- a route was built of one that is said
pub is_said : (n : ℕ) (b : BuiltRoute) (o : Option NestedRoute) → MayBeRoute n (Some b) o → (x : NestedRoute) × (Some x ≡ o) × IsRoute n b x
is_said n b None h = absurd h
is_said n b (Some x) h = (x, refl, h)

regrouped_routes : (rs qs : List Route) (bs es : List Block) (r : FlatRoutes) → with_routes rs bs (with_routes qs es r) ≡ with_routes (rs ++ qs) (bs ++ es) r
regrouped_routes rs qs bs es r = λ j. record { routes = sym (append_assoc rs qs r.routes) j; blocks = sym (append_assoc bs es r.blocks) j }

-- an item, at its position
at_item : (ts : List Tree) (i : ℕ) (x : Tree) (k n : ℕ) (rs : List Route) (bs : List Block) (all : FlatRoutes) → x ≡ get_or ts i x → i < length ts
    → all ≡ with_routes rs bs (flat_routes n (routes_of k (items_json (drop i ts))))
    → all ≡ with_routes rs bs (flat_routes n (with_route k (route_of k (json x)) (λ j. routes_of j (items_json (drop (i + 1) ts)))))
at_item ts i x k n rs bs all same l e =
    let rest = λ (j : ℕ). routes_of j (items_json (drop (i + 1) ts)) in
    e
    ∙ (at_drop_more (λ y. with_routes rs bs (flat_routes n (routes_of k (items_json y)))) ts i x l
    ∙ ap (λ (y : Tree). with_routes rs bs (flat_routes n (with_route k (route_of k (json y)) rest))) (sym same))

-- one more route behind those before
pub route_built : (ts : List Tree) (i : ℕ) (x : Tree) (y : NestedRoute) (k next n m : ℕ) (rs all_rs : List Route) (r : Route) (bs more all_bs : List Block) (all : FlatRoutes) → x ≡ get_or ts i x → i < length ts
    → all ≡ with_routes rs bs (flat_routes n (routes_of k (items_json (drop i ts)))) → Some y ≡ route_of k (json x) → (r ≡ numbered n y) × (more ≡ flat_block n y.steps)
    → next ≡ k + 1 → m ≡ n + length more → all_rs ≡ rs ++ (r ∷ []) → all_bs ≡ bs ++ more
    → all ≡ with_routes all_rs all_bs (flat_routes m (routes_of next (items_json (drop (i + 1) ts))))
route_built ts i x y k next n m rs all_rs r bs more all_bs all same l e some p after at q t =
    let rest = λ (j : ℕ). routes_of j (items_json (drop (i + 1) ts)) in
    let blocks = flat_block n y.steps in
    let first = numbered n y in
    let opened : all ≡ with_routes rs bs (with_routes (first ∷ []) blocks (flat_routes (n + length blocks) (rest (k + 1)))) =
    at_item ts i x k n rs bs all same l e ∙ ap (λ (o : Option NestedRoute). with_routes rs bs (flat_routes n (with_route k o rest))) (sym some) in
    let there : n + length blocks ≡ m = sym (at ∙ ap (λ (z : List Block). n + length z) p.1) in
    let routes : rs ++ (first ∷ []) ≡ all_rs = sym (q ∙ ap (λ (z : Route). rs ++ (z ∷ [])) p.0) in
    let stay : bs ++ blocks ≡ all_bs = sym (t ∙ ap (λ (z : List Block). bs ++ z) p.1) in
    opened
    ∙ (regrouped_routes rs (first ∷ []) bs blocks (flat_routes (n + length blocks) (rest (k + 1))) ∙ (λ j. with_routes (routes j) (stay j) (flat_routes (there j) (rest (sym after j)))))

-- an item that is no route
pub route_passed : (ts : List Tree) (i : ℕ) (x : Tree) (k n : ℕ) (rs : List Route) (bs : List Block) (all : FlatRoutes) → x ≡ get_or ts i x → i < length ts
    → all ≡ with_routes rs bs (flat_routes n (routes_of k (items_json (drop i ts)))) → None ≡ route_of k (json x)
    → all ≡ with_routes rs bs (flat_routes n (routes_of k (items_json (drop (i + 1) ts))))
route_passed ts i x k n rs bs all same l e none =
    let rest = λ (j : ℕ). routes_of j (items_json (drop (i + 1) ts)) in
    at_item ts i x k n rs bs all same l e ∙ ap (λ (o : Option NestedRoute). with_routes rs bs (flat_routes n (with_route k o rest))) (sym none)

-- Nothing stands twice in a file that is printed, and it has not too many routes.
use Rattle.std.proofs.Common.{◌≡◌, ℕ, ◌+◌, ◌-◌, ◌≤◌, Bool, true, false, cond, List, [], ◌∷◌, ◌++◌, length, Option, Some, None, refl, ap, ◌∙◌, arith}
use Rattle.std.specs.Prelude.{All, bytes_eq, slice_index_or}
use Rattle.std.specs.List.{list_any}
use Rattle.std.proofs.lemmas.Bool.{ne_eqb, or_from}
use Rattle.std.proofs.lemmas.List.Elements.{All-head, All-tail}
use Rattle.std.proofs.lemmas.List.Folds.{list_any-append}
use Rattle.eip_text.specs.Json.{Json, items_of}
use Rattle.eip_uri.specs.declared.uri.Uri.{Uri}
use Rattle.eip_uri.proofs.AgainForms.{uri_again}
use Rattle.eip_route.specs.Faults.{same_consumer}
use Rattle.eip_route.specs.Nest.{NestedClause, NestedRoute, NestedSet}
use Rattle.eip_route.specs.declared.route.Names.{Names}
use Rattle.eip_route_grammar.specs.Keys.{is_spelled, spelled, dashed}
use Rattle.eip_route_grammar.specs.Causes.{or_else}
use Rattle.eip_route_grammar.specs.declared.fault.Cause.TheVariants as cause
use Rattle.eip_route_grammar.specs.declared.fault.RouteFault.{RouteFault}
use Rattle.eip_route_file.specs.Later.{too_many, second_handler, uri_of, heads, same_from, is_from_taken, at_step, head_path, uri_path, head_fault, second_route, later_fault}
use Rattle.eip_route_file.specs.declared.head.Head.{Head}
use Rattle.eip_route_validity.specs.Fit.{Apart, AreApart, RouteFits, SetFits}
use Rattle.eip_route_canonical.specs.Canonical.{Pairs, policy_in, clause_json, route_json, dead_items, handler_items, clauses_json, routes_json}

-- ---- how many routes there are

routes_few : (left : ℕ) (rs : List NestedRoute) → length rs ≤ left → too_many left (items_of (routes_json rs)) ≡ false
unfolding route_json is_spelled spelled dashed
routes_few left [] h = refl
routes_few left (r ∷ rs) h =
    ap (λ (t : Bool). cond t true (too_many (left - 1) (items_of (routes_json rs)))) (ne_eqb left 0 (λ e. omega arith)) ∙ routes_few (left - 1) rs (omega arith)

clauses_few : (left : ℕ) (cs : List NestedClause) (qs : List Json) → too_many left (items_of (clauses_json cs ++ qs)) ≡ too_many left (items_of qs)
unfolding clause_json is_spelled spelled dashed
clauses_few left [] qs = refl
clauses_few left (c ∷ cs) qs = clauses_few left cs qs

dead_few : (left : ℕ) (dead : Option Uri) (ps : Pairs) (qs : List Json) → too_many left (items_of (dead_items dead ps ++ qs)) ≡ too_many left (items_of qs)
unfolding is_spelled spelled dashed
dead_few left None [] qs = refl
dead_few left None (m ∷ ms) qs = refl
dead_few left (Some u) ps qs = refl

pub few_routes : (n : Names) (x : NestedSet) → SetFits n x → too_many 256 (items_of (handler_items x.handler ++ (clauses_json x.clauses ++ routes_json x.routes))) ≡ false
unfolding handler_items
few_routes n x fits =
    dead_few 256 x.handler.dead (policy_in x.handler.policy) (clauses_json x.clauses ++ routes_json x.routes) ∙ (clauses_few 256 x.clauses (routes_json x.routes) ∙ routes_few 256 x.routes fits.count)

-- ---- one handler

routes_no_second : (i : ℕ) (met : Bool) (rs : List NestedRoute) → second_handler i met (items_of (routes_json rs)) ≡ None
unfolding route_json is_spelled spelled dashed
routes_no_second i met [] = refl
routes_no_second i met (r ∷ rs) = routes_no_second (i + 1) met rs

clauses_no_second : (i : ℕ) (met : Bool) (cs : List NestedClause) (rs : List NestedRoute) → second_handler i met (items_of (clauses_json cs ++ routes_json rs)) ≡ None
unfolding clause_json is_spelled spelled dashed
clauses_no_second i met [] rs = routes_no_second i met rs
clauses_no_second i met (c ∷ cs) rs = clauses_no_second (i + 1) met cs rs

one_handler : (dead : Option Uri) (ps : Pairs) (cs : List NestedClause) (rs : List NestedRoute) → second_handler 0 false (items_of (dead_items dead ps ++ (clauses_json cs ++ routes_json rs))) ≡ None
unfolding is_spelled spelled dashed
one_handler None [] cs rs = clauses_no_second 0 false cs rs
one_handler None (m ∷ ms) cs rs = clauses_no_second 1 true cs rs
one_handler (Some u) ps cs rs = clauses_no_second 1 true cs rs

-- ---- routes that are apart

-- no route before has its id or its consumer
record Free (before : List Head) (r : NestedRoute) : Type 0 where
  id : list_any (λ x. bytes_eq x.id r.id) before ≡ false
  from : list_any (λ x. same_from x.from (Some r.from)) before ≡ false

abbrev head_for : ℕ → NestedRoute → Head
head_for i r = record { index = i; whole = true; id = r.id; from = Some r.from }

free_more : (before : List Head) (i : ℕ) (r s : NestedRoute) → Apart r s → Free before s → Free (before ++ head_for i r ∷ []) s
free_more before i r s a f = record {
  id = list_any-append (λ (x : Head). bytes_eq x.id s.id) before (head_for i r ∷ []) ∙ or_from _ _ f.id (or_from (bytes_eq r.id s.id) false a.0 refl);
  from = list_any-append (λ (x : Head). same_from x.from (Some s.from)) before (head_for i r ∷ []) ∙ or_from _ _ f.from (or_from (same_consumer r.from s.from) false a.1 refl);
}

-- a route that is free has no fault
free_none : (before : List Head) (i : ℕ) (r : NestedRoute) → Free before r → head_fault before (head_for i r) ≡ None
free_none before i r f =
    ap (λ (t : Bool). cond t (Some (at_step (head_path (head_for i r)) cause.DoubleRouteId)) (cond (is_from_taken (head_for i r) before) (Some (at_step (uri_path (head_for i r)) cause.SecondConsumer)) None)) f.id
    ∙ ap (λ (t : Bool). cond t (Some (at_step (uri_path (head_for i r)) cause.SecondConsumer)) None) f.from

routes_apart : (n : Names) (i position : ℕ) (before : List Head) (rs : List NestedRoute) → All (RouteFits n) rs → AreApart rs → All (Free before) rs → second_route before (heads i position (items_of (routes_json rs))) ≡ None
unfolding route_json is_spelled spelled dashed
routes_apart n i position before [] f a h = refl
routes_apart n i position before (r ∷ rs) f a h =
    let fits : RouteFits n r = All-head (RouteFits n) r rs f in
    let free : Free before r = All-head (Free before) r rs h in
    let rest : All (Free before) rs = All-tail (Free before) r rs h in
    let later : List Head = heads (i + 1) (position + 1) (items_of (routes_json rs)) in
    ap (λ (u : Option Uri). second_route before (record { index = i; whole = true; id = r.id; from = u } ∷ later)) (ap uri_of (uri_again r.from fits.from.0))
    ∙ (ap (λ (o : Option RouteFault). or_else o (second_route (before ++ head_for i r ∷ []) later)) (free_none before i r free)
    ∙ routes_apart n (i + 1) (position + 1) (before ++ head_for i r ∷ []) rs (All-tail (RouteFits n) r rs f) a.1
    (λ k d lt. free_more before i r (slice_index_or rs k d) (a.0 k d lt) (rest k d lt)))

clauses_apart : (i position : ℕ) (before : List Head) (cs : List NestedClause) (qs : List Json) → ((k : ℕ) → second_route before (heads k position (items_of qs)) ≡ None) → second_route before (heads i position (items_of (clauses_json cs ++ qs))) ≡ None
unfolding clause_json is_spelled spelled dashed
clauses_apart i position before [] qs h = h i
clauses_apart i position before (c ∷ cs) qs h = clauses_apart (i + 1) position before cs qs h

dead_apart : (dead : Option Uri) (ps : Pairs) (qs : List Json) → ((k : ℕ) → second_route [] (heads k 1 (items_of qs)) ≡ None) → second_route [] (heads 0 1 (items_of (dead_items dead ps ++ qs))) ≡ None
unfolding is_spelled spelled dashed
dead_apart None [] qs h = h 0
dead_apart None (m ∷ ms) qs h = h 1
dead_apart (Some u) ps qs h = h 1

-- ---- nothing twice

pub nothing_twice : (n : Names) (x : NestedSet) → SetFits n x → later_fault (items_of (handler_items x.handler ++ (clauses_json x.clauses ++ routes_json x.routes))) ≡ None
unfolding handler_items
nothing_twice n x fits =
    let qs : List Json = clauses_json x.clauses ++ routes_json x.routes in
    let all : List Json = dead_items x.handler.dead (policy_in x.handler.policy) ++ qs in
    ap (λ (o : Option RouteFault). or_else o (second_route [] (heads 0 1 (items_of all)))) (one_handler x.handler.dead (policy_in x.handler.policy) x.clauses x.routes)
    ∙ dead_apart x.handler.dead (policy_in x.handler.policy) qs
    (λ k. clauses_apart k 1 [] x.clauses (routes_json x.routes) (λ j. routes_apart n j 1 [] x.routes fits.routes fits.apart (λ i d lt. record { id = refl; from = refl })))

-- What a walk answers at a list and at an object.
use Rattle.std.proofs.Common.{ℕ, suc, ℤ, ◌+◌, ◌<◌, ◌≤◌, ◌≡◌, length, get_or, drop, drop-cons, add-one, Bool, true, false, cond, List, [], ◌∷◌, ◌++◌, Option, Some, None, option_map, sym, ap, ◌∙◌, subst}
use Rattle.std.proofs.lemmas.List.{drop_all}
use Rattle.eip_text.specs.Json.{Json, null, flag, whole, float, word, list, object, Items, Members, items_json, members_json, json}
use Rattle.eip_text.specs.declared.tree.Tree.{Tree}
use Rattle.eip_route.specs.declared.route.Names.{Names}
use Rattle.eip_route_grammar.specs.Table.{rows, list_of, rule_of, shape_of}
use Rattle.eip_route_faults.specs.Values.{word_cause, whole_cause, flag_cause}
use Rattle.eip_route_grammar.specs.Objects.{own_keys, keys_of, value_kind, parameters_of, whole_object}
use Rattle.eip_route_grammar.specs.Paths.{key_step, index_step, at_once, placed}
use Rattle.eip_route_faults.specs.Sites.{Site, predicate, found, under, own_list, has_none, item_kind, deeper, is_predicate, word_sites, sites_at, items_sites, members_sites, list_sites, object_sites, inner_sites, Builder, Walks}
use Rattle.eip_route_grammar.specs.declared.fault.Cause.{Cause}
use Rattle.eip_route_grammar.specs.declared.fault.Cause.TheVariants as cause
use Rattle.eip_route_grammar.specs.declared.fault.RouteFault.{RouteFault}
use Rattle.eip_route_grammar.specs.declared.known.Entry.{Entry}
use Rattle.eip_route_grammar.specs.declared.table.Kind.{Kind}
use Rattle.eip_route_grammar.specs.declared.table.Listed.{Listed}
use Rattle.eip_route_grammar.specs.declared.table.Rule.{Rule}
use Rattle.eip_route_faults.proofs.Walking.{walk_nothing, walk_found, walk_own, walk_behind, walk_before, walk_under}

pub at_c : (xs : List Site) (f g : RouteFault) (b n : Builder) (k l : List Entry) → g ≡ f → Walks xs (Some f) b k n l → Walks xs (Some g) b k n l
at_c xs f g b n k l e h = let P : RouteFault → Type 0 = λ x. Walks xs (Some x) b k n l in subst P (sym e) h

pub found_at : (xs ys : List Site) (a : Option RouteFault) (b n : Builder) (k l : List Entry) → ys ≡ xs → Walks xs a b k n l → Walks ys a b k n l
found_at xs ys a b n k l e h = let P : List Site → Type 0 = λ x. Walks x a b k n l in subst P (sym e) h

pub answered : (xs : List Site) (a x : Option RouteFault) (b n : Builder) (k l : List Entry) → x ≡ a → Walks xs a b k n l → Walks xs x b k n l
answered xs a x b n k l e h = let P : Option RouteFault → Type 0 = λ y. Walks xs y b k n l in subst P (sym e) h

-- ---- values without parts

at_json : (n : Names) (d : ℕ) (ps : List (List ℕ × List ℕ)) (v : Kind) (t u : Json) (a : Option RouteFault) (b m : Builder) (k l : List Entry) → t ≡ u → Walks (sites_at n d ps v u) a b k m l → Walks (sites_at n d ps v t) a b k m l
at_json n d ps v t u a b m k l e h = found_at (sites_at n d ps v u) (sites_at n d ps v t) a b m k l (ap (sites_at n d ps v) e) h

pub at_null : (n : Names) (d : ℕ) (ps : List (List ℕ × List ℕ)) (v : Kind) (t : Json) (a : Option RouteFault) (b : Builder) (k : List Entry) → t ≡ null → a ≡ Some (at_once cause.WrongKind) → Walks (sites_at n d ps v t) a b k b k
unfolding sites_at
at_null n d ps v t a b k e h = at_json n d ps v t null a b b k k e (answered (found (Some cause.WrongKind)) (Some (at_once cause.WrongKind)) a b b k k h (walk_found (Some cause.WrongKind) b k))

pub at_float : (n : Names) (d : ℕ) (ps : List (List ℕ × List ℕ)) (v : Kind) (t : Json) (a : Option RouteFault) (b : Builder) (k : List Entry) → t ≡ float → a ≡ Some (at_once cause.WrongKind) → Walks (sites_at n d ps v t) a b k b k
unfolding sites_at
at_float n d ps v t a b k e h = at_json n d ps v t float a b b k k e (answered (found (Some cause.WrongKind)) (Some (at_once cause.WrongKind)) a b b k k h (walk_found (Some cause.WrongKind) b k))

pub at_flag : (n : Names) (d : ℕ) (ps : List (List ℕ × List ℕ)) (v : Kind) (t : Json) (x : Bool) (r : Option Rule) (c : Option Cause) (a : Option RouteFault) (b : Builder) (k : List Entry) → t ≡ flag x
    → r ≡ rule_of v → c ≡ flag_cause r x → a ≡ option_map at_once c → Walks (sites_at n d ps v t) a b k b k
unfolding sites_at
at_flag n d ps v t x r c a b k e p q h =
    at_json n d ps v t (flag x) a b b k k e (answered (found (flag_cause (rule_of v) x)) (option_map at_once (flag_cause (rule_of v) x)) a b b k k
    (h ∙ ap (option_map at_once) (q ∙ ap (λ (s : Option Rule). flag_cause s x) p)) (walk_found (flag_cause (rule_of v) x) b k))

pub at_whole : (n : Names) (d : ℕ) (ps : List (List ℕ × List ℕ)) (v : Kind) (t : Json) (z : ℤ) (r : Option Rule) (c : Option Cause) (a : Option RouteFault) (b : Builder) (k : List Entry) → t ≡ whole z
    → r ≡ rule_of v → c ≡ whole_cause r z → a ≡ option_map at_once c → Walks (sites_at n d ps v t) a b k b k
unfolding sites_at
at_whole n d ps v t z r c a b k e p q h =
    at_json n d ps v t (whole z) a b b k k e (answered (found (whole_cause (rule_of v) z)) (option_map at_once (whole_cause (rule_of v) z)) a b b k k
    (h ∙ ap (option_map at_once) (q ∙ ap (λ (s : Option Rule). whole_cause s z) p)) (walk_found (whole_cause (rule_of v) z) b k))

pub at_word : (n : Names) (d : ℕ) (ps : List (List ℕ × List ℕ)) (v : Kind) (t : Json) (w : List ℕ) (r : Option Rule) (a : Option RouteFault) (b m : Builder) (k l : List Entry) → t ≡ word w
    → r ≡ rule_of v → Walks (word_sites n ps r w) a b k m l → Walks (sites_at n d ps v t) a b k m l
unfolding sites_at
at_word n d ps v t w r a b m k l e p h =
    at_json n d ps v t (word w) a b m k l e (found_at (word_sites n ps r w) (word_sites n ps (rule_of v) w) a b m k l (ap (λ (s : Option Rule). word_sites n ps s w) (sym p)) h)

pub at_list : (n : Names) (d : ℕ) (ps : List (List ℕ × List ℕ)) (v : Kind) (t : Json) (ts : Items) (a : Option RouteFault) (b m : Builder) (k l : List Entry) → t ≡ list ts
    → Walks (list_sites n d v ts) a b k m l → Walks (sites_at n d ps v t) a b k m l
unfolding sites_at
at_list n d ps v t ts a b m k l e h = at_json n d ps v t (list ts) a b m k l e h

pub at_object : (n : Names) (d : ℕ) (ps : List (List ℕ × List ℕ)) (v : Kind) (t : Json) (ms : Members) (a : Option RouteFault) (b m : Builder) (k l : List Entry) → t ≡ object ms
    → Walks (object_sites n d v ms) a b k m l → Walks (sites_at n d ps v t) a b k m l
unfolding sites_at
at_object n d ps v t ms a b m k l e h = at_json n d ps v t (object ms) a b m k l e h

-- ---- texts

pub word_none : (n : Names) (ps : List (List ℕ × List ℕ)) (r : Option Rule) (w : List ℕ) (a : Option RouteFault) (b : Builder) (k : List Entry) → r ≡ None → a ≡ Some (at_once cause.WrongKind) → Walks (word_sites n ps r w) a b k b k
word_none n ps r w a b k e h =
    found_at (found (Some cause.WrongKind)) (word_sites n ps r w) a b b k k (ap (λ (s : Option Rule). word_sites n ps s w) e)
    (answered (found (Some cause.WrongKind)) (Some (at_once cause.WrongKind)) a b b k k h (walk_found (Some cause.WrongKind) b k))

pub word_some : (n : Names) (ps : List (List ℕ × List ℕ)) (r : Option Rule) (x : Rule) (w : List ℕ) (a : Option RouteFault) (b m : Builder) (k l : List Entry) → r ≡ Some x
    → Walks (word_sites n ps (Some x) w) a b k m l → Walks (word_sites n ps r w) a b k m l
word_some n ps r x w a b m k l e h = found_at (word_sites n ps (Some x) w) (word_sites n ps r w) a b m k l (ap (λ (s : Option Rule). word_sites n ps s w) e) h

pub word_predicate : (n : Names) (ps : List (List ℕ × List ℕ)) (r : Rule) (w : List ℕ) (a : Option RouteFault) (b m : Builder) (k l : List Entry) → is_predicate r ≡ true
    → Walks (([], predicate w) ∷ []) a b k m l → Walks (word_sites n ps (Some r) w) a b k m l
word_predicate n ps r w a b m k l e h =
    found_at (([], predicate w) ∷ []) (word_sites n ps (Some r) w) a b m k l (ap (λ (t : Bool). cond {A = List Site} t (([], predicate w) ∷ []) (found (word_cause n ps r w))) e) h

pub word_plain : (n : Names) (ps : List (List ℕ × List ℕ)) (r : Rule) (w : List ℕ) (c : Option Cause) (a : Option RouteFault) (b : Builder) (k : List Entry) → is_predicate r ≡ false
    → c ≡ word_cause n ps r w → a ≡ option_map at_once c → Walks (word_sites n ps (Some r) w) a b k b k
word_plain n ps r w c a b k e p h =
    found_at (found (word_cause n ps r w)) (word_sites n ps (Some r) w) a b b k k (ap (λ (t : Bool). cond {A = List Site} t (([], predicate w) ∷ []) (found (word_cause n ps r w))) e)
    (answered (found (word_cause n ps r w)) (option_map at_once (word_cause n ps r w)) a b b k k (h ∙ ap (option_map at_once) p) (walk_found (word_cause n ps r w) b k))

-- ---- lists

pub list_wrong : (n : Names) (d : ℕ) (v : Kind) (ts : Items) (o : Option Listed) (e : Bool) (c : Cause) (f : RouteFault) (b : Builder) (k : List Entry) → o ≡ list_of v → e ≡ has_none ts
    → Some c ≡ own_list d o e → f ≡ at_once c → Walks (list_sites n d v ts) (Some f) b k b k
unfolding sites_at
list_wrong n d v ts o e c f b k p q own h =
    let own : own_list d (list_of v) (has_none ts) ≡ Some c = ap (λ (x : Option Listed). own_list d x (has_none ts)) (sym p) ∙ ap (own_list d o) (sym q) ∙ sym own in
    let rest = items_sites n (deeper d (list_of v)) (item_kind (list_of v)) 0 ts in
    at_c (list_sites n d v ts) (at_once c) f b b k k h
    (found_at (found (Some c) ++ rest) (list_sites n d v ts) (Some (at_once c)) b b k k (ap (λ (x : Option Cause). found x ++ rest) own) (walk_own c rest b k))

pub list_walks : (n : Names) (d : ℕ) (v : Kind) (ts : Items) (o : Option Listed) (e : Bool) (i : ℕ) (u : Kind) (a : Option RouteFault) (b m : Builder) (k l : List Entry) → o ≡ list_of v → e ≡ has_none ts
    → own_list d o e ≡ None → i ≡ deeper d o → u ≡ item_kind o → Walks (items_sites n i u 0 ts) a b k m l → Walks (list_sites n d v ts) a b k m l
unfolding sites_at
list_walks n d v ts o e i u a b m k l p q own hi hu h =
    let own : own_list d (list_of v) (has_none ts) ≡ None = ap (λ (x : Option Listed). own_list d x (has_none ts)) (sym p) ∙ ap (own_list d o) (sym q) ∙ own in
    let rest = items_sites n (deeper d (list_of v)) (item_kind (list_of v)) 0 ts in
    found_at (items_sites n i u 0 ts) (list_sites n d v ts) a b m k l
    (ap (λ (x : Option Cause). found x ++ rest) own ∙ ap (λ (x : Option Listed). items_sites n (deeper d x) (item_kind x) 0 ts) (sym p)
    ∙ ap (λ (x : ℕ). items_sites n x (item_kind o) 0 ts) (sym hi) ∙ ap (λ (x : Kind). items_sites n i x 0 ts) (sym hu)) h

-- ---- objects

pub object_wrong : (n : Names) (d : ℕ) (v : Kind) (ms : Members) (own : Option Cause) (c : Cause) (f : RouteFault) (b : Builder) (k : List Entry) → own ≡ own_keys (shape_of v) (rows v) (keys_of ms) → own ≡ Some c
    → f ≡ at_once c → Walks (object_sites n d v ms) (Some f) b k b k
unfolding sites_at
object_wrong n d v ms own c f b k p q h =
    at_c (object_sites n d v ms) (at_once c) f b b k k h
    (found_at (found (Some c) ++ inner_sites n d v ms) (object_sites n d v ms) (Some (at_once c)) b b k k (ap (λ (x : Option Cause). found x ++ inner_sites n d v ms) (sym p ∙ q)) (walk_own c (inner_sites n d v ms) b k))

pub object_walks : (n : Names) (d : ℕ) (v : Kind) (ms : Members) (own : Option Cause) (a : Option RouteFault) (b m : Builder) (k l : List Entry) → own ≡ own_keys (shape_of v) (rows v) (keys_of ms) → own ≡ None
    → Walks (inner_sites n d v ms) a b k m l → Walks (object_sites n d v ms) a b k m l
unfolding sites_at
object_walks n d v ms own a b m k l p q h = found_at (inner_sites n d v ms) (object_sites n d v ms) a b m k l (ap (λ (x : Option Cause). found x ++ inner_sites n d v ms) (sym p ∙ q)) h

beside : (n : Names) (d : ℕ) (v : Kind) (ms : Members) (ps : List (List ℕ × List ℕ)) (x a : Option RouteFault) (b m : Builder) (k l : List Entry) → ps ≡ parameters_of ms → x ≡ a
    → Walks (members_sites n d ps v ms) x b k m l → Walks (members_sites n d (parameters_of ms) v ms) a b k m l
beside n d v ms ps x a b m k l p e h =
    answered (members_sites n d (parameters_of ms) v ms) x a b m k l (sym e)
    (found_at (members_sites n d ps v ms) (members_sites n d (parameters_of ms) v ms) x b m k l (ap (λ (qs : List (List ℕ × List ℕ)). members_sites n d qs v ms) (sym p)) h)

pub inside_wrong : (n : Names) (d : ℕ) (v : Kind) (ms : Members) (ps : List (List ℕ × List ℕ)) (x : Option RouteFault) (f : RouteFault) (b m : Builder) (k l : List Entry) → ps ≡ parameters_of ms → x ≡ Some f
    → Walks (members_sites n d ps v ms) x b k m l → Walks (inner_sites n d v ms) (Some f) b k m l
inside_wrong n d v ms ps x f b m k l p e h =
    walk_before (members_sites n d (parameters_of ms) v ms) (found (whole_object v ms)) f b m k l (beside n d v ms ps x (Some f) b m k l p e h)

pub inside_walks : (n : Names) (d : ℕ) (v : Kind) (ms : Members) (ps : List (List ℕ × List ℕ)) (x : Option RouteFault) (c : Option Cause) (a : Option RouteFault) (b m : Builder) (k l : List Entry) → ps ≡ parameters_of ms → x ≡ None
    → Walks (members_sites n d ps v ms) x b k m l → c ≡ whole_object v ms → a ≡ option_map at_once c → Walks (inner_sites n d v ms) a b k m l
inside_walks n d v ms ps x c a b m k l p e h q r =
    answered (inner_sites n d v ms) (option_map at_once (whole_object v ms)) a b m k l (r ∙ ap (option_map at_once) q)
    (walk_behind (members_sites n d (parameters_of ms) v ms) (found (whole_object v ms)) (option_map at_once (whole_object v ms)) b m m k l l
    (beside n d v ms ps x None b m k l p e h) (walk_found (whole_object v ms) m l))

-- ---- items and members, one by one

-- a first item with nothing wrong, and then the answer
pub item_walks : (n : Names) (d : ℕ) (v : Kind) (i : ℕ) (t : Tree) (ts : List Tree) (a : Option RouteFault) (b m o : Builder) (k j l : List Entry) → Walks (sites_at n d [] v (json t)) None b k m j
    → Walks (items_sites n d v (i + 1) (items_json ts)) a m j o l → Walks (items_sites n d v i (items_json (t ∷ ts))) a b k o l
unfolding sites_at
item_walks n d v i t ts a b m o k j l h g =
    walk_behind (under (index_step i) (sites_at n d [] v (json t))) (items_sites n d v (i + 1) (items_json ts)) a b m o k j l
    (walk_under (index_step i) (sites_at n d [] v (json t)) None b m k j h) g

-- a first item with a fault
pub item_wrong : (n : Names) (d : ℕ) (v : Kind) (i : ℕ) (t : Tree) (ts : List Tree) (f g : RouteFault) (b m : Builder) (k j : List Entry) → Walks (sites_at n d [] v (json t)) (Some f) b k m j
    → g ≡ placed (index_step i) f → Walks (items_sites n d v i (items_json (t ∷ ts))) (Some g) b k m j
unfolding sites_at
item_wrong n d v i t ts f g b m k j h e =
    at_c (items_sites n d v i (items_json (t ∷ ts))) (placed (index_step i) f) g b m k j e
    (walk_before (under (index_step i) (sites_at n d [] v (json t))) (items_sites n d v (i + 1) (items_json ts)) (placed (index_step i) f) b m k j
    (walk_under (index_step i) (sites_at n d [] v (json t)) (Some f) b m k j h))

pub no_item_walks : (n : Names) (d : ℕ) (v : Kind) (i : ℕ) (b : Builder) (k : List Entry) → Walks (items_sites n d v i (items_json [])) None b k b k
unfolding sites_at
no_item_walks n d v i b k = walk_nothing b k

-- a first member with nothing wrong, and then the answer
pub member_walks : (n : Names) (d : ℕ) (ps : List (List ℕ × List ℕ)) (v : Kind) (t : List ℕ × Tree) (ts : List (List ℕ × Tree)) (a : Option RouteFault) (b m o : Builder) (k j l : List Entry)
    → Walks (sites_at n d ps (value_kind v t.0) (json t.1)) None b k m j
    → Walks (members_sites n d ps v (members_json ts)) a m j o l → Walks (members_sites n d ps v (members_json (t ∷ ts))) a b k o l
unfolding sites_at
member_walks n d ps v t ts a b m o k j l h g =
    walk_behind (under (key_step t.0) (sites_at n d ps (value_kind v t.0) (json t.1))) (members_sites n d ps v (members_json ts)) a b m o k j l
    (walk_under (key_step t.0) (sites_at n d ps (value_kind v t.0) (json t.1)) None b m k j h) g

-- a first member with a fault
pub member_wrong : (n : Names) (d : ℕ) (ps : List (List ℕ × List ℕ)) (v : Kind) (t : List ℕ × Tree) (ts : List (List ℕ × Tree)) (f g : RouteFault) (b m : Builder) (k j : List Entry)
    → Walks (sites_at n d ps (value_kind v t.0) (json t.1)) (Some f) b k m j
    → g ≡ placed (key_step t.0) f → Walks (members_sites n d ps v (members_json (t ∷ ts))) (Some g) b k m j
unfolding sites_at
member_wrong n d ps v t ts f g b m k j h e =
    at_c (members_sites n d ps v (members_json (t ∷ ts))) (placed (key_step t.0) f) g b m k j e
    (walk_before (under (key_step t.0) (sites_at n d ps (value_kind v t.0) (json t.1))) (members_sites n d ps v (members_json ts)) (placed (key_step t.0) f) b m k j
    (walk_under (key_step t.0) (sites_at n d ps (value_kind v t.0) (json t.1)) (Some f) b m k j h))

pub no_member_walks : (n : Names) (d : ℕ) (ps : List (List ℕ × List ℕ)) (v : Kind) (b : Builder) (k : List Entry) → Walks (members_sites n d ps v (members_json [])) None b k b k
unfolding sites_at
no_member_walks n d ps v b k = walk_nothing b k

-- ---- in a loop

pub at_item : {A : Type 0} (xs : List A) (i : ℕ) (x : A) → i < length xs → x ≡ get_or xs i x → drop i xs ≡ x ∷ drop (i + 1) xs
at_item xs i x h e = rw add-one (drop-cons xs i x h ∙ ap (λ y. y ∷ drop (suc i) xs) (sym e))

pub items_walk : (n : Names) (d : ℕ) (ps : List (List ℕ × List ℕ)) (v : Kind) (i : ℕ) (t : Tree) (ts : List Tree) (x a : Option RouteFault) (b m o : Builder) (k j l : List Entry) → ps ≡ [] → i < length ts → t ≡ get_or ts i t
    → Walks (sites_at n d ps v (json t)) x b k m j → x ≡ None
    → Walks (items_sites n d v (i + 1) (items_json (drop (i + 1) ts))) a m j o l → Walks (items_sites n d v i (items_json (drop i ts))) a b k o l
items_walk n d ps v i t ts x a b m o k j l p q e h w g =
    let here : Walks (sites_at n d [] v (json t)) None b k m j =
    answered (sites_at n d [] v (json t)) x None b m k j (sym w) (found_at (sites_at n d ps v (json t)) (sites_at n d [] v (json t)) x b m k j (ap (λ (qs : List (List ℕ × List ℕ)). sites_at n d qs v (json t)) (sym p)) h) in
    found_at (items_sites n d v i (items_json (t ∷ drop (i + 1) ts))) (items_sites n d v i (items_json (drop i ts))) a b o k l
    (ap (λ (us : List Tree). items_sites n d v i (items_json us)) (at_item ts i t q e)) (item_walks n d v i t (drop (i + 1) ts) a b m o k j l here g)

pub items_wrong : (n : Names) (d : ℕ) (ps : List (List ℕ × List ℕ)) (v : Kind) (i : ℕ) (t : Tree) (ts : List Tree) (x : Option RouteFault) (f g : RouteFault) (b m : Builder) (k j : List Entry) → ps ≡ [] → i < length ts → t ≡ get_or ts i t
    → Walks (sites_at n d ps v (json t)) x b k m j → x ≡ Some f → g ≡ placed (index_step i) f → Walks (items_sites n d v i (items_json (drop i ts))) (Some g) b k m j
items_wrong n d ps v i t ts x f g b m k j p q e h w r =
    let here : Walks (sites_at n d [] v (json t)) (Some f) b k m j =
    answered (sites_at n d [] v (json t)) x (Some f) b m k j (sym w) (found_at (sites_at n d ps v (json t)) (sites_at n d [] v (json t)) x b m k j (ap (λ (qs : List (List ℕ × List ℕ)). sites_at n d qs v (json t)) (sym p)) h) in
    found_at (items_sites n d v i (items_json (t ∷ drop (i + 1) ts))) (items_sites n d v i (items_json (drop i ts))) (Some g) b m k j
    (ap (λ (us : List Tree). items_sites n d v i (items_json us)) (at_item ts i t q e)) (item_wrong n d v i t (drop (i + 1) ts) f g b m k j here r)

pub items_end : (n : Names) (d : ℕ) (v : Kind) (i : ℕ) (ts : List Tree) (b : Builder) (k : List Entry) → length ts ≤ i → Walks (items_sites n d v i (items_json (drop i ts))) None b k b k
items_end n d v i ts b k h =
    found_at (items_sites n d v i (items_json [])) (items_sites n d v i (items_json (drop i ts))) None b b k k (ap (λ (us : List Tree). items_sites n d v i (items_json us)) (drop_all i ts h)) (no_item_walks n d v i b k)

pub members_walk : (n : Names) (d : ℕ) (ps : List (List ℕ × List ℕ)) (v u : Kind) (i : ℕ) (t : List ℕ × Tree) (ts : List (List ℕ × Tree)) (x a : Option RouteFault) (b m o : Builder) (k j l : List Entry) → u ≡ value_kind v t.0 → i < length ts → t ≡ get_or ts i t
    → Walks (sites_at n d ps u (json t.1)) x b k m j → x ≡ None
    → Walks (members_sites n d ps v (members_json (drop (i + 1) ts))) a m j o l → Walks (members_sites n d ps v (members_json (drop i ts))) a b k o l
members_walk n d ps v u i t ts x a b m o k j l p q e h w g =
    let here : Walks (sites_at n d ps (value_kind v t.0) (json t.1)) None b k m j =
    answered (sites_at n d ps (value_kind v t.0) (json t.1)) x None b m k j (sym w) (found_at (sites_at n d ps u (json t.1)) (sites_at n d ps (value_kind v t.0) (json t.1)) x b m k j (ap (λ (y : Kind). sites_at n d ps y (json t.1)) (sym p)) h) in
    found_at (members_sites n d ps v (members_json (t ∷ drop (i + 1) ts))) (members_sites n d ps v (members_json (drop i ts))) a b o k l
    (ap (λ (us : List (List ℕ × Tree)). members_sites n d ps v (members_json us)) (at_item ts i t q e)) (member_walks n d ps v t (drop (i + 1) ts) a b m o k j l here g)

pub members_wrong : (n : Names) (d : ℕ) (ps : List (List ℕ × List ℕ)) (v u : Kind) (i : ℕ) (t : List ℕ × Tree) (ts : List (List ℕ × Tree)) (x : Option RouteFault) (f g : RouteFault) (b m : Builder) (k j : List Entry) → u ≡ value_kind v t.0 → i < length ts → t ≡ get_or ts i t
    → Walks (sites_at n d ps u (json t.1)) x b k m j → x ≡ Some f → g ≡ placed (key_step t.0) f → Walks (members_sites n d ps v (members_json (drop i ts))) (Some g) b k m j
members_wrong n d ps v u i t ts x f g b m k j p q e h w r =
    let here : Walks (sites_at n d ps (value_kind v t.0) (json t.1)) (Some f) b k m j =
    answered (sites_at n d ps (value_kind v t.0) (json t.1)) x (Some f) b m k j (sym w) (found_at (sites_at n d ps u (json t.1)) (sites_at n d ps (value_kind v t.0) (json t.1)) x b m k j (ap (λ (y : Kind). sites_at n d ps y (json t.1)) (sym p)) h) in
    found_at (members_sites n d ps v (members_json (t ∷ drop (i + 1) ts))) (members_sites n d ps v (members_json (drop i ts))) (Some g) b m k j
    (ap (λ (us : List (List ℕ × Tree)). members_sites n d ps v (members_json us)) (at_item ts i t q e)) (member_wrong n d ps v t (drop (i + 1) ts) f g b m k j here r)

pub members_end : (n : Names) (d : ℕ) (ps : List (List ℕ × List ℕ)) (v : Kind) (i : ℕ) (ts : List (List ℕ × Tree)) (b : Builder) (k : List Entry) → length ts ≤ i → Walks (members_sites n d ps v (members_json (drop i ts))) None b k b k
members_end n d ps v i ts b k h =
    found_at (members_sites n d ps v (members_json [])) (members_sites n d ps v (members_json (drop i ts))) None b b k k (ap (λ (us : List (List ℕ × Tree)). members_sites n d ps v (members_json us)) (drop_all i ts h)) (no_member_walks n d ps v b k)

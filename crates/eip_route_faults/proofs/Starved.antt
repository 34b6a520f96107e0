-- What is left of the builder of patterns where memory ends a walk at a value, at a list and at an object.
use Rattle.std.proofs.Common.{ℕ, ◌+◌, ◌<◌, ◌≡◌, length, get_or, drop, Bool, true, cond, List, [], ◌∷◌, ◌++◌, Option, Some, None, Result, Ok, Err, sym, ap, ◌∙◌, subst}
use Rattle.eip_text.specs.Json.{Json, word, list, object, Items, Members, items_json, members_json, json}
use Rattle.eip_text.specs.declared.tree.Tree.{Tree}
use Rattle.eip_route.specs.declared.route.Names.{Names}
use Rattle.eip_route_grammar.specs.Table.{rows, list_of, rule_of, shape_of}
use Rattle.eip_route_faults.specs.Values.{word_cause}
use Rattle.eip_route_grammar.specs.Objects.{own_keys, keys_of, value_kind, parameters_of, whole_object}
use Rattle.eip_route_grammar.specs.Paths.{key_step, index_step}
use Rattle.eip_route_faults.specs.Sites.{Site, predicate, found, under, own_list, has_none, item_kind, deeper, is_predicate, word_sites, sites_at, items_sites, members_sites, list_sites, object_sites, inner_sites, Builder, Walks, Starved, Walked}
use Rattle.eip_route_grammar.specs.declared.fault.Cause.{Cause}
use Rattle.eip_route_grammar.specs.declared.fault.RouteFault.{RouteFault}
use Rattle.eip_route_grammar.specs.declared.known.Entry.{Entry}
use Rattle.eip_route_grammar.specs.declared.table.Kind.{Kind}
use Rattle.eip_route_grammar.specs.declared.table.Listed.{Listed}
use Rattle.eip_route_grammar.specs.declared.table.Rule.{Rule}
use Rattle.eip_route_faults.proofs.Walking.{walk_under, starves_behind, starves_before, starves_under}
use Rattle.eip_route_faults.proofs.Sited.{found_at, answered, at_item, items_walk, members_walk}

pub starves_at : (xs ys : List Site) (b n : Builder) → ys ≡ xs → Starved xs b n → Starved ys b n
starves_at xs ys b n e h = let P : List Site → Type 0 = λ x. Starved x b n in subst P (sym e) h

-- ---- texts

pub text_starves : (n : Names) (d : ℕ) (ps : List (List ℕ × List ℕ)) (v : Kind) (t : Json) (w : List ℕ) (r : Option Rule) (b m : Builder) → t ≡ word w → r ≡ rule_of v
    → Starved (word_sites n ps r w) b m → Starved (sites_at n d ps v t) b m
unfolding sites_at
text_starves n d ps v t w r b m e p h =
    starves_at (word_sites n ps r w) (sites_at n d ps v t) b m (ap (sites_at n d ps v) e ∙ ap (λ (s : Option Rule). word_sites n ps s w) (sym p)) h

pub rule_starves : (n : Names) (ps : List (List ℕ × List ℕ)) (r : Option Rule) (x : Rule) (w : List ℕ) (b m : Builder) → r ≡ Some x → Starved (word_sites n ps (Some x) w) b m → Starved (word_sites n ps r w) b m
rule_starves n ps r x w b m e h = starves_at (word_sites n ps (Some x) w) (word_sites n ps r w) b m (ap (λ (s : Option Rule). word_sites n ps s w) e) h

pub predicate_starves : (n : Names) (ps : List (List ℕ × List ℕ)) (r : Rule) (w : List ℕ) (b m : Builder) → is_predicate r ≡ true → Starved (([], predicate w) ∷ []) b m → Starved (word_sites n ps (Some r) w) b m
predicate_starves n ps r w b m e h =
    starves_at (([], predicate w) ∷ []) (word_sites n ps (Some r) w) b m (ap (λ (t : Bool). cond {A = List Site} t (([], predicate w) ∷ []) (found (word_cause n ps r w))) e) h

-- ---- lists

pub value_list_starves : (n : Names) (d : ℕ) (ps : List (List ℕ × List ℕ)) (v : Kind) (t : Json) (ts : Items) (b m : Builder) → t ≡ list ts → Starved (list_sites n d v ts) b m → Starved (sites_at n d ps v t) b m
unfolding sites_at
value_list_starves n d ps v t ts b m e h = starves_at (list_sites n d v ts) (sites_at n d ps v t) b m (ap (sites_at n d ps v) e) h

pub list_starves : (n : Names) (d : ℕ) (v : Kind) (ts : Items) (o : Option Listed) (e : Bool) (i : ℕ) (u : Kind) (b m : Builder) → o ≡ list_of v → e ≡ has_none ts
    → own_list d o e ≡ None → i ≡ deeper d o → u ≡ item_kind o → Starved (items_sites n i u 0 ts) b m → Starved (list_sites n d v ts) b m
unfolding sites_at
list_starves n d v ts o e i u b m p q own hi hu h =
    let own : own_list d (list_of v) (has_none ts) ≡ None = ap (λ (x : Option Listed). own_list d x (has_none ts)) (sym p) ∙ ap (own_list d o) (sym q) ∙ own in
    let rest = items_sites n (deeper d (list_of v)) (item_kind (list_of v)) 0 ts in
    starves_at (items_sites n i u 0 ts) (list_sites n d v ts) b m
    (ap (λ (x : Option Cause). found x ++ rest) own ∙ ap (λ (x : Option Listed). items_sites n (deeper d x) (item_kind x) 0 ts) (sym p)
    ∙ ap (λ (x : ℕ). items_sites n x (item_kind o) 0 ts) (sym hi) ∙ ap (λ (x : Kind). items_sites n i x 0 ts) (sym hu)) h

-- ---- objects

pub value_object_starves : (n : Names) (d : ℕ) (ps : List (List ℕ × List ℕ)) (v : Kind) (t : Json) (ms : Members) (b m : Builder) → t ≡ object ms → Starved (object_sites n d v ms) b m → Starved (sites_at n d ps v t) b m
unfolding sites_at
value_object_starves n d ps v t ms b m e h = starves_at (object_sites n d v ms) (sites_at n d ps v t) b m (ap (sites_at n d ps v) e) h

pub object_starves : (n : Names) (d : ℕ) (v : Kind) (ms : Members) (own : Option Cause) (b m : Builder) → own ≡ own_keys (shape_of v) (rows v) (keys_of ms) → own ≡ None
    → Starved (inner_sites n d v ms) b m → Starved (object_sites n d v ms) b m
unfolding sites_at
object_starves n d v ms own b m p q h = starves_at (inner_sites n d v ms) (object_sites n d v ms) b m (ap (λ (x : Option Cause). found x ++ inner_sites n d v ms) (sym p ∙ q)) h

pub inside_starves : (n : Names) (d : ℕ) (v : Kind) (ms : Members) (ps : List (List ℕ × List ℕ)) (b m : Builder) → ps ≡ parameters_of ms → Starved (members_sites n d ps v ms) b m → Starved (inner_sites n d v ms) b m
inside_starves n d v ms ps b m p h =
    starves_before (members_sites n d (parameters_of ms) v ms) (found (whole_object v ms)) b m
    (starves_at (members_sites n d ps v ms) (members_sites n d (parameters_of ms) v ms) b m (ap (λ (qs : List (List ℕ × List ℕ)). members_sites n d qs v ms) (sym p)) h)

-- ---- items, one by one

item_starves : (n : Names) (d : ℕ) (v : Kind) (i : ℕ) (t : Tree) (ts : List Tree) (b m : Builder) → Starved (sites_at n d [] v (json t)) b m → Starved (items_sites n d v i (items_json (t ∷ ts))) b m
unfolding sites_at
item_starves n d v i t ts b m h =
    starves_before (under (index_step i) (sites_at n d [] v (json t))) (items_sites n d v (i + 1) (items_json ts)) b m (starves_under (index_step i) (sites_at n d [] v (json t)) b m h)

item_behind : (n : Names) (d : ℕ) (v : Kind) (i : ℕ) (t : Tree) (ts : List Tree) (b m o : Builder) (k j : List Entry) → Walks (sites_at n d [] v (json t)) None b k m j
    → Starved (items_sites n d v (i + 1) (items_json ts)) m o → Starved (items_sites n d v i (items_json (t ∷ ts))) b o
unfolding sites_at
item_behind n d v i t ts b m o k j h g =
    starves_behind (under (index_step i) (sites_at n d [] v (json t))) (items_sites n d v (i + 1) (items_json ts)) b m o k j
    (walk_under (index_step i) (sites_at n d [] v (json t)) None b m k j h) g

in_items : (n : Names) (d : ℕ) (v : Kind) (i : ℕ) (t : Tree) (ts : List Tree) (b m : Builder) → i < length ts → t ≡ get_or ts i t
    → Starved (items_sites n d v i (items_json (t ∷ drop (i + 1) ts))) b m → Starved (items_sites n d v i (items_json (drop i ts))) b m
in_items n d v i t ts b m q e h =
    starves_at (items_sites n d v i (items_json (t ∷ drop (i + 1) ts))) (items_sites n d v i (items_json (drop i ts))) b m
    (ap (λ (us : List Tree). items_sites n d v i (items_json us)) (at_item ts i t q e)) h

pub items_starve : (n : Names) (d : ℕ) (ps : List (List ℕ × List ℕ)) (v : Kind) (i : ℕ) (t : Tree) (ts : List Tree) (b m : Builder) → ps ≡ [] → i < length ts → t ≡ get_or ts i t
    → Starved (sites_at n d ps v (json t)) b m → Starved (items_sites n d v i (items_json (drop i ts))) b m
items_starve n d ps v i t ts b m p q e h =
    in_items n d v i t ts b m q e (item_starves n d v i t (drop (i + 1) ts) b m
    (starves_at (sites_at n d ps v (json t)) (sites_at n d [] v (json t)) b m (ap (λ (qs : List (List ℕ × List ℕ)). sites_at n d qs v (json t)) (sym p)) h))

-- behind an item with nothing wrong
pub items_walked : {E : Type 0} (n : Names) (d : ℕ) (ps : List (List ℕ × List ℕ)) (v : Kind) (i : ℕ) (t : Tree) (ts : List Tree) (x : Option RouteFault) (r : Result (Option RouteFault) E) (b m o : Builder) (k j l : List Entry)
    → ps ≡ [] → i < length ts → t ≡ get_or ts i t → Walks (sites_at n d ps v (json t)) x b k m j → x ≡ None
    → Walked (items_sites n d v (i + 1) (items_json (drop (i + 1) ts))) r m j o l → Walked (items_sites n d v i (items_json (drop i ts))) r b k o l
items_walked n d ps v i t ts x (Ok a) b m o k j l p q e h w g = items_walk n d ps v i t ts x a b m o k j l p q e h w g
items_walked n d ps v i t ts x (Err f) b m o k j l p q e h w g =
    let here : Walks (sites_at n d [] v (json t)) None b k m j =
    answered (sites_at n d [] v (json t)) x None b m k j (sym w) (found_at (sites_at n d ps v (json t)) (sites_at n d [] v (json t)) x b m k j (ap (λ (qs : List (List ℕ × List ℕ)). sites_at n d qs v (json t)) (sym p)) h) in
    in_items n d v i t ts b o q e (item_behind n d v i t (drop (i + 1) ts) b m o k j here g)

-- ---- members, one by one

member_starves : (n : Names) (d : ℕ) (ps : List (List ℕ × List ℕ)) (v : Kind) (t : List ℕ × Tree) (ts : List (List ℕ × Tree)) (b m : Builder) → Starved (sites_at n d ps (value_kind v t.0) (json t.1)) b m
    → Starved (members_sites n d ps v (members_json (t ∷ ts))) b m
unfolding sites_at
member_starves n d ps v t ts b m h =
    starves_before (under (key_step t.0) (sites_at n d ps (value_kind v t.0) (json t.1))) (members_sites n d ps v (members_json ts)) b m
    (starves_under (key_step t.0) (sites_at n d ps (value_kind v t.0) (json t.1)) b m h)

member_behind : (n : Names) (d : ℕ) (ps : List (List ℕ × List ℕ)) (v : Kind) (t : List ℕ × Tree) (ts : List (List ℕ × Tree)) (b m o : Builder) (k j : List Entry)
    → Walks (sites_at n d ps (value_kind v t.0) (json t.1)) None b k m j
    → Starved (members_sites n d ps v (members_json ts)) m o → Starved (members_sites n d ps v (members_json (t ∷ ts))) b o
unfolding sites_at
member_behind n d ps v t ts b m o k j h g =
    starves_behind (under (key_step t.0) (sites_at n d ps (value_kind v t.0) (json t.1))) (members_sites n d ps v (members_json ts)) b m o k j
    (walk_under (key_step t.0) (sites_at n d ps (value_kind v t.0) (json t.1)) None b m k j h) g

in_members : (n : Names) (d : ℕ) (ps : List (List ℕ × List ℕ)) (v : Kind) (i : ℕ) (t : List ℕ × Tree) (ts : List (List ℕ × Tree)) (b m : Builder) → i < length ts → t ≡ get_or ts i t
    → Starved (members_sites n d ps v (members_json (t ∷ drop (i + 1) ts))) b m → Starved (members_sites n d ps v (members_json (drop i ts))) b m
in_members n d ps v i t ts b m q e h =
    starves_at (members_sites n d ps v (members_json (t ∷ drop (i + 1) ts))) (members_sites n d ps v (members_json (drop i ts))) b m
    (ap (λ (us : List (List ℕ × Tree)). members_sites n d ps v (members_json us)) (at_item ts i t q e)) h

pub members_starve : (n : Names) (d : ℕ) (ps : List (List ℕ × List ℕ)) (v u : Kind) (i : ℕ) (t : List ℕ × Tree) (ts : List (List ℕ × Tree)) (b m : Builder) → u ≡ value_kind v t.0 → i < length ts → t ≡ get_or ts i t
    → Starved (sites_at n d ps u (json t.1)) b m → Starved (members_sites n d ps v (members_json (drop i ts))) b m
members_starve n d ps v u i t ts b m p q e h =
    in_members n d ps v i t ts b m q e (member_starves n d ps v t (drop (i + 1) ts) b m
    (starves_at (sites_at n d ps u (json t.1)) (sites_at n d ps (value_kind v t.0) (json t.1)) b m (ap (λ (y : Kind). sites_at n d ps y (json t.1)) (sym p)) h))

-- behind a member with nothing wrong
pub members_walked : {E : Type 0} (n : Names) (d : ℕ) (ps : List (List ℕ × List ℕ)) (v u : Kind) (i : ℕ) (t : List ℕ × Tree) (ts : List (List ℕ × Tree)) (x : Option RouteFault) (r : Result (Option RouteFault) E) (b m o : Builder) (k j l : List Entry)
    → u ≡ value_kind v t.0 → i < length ts → t ≡ get_or ts i t → Walks (sites_at n d ps u (json t.1)) x b k m j → x ≡ None
    → Walked (members_sites n d ps v (members_json (drop (i + 1) ts))) r m j o l → Walked (members_sites n d ps v (members_json (drop i ts))) r b k o l
members_walked n d ps v u i t ts x (Ok a) b m o k j l p q e h w g = members_walk n d ps v u i t ts x a b m o k j l p q e h w g
members_walked n d ps v u i t ts x (Err f) b m o k j l p q e h w g =
    let here : Walks (sites_at n d ps (value_kind v t.0) (json t.1)) None b k m j =
    answered (sites_at n d ps (value_kind v t.0) (json t.1)) x None b m k j (sym w) (found_at (sites_at n d ps u (json t.1)) (sites_at n d ps (value_kind v t.0) (json t.1)) x b m k j (ap (λ (y : Kind). sites_at n d ps y (json t.1)) (sym p)) h) in
    in_members n d ps v i t ts b o q e (member_behind n d ps v t (drop (i + 1) ts) b m o k j here g)

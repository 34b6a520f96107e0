-- Places without a fault: a text, an object by its slots, an object of one member, and a list.
use Rattle.std.proofs.Common.{◌≡◌, ℕ, ◌+◌, Bool, false, cond, List, [], ◌∷◌, ◌++◌, Option, Some, None, option_map, refl, sym, ap, subst, ◌∙◌}
use Rattle.eip_text.specs.Json.{Json, word, object, Items, no_items, item, Members, no_members, member, members_of}
use Rattle.eip_route.specs.declared.route.Names.{Names}
use Rattle.eip_route_grammar.specs.Objects.{own_keys, keys_of, value_at, value_kind, pairs_in, whole_object}
use Rattle.eip_route_grammar.specs.Paths.{key_step, index_step, placed}
use Rattle.eip_route_faults.specs.Sites.{Site, predicate, found, under, is_predicate, word_sites, sites_at, items_sites, members_sites, first_fault}
use Rattle.eip_route_grammar.specs.Table.{rows, rule_of, shape_of}
use Rattle.eip_route_faults.specs.Values.{word_cause}
use Rattle.eip_route_grammar.specs.declared.fault.Cause.{Cause}
use Rattle.eip_route_grammar.specs.declared.keys.Key.TheVariants as key
use Rattle.eip_route_grammar.specs.declared.table.Kind.{Kind}
use Rattle.eip_route_grammar.specs.declared.table.Rule.{Rule}
use Rattle.eip_route_faults.proofs.Walking.{none_append, first_under}
use Rattle.eip_route_canonical.specs.Canonical.{Pairs, object_of, alone}
use Rattle.eip_route_roundtrip.proofs.Slots.{Slot, sure, maybe, filled, slot_at, slot_keys, value_filled, Puts}

-- ---- places

pub none_found : (o : Option Cause) → o ≡ None → first_fault (found o) ≡ None
unfolding first_fault
none_found o e = ap (λ (c : Option Cause). first_fault (found c)) e

pub none_under : (step : List ℕ) (xs : List Site) → first_fault xs ≡ None → first_fault (under step xs) ≡ None
none_under step xs e = first_under step xs ∙ ap (option_map (placed step)) e

pub none_both : (xs ys : List Site) → first_fault xs ≡ None → first_fault ys ≡ None → first_fault (xs ++ ys) ≡ None
none_both xs ys e f = none_append xs ys e ∙ f

pub none_at_all : first_fault [] ≡ None
unfolding first_fault
none_at_all = refl

-- ---- values

-- no fault of a value of this kind
abbrev pub Fine : Names → ℕ → List (List ℕ × List ℕ) → Kind → Json → Type 0
Fine n d ps v t = first_fault (sites_at n d ps v t) ≡ None

-- of all items
abbrev pub ItemsFine : Names → ℕ → Kind → Items → Type 0
ItemsFine n d v ts = (k : ℕ) → first_fault (items_sites n d v k ts) ≡ None

abbrev pub MayBeFine : Names → ℕ → List (List ℕ × List ℕ) → Kind → Option Json → Type 0
MayBeFine n d ps v None = Unit {0}
MayBeFine n d ps v (Some t) = Fine n d ps v t

-- of all values in an object of this kind
abbrev pub SlotsFine : Names → ℕ → List (List ℕ × List ℕ) → Kind → List Slot → Type 0
SlotsFine n d ps v [] = Unit {0}
SlotsFine n d ps v (sure k t ∷ ss) = Fine n d ps (value_kind v k) t × SlotsFine n d ps v ss
SlotsFine n d ps v (maybe k o ∷ ss) = MayBeFine n d ps (value_kind v k) o × SlotsFine n d ps v ss

-- a text that is no predicate
pub word_fine : (n : Names) (d : ℕ) (ps : List (List ℕ × List ℕ)) (v : Kind) (r : Rule) (w : List ℕ) → rule_of v ≡ Some r → is_predicate r ≡ false → word_cause n ps r w ≡ None → Fine n d ps v (word w)
unfolding sites_at
word_fine n d ps v r w e p h =
    ap (λ (o : Option Rule). first_fault (word_sites n ps o w)) e
    ∙ ap (λ (b : Bool). first_fault (cond b (([], predicate w) ∷ []) (found (word_cause n ps r w)))) p
    ∙ none_found (word_cause n ps r w) h

-- ---- objects

members_fine : (n : Names) (d : ℕ) (ps : List (List ℕ × List ℕ)) (v : Kind) (ss : List Slot) → SlotsFine n d ps v ss → first_fault (members_sites n d ps v (members_of (filled ss))) ≡ None
unfolding filled sites_at
members_fine n d ps v [] h = none_at_all
members_fine n d ps v (sure k t ∷ ss) h =
    none_both (under (key_step k) (sites_at n d ps (value_kind v k) t)) (members_sites n d ps v (members_of (filled ss)))
    (none_under (key_step k) (sites_at n d ps (value_kind v k) t) h.0) (members_fine n d ps v ss h.1)
members_fine n d ps v (maybe k None ∷ ss) h = members_fine n d ps v ss h.1
members_fine n d ps v (maybe k (Some t) ∷ ss) h =
    none_both (under (key_step k) (sites_at n d ps (value_kind v k) t)) (members_sites n d ps v (members_of (filled ss)))
    (none_under (key_step k) (sites_at n d ps (value_kind v k) t) h.0) (members_fine n d ps v ss h.1)

-- an object whose keys, whose values and which as a whole has none
whole_fine : (n : Names) (d : ℕ) (ps : List (List ℕ × List ℕ)) (v : Kind) (ms : Members) → own_keys (shape_of v) (rows v) (keys_of ms) ≡ None
    → first_fault (members_sites n d (pairs_in (value_at key.Parameters ms)) v ms) ≡ None → whole_object v ms ≡ None → Fine n d ps v (object ms)
unfolding sites_at
whole_fine n d ps v ms k h w =
    none_both (found (own_keys (shape_of v) (rows v) (keys_of ms))) (members_sites n d (pairs_in (value_at key.Parameters ms)) v ms ++ found (whole_object v ms))
    (none_found (own_keys (shape_of v) (rows v) (keys_of ms)) k)
    (none_both (members_sites n d (pairs_in (value_at key.Parameters ms)) v ms) (found (whole_object v ms)) h (none_found (whole_object v ms) w))

-- the keys are as they are to be, and no parameters are among them
pub record HasKeys (v : Kind) (ss : List Slot) : Type 0 where
  pub own : own_keys (shape_of v) (rows v) (slot_keys ss) ≡ None
  pub parameters : slot_at key.Parameters ss ≡ None

pub object_fine : (n : Names) (d : ℕ) (ps : List (List ℕ × List ℕ)) (v : Kind) (p : Pairs) (ss : List Slot) → Puts p ss → HasKeys v ss → SlotsFine n d [] v ss
    → whole_object v (members_of (filled ss)) ≡ None → Fine n d ps v (object_of p)
object_fine n d ps v p ss puts k h w =
    let P : Pairs → Type 0 = λ q. Fine n d ps v (object_of q) in
    let Q : List (List ℕ × List ℕ) → Type 0 = λ qs. first_fault (members_sites n d qs v (members_of (filled ss))) ≡ None in
    let none : pairs_in (value_at key.Parameters (members_of (filled ss))) ≡ [] = ap pairs_in (value_filled key.Parameters ss ∙ k.parameters) in
    subst P (sym puts.same) (whole_fine n d ps v (members_of (filled ss)) k.own (subst Q (sym none) (members_fine n d [] v ss h)) w)

-- an object of one member
pub alone_fine : (n : Names) (d : ℕ) (ps : List (List ℕ × List ℕ)) (v : Kind) (k : List ℕ) (t : Json) → own_keys (shape_of v) (rows v) (k ∷ []) ≡ None
    → whole_object v (member k t no_members) ≡ None → Fine n d (pairs_in (value_at key.Parameters (member k t no_members))) (value_kind v k) t → Fine n d ps v (alone k t)
unfolding sites_at
alone_fine n d ps v k t e w h =
    let qs : List (List ℕ × List ℕ) = pairs_in (value_at key.Parameters (member k t no_members)) in
    whole_fine n d ps v (member k t no_members) e
    (none_both (under (key_step k) (sites_at n d qs (value_kind v k) t)) [] (none_under (key_step k) (sites_at n d qs (value_kind v k) t) h) none_at_all) w

-- ---- lists

pub no_items_fine : (n : Names) (d : ℕ) (v : Kind) → ItemsFine n d v no_items
unfolding sites_at
no_items_fine n d v k = none_at_all

pub item_fine : (n : Names) (d : ℕ) (v : Kind) (t : Json) (ts : Items) → Fine n d [] v t → ItemsFine n d v ts → ItemsFine n d v (item t ts)
unfolding sites_at
item_fine n d v t ts h hs k =
    none_both (under (index_step k) (sites_at n d [] v t)) (items_sites n d v (k + 1) ts) (none_under (index_step k) (sites_at n d [] v t) h) (hs (k + 1))

-- What it says of a value and of its parts that nothing is wrong with it.
use Rattle.std.proofs.Common.{ℕ, ◌+◌, ◌≡◌, Bool, true, false, cond, List, [], ◌∷◌, ◌++◌, Option, Some, None, option_map, sym, refl, ◌∙◌, subst}
use Rattle.eip_text.specs.Json.{Json, null, flag, whole, float, word, list, object, Items, no_items, item, Members, no_members, member}
use Rattle.eip_simple_read.specs.Meaning.{predicate_of}
use Rattle.eip_route.specs.declared.route.Names.{Names}
use Rattle.eip_route_grammar.specs.Table.{rows, row_for, rule_of, list_of, shape_of, kind_in}
use Rattle.eip_route_grammar.specs.Causes.{or_else}
use Rattle.eip_route_faults.specs.Values.{spelled_cause, word_cause, whole_cause, flag_cause}
use Rattle.eip_route_grammar.specs.Objects.{keyed, known_one, one_key, one_aside, own_keys, keys_of, value_kind, value_kind_in, parameters_of, whole_object}
use Rattle.eip_route_grammar.specs.Paths.{key_step, index_step, placed}
use Rattle.eip_route_faults.specs.Sites.{predicate, Site, found, under, has_none, own_list, item_kind, deeper, is_predicate, word_sites, sites_at, items_sites, members_sites, or_later, first_fault}
use Rattle.eip_route_grammar.specs.declared.fault.Cause.{Cause}
use Rattle.eip_route_grammar.specs.declared.fault.Cause.TheVariants as cause
use Rattle.eip_route_grammar.specs.declared.fault.RouteFault.{RouteFault}
use Rattle.eip_route_grammar.specs.declared.table.Kind.{Kind}
use Rattle.eip_route_grammar.specs.declared.table.Row.{Row}
use Rattle.eip_route_grammar.specs.declared.table.Rule.{Rule}
use Rattle.eip_route_grammar.specs.declared.table.Shape.{Shape}
use Rattle.eip_route_grammar.specs.declared.table.Shape.TheVariants as shape
use Rattle.eip_route_faults.proofs.Walking.{first_append, first_under}

-- ---- places

pub or_none : {A : Type 0} (x y : Option A) → or_else x y ≡ None → (x ≡ None) × (y ≡ None)
or_none None y e = (refl, e)
or_none (Some a) y e = absurd cc

map_none : (step : List ℕ) (x : Option RouteFault) → option_map (placed step) x ≡ None → x ≡ None
map_none step None e = refl
map_none step (Some f) e = absurd cc

later_none : (o : Option Cause) → or_later [] o None ≡ None → o ≡ None
later_none None e = refl
later_none (Some c) e = absurd cc

pub append_none : (xs ys : List Site) → first_fault (xs ++ ys) ≡ None → (first_fault xs ≡ None) × (first_fault ys ≡ None)
append_none xs ys e = or_none (first_fault xs) (first_fault ys) (sym (first_append xs ys) ∙ e)

pub under_none : (step : List ℕ) (xs : List Site) → first_fault (under step xs) ≡ None → first_fault xs ≡ None
under_none step xs e = map_none step (first_fault xs) (sym (first_under step xs) ∙ e)

pub found_none : (o : Option Cause) → first_fault (found o) ≡ None → o ≡ None
unfolding first_fault
found_none None e = refl
found_none (Some c) e = absurd cc

never_found : (c : Cause) → first_fault (found (Some c)) ≡ None → ⊥
unfolding first_fault
never_found c e = cc

-- ---- values

-- nothing is wrong with a value of this kind, inside so many blocks and beside these parameters
abbrev pub IsFaultless : Names → ℕ → List (List ℕ × List ℕ) → Kind → Json → Type 0
IsFaultless n d ps v t = first_fault (sites_at n d ps v t) ≡ None

-- what a rule takes
abbrev pub WordFits : Names → List (List ℕ × List ℕ) → Option Rule → List ℕ → Type 0
WordFits n ps None w = ⊥
WordFits n ps (Some r) w = cond (is_predicate r) (spelled_cause (predicate_of w)) (word_cause n ps r w) ≡ None

-- the same, part by part
abbrev pub Fits : Names → ℕ → List (List ℕ × List ℕ) → Kind → Json → Type 0
Fits n d ps v null = ⊥
Fits n d ps v (flag b) = flag_cause (rule_of v) b ≡ None
Fits n d ps v (whole z) = whole_cause (rule_of v) z ≡ None
Fits n d ps v float = ⊥
Fits n d ps v (word w) = WordFits n ps (rule_of v) w
Fits n d ps v (list ts) = (own_list d (list_of v) (has_none ts) ≡ None) × (first_fault (items_sites n (deeper d (list_of v)) (item_kind (list_of v)) 0 ts) ≡ None)
Fits n d ps v (object ms) = (own_keys (shape_of v) (rows v) (keys_of ms) ≡ None) × ((first_fault (members_sites n d (parameters_of ms) v ms) ≡ None) × (whole_object v ms ≡ None))

word_by : (b : Bool) (w : List ℕ) (o : Option Cause) → first_fault (cond {A = List Site} b (([], predicate w) ∷ []) (found o)) ≡ None → cond b (spelled_cause (predicate_of w)) o ≡ None
unfolding first_fault
word_by true w o e = later_none (spelled_cause (predicate_of w)) e
word_by false w o e = found_none o e

word_fits : (n : Names) (ps : List (List ℕ × List ℕ)) (r : Option Rule) (w : List ℕ) → first_fault (word_sites n ps r w) ≡ None → WordFits n ps r w
word_fits n ps None w e = never_found _ e
word_fits n ps (Some r) w e = word_by (is_predicate r) w (word_cause n ps r w) e

pub fits : (n : Names) (d : ℕ) (ps : List (List ℕ × List ℕ)) (v : Kind) (t : Json) → IsFaultless n d ps v t → Fits n d ps v t
unfolding sites_at
fits n d ps v null e = never_found _ e
fits n d ps v (flag b) e = found_none (flag_cause (rule_of v) b) e
fits n d ps v (whole z) e = found_none (whole_cause (rule_of v) z) e
fits n d ps v float e = never_found _ e
fits n d ps v (word w) e = word_fits n ps (rule_of v) w e
fits n d ps v (list ts) e =
    let h = append_none (found (own_list d (list_of v) (has_none ts))) (items_sites n (deeper d (list_of v)) (item_kind (list_of v)) 0 ts) e in
    (found_none (own_list d (list_of v) (has_none ts)) h.0, h.1)
fits n d ps v (object ms) e =
    let h = append_none (found (own_keys (shape_of v) (rows v) (keys_of ms))) (members_sites n d (parameters_of ms) v ms ++ found (whole_object v ms)) e in
    let g = append_none (members_sites n d (parameters_of ms) v ms) (found (whole_object v ms)) h.1 in
    (found_none (own_keys (shape_of v) (rows v) (keys_of ms)) h.0, (g.0, found_none (whole_object v ms) g.1))

-- ---- items and members

pub first_item : (n : Names) (d : ℕ) (v : Kind) (k : ℕ) (t : Json) (ts : Items) → first_fault (items_sites n d v k (item t ts)) ≡ None → IsFaultless n d [] v t × (first_fault (items_sites n d v (k + 1) ts) ≡ None)
unfolding sites_at
first_item n d v k t ts e =
    let h = append_none (under (index_step k) (sites_at n d [] v t)) (items_sites n d v (k + 1) ts) e in
    (under_none (index_step k) (sites_at n d [] v t) h.0, h.1)

pub first_member : (n : Names) (d : ℕ) (ps : List (List ℕ × List ℕ)) (v : Kind) (k : List ℕ) (t : Json) (ms : Members) → first_fault (members_sites n d ps v (member k t ms)) ≡ None
    → IsFaultless n d ps (value_kind v k) t × (first_fault (members_sites n d ps v ms) ≡ None)
unfolding sites_at
first_member n d ps v k t ms e =
    let h = append_none (under (key_step k) (sites_at n d ps (value_kind v k) t)) (members_sites n d ps v ms) e in
    (under_none (key_step k) (sites_at n d ps (value_kind v k) t) h.0, h.1)

-- each item of a list
abbrev pub EachItem : (Json → Type 0) → Items → Type 0
EachItem P no_items = Unit {0}
EachItem P (item t ts) = P t × EachItem P ts

pub each_item : (n : Names) (d : ℕ) (v : Kind) (k : ℕ) (ts : Items) → first_fault (items_sites n d v k ts) ≡ None → EachItem (IsFaultless n d [] v) ts
each_item n d v k no_items e = tt
each_item n d v k (item t ts) e = let h = first_item n d v k t ts e in (h.0, each_item n d v (k + 1) ts h.1)

-- ---- objects

-- an object in which nothing is wrong, and of which a table has each key
pub record ObjectFits (n : Names) (d : ℕ) (v : Kind) (ms : Members) : Type 0 where
  pub keys : keyed (rows v) [] (keys_of ms) ≡ None
  pub members : first_fault (members_sites n d (parameters_of ms) v ms) ≡ None
  pub whole : whole_object v ms ≡ None

pub object_fits : (n : Names) (d : ℕ) (ps : List (List ℕ × List ℕ)) (v : Kind) (ms : Members) → shape_of v ≡ shape.Keyed → IsFaultless n d ps v (object ms) → ObjectFits n d v ms
object_fits n d ps v ms s e =
    let h = fits n d ps v (object ms) e in
    record { keys = subst (λ (x : Shape). own_keys x (rows v) (keys_of ms) ≡ None) s h.0; members = h.1.0; whole = h.1.1 }

-- an object with one key beside `id` and `description`
pub handler_object_fits : (n : Names) (d : ℕ) (ps : List (List ℕ × List ℕ)) (v : Kind) (ms : Members) → shape_of v ≡ shape.Handler → IsFaultless n d ps v (object ms) → (one_aside false (keys_of ms) ≡ None) × ObjectFits n d v ms
handler_object_fits n d ps v ms s e =
    let h = fits n d ps v (object ms) e in
    let k = or_none (one_aside false (keys_of ms)) (keyed (rows v) [] (keys_of ms)) (subst (λ (x : Shape). own_keys x (rows v) (keys_of ms) ≡ None) s h.0) in
    (k.0, record { keys = k.1; members = h.1.0; whole = h.1.1 })

-- an object with one key, which the table has: an item or a step
pub record OneFits (n : Names) (d : ℕ) (v : Kind) (ms : Members) : Type 0 where
  pub key : List ℕ
  pub value : Json
  pub is : ms ≡ member key value no_members
  pub row : Row
  pub known : row_for key (rows v) ≡ Some row
  pub faultless : IsFaultless n d (parameters_of (member key value no_members)) (kind_in row) value

pub known_row : (o : Option Row) (c : Cause) → known_one o c ≡ None → (r : Row) × (o ≡ Some r)
known_row None c e = absurd cc
known_row (Some r) c e = (r, refl)

one_fits : (n : Names) (d : ℕ) (v : Kind) (ms : Members) (unknown : List ℕ → Cause) → one_key (rows v) unknown (keys_of ms) ≡ None → first_fault (members_sites n d (parameters_of ms) v ms) ≡ None → OneFits n d v ms
one_fits n d v no_members unknown o e = absurd cc
one_fits n d v (member k t no_members) unknown o e =
    let r = known_row (row_for k (rows v)) (unknown k) o in
    record {
      key = k;
      value = t;
      is = refl;
      row = r.0;
      known = r.1;
      faultless = subst (λ (x : Option Row). IsFaultless n d (parameters_of (member k t no_members)) (value_kind_in x) t) r.1 (first_member n d (parameters_of (member k t no_members)) v k t no_members e).0;
    }
one_fits n d v (member k t (member l u ms)) unknown o e = absurd cc

pub item_object_fits : (n : Names) (d : ℕ) (ps : List (List ℕ × List ℕ)) (v : Kind) (ms : Members) → shape_of v ≡ shape.Item → IsFaultless n d ps v (object ms) → OneFits n d v ms
item_object_fits n d ps v ms s e =
    let h = fits n d ps v (object ms) e in
    one_fits n d v ms (λ k. cause.UnknownKey k) (subst (λ (x : Shape). own_keys x (rows v) (keys_of ms) ≡ None) s h.0) h.1.0

pub step_object_fits : (n : Names) (d : ℕ) (ps : List (List ℕ × List ℕ)) (v : Kind) (ms : Members) → shape_of v ≡ shape.Step → IsFaultless n d ps v (object ms) → OneFits n d v ms
step_object_fits n d ps v ms s e =
    let h = fits n d ps v (object ms) e in
    one_fits n d v ms (λ k. cause.UnknownStep k) (subst (λ (x : Shape). own_keys x (rows v) (keys_of ms) ≡ None) s h.0) h.1.0

-- Which form a value has with which nothing is wrong: a text that a rule takes, an object, or one of both.
use Rattle.std.proofs.Common.{ℕ, ℤ, ◌≡◌, Bool, List, Option, Some, None, refl, sym, ◌∙◌, subst, ap}
use Rattle.eip_text.specs.Json.{Json, null, flag, whole, float, word, list, object, Items, Members}
use Rattle.eip_route.specs.declared.route.Names.{Names}
use Rattle.eip_route_grammar.specs.Table.{rows, rule_of, list_of, shape_of}
use Rattle.eip_route_faults.specs.Values.{whole_cause, flag_cause}
use Rattle.eip_route_grammar.specs.Objects.{own_keys, keys_of}
use Rattle.eip_route_faults.specs.Sites.{own_list, has_none, deeper, item_kind, items_sites, first_fault}
use Rattle.eip_route_grammar.specs.declared.fault.Cause.{Cause}
use Rattle.eip_route_grammar.specs.declared.fault.Cause.TheVariants as cause
use Rattle.eip_route_grammar.specs.declared.table.Kind.{Kind}
use Rattle.eip_route_grammar.specs.declared.table.Kind.TheVariants as kind
use Rattle.eip_route_grammar.specs.declared.table.Listed.{Listed}
use Rattle.eip_route_grammar.specs.declared.table.Rule.{Rule}
use Rattle.eip_route_grammar.specs.declared.table.Shape.{Shape}
use Rattle.eip_route_grammar.specs.declared.table.Shape.TheVariants as shape
use Rattle.eip_route_validity.proofs.fitting.Faultless.{IsFaultless, WordFits, fits, ObjectFits, object_fits}

-- a rule that takes texts alone
abbrev pub IsTextRule : Option Rule → Type 0
IsTextRule r = ((b : Bool) → flag_cause r b ≡ Some cause.WrongKind) × ((z : ℤ) → whole_cause r z ≡ Some cause.WrongKind)

never : {c : Cause} {o : Option Cause} → o ≡ Some c → o ≡ None → ⊥
never {c} p e = let q : Some c ≡ None = sym p ∙ e in cc

no_list : (d : ℕ) (o : Option Listed) (b : Bool) → o ≡ None → own_list d o b ≡ None → ⊥
no_list d o b p e = never {c = cause.WrongKind} (ap (λ (x : Option Listed). own_list d x b) p) e

no_object : (s : Shape) (v : Kind) (ms : Members) → s ≡ shape.Closed → own_keys s (rows v) (keys_of ms) ≡ None → ⊥
no_object s v ms p e = never {c = cause.WrongKind} (ap (λ (x : Shape). own_keys x (rows v) (keys_of ms)) p) e

pub with_text : (P : Json → Type 0) (n : Names) (d : ℕ) (ps : List (List ℕ × List ℕ)) (r : Rule) (t : Json) → IsTextRule (Some r) → IsFaultless n d ps (kind.Leaf r) t → ((w : List ℕ) → WordFits n ps (Some r) w → P (word w)) → P t
unfolding rule_of list_of shape_of
with_text P n d ps r null k e f = absurd (fits n d ps (kind.Leaf r) null e)
with_text P n d ps r (flag b) k e f = absurd (never {c = cause.WrongKind} (k.0 b) (fits n d ps (kind.Leaf r) (flag b) e))
with_text P n d ps r (whole z) k e f = absurd (never {c = cause.WrongKind} (k.1 z) (fits n d ps (kind.Leaf r) (whole z) e))
with_text P n d ps r float k e f = absurd (fits n d ps (kind.Leaf r) float e)
with_text P n d ps r (word w) k e f = f w (fits n d ps (kind.Leaf r) (word w) e)
with_text P n d ps r (list ts) k e f = absurd (let h = (fits n d ps (kind.Leaf r) (list ts) e).0 in cc)
with_text P n d ps r (object ms) k e f = absurd (let h = (fits n d ps (kind.Leaf r) (object ms) e).0 in cc)

pub with_text_or_object : (P : Json → Type 0) (n : Names) (d : ℕ) (ps : List (List ℕ × List ℕ)) (v : Kind) (t : Json) → IsTextRule (rule_of v) → list_of v ≡ None → shape_of v ≡ shape.Keyed → IsFaultless n d ps v t
    → ((w : List ℕ) → WordFits n ps (rule_of v) w → P (word w)) → ((ms : Members) → ObjectFits n d v ms → P (object ms)) → P t
with_text_or_object P n d ps v null k l s e f g = absurd (fits n d ps v null e)
with_text_or_object P n d ps v (flag b) k l s e f g = absurd (never {c = cause.WrongKind} (k.0 b) (fits n d ps v (flag b) e))
with_text_or_object P n d ps v (whole z) k l s e f g = absurd (never {c = cause.WrongKind} (k.1 z) (fits n d ps v (whole z) e))
with_text_or_object P n d ps v float k l s e f g = absurd (fits n d ps v float e)
with_text_or_object P n d ps v (word w) k l s e f g = f w (fits n d ps v (word w) e)
with_text_or_object P n d ps v (list ts) k l s e f g = absurd (no_list d (list_of v) (has_none ts) l (fits n d ps v (list ts) e).0)
with_text_or_object P n d ps v (object ms) k l s e f g = g ms (object_fits n d ps v ms s e)

-- a kind for objects alone
pub record IsForObjects (v : Kind) : Type 0 where
  pub no_rule : rule_of v ≡ None
  pub no_list : list_of v ≡ None
  pub keyed : shape_of v ≡ shape.Keyed

no_word : (n : Names) (ps : List (List ℕ × List ℕ)) (r : Option Rule) (w : List ℕ) → r ≡ None → WordFits n ps r w → ⊥
no_word n ps r w p e = subst (λ (x : Option Rule). WordFits n ps x w) p e

pub with_object : (P : Json → Type 0) (n : Names) (d : ℕ) (ps : List (List ℕ × List ℕ)) (v : Kind) (t : Json) → IsForObjects v → IsFaultless n d ps v t → ((ms : Members) → ObjectFits n d v ms → P (object ms)) → P t
with_object P n d ps v t k e g =
    with_text_or_object P n d ps v t ((λ b. ap (λ (r : Option Rule). flag_cause r b) k.no_rule), (λ z. ap (λ (r : Option Rule). whole_cause r z) k.no_rule)) k.no_list k.keyed e
    (λ w h. absurd (no_word n ps (rule_of v) w k.no_rule h)) g

-- ---- such kinds

pub for_expression : IsForObjects kind.Expression
unfolding rule_of list_of shape_of
for_expression = record { no_rule = refl; no_list = refl; keyed = refl }

pub for_value : IsForObjects kind.Value
unfolding rule_of list_of shape_of
for_value = record { no_rule = refl; no_list = refl; keyed = refl }

pub for_named_value : IsForObjects kind.NamedValue
unfolding rule_of list_of shape_of
for_named_value = record { no_rule = refl; no_list = refl; keyed = refl }

pub for_case : IsForObjects kind.Case
unfolding rule_of list_of shape_of
for_case = record { no_rule = refl; no_list = refl; keyed = refl }

pub for_test : IsForObjects kind.Test
unfolding rule_of list_of shape_of
for_test = record { no_rule = refl; no_list = refl; keyed = refl }

pub for_catch : IsForObjects kind.Catch
unfolding rule_of list_of shape_of
for_catch = record { no_rule = refl; no_list = refl; keyed = refl }

pub for_when : IsForObjects kind.OnWhen
unfolding rule_of list_of shape_of
for_when = record { no_rule = refl; no_list = refl; keyed = refl }

pub for_policy : IsForObjects kind.RedeliveryPolicy
unfolding rule_of list_of shape_of
for_policy = record { no_rule = refl; no_list = refl; keyed = refl }

pub for_completion : IsForObjects kind.CompletionPredicate
unfolding rule_of list_of shape_of
for_completion = record { no_rule = refl; no_list = refl; keyed = refl }

pub for_nested : IsForObjects kind.Nested
unfolding rule_of list_of shape_of
for_nested = record { no_rule = refl; no_list = refl; keyed = refl }

-- ---- lists

-- a kind for lists alone
pub record IsForLists (v : Kind) : Type 0 where
  pub no_rule : rule_of v ≡ None
  pub closed : shape_of v ≡ shape.Closed

pub with_list : (P : Json → Type 0) (n : Names) (d : ℕ) (ps : List (List ℕ × List ℕ)) (v : Kind) (t : Json) → IsForLists v → IsFaultless n d ps v t
    → ((ts : Items) → own_list d (list_of v) (has_none ts) ≡ None → first_fault (items_sites n (deeper d (list_of v)) (item_kind (list_of v)) 0 ts) ≡ None → P (list ts)) → P t
with_list P n d ps v null k e f = absurd (fits n d ps v null e)
with_list P n d ps v (flag b) k e f = absurd (never {c = cause.WrongKind} (ap (λ (r : Option Rule). flag_cause r b) k.no_rule) (fits n d ps v (flag b) e))
with_list P n d ps v (whole z) k e f = absurd (never {c = cause.WrongKind} (ap (λ (r : Option Rule). whole_cause r z) k.no_rule) (fits n d ps v (whole z) e))
with_list P n d ps v float k e f = absurd (fits n d ps v float e)
with_list P n d ps v (word w) k e f = absurd (no_word n ps (rule_of v) w k.no_rule (fits n d ps v (word w) e))
with_list P n d ps v (list ts) k e f = let h = fits n d ps v (list ts) e in f ts h.0 h.1
with_list P n d ps v (object ms) k e f = absurd (no_object (shape_of v) v ms k.closed (fits n d ps v (object ms) e).0)

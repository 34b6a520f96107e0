-- Numbers that are gathered along a list.
use Rattle.std.proofs.Common.{◌≡◌, ℕ, suc, ◌<◌, ◌≤◌, inl, inr, Bool, true, false, cond, ◌==◌, ◌&&◌, ◌||◌, List, [], ◌∷◌, Option, Some, None, Less, is_eq, is_gt, nat_cmp, BTreeSet, BTreeMap, get_or, refl, sym, ap, subst, ◌∙◌, arith, eqb-true, eq-eqb, true≢false}
use Rattle.std.specs.Prelude.{nat_le}
use Rattle.std.specs.List.{list_any, AllByRecursion, All}
use Rattle.std.specs.List.Sorted.{IsStrictlySortedBy}
use Rattle.std.specs.BTreeMap.{get}
use Rattle.std.specs.BTreeSet.{contains}
use Rattle.std.proofs.lemmas.Bool.{cases_Bool, and_from, and_parts, lt-leb}
use Rattle.std.proofs.lemmas.Cmp.{ranked}
use Rattle.std.proofs.lemmas.Option.{none-some, same_Some}
use Rattle.eip_aggregator.specs.Arrivals.{Key, Group, is_at_most}
use Rattle.eip_ordered.specs.Numbered.{value_at}
use Rattle.eip_aggregator.specs.Tables.{has_due, AreFound, is_picked, is_by, due_number, is_forced, group_number, passes}
use Rattle.eip_ordered.proofs.Lookups.{numbers_tied, found}
use Rattle.eip_ordered.proofs.Pairs.{by_first}
use Rattle.eip_aggregator.proofs.Lookups.{before_by}
use Rattle.eip_aggregator.proofs.Found.{due_some, some_due}

-- what has been gathered, and what is picked of the rest, is what is picked of the whole list
abbrev pub Gathers : {X : Type 0} → (X → Bool) → (X → ℕ) → List X → List X → BTreeSet ℕ → Type 0
Gathers pick number all rest numbers = (n : ℕ) → (contains nat_cmp numbers n || is_picked pick number rest n) ≡ is_picked pick number all n

or_false : (a : Bool) → (a || false) ≡ a
or_false true = refl
or_false false = refl

pub or_right : (a b : Bool) → b ≡ true → (a || b) ≡ true
or_right true b h = refl
or_right false b h = h

pub or_left : (a b : Bool) → a ≡ true → (a || b) ≡ true
or_left true b h = refl
or_left false b h = absurd (true≢false (sym h))

same_by : (a b : Bool) → (a ≡ true → b ≡ true) → (b ≡ true → a ≡ true) → a ≡ b
same_by true b h k = sym (h refl)
same_by false true h k = k refl
same_by false false h k = refl

more_by : (s a r g : Bool) → (a || ((true && s) || r)) ≡ g → (cond s true a || r) ≡ g
more_by true true r g h = h
more_by true false r g h = h
more_by false a r g h = h

pub gathers_none : {X : Type 0} (pick : X → Bool) (number : X → ℕ) (all rest : List X) (numbers : BTreeSet ℕ) → rest ≡ all → numbers.keys ≡ [] → Gathers pick number all rest numbers
gathers_none pick number all rest numbers same none n =
    ap (λ (ks : List ℕ). list_any (λ k. is_eq (nat_cmp n k)) ks || is_picked pick number rest n) none
    ∙ ap (λ (xs : List _). is_picked pick number xs n) same

pub gathers_more : {X : Type 0} (pick : X → Bool) (number : X → ℕ) (all rest left : List X) (e : X) (numbers more : BTreeSet ℕ) → Gathers pick number all rest numbers → rest ≡ e ∷ left → pick e ≡ true
    → ((n : ℕ) → contains nat_cmp more n ≡ cond (is_eq (nat_cmp (number e) n)) true (contains nat_cmp numbers n)) → Gathers pick number all left more
gathers_more {X} pick number all rest left e numbers more gathers next picked adds n =
    ap (λ (b : Bool). b || is_picked pick number left n) (adds n ∙ ap (λ (t : Bool). cond t true (contains nat_cmp numbers n)) (numbers_tied (number e) n))
    ∙ more_by (number e == n) (contains nat_cmp numbers n) (is_picked pick number left n) (is_picked pick number all n)
    (ap (λ (b : Bool). contains nat_cmp numbers n || ((b && (number e == n)) || is_picked pick number left n)) (sym picked)
    ∙ ap (λ (xs : List X). contains nat_cmp numbers n || is_picked pick number xs n) (sym next)
    ∙ gathers n)

pub gathers_past : {X : Type 0} (pick : X → Bool) (number : X → ℕ) (all rest left : List X) (e : X) (numbers : BTreeSet ℕ) → Gathers pick number all rest numbers → rest ≡ e ∷ left → pick e ≡ false
    → Gathers pick number all left numbers
gathers_past {X} pick number all rest left e numbers gathers next passed n =
    ap (λ (b : Bool). contains nat_cmp numbers n || ((b && (number e == n)) || is_picked pick number left n)) (sym passed)
    ∙ ap (λ (xs : List X). contains nat_cmp numbers n || is_picked pick number xs n) (sym next)
    ∙ gathers n

pub gathered : {X : Type 0} (pick : X → Bool) (number : X → ℕ) (all rest : List X) (numbers : BTreeSet ℕ) → Gathers pick number all rest numbers → ((n : ℕ) → is_picked pick number rest n ≡ false) → (n : ℕ) → contains nat_cmp numbers n ≡ is_picked pick number all n
gathered pick number all rest numbers gathers none n =
    sym (or_false (contains nat_cmp numbers n))
    ∙ ap (λ (b : Bool). contains nat_cmp numbers n || b) (sym (none n))
    ∙ gathers n

pub none_picked : {X : Type 0} (pick : X → Bool) (number : X → ℕ) (rest : List X) → rest ≡ [] → (n : ℕ) → is_picked pick number rest n ≡ false
none_picked {X} pick number rest e n = ap (λ (xs : List X). is_picked pick number xs n) e

-- ---- moments

found_due : (t n : ℕ) (dues : List (ℕ × ℕ)) → is_picked (is_by t) due_number dues n ≡ true → (d : ℕ) × (nat_le d t ≡ true) × (has_due dues d n ≡ true)
found_due t n [] h = absurd (true≢false (sym h))
found_due t n (e ∷ dues) h = elim (cases_Bool (is_by t e && (e.1 == n))) [
  | inl b ↦ let p = and_parts (is_by t e) (e.1 == n) b in
      (e.0, p.0, or_left ((e.0 == e.0) && (n == e.1)) (has_due dues e.0 n) (and_from (e.0 == e.0) (n == e.1) (eq-eqb e.0 e.0 refl) (eq-eqb n e.1 (sym (eqb-true e.1 n p.1)))))
  | inr f ↦ let rest = found_due t n dues (ap (λ (b : Bool). b || is_picked (is_by t) due_number dues n) (sym f) ∙ h) in
      (rest.0, rest.1, or_right ((rest.0 == e.0) && (n == e.1)) (has_due dues rest.0 n) rest.2)
]

due_found : (t n d : ℕ) (dues : List (ℕ × ℕ)) → nat_le d t ≡ true → has_due dues d n ≡ true → is_picked (is_by t) due_number dues n ≡ true
due_found t n d [] by h = absurd (true≢false (sym h))
due_found t n d (e ∷ dues) by h = elim (cases_Bool ((d == e.0) && (n == e.1))) [
  | inl b ↦ let p = and_parts (d == e.0) (n == e.1) b in
      or_left (is_by t e && (e.1 == n)) (is_picked (is_by t) due_number dues n)
      (and_from (is_by t e) (e.1 == n) (ap (λ (x : ℕ). nat_le x t) (sym (eqb-true d e.0 p.0)) ∙ by) (eq-eqb e.1 n (sym (eqb-true n e.1 p.1))))
  | inr f ↦ or_right (is_by t e && (e.1 == n)) (is_picked (is_by t) due_number dues n)
      (due_found t n d dues by (ap (λ (b : Bool). b || has_due dues d n) (sym f) ∙ h))
]

due_by : (t : ℕ) (o : Option ℕ) → is_at_most o t ≡ true → (d : ℕ) × (o ≡ Some d) × (nat_le d t ≡ true)
due_by t None h = absurd (true≢false (sym h))
due_by t (Some d) h = (d, refl, h)

pub passing : (test : Group → Bool) (o : Option Group) → passes test o ≡ true → (g : Group) × (o ≡ Some g) × (test g ≡ true)
passing test None h = absurd (true≢false (sym h))
passing test (Some g) h = (g, refl, h)

-- the moments up to one are those of the groups that are due then
pub due_numbers : (groups : List (ℕ × Group)) (numbers : List (Key × ℕ)) (dues : List (ℕ × ℕ)) (t n : ℕ) → AreFound groups numbers dues → is_picked (is_by t) due_number dues n ≡ passes (λ g. is_at_most g.due t) (value_at groups n)
due_numbers groups numbers dues t n found =
    same_by (is_picked (is_by t) due_number dues n) (passes (λ g. is_at_most g.due t) (value_at groups n))
    (λ h.
    let at = found_due t n dues h in
    let its = due_some (value_at groups n) at.0 (sym (found.timed at.0 n) ∙ at.2) in
    ap (passes (λ (g : Group). is_at_most g.due t)) its.1 ∙ ap (λ (o : Option ℕ). is_at_most o t) its.2 ∙ at.1)
    (λ h.
    let its = passing (λ g. is_at_most g.due t) (value_at groups n) h in
    let at = due_by t its.0.due its.2 in
    due_found t n at.0 dues at.2 (found.timed at.0 n ∙ some_due (value_at groups n) its.0 at.0 its.1 at.1))

later : (t : ℕ) (e f : ℕ × ℕ) → t < e.0 → by_first e f ≡ Less → t < f.0
later t e f late less =
    let order : e.0 ≤ f.0 = before_by (nat_cmp e.0 f.0) (nat_cmp e.1 f.1) e.0 f.0 e.1 f.1 (ranked e.0 f.0 (nat_cmp e.0 f.0) refl) (ranked e.1 f.1 (nat_cmp e.1 f.1) refl) (ap is_gt less) in
    omega arith

none_later : (t : ℕ) (e : ℕ × ℕ) (rest : List (ℕ × ℕ)) → t < e.0 → AllByRecursion (λ f. by_first e f ≡ Less) rest → (n : ℕ) → is_picked (is_by t) due_number rest n ≡ false
none_later t e [] late all n = refl
none_later t e (f ∷ rest) late all n =
    ap (λ (b : Bool). (b && (f.1 == n)) || is_picked (is_by t) due_number rest n) (lt-leb f.0 t (later t e f late all.0))
    ∙ none_later t e rest late all.1 n

-- behind a moment that is too late all are
pub none_behind : (t : ℕ) (e : ℕ × ℕ) (rest left : List (ℕ × ℕ)) → t < e.0 → rest ≡ e ∷ left → IsStrictlySortedBy by_first rest → (n : ℕ) → is_picked (is_by t) due_number rest n ≡ false
unfolding IsStrictlySortedBy
none_behind t e rest left late next sorted n =
    let order = subst (λ (xs : List (ℕ × ℕ)). IsStrictlySortedBy by_first xs) next sorted in
    ap (λ (xs : List (ℕ × ℕ)). is_picked (is_by t) due_number xs n) next
    ∙ ap (λ (b : Bool). (b && (e.1 == n)) || is_picked (is_by t) due_number left n) (lt-leb e.0 t late)
    ∙ none_later t e left late order.0 n

pub sorted_left : (e : ℕ × ℕ) (rest left : List (ℕ × ℕ)) → rest ≡ e ∷ left → IsStrictlySortedBy by_first rest → IsStrictlySortedBy by_first left
unfolding IsStrictlySortedBy
sorted_left e rest left next sorted =
    let order = subst (λ (xs : List (ℕ × ℕ)). IsStrictlySortedBy by_first xs) next sorted in
    order.1

-- ---- groups

found_forced : (groups es : List (ℕ × Group)) (n : ℕ) → All (λ e. value_at groups e.0 ≡ Some e.1) es → is_picked is_forced group_number es n ≡ true → (g : Group) × (value_at groups n ≡ Some g) × (g.force ≡ true)
found_forced groups [] n all h = absurd (true≢false (sym h))
found_forced groups (e ∷ es) n all h = elim (cases_Bool (e.1.force && (e.0 == n))) [
  | inl b ↦ let p = and_parts (e.1.force) (e.0 == n) b in
      (e.1, ap (value_at groups) (sym (eqb-true e.0 n p.1)) ∙ all 0 e (omega arith), p.0)
  | inr f ↦ found_forced groups es n (λ k d lt. all (suc k) d (omega arith)) (ap (λ (b : Bool). b || is_picked is_forced group_number es n) (sym f) ∙ h)
]

forced_found : (es : List (ℕ × Group)) (n : ℕ) (g : Group) → value_at es n ≡ Some g → g.force ≡ true → is_picked is_forced group_number es n ≡ true
forced_found [] n g at h = absurd (none-some g at)
forced_found (e ∷ es) n g at h = elim (cases_Bool (n == e.0)) [
  | inl t ↦
      let its : e.1 ≡ g = same_Some e.1 g (sym (ap (λ (b : Bool). cond b (Some e.1) (value_at es n)) t) ∙ at) in
      or_left (e.1.force && (e.0 == n)) (is_picked is_forced group_number es n)
      (and_from (e.1.force) (e.0 == n) (ap (λ (x : Group). x.force) its ∙ h) (eq-eqb e.0 n (sym (eqb-true n e.0 t))))
  | inr f ↦ or_right (e.1.force && (e.0 == n)) (is_picked is_forced group_number es n)
      (forced_found es n g (sym (ap (λ (b : Bool). cond b (Some e.1) (value_at es n)) f) ∙ at) h)
]

-- the groups that are found by their numbers are all that may be forced
pub forced_numbers : (groups : BTreeMap ℕ Group) (n : ℕ) → All (λ e. get nat_cmp groups e.0 ≡ Some e.1) groups.entries → is_picked is_forced group_number groups.entries n ≡ passes (λ g. g.force) (value_at groups.entries n)
forced_numbers groups n all =
    same_by (is_picked is_forced group_number groups.entries n) (passes (λ g. g.force) (value_at groups.entries n))
    (λ h.
    let its = found_forced groups.entries groups.entries n (λ k d lt. sym (found groups (get_or groups.entries k d).0) ∙ all k d lt) h in
    ap (passes (λ (g : Group). g.force)) its.1 ∙ its.2)
    (λ h.
    let its = passing (λ g. g.force) (value_at groups.entries n) h in
    forced_found groups.entries n its.0 its.1 its.2)

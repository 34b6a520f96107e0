-- What an ordered set of moments and numbers says of those who sleep.
use Rattle.std.proofs.Common.{◌≡◌, ℕ, ◌<◌, ◌≤◌, ◌⊎◌, Bool, true, false, cond, ◌&&◌, ◌==◌, eqb, List, [], ◌∷◌, length, slice_get, Option, Some, None, Ordering, Less, Equal, Greater, nat_cmp, is_eq, is_gt, BTreeSet, refl, sym, ap, subst, ◌∙◌, inl, inr, arith, eqb-true, eq-eqb, true≢false}
use Rattle.std.specs.Ordering.{MatchOrdering, ordering_then}
use Rattle.std.specs.BTreeSet.{contains, IsLowerBound}
use Rattle.std.proofs.lemmas.Cmp.{ranked}
use Rattle.std.proofs.lemmas.Option.{none-some, same_Some}
use Rattle.eip_ordered.proofs.Pairs.{by_first, pairs_tied, pair_found}
use Rattle.eip_redelivery.specs.Sleep.{Call, Slept, Woke, sleeps, has_sleeper, is_until, IsAwake, Stands, IsFirstMoment, IsBeforeAll, IsFirstSleeper}

-- the table has what the set contains
holds : (set : BTreeSet (ℕ × ℕ)) (x due : ℕ) → has_sleeper set.keys x due ≡ contains by_first set (due, x)
holds set x due = pair_found set due x

-- ---- one falls asleep

slept_by : (same at was : Bool) (e due : ℕ) (o : Option ℕ) → (due == e) ≡ at → (same ≡ true → was ≡ false) → was ≡ is_until e o → cond (at && same) true was ≡ is_until e (cond same (Some due) o)
slept_by true true was e due o a awake h = sym a
slept_by true false was e due o a awake h = awake refl ∙ sym a
slept_by false true was e due o a awake h = h
slept_by false false was e due o a awake h = h

pub stands_slept : (calls : List Call) (old new : BTreeSet (ℕ × ℕ)) (number due : ℕ)
    → ((q : ℕ × ℕ) → contains by_first new q ≡ cond (is_eq (by_first (due, number) q)) true (contains by_first old q))
    → IsAwake number old.keys → Stands calls old.keys → Stands (Slept number due ∷ calls) new.keys
stands_slept calls old new number due grew awake stands = λ x e.
    holds new x e
    ∙ grew (e, x)
    ∙ ap (λ (b : Bool). cond b true (contains by_first old (e, x))) (pairs_tied (due, number) (e, x))
    ∙ slept_by (number == x) (due == e) (contains by_first old (e, x)) e due (sleeps calls x) refl
    (λ s. sym (holds old x e) ∙ subst (λ (y : ℕ). has_sleeper old.keys y e ≡ false) (eqb-true number x s) (awake e))
    (sym (holds old x e) ∙ stands x e)

-- ---- one wakes

other_moment : (o : Option ℕ) (e due : ℕ) → (due == e) ≡ false → is_until due o ≡ true → is_until e o ≡ false
other_moment None e due a h = refl
other_moment (Some m) e due a h = subst (λ (n : ℕ). eqb n e ≡ false) (sym (eqb-true m due h)) a

woke_by : (same at was : Bool) (e due : ℕ) (o : Option ℕ) → (due == e) ≡ at → (same ≡ true → is_until due o ≡ true) → was ≡ is_until e o → cond (at && same) false was ≡ is_until e (cond same None o)
woke_by true true was e due o a known h = refl
woke_by true false was e due o a known h = h ∙ other_moment o e due a (known refl)
woke_by false true was e due o a known h = h
woke_by false false was e due o a known h = h

sleeps_until : (calls : List Call) (set : BTreeSet (ℕ × ℕ)) (x due : ℕ) → contains by_first set (due, x) ≡ true → Stands calls set.keys → is_until due (sleeps calls x) ≡ true
sleeps_until calls set x due had stands = sym (stands x due) ∙ holds set x due ∙ had

pub stands_woke : (calls : List Call) (old new : BTreeSet (ℕ × ℕ)) (k : ℕ × ℕ)
    → ((q : ℕ × ℕ) → contains by_first new q ≡ cond (is_eq (by_first k q)) false (contains by_first old q))
    → contains by_first old k ≡ true → Stands calls old.keys → Stands (Woke k.1 ∷ calls) new.keys
stands_woke calls old new k shrank had stands = λ x e.
    holds new x e
    ∙ shrank (e, x)
    ∙ ap (λ (b : Bool). cond b false (contains by_first old (e, x))) (pairs_tied k (e, x))
    ∙ woke_by (k.1 == x) (k.0 == e) (contains by_first old (e, x)) e k.0 (sleeps calls x) refl
    (λ s. subst (λ (y : ℕ). is_until k.0 (sleeps calls y) ≡ true) (eqb-true k.1 x s) (sleeps_until calls old k.1 k.0 had stands))
    (sym (holds old x e) ∙ stands x e)

-- ---- who is first

until_some : (o : Option ℕ) (due : ℕ) → is_until due o ≡ true → o ≡ Some due
until_some None due h = absurd (true≢false (sym h))
until_some (Some m) due h = ap (λ (n : ℕ). Some n) (eqb-true m due h)

some_until : (o : Option ℕ) (due : ℕ) → o ≡ Some due → is_until due o ≡ true
some_until o due e = subst (λ (p : Option ℕ). is_until due p ≡ true) (sym e) (eq-eqb due due refl)

before_by : (o p : Ordering) (a b c d : ℕ) → MatchOrdering o (a < b) (a ≡ b) (b < a) → MatchOrdering p (c < d) (c ≡ d) (d < c) → is_gt (ordering_then o p) ≡ false → (a < b) ⊎ ((a ≡ b) × (c ≤ d))
before_by Less p a b c d m n g = inl m
before_by Equal Less a b c d m n g = inr (m, omega arith)
before_by Equal Equal a b c d m n g = inr (m, omega arith)
before_by Equal Greater a b c d m n g = absurd (true≢false g)
before_by Greater p a b c d m n g = absurd (true≢false g)

-- what comes first in the set wakes before everybody else
before_all : (calls : List Call) (set : BTreeSet (ℕ × ℕ)) (k : ℕ × ℕ) → IsLowerBound by_first set k → Stands calls set.keys → IsBeforeAll calls k.1 k.0
before_all calls set k least stands = λ y later e.
    before_by (nat_cmp k.0 later) (nat_cmp k.1 y) k.0 later k.1 y (ranked k.0 later (nat_cmp k.0 later) refl) (ranked k.1 y (nat_cmp k.1 y) refl)
    (least (later, y) (sym (holds set y later) ∙ stands y later ∙ some_until (sleeps calls y) later e))

at_most : (a b c d : ℕ) → (a < b) ⊎ ((a ≡ b) × (c ≤ d)) → a ≤ b
at_most a b c d (inl h) = omega arith
at_most a b c d (inr h) = let same : a ≡ b = h.0 in omega arith

pub first_moment : (calls : List Call) (set : BTreeSet (ℕ × ℕ)) (k : ℕ × ℕ) → contains by_first set k ≡ true → IsLowerBound by_first set k → Stands calls set.keys → IsFirstMoment calls (Some k.0)
first_moment calls set k had least stands = (
  (k.1, until_some (sleeps calls k.1) k.0 (sleeps_until calls set k.1 k.0 had stands)),
  λ x later e. at_most k.0 later k.1 x (before_all calls set k least stands x later e),
)

pub first_sleeper : (calls : List Call) (set : BTreeSet (ℕ × ℕ)) (k : ℕ × ℕ) (tick : ℕ) → contains by_first set k ≡ true → IsLowerBound by_first set k → k.0 ≤ tick → Stands calls set.keys → IsFirstSleeper calls tick (Some k.1)
first_sleeper calls set k tick had least come stands =
    (k.0, until_some (sleeps calls k.1) k.0 (sleeps_until calls set k.1 k.0 had stands), come, before_all calls set k least stands)

pub too_early : (calls : List Call) (set : BTreeSet (ℕ × ℕ)) (k : ℕ × ℕ) (tick : ℕ) → IsLowerBound by_first set k → tick < k.0 → Stands calls set.keys → IsFirstSleeper calls tick None
too_early calls set k tick least early stands = λ x later e.
    let far : k.0 ≤ later = at_most k.0 later k.1 x (before_all calls set k least stands x later e) in omega arith

none_by : (o : Option ℕ) → ((due : ℕ) → is_until due o ≡ false) → o ≡ None
none_by None h = refl
none_by (Some m) h = absurd (true≢false (sym (eq-eqb m m refl) ∙ h m))

pub no_keys : (keys : List (ℕ × ℕ)) → (0 < length keys → ⊥) → keys ≡ []
no_keys [] h = refl
no_keys (k ∷ keys) h = absurd (h (omega arith))

pub nobody : (calls : List Call) (keys : List (ℕ × ℕ)) → keys ≡ [] → Stands calls keys → IsFirstMoment calls None
nobody calls keys e stands = λ x. none_by (sleeps calls x) (λ due. sym (stands x due) ∙ ap (λ (ks : List (ℕ × ℕ)). has_sleeper ks x due) e)

pub nobody_yet : (calls : List Call) (keys : List (ℕ × ℕ)) (tick : ℕ) → keys ≡ [] → Stands calls keys → IsFirstSleeper calls tick None
nobody_yet calls keys tick e stands = λ x later s. absurd (none-some later (sym (nobody calls keys e stands x) ∙ s))

-- what comes first and what is taken out first are one
pub first_key : (keys rest : List (ℕ × ℕ)) (k l : ℕ × ℕ) → slice_get keys 0 ≡ Some k → keys ≡ l ∷ rest → k ≡ l
first_key keys rest k l first removal = same_Some k l (sym first ∙ ap (λ (ks : List (ℕ × ℕ)). slice_get ks 0) removal)

-- Look-ups as ordered maps and sets make them.
use Rattle.std.proofs.Common.{◌≡◌, ℕ, ◌<◌, ◌≤◌, Bool, true, false, cond, ◌==◌, ◌&&◌, List, [], ◌∷◌, length, Some, is_some, Result, Ok, Err, OnErr, Ordering, Less, Equal, Greater, nat_cmp, is_eq, is_gt, BTreeMap, BTreeSet, refl, sym, ap, subst, ◌∙◌, arith, true≢false}
use Rattle.std.specs.Prelude.{slice_get}
use Rattle.std.specs.declared.ops.Bound.TheVariants.{Excluded, Unbounded}
use Rattle.std.specs.Option.{IfSome}
use Rattle.std.specs.Ordering.{ordering_then, MatchOrdering}
use Rattle.std.specs.BTreeMap.Range.{IsLeBy, IsEntryInRange, IsRangeOf}
use Rattle.std.specs.BTreeSet.{contains, IsLowerBound}
use Rattle.std.proofs.lemmas.Cmp.{ranked}
use Rattle.std.proofs.lemmas.Map.Keys.{le_from_not_gt}
use Rattle.std.proofs.lemmas.Option.{none-some}
use Rattle.eip_aggregator.specs.Arrivals.{Group}
use Rattle.eip_ordered.proofs.Lookups.{found}
use Rattle.eip_ordered.proofs.Pairs.{by_first, pairs_tied, pair_found}
use Rattle.eip_aggregator.specs.Tables.{has_due, Times, IsBeyond, IsNext}

-- ---- sets of moments and numbers

-- the table has what the set contains
pub holds : (set : BTreeSet (ℕ × ℕ)) (d n : ℕ) → has_due set.keys d n ≡ contains by_first set (d, n)
holds set d n = pair_found set d n

-- a set that has a moment and a number now, or hasn't
pub times : (old new : BTreeSet (ℕ × ℕ)) (due number : ℕ) (b : Bool) → ((q : ℕ × ℕ) → contains by_first new q ≡ cond (is_eq (by_first (due, number) q)) b (contains by_first old q))
    → Times old.keys new.keys (Some due) number b
times old new due number b h = λ d n.
    holds new d n ∙ h (d, n)
    ∙ ap (λ (t : Bool). cond t b (contains by_first old (d, n))) (pairs_tied (due, number) (d, n))
    ∙ ap (λ (t : Bool). cond ((due == d) && (number == n)) b t) (sym (holds old d n))

pub before_by : (o p : Ordering) (a b c d : ℕ) → MatchOrdering o (a < b) (a ≡ b) (b < a) → MatchOrdering p (c < d) (c ≡ d) (d < c) → is_gt (ordering_then o p) ≡ false → a ≤ b
before_by Less p a b c d m n g = omega arith
before_by Equal p a b c d m n g = omega arith
before_by Greater p a b c d m n g = absurd (true≢false g)

-- the first moment of the set is the least
pub least_moment : (set : BTreeSet (ℕ × ℕ)) (k : ℕ × ℕ) → IsLowerBound by_first set k → (d n : ℕ) → has_due set.keys d n ≡ true → k.0 ≤ d
least_moment set k least d n h =
    before_by (nat_cmp k.0 d) (nat_cmp k.1 n) k.0 d k.1 n (ranked k.0 d (nat_cmp k.0 d) refl) (ranked k.1 n (nat_cmp k.1 n) refl) (least (d, n) (sym (holds set d n) ∙ h))

pub no_keys : {X : Type 0} (keys : List X) → (0 < length keys → ⊥) → keys ≡ []
no_keys [] h = refl
no_keys (k ∷ keys) h = absurd (h (omega arith))

-- ---- the first entry behind a number

less_by : (o : Ordering) (a b : ℕ) → MatchOrdering o (a < b) (a ≡ b) (b < a) → a < b → o ≡ Less
less_by Less a b m h = refl
less_by Equal a b m h = absurd (omega arith)
less_by Greater a b m h = absurd (omega arith)

less : (a b : ℕ) → a < b → nat_cmp a b ≡ Less
less a b h = less_by (nat_cmp a b) a b (ranked a b (nat_cmp a b) refl) h

below_by : (o : Ordering) (a b : ℕ) → MatchOrdering o (a < b) (a ≡ b) (b < a) → o ≡ Less → a < b
below_by Less a b m e = m
below_by Equal a b m e = absurd (cc)
below_by Greater a b m e = absurd (cc)

below : (a b : ℕ) → nat_cmp a b ≡ Less → a < b
below a b e = below_by (nat_cmp a b) a b (ranked a b (nat_cmp a b) refl) e

up_to_by : (o : Ordering) (a b : ℕ) → MatchOrdering o (a < b) (a ≡ b) (b < a) → (a < b → ⊥) → b ≤ a
up_to_by Less a b m h = absurd (h m)
up_to_by Equal a b m h = omega arith
up_to_by Greater a b m h = omega arith

up_to : (a b : ℕ) → (a < b → ⊥) → b ≤ a
up_to a b h = up_to_by (nat_cmp a b) a b (ranked a b (nat_cmp a b) refl) h

pub next_entry : (map : BTreeMap ℕ Group) (number : ℕ) (range after : List (ℕ × Group)) (e : ℕ × Group) → IsRangeOf nat_cmp (Excluded number) Unbounded map range → range ≡ e ∷ after → IsNext map.entries number e
next_entry map number range after e of first =
    let its : IsEntryInRange nat_cmp (Excluded number) Unbounded map e = subst (λ (r : List (ℕ × Group)). IfSome (slice_get r 0) (IsEntryInRange nat_cmp (Excluded number) Unbounded map)) first of.1 in (
      sym (found map e.0) ∙ its.1,
      below number e.0 its.0.0,
      λ n g at behind.
          le_from_not_gt e.0 n
          (subst (λ (r : List (ℕ × Group)). IfSome (slice_get r 0) (λ (x : ℕ × Group). IsLeBy nat_cmp x.0 n)) first (of.2 n (less number n behind, tt) (ap is_some (found map n ∙ at)))),
    )

pub no_entry : (map : BTreeMap ℕ Group) (number : ℕ) (range : List (ℕ × Group)) → IsRangeOf nat_cmp (Excluded number) Unbounded map range → range ≡ [] → IsBeyond map.entries number
no_entry map number range of none = λ n g at. up_to number n (λ behind. none-some g (sym (of.5 none n (less number n behind, tt)) ∙ found map n ∙ at))

pub err_then : {A E : Type 0} (r : Result A E) (P Q : Type 0) → (P → Q) → OnErr r P → OnErr r Q
err_then (Ok a) P Q f p = tt
err_then (Err e) P Q f p = f p

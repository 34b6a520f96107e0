-- Look-ups by number, as the maps of joins make them.
use Rattle.std.proofs.Common.{◌≡◌, ℕ, ◌<◌, ◌≤◌, cond, ◌==◌, ◌&&◌, false, Bool, List, [], ◌∷◌, ◌++◌, Option, Some, None, is_some, Ordering, Less, Equal, Greater, nat_cmp, is_gt, BTreeMap, refl, sym, ap, ◌∙◌, arith, lt-ltb}
use Rattle.std.specs.declared.ops.Bound.TheVariants.{Included, Unbounded}
use Rattle.std.specs.Ordering.{MatchOrdering}
use Rattle.std.specs.BTreeMap.Range.{IsRangeOf}
use Rattle.std.proofs.lemmas.Cmp.{ranked}
use Rattle.std.proofs.lemmas.Map.Keys.{le_from_not_gt, ge_from_not_lt}
use Rattle.eip_ordered.specs.Numbered.{value_at, Puts}
use Rattle.eip_ordered.proofs.Lookups.{found}
use Rattle.eip_join.specs.Parts.{is_beginning, IsLastUpTo}

-- a map that has w at a number now, where there are parts
pub puts_where : {X : Type 0} (old new : List (ℕ × X)) (count k : ℕ) (w : Option X) → 0 < count → Puts old new k w → (x : ℕ) → value_at new x ≡ cond (is_beginning count k x) w (value_at old x)
puts_where old new count k w some puts x = puts x ∙ ap (λ (b : Bool). cond (b && (k == x)) w (value_at old x)) (sym (lt-ltb 0 count some))

not_above_by : (o : Ordering) (a b : ℕ) → MatchOrdering o (a < b) (a ≡ b) (b < a) → a ≤ b → is_gt o ≡ false
not_above_by Less a b m h = refl
not_above_by Equal a b m h = refl
not_above_by Greater a b m h = absurd (omega arith)

pub not_above : (a b : ℕ) → a ≤ b → is_gt (nat_cmp a b) ≡ false
not_above a b h = not_above_by (nat_cmp a b) a b (ranked a b (nat_cmp a b) refl) h

-- the last entry of a range of numbers up to one
pub last_entry : (map : BTreeMap ℕ ℕ) (number : ℕ) (range : List (ℕ × ℕ)) (e : ℕ × ℕ) (front : List (ℕ × ℕ)) → IsRangeOf nat_cmp Unbounded (Included number) map range → range ≡ front ++ e ∷ [] → IsLastUpTo number map.entries (Some e)
last_entry map number range e front of last =
    let its = of.3 e front last in (
      sym (found map e.0) ∙ its.1,
      le_from_not_gt e.0 number its.0.1,
      λ x p at low. ge_from_not_lt e.0 x (of.4 e front last x (tt, not_above x number low) (ap is_some (found map x ∙ at))),
    )

pub no_entry : (map : BTreeMap ℕ ℕ) (number : ℕ) (range : List (ℕ × ℕ)) → IsRangeOf nat_cmp Unbounded (Included number) map range → range ≡ [] → IsLastUpTo number map.entries None
no_entry map number range of none = λ x low. sym (found map x) ∙ of.5 none x (tt, not_above x number low)

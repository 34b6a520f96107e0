-- Sums of whole numbers of 64 bits.
use Rattle.std.proofs.Common.{◌≡◌, ◌^◌, Bool, true, false, cond, ℤ, pos, negsuc, Ok, Err, refl, sym, ap, ◌∙◌}
use Rattle.std.specs.Prelude.{FitsSigned}
use Rattle.std.specs.Int.{w64}
use Rattle.std.proofs.lemmas.Bool.{lt-ltb, ltb-true}
use Rattle.eip_text.specs.Numbers.{is_small}
use Rattle.eip_strategy.specs.declared.fault.StrategyFault.TheVariants.{SumTooLarge}
use Rattle.eip_strategy.specs.Adding.{small_sum}
use Rattle.eip_strategy.specs.Answers.{Answer}

small_true : (z : ℤ) → FitsSigned w64 z → is_small z ≡ true
small_true (pos n) h = lt-ltb n (2 ^ 63) h.sfits
small_true (negsuc n) h = lt-ltb n (2 ^ 63) h.sfits

small_fits : (z : ℤ) → is_small z ≡ true → FitsSigned w64 z
small_fits (pos n) h = record { sfits = ltb-true n (2 ^ 63) h }
small_fits (negsuc n) h = record { sfits = ltb-true n (2 ^ 63) h }

-- a sum that fits
pub fits_sum : (z s : ℤ) → FitsSigned w64 z → s ≡ z → small_sum z ≡ Ok s
fits_sum z s h e = ap (λ (b : Bool). cond {A = Answer ℤ} b (Ok z) (Err SumTooLarge)) (small_true z h) ∙ ap (λ (k : ℤ). Ok k) (sym e)

too_large : (b : Bool) (z : ℤ) → is_small z ≡ b → (FitsSigned w64 z → ⊥) → cond {A = Answer ℤ} b (Ok z) (Err SumTooLarge) ≡ Err SumTooLarge
too_large true z e h = absurd (h (small_fits z e))
too_large false z e h = refl

-- a sum that doesn't
pub never_sum : (z : ℤ) → (FitsSigned w64 z → ⊥) → small_sum z ≡ Err SumTooLarge
never_sum z h = too_large (is_small z) z refl h

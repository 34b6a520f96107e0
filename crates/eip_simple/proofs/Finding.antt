-- What a search says of where a text occurs in another.
use Rattle.std.proofs.Common.{◌≡◌, ◌↔◌, ℕ, List, Option, None, Some, is_some, IsTrue, refl, ap, arith}
use Rattle.memchr.specs.Find.{FindsNeedle, OccursAt}
use Rattle.memchr.proofs.lemmas.ValueLemmas.{FindsNeedle-value}
use Rattle.eip_simple.specs.Operators.{occurs}

pub found_is : (text needle : List ℕ) (r : Option ℕ) → FindsNeedle text needle 0 r → is_some r ≡ occurs text needle
unfolding occurs
found_is text needle r h = ap is_some (FindsNeedle-value text needle r h)

pub found_place : (text needle : List ℕ) (r : Option ℕ) → FindsNeedle text needle 0 r → IsTrue (is_some r) ↔ ((k : ℕ) × OccursAt text needle k)
found_place text needle None h = (λ t. absurd cc, λ o. absurd (h o.0 (omega arith) (omega (arith, o.1.fits)) o.1))
found_place text needle (Some k) h = (λ t. (k, h.1), λ o. refl)

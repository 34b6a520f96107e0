-- What becomes of a group with an arrival.
use Rattle.std.proofs.Common.{◌≡◌, ℕ, Bool, true, false, cond, ◌==◌, List, Option, Some, None, Ok, refl, sym, ap, subst, ◌∙◌, eqb-true}
use Rattle.eip_frames.specs.declared.answer.Completion.{Completion}
use Rattle.eip_aggregator.specs.declared.closed.Arrived.{Arrived}
use Rattle.eip_aggregator.specs.Arrivals.{Group}
use Rattle.eip_ordered.specs.Numbered.{value_at, Puts}
use Rattle.eip_aggregator.specs.Tables.{closed_as, Settles}

pub settles_closed : (old new : List (ℕ × Group)) (n : ℕ) (g : Group) (c : Option Completion) (cause : Completion) (r : Arrived) → Some cause ≡ c → Puts old new n None
    → r ≡ record { group = n; closed = Some (closed_as cause n g) } → Settles old new n g c (Ok r)
settles_closed old new n g c cause r e puts answer = subst (λ (o : Option Completion). Settles old new n g o (Ok r)) e (answer, puts)

pub settles_open : (old new : List (ℕ × Group)) (n : ℕ) (g : Group) (c : Option Completion) (r : Arrived) → None ≡ c → Puts old new n (Some g) → r ≡ record { group = n; closed = None } → Settles old new n g c (Ok r)
settles_open old new n g c r e puts answer = subst (λ (o : Option Completion). Settles old new n g o (Ok r)) e (answer, puts)

none_there : (t : Bool) (o : Option Group) → (t ≡ true → o ≡ None) → o ≡ cond t None o
none_there true o h = h refl
none_there false o h = refl

-- what isn't there is taken out
pub puts_none : (groups : List (ℕ × Group)) (n : ℕ) → value_at groups n ≡ None → Puts groups groups n None
puts_none groups n e x = none_there (n == x) (value_at groups x) (λ t. ap (value_at groups) (sym (eqb-true n x t)) ∙ e)

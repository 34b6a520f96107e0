-- Keys that are empty, and those that aren't.
use Rattle.std.proofs.Common.{◌≡◌, ℕ, true, false, List, [], ◌∷◌, length, ◌==◌, refl, sym, ◌∙◌, arith}
use Rattle.std.proofs.lemmas.Bool.{ne_eqb, false≢true}
use Rattle.eip_exchange.specs.declared.message.Message.{Message}
use Rattle.eip_exchange.specs.declared.end.Fault.{Fault}
use Rattle.eip_progress.specs.declared.tried.Tried.{Tried}
use Rattle.eip_progress.specs.FirstTry.{faults, not_empty}

pub empty_key : (f : Fault) (key : List ℕ) (m : Message) (k : List ℕ → Tried) → (length key == 0) ≡ true → not_empty f key m k ≡ faults f m
empty_key f [] m k h = refl
empty_key f (b ∷ bs) m k h = absurd (false≢true (sym (ne_eqb (length (b ∷ bs)) 0 (λ e. omega arith)) ∙ h))

pub filled_key : (f : Fault) (key : List ℕ) (m : Message) (k : List ℕ → Tried) → (length key == 0) ≡ false → not_empty f key m k ≡ k key
filled_key f [] m k h = cc
filled_key f (b ∷ bs) m k h = refl

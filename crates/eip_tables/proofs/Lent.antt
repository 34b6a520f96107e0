-- What is lent where there is something.
use Rattle.std.proofs.Common.{◌≡◌, Option, Some, None, MatchOption, refl}

-- it can't be that nothing is lent where there is something
pub not-lent : {A : Type 0} (o : Option A) (N : Type 0) (P : A → Type 0) → MatchOption o N P → (N → ⊥) → ((x : A) → o ≡ Some x → ⊥) → ⊥
not-lent None N P h there none = there h
not-lent (Some x) N P h there none = none x refl

-- Where nothing is found in the parts, nothing is found in the whole.
use Rattle.std.proofs.Common.{ℕ, List, ◌++◌, Option, Some, None, ◌≡◌, refl, ap, ◌∙◌}
use Rattle.eip_route.proofs.Firsts.{first_some_append}
use Rattle.eip_route.specs.Faults.{or_else, first_some}

pub none_parts : {A : Type 0} (o p : Option A) → or_else o p ≡ None → (o ≡ None) × (p ≡ None)
none_parts None p h = (refl, h)
none_parts (Some a) p h = absurd (cc)

pub none_from : {A : Type 0} (o p : Option A) → o ≡ None → p ≡ None → or_else o p ≡ None
none_from o p e f = ap (λ x. or_else x p) e ∙ f

pub none_behind : (f : ℕ → Option ℕ) (ms ns : List ℕ) → first_some f ms ≡ None → first_some f ns ≡ None → first_some f (ms ++ ns) ≡ None
none_behind f ms ns h t = first_some_append f ms ns ∙ none_from (first_some f ms) (first_some f ns) h t

-- What the program hands in of its own, and what it reads of it behind the run.
use Rattle.std.specs.Prelude.{ℕ, ℤ, pos, List, [], ◌∷◌, codes}
use Rattle.eip_endpoint.specs.declared.lanes.Lane.{Lane}
use Rattle.eip_samples.specs.declared.sample.Sample.TheVariants as sample
use Rattle.eip_embedding.specs.declared.kinds.OwnLane.{OwnLane}
use Rattle.eip_embedding.specs.declared.kinds.OwnLane.TheVariants as lane
use Rattle.eip_embedding.specs.declared.kinds.OwnProcessor.{OwnProcessor}
use Rattle.eip_embedding.specs.declared.kinds.OwnProcessor.TheVariants as processor

-- the processors by their names
abbrev pub processors : ℕ → List (List ℕ × OwnProcessor)
processors rounds = (codes "field", processor.Sample sample.Field) ∷ (codes "refuse", processor.Sample sample.Refuse) ∷ (codes "seal", processor.Seal rounds) ∷ []

-- the sum of a lane that is a till, or else this one
abbrev pub sum_or : {F : Type 0} → ℤ → OwnLane F → ℤ
sum_or otherwise (lane.Files l) = otherwise
sum_or otherwise (lane.Till t) = t.sum

-- the sum of the first till
abbrev pub sum_in : {F : Type 0} → List (Lane (OwnLane F)) → ℤ
sum_in [] = pos 0
sum_in (l ∷ ls) = sum_or (sum_in ls) l.object

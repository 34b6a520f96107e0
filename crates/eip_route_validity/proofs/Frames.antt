-- What the steps that fit say of the numbers of their blocks.
use Rattle.std.proofs.Common.{◌≡◌, ℕ, length, sym, subst}
use Rattle.eip_route.proofs.Filled.{fill_numbers, many_numbers}
use Rattle.eip_route.specs.Nest.{Frame, NestedGroups, HasGroups, fill, step_numbers, flat_groups}
use Rattle.eip_route.specs.declared.route.Names.{Names}
use Rattle.eip_route_validity.specs.Fit.{FrameHolds}
use Rattle.eip_route_validity.proofs.GoodSteps.{frame_named}

pub numbers_fit : (n : Names) (k : ℕ) (f : Frame) (gs : NestedGroups) → FrameHolds n f gs → HasGroups f (length (flat_groups k gs).numbers)
numbers_fit n k f gs h = subst (HasGroups f) (sym (many_numbers k gs)) h.number

pub frame_numbers : (n : Names) (k : ℕ) (f : Frame) (gs : NestedGroups) → FrameHolds n f gs → step_numbers (fill f (flat_groups k gs).numbers) ≡ (flat_groups k gs).numbers
frame_numbers n k f gs h = fill_numbers f (flat_groups k gs).numbers (numbers_fit n k f gs h) (frame_named n f h.setting)

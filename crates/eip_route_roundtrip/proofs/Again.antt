-- Steps that are printed are read again.
use Rattle.std.proofs.Common.{◌≡◌, ℕ, ◌+◌, Bool, true, false, refl}
use Rattle.eip_text.specs.Json.{items_of}
use Rattle.eip_route.specs.Nest.{Frame, NestedStep, NestedSteps, NestedGroups, leaf, holds, none, more, no_group, group}
use Rattle.eip_route.specs.declared.route.Names.{Names}
use Rattle.eip_route_validity.specs.Fit.{FrameHolds, StepsFit, StepFits, GroupsFit, is_parts, gathers, AreBatched, IsBatched, GroupsBatched}
use Rattle.eip_route_values.specs.Nesting.{nest_steps, nest_step}
use Rattle.eip_route_canonical.specs.Canonical.{frame_json, steps_json, step_json, groups_json}
use Rattle.eip_route_roundtrip.proofs.Frames.{batch_again}
use Rattle.eip_route_roundtrip.proofs.FramesAgain.{GroupsAgain, frame_again}
use Rattle.eip_route_roundtrip.proofs.Leaves.{leaf_again}

same_more : (s t : NestedStep) (ss ts : NestedSteps) → s ≡ t → ss ≡ ts → more s ss ≡ more t ts
same_more s t ss ts p q = cc

mutual
  pub steps_again : (n : Names) (d : ℕ) (ss : NestedSteps) → StepsFit n d ss → AreBatched ss → nest_steps (items_of (steps_json ss)) ≡ ss
  steps_again n d none f b = refl
  steps_again n d (more s ss) f b = same_more (nest_step (step_json s)) s (nest_steps (items_of (steps_json ss))) ss (step_again n d s f.0 b.0) (steps_again n d ss f.1 b.1)

  step_again : (n : Names) (d : ℕ) (s : NestedStep) → StepFits n d s → IsBatched s → nest_step (step_json s) ≡ s
  step_again n d (leaf s) f b = leaf_again n s f
  step_again n d (holds f gs) h b = held_again n d f (gathers f) gs refl h.0 h.1 b.0 b.1

  -- by whether the frame gathers a batch
  held_again : (n : Names) (d : ℕ) (f : Frame) (b : Bool) (gs : NestedGroups) → gathers f ≡ b → FrameHolds n f gs → GroupsFit n d gs → is_parts f ≡ false → GroupsBatched b gs → nest_step (frame_json f (groups_json gs)) ≡ holds f gs
  held_again n d f false no_group e h i p b = frame_again n f no_group h p e tt
  held_again n d f false (group ss gs) e h i p b = frame_again n f (group ss gs) h p e (steps_again n (d + 1) ss i.0.1 b.0, groups_again n d gs i.1 b.1)
  held_again n d f true (group (more (holds q (group ss no_group)) none) no_group) e h i p b =
      batch_again n f q ss h.setting i.0.1.0.0.setting e b.0 (steps_again n (d + 1 + 1) ss i.0.1.0.1.0.1 b.1)
  held_again n d f true _ e h i p b = absurd b

  groups_again : (n : Names) (d : ℕ) (gs : NestedGroups) → GroupsFit n d gs → GroupsBatched false gs → GroupsAgain gs
  groups_again n d no_group f b = tt
  groups_again n d (group ss gs) f b = (steps_again n (d + 1) ss f.0.1 b.0, groups_again n d gs f.1 b.1)

-- Steps that are printed have no fault.
use Rattle.std.proofs.Common.{◌≡◌, ℕ, ◌+◌, ◌<◌, Bool, true, false, [], refl, subst, arith}
use Rattle.eip_text.specs.Json.{items_of}
use Rattle.eip_route.specs.Nest.{Frame, NestedStep, NestedSteps, NestedGroups, NestedLast, leaf, holds, none, more, no_group, group, no_last, last}
use Rattle.eip_route.specs.declared.route.Names.{Names}
use Rattle.eip_route_validity.specs.Fit.{FrameHolds, StepsFit, StepFits, GroupsFit, LastFits, is_parts, gathers, AreBatched, IsBatched, GroupsBatched, LastBatched}
use Rattle.eip_route_canonical.specs.Canonical.{frame_json, steps_json, step_json, groups_json, last_json}
use Rattle.eip_route_roundtrip.proofs.Fine.{Fine, MayBeFine, ItemsFine}
use Rattle.eip_route_roundtrip.proofs.Leaves.{leaf_fine}
use Rattle.eip_route_roundtrip.proofs.Frames.{StepsFine, AllFine, items_fine, block_fine, frame_fine, batch_step_fine, room}
use Rattle.eip_route_grammar.specs.declared.table.Kind.TheVariants as kind

mutual
  all_steps_fine : (n : Names) (d : ℕ) (ss : NestedSteps) → StepsFit n d ss → AreBatched ss → StepsFine n d (steps_json ss)
  all_steps_fine n d none f b = tt
  all_steps_fine n d (more s ss) f b = (step_fine n d s f.0 b.0, all_steps_fine n d ss f.1 b.1)

  step_fine : (n : Names) (d : ℕ) (s : NestedStep) → StepFits n d s → IsBatched s → Fine n d [] kind.Step (step_json s)
  step_fine n d (leaf s) f b = leaf_fine n d s f
  step_fine n d (holds f gs) h b = held_fine n d f (gathers f) gs refl h.0 h.1 b.0 b.1

  -- by whether the frame gathers a batch
  held_fine : (n : Names) (d : ℕ) (f : Frame) (b : Bool) (gs : NestedGroups) → gathers f ≡ b → FrameHolds n f gs → GroupsFit n d gs → is_parts f ≡ false → GroupsBatched b gs → Fine n d [] kind.Step (frame_json f (groups_json gs))
  held_fine n d f false no_group e h i p b = frame_fine n d f no_group h p e (room n d f no_group h i) tt
  held_fine n d f false (group ss gs) e h i p b = frame_fine n d f (group ss gs) h p e (room n d f (group ss gs) h i) (all_steps_fine n (d + 1) ss i.0.1 b.0, groups_fine n d gs i.1 b.1)
  held_fine n d f true (group (more (holds q (group ss no_group)) none) no_group) e h i p b =
      let deep : d + 1 + 1 ≡ d + 2 = omega arith in
      let inner = items_fine n (d + 1 + 1) (steps_json ss) (all_steps_fine n (d + 1 + 1) ss i.0.1.0.1.0.1 b.1) in
      batch_step_fine n d f q (steps_json ss) h.setting i.0.1.0.0.setting e b.0 (omega (arith, i.0.1.0.1.0.0)) (subst (λ (x : ℕ). ItemsFine n x kind.Step (items_of (steps_json ss))) deep inner)
  held_fine n d f true _ e h i p b = absurd b

  groups_fine : (n : Names) (d : ℕ) (gs : NestedGroups) → GroupsFit n d gs → GroupsBatched false gs → AllFine n (d + 1) (groups_json gs)
  groups_fine n d no_group f b = tt
  groups_fine n d (group ss gs) f b = (all_steps_fine n (d + 1) ss f.0.1 b.0, groups_fine n d gs f.1 b.1)

pub steps_fine : (n : Names) (d : ℕ) (ss : NestedSteps) → StepsFit n d ss → AreBatched ss → ItemsFine n d kind.Step (items_of (steps_json ss))
steps_fine n d ss f b = items_fine n d (steps_json ss) (all_steps_fine n d ss f b)

pub last_fine : (n : Names) (d : ℕ) (l : NestedLast) → LastFits n d l → LastBatched l → MayBeFine n d [] kind.Steps (last_json l)
last_fine n d no_last f b = tt
last_fine n d (last ss) f b = block_fine n d [] (items_of (steps_json ss)) f.0 (steps_fine n (d + 1) ss f.1 b)

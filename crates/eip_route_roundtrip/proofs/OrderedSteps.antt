-- Steps that fit are printed with the keys of each object in order, and nest no deeper than blocks may.
use Rattle.std.proofs.Common.{◌≡◌, Bool, true, false, [], refl, ℕ, suc, ◌+◌, ◌-◌, ◌*◌, ◌<◌, ◌≤◌, arith}
use Rattle.eip_route.specs.Nest.{Frame, NestedStep, NestedSteps, NestedGroups, NestedLast, leaf, holds, none, more, no_group, group, no_last, last}
use Rattle.eip_route.specs.declared.route.Names.{Names}
use Rattle.eip_route_validity.specs.Fit.{Inside, FrameHolds, StepsFit, StepFits, GroupsFit, LastFits, is_parts, gathers, AreBatched, IsBatched, GroupsBatched, LastBatched}
use Rattle.eip_route_canonical.specs.Canonical.{list_of, frame_json, steps_json, step_json, groups_json, last_json}
use Rattle.eip_route_roundtrip.proofs.Ordered.{Good, deeper, AllGood, no_good, more_good, list_good}
use Rattle.eip_route_roundtrip.proofs.OrderedParts.{MayBeGood}
use Rattle.eip_route_roundtrip.proofs.Leaves.{leaf_good}
use Rattle.eip_route_roundtrip.proofs.Frames.{EachGood, frame_good, batch_good, room}

-- levels that are enough for steps inside d blocks
pub record Levels (d l : ℕ) : Type 0 where
  pub inside : d ≤ 16
  pub enough : 83 ≤ l + 5 * d

next : {d l : ℕ} → Levels d l → d < 16 → Levels (d + 1) (l - 5)
next r h = record { inside = omega arith; enough = omega arith }

mutual
  pub steps_good : (n : Names) (d l : ℕ) (ss : NestedSteps) → Levels d l → StepsFit n d ss → AreBatched ss → AllGood l (steps_json ss)
  steps_good n d l none r h b = no_good
  steps_good n d l (more s ss) r h b = more_good (step_good n d l s r h.0 b.0) (steps_good n d l ss r h.1 b.1)

  step_good : (n : Names) (d l : ℕ) (s : NestedStep) → Levels d l → StepFits n d s → IsBatched s → Good l (step_json s)
  step_good n d l (leaf s) r h b = deeper (leaf_good n s h) (omega arith)
  step_good n d l (holds f gs) r h b = held_good n d l f (gathers f) gs refl r h.0 h.1 b.0 b.1

  -- by whether the frame gathers a batch
  held_good : (n : Names) (d l : ℕ) (f : Frame) (b : Bool) (gs : NestedGroups) → gathers f ≡ b → Levels d l → FrameHolds n f gs → GroupsFit n d gs → is_parts f ≡ false → GroupsBatched b gs → Good l (frame_json f (groups_json gs))
  held_good n d l f false no_group e r h i p b = frame_good n l f [] h.setting p e (omega (arith, room n d f no_group h i)) tt
  held_good n d l f false (group ss gs) e r h i p b =
      frame_good n l f (groups_json (group ss gs)) h.setting p e (omega (arith, room n d f (group ss gs) h i)) (steps_good n (d + 1) (l - 5) ss (next r i.0.0) i.0.1 b.0, groups_good n d l gs r i.1 b.1)
  held_good n d l f true (group (more (holds q (group ss no_group)) none) no_group) e r h i p b =
      let inner = next (next r i.0.0) i.0.1.0.1.0.0 in
      deeper (batch_good n (l - 5 - 5) f q (steps_json ss) h.setting i.0.1.0.0.setting e b.0 (steps_good n (d + 1 + 1) (l - 5 - 5) ss inner i.0.1.0.1.0.1 b.1)) (omega (arith, i.0.1.0.1.0.0))
  held_good n d l f true _ e r h i p b = absurd b

  groups_good : (n : Names) (d l : ℕ) (gs : NestedGroups) → Levels d l → GroupsFit n d gs → GroupsBatched false gs → EachGood (l - 5) (groups_json gs)
  groups_good n d l no_group r h b = tt
  groups_good n d l (group ss gs) r h b = (steps_good n (d + 1) (l - 5) ss (next r h.0.0) h.0.1 b.0, groups_good n d l gs r h.1 b.1)

pub last_good : (n : Names) (d l : ℕ) (o : NestedLast) → Levels d l → LastFits n d o → LastBatched o → MayBeGood (suc (l - 5)) (last_json o)
last_good n d l no_last r h b = tt
last_good n d l (last ss) r h b = list_good (steps_good n (d + 1) (l - 5) ss (next r h.0) h.1 b)

pub block_good : (n : Names) (d l : ℕ) (ss : NestedSteps) → Levels d l → Inside d (StepsFit n (d + 1) ss) → AreBatched ss → Good (suc (l - 5)) (list_of (steps_json ss))
block_good n d l ss r h b = list_good (steps_good n (d + 1) (l - 5) ss (next r h.0) h.1 b)

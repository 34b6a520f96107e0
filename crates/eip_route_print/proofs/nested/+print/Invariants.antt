use Rattle.std.proofs.Common.{◌≡◌, ◌++◌, length, ◌+◌, ◌-◌, ◌*◌, drop}
use Rattle.eip_route_print.specs.Seen.{steps_in, groups_in}
use Rattle.eip_route_canonical.specs.Trees.{left, values_of}
use Rattle.eip_route_print.proofs.nested.+print.Given as goal

-- the blocks from this one on, and how far inside it a function stands

abbrev pub decreases-push_block : goal.decreases-push_block
decreases-push_block l = (length l.blocks.now - l.block) * 8 + 7

abbrev pub decreases-push_steps : goal.decreases-push_steps
decreases-push_steps l = (length l.blocks.now - l.block) * 8 + 6

abbrev pub decreases-print_step : goal.decreases-print_step
decreases-print_step l = (length l.blocks.now - l.block) * 8 + 5

abbrev pub decreases-print_groups : goal.decreases-print_groups
decreases-print_groups l = (length l.blocks.now - l.block) * 8 + 4

abbrev pub decreases-print_nested : goal.decreases-print_nested
decreases-print_nested l = (length l.blocks.now - l.block) * 8 + 3

abbrev pub invariant-push_steps-loop-step : goal.invariant-push_steps-loop-step
invariant-push_steps-loop-step l = values_of l.items.items ++ steps_in l.blocks l.block (drop l.step-index l.steps) ≡ values_of l.fn.items.items ++ steps_in l.blocks l.block l.steps

abbrev pub invariant-print_groups-loop-inner : goal.invariant-print_groups-loop-inner
invariant-print_groups-loop-inner l = left l.groups ++ groups_in l.blocks l.block (drop l.inner-index l.numbers) ≡ groups_in l.blocks l.block l.numbers

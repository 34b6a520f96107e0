use Rattle.std.proofs.Common.{◌≡◌, ◌++◌, ◌-◌, length, string_bytes}
use Rattle.eip_history.specs.BookText.{groups_text}
use Rattle.eip_history.specs.Stop.{open_groups}
use Rattle.eip_hub.specs.View.{plan}
use Rattle.eip_endbook.proofs.book.push_groups.Given as goal

abbrev pub invariant-loop-group : goal.invariant-loop-group
invariant-loop-group l = string_bytes l.out ≡ string_bytes l.initial.out ++ groups_text (plan l.hub) l.hub.journal.past l.k

abbrev pub decreases-loop-group : goal.decreases-loop-group
decreases-loop-group l = length (open_groups (plan l.hub) l.hub.journal.past) - l.k

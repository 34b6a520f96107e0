use Rattle.std.proofs.Common.{◌≡◌, ◌++◌, string_bytes}
use Rattle.eip_history.specs.BookText.{refusals_text}
use Rattle.eip_history.specs.Walk.{past_at}
use Rattle.eip_endbook.specs.Names.{route_names}
use Rattle.eip_endbook.proofs.book.push_refusals.Given as goal

abbrev pub invariant-loop-entry : goal.invariant-loop-entry
invariant-loop-entry l = string_bytes l.out ≡ string_bytes l.initial.out ++ refusals_text (route_names l.set) (past_at l.entries l.entry-index)

use Rattle.eip_hub.specs.View.{plan}
use Rattle.eip_endbook.specs.Totals.{CountsFirst}
use Rattle.eip_endbook.proofs.counts.count_ends.Given as goal

abbrev pub invariant-loop-before : goal.invariant-loop-before
invariant-loop-before l = CountsFirst (plan l.hub) l.hub.journal.past l.before l.ends

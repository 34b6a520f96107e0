use Rattle.std.proofs.Common.{◌≡◌}
use Rattle.eip_tables.specs.Parts.{starving_faults}
use Rattle.eip_tables.proofs.parts.starving_faults.Given as goal

abbrev pub invariant-loop-index : goal.invariant-loop-index
invariant-loop-index l = l.faults.items ≡ starving_faults l._index

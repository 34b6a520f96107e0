use Rattle.std.proofs.Common.{◌≡◌}
use Rattle.eip_join.specs.Parts.{no_ends}
use Rattle.eip_join.proofs.open_join.none_ended.Given as goal

abbrev pub invariant-loop-index : goal.invariant-loop-index
invariant-loop-index l = l.ends.items ≡ no_ends l._index

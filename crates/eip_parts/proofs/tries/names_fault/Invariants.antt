use Rattle.std.proofs.Common.{◌≡◌, drop}
use Rattle.std.specs.List.{list_any}
use Rattle.eip_meaning.specs.Tries.{names_kind}
use Rattle.eip_parts.proofs.tries.names_fault.Given as goal

abbrev pub invariant-loop-name : goal.invariant-loop-name
invariant-loop-name l = list_any (names_kind l.kind) (drop l.name-index l.names) ≡ list_any (names_kind l.kind) l.names

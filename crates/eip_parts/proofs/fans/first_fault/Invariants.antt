use Rattle.std.proofs.Common.{◌≡◌, drop}
use Rattle.eip_meaning.specs.Parts.{first_fault}
use Rattle.eip_parts.proofs.fans.first_fault.Given as goal

abbrev pub invariant-loop-part : goal.invariant-loop-part
invariant-loop-part l = first_fault (drop l.part-index l.parts) ≡ first_fault l.parts

use Rattle.std.proofs.Common.{◌≡◌, ◌++◌, drop}
use Rattle.std.specs.Prelude.{string_bytes}
use Rattle.eip_simple_read.proofs.Spelled.{more_any}
use Rattle.eip_simple_read.proofs.printing.push_any.Given as goal

abbrev pub invariant-loop-all : goal.invariant-loop-all
invariant-loop-all l = string_bytes l.out ++ more_any (drop l.all-index l.others) ≡ string_bytes l.initial.out ++ more_any l.others

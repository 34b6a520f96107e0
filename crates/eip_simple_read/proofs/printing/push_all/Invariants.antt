use Rattle.std.proofs.Common.{◌≡◌, ◌++◌, drop}
use Rattle.std.specs.Prelude.{string_bytes}
use Rattle.eip_simple_read.proofs.Spelled.{more_all}
use Rattle.eip_simple_read.proofs.printing.push_all.Given as goal

abbrev pub invariant-loop-test : goal.invariant-loop-test
invariant-loop-test l = string_bytes l.out ++ more_all (drop l.test-index l.others) ≡ string_bytes l.initial.out ++ more_all l.others

use Rattle.std.proofs.Common.{◌≡◌, drop}
use Rattle.std.specs.List.{list_any, list_all}
use Rattle.eip_simple.specs.Views.{seen}
use Rattle.eip_simple.specs.Holding.{test_holds}
use Rattle.eip_simple.proofs.predicates.holds.Given as goal

abbrev pub invariant-loop-all : goal.invariant-loop-all
invariant-loop-all l = list_any (list_all (test_holds (seen l.view))) (drop l.all-index l.all-items) ≡ list_any (list_all (test_holds (seen l.view))) l.all-items

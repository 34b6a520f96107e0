use Rattle.std.proofs.Common.{◌≡◌, drop}
use Rattle.std.specs.List.{list_all}
use Rattle.eip_simple.specs.Views.{seen}
use Rattle.eip_simple.specs.Holding.{test_holds}
use Rattle.eip_simple.proofs.predicates.all_hold.Given as goal

abbrev pub invariant-loop-test : goal.invariant-loop-test
invariant-loop-test l = list_all (test_holds (seen l.view)) (drop l.test-index l.tests) ≡ list_all (test_holds (seen l.view)) l.tests

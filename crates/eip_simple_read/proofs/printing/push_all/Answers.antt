use Rattle.std.specs.Prelude.{string_bytes}
use Rattle.eip_simple_read.proofs.Spelled.{wrote_all}
use Rattle.eip_simple_read.proofs.printing.push_all.Goals as goal

pub returns : goal.returns
returns c = wrote_all c.args.tests.now c.in-Some.others.now c.in-Some.first.now c.loop-test.test-index (string_bytes c.loop-test.out) (string_bytes c.push_test.new.out) (string_bytes c.args.out.now)
    c.in-Some.ensures.cases.0 c.loop-test-test.false c.in_ok-push_test.ensures c.loop-test.invariant

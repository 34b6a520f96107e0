use Rattle.std.proofs.Common.{◌<◌, sym, arith}
use Rattle.eip_history.specs.Texts.{is_completed, is_handled}
use Rattle.eip_history.specs.Counts.{is_failed, is_waiting, total_count}
use Rattle.eip_history.proofs.Totals.{count-first-none}
use Rattle.eip_hub.specs.View.{plan}
use Rattle.eip_endbook.proofs.Exchanges.{count-within, counts-next}
use Rattle.eip_endbook.proofs.counts.count_ends.Goals as goal

pub loop-before-init : goal.loop-before-init
loop-before-init c =
    let s = plan c.args.hub.now in
    let past = c.args.hub.now.journal.past in
    record {
      completed = sym (count-first-none s past is_completed);
      handled = sym (count-first-none s past is_handled);
      failed = sym (count-first-none s past is_failed);
      waiting = sym (count-first-none s past is_waiting);
    }

pub count-requires-clause-completed : goal.count-requires-clause-completed
count-requires-clause-completed c = omega (arith, count-within (plan c.args.hub.now) c.args.hub.now.journal.past is_completed c.loop-before.before, c.loop-before.invariant.completed, c.total-before-end.type_inv)

pub count-requires-clause-handled : goal.count-requires-clause-handled
count-requires-clause-handled c = omega (arith, count-within (plan c.args.hub.now) c.args.hub.now.journal.past is_handled c.loop-before.before, c.loop-before.invariant.handled, c.total-before-end.type_inv)

pub count-requires-clause-failed : goal.count-requires-clause-failed
count-requires-clause-failed c = omega (arith, count-within (plan c.args.hub.now) c.args.hub.now.journal.past is_failed c.loop-before.before, c.loop-before.invariant.failed, c.total-before-end.type_inv)

pub count-requires-clause-waiting : goal.count-requires-clause-waiting
count-requires-clause-waiting c = omega (arith, count-within (plan c.args.hub.now) c.args.hub.now.journal.past is_waiting c.loop-before.before, c.loop-before.invariant.waiting, c.total-before-end.type_inv)

pub loop-before-preserved : goal.loop-before-preserved
loop-before-preserved c =
    let within : c.loop-before.before < total_count (plan c.args.hub.now) c.args.hub.now.journal.past = omega (arith, c.loop-before-test.true, c.total-before-end.ensures) in
    rw c.count.ensures (counts-next (plan c.args.hub.now) c.args.hub.now.journal.past c.loop-before.before c.loop-before.ends c.ended.result within c.ended.ensures c.loop-before.invariant)

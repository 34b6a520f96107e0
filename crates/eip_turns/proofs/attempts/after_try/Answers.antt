use Rattle.std.proofs.Common.{◌∙◌}
use Rattle.eip_turns.proofs.Trying.{guarded_nested, guarded_call, asks_kept}
use Rattle.eip_turns.proofs.attempts.after_try.Goals as goal

pub returns-in_ok-course-in-Faults-clause-means : goal.returns-in_ok-course-in-Faults-clause-means
returns-in_ok-course-in-Faults-clause-means c = λ whole m A h.
    let k = rw c.in-Faults.is at h in
    rw c.in-Faults.is (c.in_ok-course-in-Faults.ensures.means whole m A k.0 k.1)

pub returns-in-Asks-clause-means : goal.returns-in-Asks-clause-means
returns-in-Asks-clause-means c = λ whole m A h.
    let k = rw c.in-Asks.is at h in
    rw (c.in-Asks.is, c.put_back.ensures)
    (asks_kept c.args.set.now whole c.args.context c.args.task c.args.left c.args.kept c.in-Asks.asking c.args.message.now m A k.0 k.1)

pub returns-in-Enters-clause-means : goal.returns-in-Enters-clause-means
returns-in-Enters-clause-means c = λ whole m A h.
    rw c.in-Enters.is (c.enter.ensures.means c.args.set.now whole c.args.message.now A
    ∙ rw c.block_of.ensures (guarded_nested c.args.set.now whole c.args.context c.args.task c.args.left m _ c.in-Enters.block c.args.message.now A))

pub returns-in-Calls-clause-means : goal.returns-in-Calls-clause-means
returns-in-Calls-clause-means c = λ whole m A h.
    rw c.in-Calls.is (c.call.ensures.means whole c.args.message.now A ∙ guarded_call c.args.set.now whole c.args.context c.args.task c.args.left m c.in-Calls.route c.args.message.now A)

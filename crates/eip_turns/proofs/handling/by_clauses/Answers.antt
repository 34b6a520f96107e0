use Rattle.eip_meaning.specs.Attempts.{clause_for}
use Rattle.eip_turns.proofs.Faulting.{by_decider}
use Rattle.eip_turns.proofs.Falling.{handles_fall}
use Rattle.eip_turns.proofs.handling.by_clauses.Goals as goal

pub returns-in-Some-clause-means : goal.returns-in-Some-clause-means
returns-in-Some-clause-means c = λ whole m A.
    let e = rw c.get.ensures at c.in-Some.ensures in
    rw c.in_handler.ensures (by_decider c.args.set.now whole c.args.context c.args.fault (clause_for c.args.set.now c.args.fault) c.in-Some.clause.now m A e)

pub returns-in-Some-clause-falls : goal.returns-in-Some-clause-falls
returns-in-Some-clause-falls c = λ m.
    let e = rw c.get.ensures at c.in-Some.ensures in
    rw c.in_handler.ensures (handles_fall c.args.set.now c.args.context c.args.fault c.in-Some.clause.now m e)

use Rattle.eip_shared.specs.declared.outcome.Outcome.TheVariants.{Settled, GivenUp, Accepted, Refused, Ended, Faulted}
use Rattle.eip_shared.proofs.Entering.{entered}
use Rattle.eip_shared.proofs.shared.SharedRun.enter.Goals as goal

pub invariant_of-self : goal.invariant_of-self
invariant_of-self c =
    (entered (record { hub = c.self.inside.hub; began = c.self.inside.began }) c.args.self.now c.settle.new.self c.args.worker c.requires.may.0 c.args.outcome
    (Settled c.in-Settled.ticket c.in-Settled.answer) c.self.view_is c.in-Settled.is c.self.invariant c.requires.may.1 c.settle.ensures.adds).0

pub returns-in-Settled-clause-makes : goal.returns-in-Settled-clause-makes
returns-in-Settled-clause-makes c =
    (entered (record { hub = c.self.inside.hub; began = c.self.inside.began }) c.args.self.now c.settle.new.self c.args.worker c.requires.may.0 c.args.outcome
    (Settled c.in-Settled.ticket c.in-Settled.answer) c.self.view_is c.in-Settled.is c.self.invariant c.requires.may.1 c.settle.ensures.adds).1

pub invariant_of-self-in-GivenUp : goal.invariant_of-self-in-GivenUp
invariant_of-self-in-GivenUp c =
    (entered (record { hub = c.self.inside.hub; began = c.self.inside.began }) c.args.self.now c.give_up.new.self c.args.worker c.requires.may.0 c.args.outcome
    (GivenUp c.in-GivenUp.ticket) c.self.view_is c.in-GivenUp.is c.self.invariant c.requires.may.1 c.give_up.ensures.adds).0

pub returns-in-GivenUp-clause-makes : goal.returns-in-GivenUp-clause-makes
returns-in-GivenUp-clause-makes c =
    (entered (record { hub = c.self.inside.hub; began = c.self.inside.began }) c.args.self.now c.give_up.new.self c.args.worker c.requires.may.0 c.args.outcome
    (GivenUp c.in-GivenUp.ticket) c.self.view_is c.in-GivenUp.is c.self.invariant c.requires.may.1 c.give_up.ensures.adds).1

pub invariant_of-self-in-Accepted : goal.invariant_of-self-in-Accepted
invariant_of-self-in-Accepted c =
    (entered (record { hub = c.self.inside.hub; began = c.self.inside.began }) c.args.self.now c.accept.new.self c.args.worker c.requires.may.0 c.args.outcome
    (Accepted c.in-Accepted.source c.in-Accepted.item c.in-Accepted.message) c.self.view_is c.in-Accepted.is c.self.invariant c.requires.may.1 c.accept.ensures.adds).0

pub returns-in-Accepted-clause-makes : goal.returns-in-Accepted-clause-makes
returns-in-Accepted-clause-makes c =
    (entered (record { hub = c.self.inside.hub; began = c.self.inside.began }) c.args.self.now c.accept.new.self c.args.worker c.requires.may.0 c.args.outcome
    (Accepted c.in-Accepted.source c.in-Accepted.item c.in-Accepted.message) c.self.view_is c.in-Accepted.is c.self.invariant c.requires.may.1 c.accept.ensures.adds).1

pub invariant_of-self-in-Refused : goal.invariant_of-self-in-Refused
invariant_of-self-in-Refused c =
    (entered (record { hub = c.self.inside.hub; began = c.self.inside.began }) c.args.self.now c.refuse.new.self c.args.worker c.requires.may.0 c.args.outcome
    (Refused c.in-Refused.source c.in-Refused.item c.in-Refused.cause) c.self.view_is c.in-Refused.is c.self.invariant c.requires.may.1 c.refuse.ensures.adds).0

pub returns-in-Refused-clause-makes : goal.returns-in-Refused-clause-makes
returns-in-Refused-clause-makes c =
    (entered (record { hub = c.self.inside.hub; began = c.self.inside.began }) c.args.self.now c.refuse.new.self c.args.worker c.requires.may.0 c.args.outcome
    (Refused c.in-Refused.source c.in-Refused.item c.in-Refused.cause) c.self.view_is c.in-Refused.is c.self.invariant c.requires.may.1 c.refuse.ensures.adds).1

pub invariant_of-self-in-Ended : goal.invariant_of-self-in-Ended
invariant_of-self-in-Ended c =
    (entered (record { hub = c.self.inside.hub; began = c.self.inside.began }) c.args.self.now c.source_end.new.self c.args.worker c.requires.may.0 c.args.outcome
    (Ended c.in-Ended.source) c.self.view_is c.in-Ended.is c.self.invariant c.requires.may.1 c.source_end.ensures.adds).0

pub returns-in-Ended-clause-makes : goal.returns-in-Ended-clause-makes
returns-in-Ended-clause-makes c =
    (entered (record { hub = c.self.inside.hub; began = c.self.inside.began }) c.args.self.now c.source_end.new.self c.args.worker c.requires.may.0 c.args.outcome
    (Ended c.in-Ended.source) c.self.view_is c.in-Ended.is c.self.invariant c.requires.may.1 c.source_end.ensures.adds).1

pub invariant_of-self-in-Faulted : goal.invariant_of-self-in-Faulted
invariant_of-self-in-Faulted c =
    (entered (record { hub = c.self.inside.hub; began = c.self.inside.began }) c.args.self.now c.source_fault.new.self c.args.worker c.requires.may.0 c.args.outcome
    (Faulted c.in-Faulted.source) c.self.view_is c.in-Faulted.is c.self.invariant c.requires.may.1 c.source_fault.ensures.adds).0

pub returns-in-Faulted-clause-makes : goal.returns-in-Faulted-clause-makes
returns-in-Faulted-clause-makes c =
    (entered (record { hub = c.self.inside.hub; began = c.self.inside.began }) c.args.self.now c.source_fault.new.self c.args.worker c.requires.may.0 c.args.outcome
    (Faulted c.in-Faulted.source) c.self.view_is c.in-Faulted.is c.self.invariant c.requires.may.1 c.source_fault.ensures.adds).1

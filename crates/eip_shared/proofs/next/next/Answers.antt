use Rattle.std.proofs.Common.{subst}
use Rattle.eip_shared.specs.Looks.{LooksIn}
use Rattle.eip_shared.specs.declared.looks.Look.TheVariants.{Did}
use Rattle.eip_shared.proofs.Looking.{looks-nothing, looks-on}
use Rattle.eip_shared.proofs.next.next.Goals as goal

pub loop-init : goal.loop-init
loop-init c = record { looks = looks-nothing c.args.hub.now c.args.worker }

pub returns-in_default : goal.returns-in_default
returns-in_default c = record {
  looks = looks-on c.args.hub.now c.loop.hub c.step.new.hub c.args.worker c.step.result c.loop.invariant.looks c.step.ensures.looks;
  legal = c.step.ensures.legal;
}

pub loop-preserved : goal.loop-preserved
loop-preserved c = record {
  looks =
      looks-on c.args.hub.now c.loop.hub c.step.new.hub c.args.worker Did c.loop.invariant.looks
      (subst (λ what. LooksIn c.loop.hub c.step.new.hub c.args.worker what) c.in-Did.is c.step.ensures.looks);
}

pub returns-clause-looks : goal.returns-clause-looks
returns-clause-looks c =
    looks-on c.args.hub.now c.loop.hub c.step-2.new.hub c.args.worker c.step-2.result c.loop.invariant.looks c.step-2.ensures.looks

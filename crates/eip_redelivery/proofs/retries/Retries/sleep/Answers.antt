use Rattle.std.proofs.Common.{sym, subst}
use Rattle.eip_redelivery.specs.Sleep.{Stands, IsAwake}
use Rattle.eip_redelivery.proofs.Sleepers.{stands_slept}
use Rattle.eip_redelivery.proofs.retries.Retries.sleep.Goals as goal

pub returns-clause-ok : goal.returns-clause-ok
returns-clause-ok c = λ calls stands.
    stands_slept calls c.self.inside.sleepers c.insert.new.self c.args.number c.args.due c.in_ok-insert.ensures.updates.0
    (subst (IsAwake c.args.number) (sym c.self.view_is) c.requires)
    (subst (Stands calls) (sym c.self.view_is) stands)

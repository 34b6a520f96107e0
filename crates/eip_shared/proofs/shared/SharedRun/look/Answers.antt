use Rattle.std.proofs.Common.{refl, subst}
use Rattle.eip_shared.specs.Looks.{Looks}
use Rattle.eip_shared.proofs.Doing.{looks-in, shared-does}
use Rattle.eip_shared.proofs.shared.SharedRun.look.Goals as goal

pub invariant_of-self : goal.invariant_of-self
invariant_of-self c =
    let looks = c.next.ensures.looks in
    shared-does (record { hub = c.self.inside.hub; began = c.self.inside.began }) (record { hub = c.next.new.hub; began = c.self.inside.began })
    c.args.worker looks.0 c.self.invariant refl looks.1

pub returns-clause-looks : goal.returns-clause-looks
returns-clause-looks c =
    subst (λ v. Looks v (record { hub = c.next.new.hub; began = c.self.inside.began }) c.args.worker c.next.result) c.self.view_is
    (looks-in (record { hub = c.self.inside.hub; began = c.self.inside.began }) (record { hub = c.next.new.hub; began = c.self.inside.began })
    c.args.worker c.next.result c.self.invariant refl c.next.ensures.looks)

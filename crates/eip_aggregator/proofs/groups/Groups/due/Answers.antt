use Rattle.std.proofs.Common.{subst}
use Rattle.eip_aggregator.specs.Tables.{Table, IsLeastDue}
use Rattle.eip_aggregator.proofs.Standing.{first_due}
use Rattle.eip_aggregator.proofs.groups.Groups.due.Goals as goal

pub returns : goal.returns
returns c = λ s calls stands.
    first_due s calls c.args.self.now c.due.result stands
    (subst (λ (t : Table). IsLeastDue t.open_groups c.due.result) c.self.view_is c.due.ensures)

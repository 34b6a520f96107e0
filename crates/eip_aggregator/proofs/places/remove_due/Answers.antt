use Rattle.std.proofs.Common.{ℕ, Option, false, sym, subst}
use Rattle.eip_aggregator.specs.Tables.{Times}
use Rattle.eip_aggregator.proofs.Lookups.{times}
use Rattle.eip_aggregator.proofs.places.remove_due.Goals as goal

pub returns-in-Some : goal.returns-in-Some
returns-in-Some c =
    subst (λ (o : Option ℕ). Times c.args.dues.now.keys c.remove.new.self.keys o c.args.number false) (sym c.in-Some.is)
    (times c.args.dues.now c.remove.new.self c.in-Some.due c.args.number false c.remove.ensures.updates.0)

use Rattle.std.proofs.Common.{ℕ, Option, true, sym, subst}
use Rattle.eip_aggregator.specs.Tables.{Times}
use Rattle.eip_aggregator.proofs.Lookups.{times}
use Rattle.eip_aggregator.proofs.places.add_due.Goals as goal

pub returns-in_ok-insert-clause-ok : goal.returns-in_ok-insert-clause-ok
returns-in_ok-insert-clause-ok c =
    subst (λ (o : Option ℕ). Times c.args.dues.now.keys c.insert.new.self.keys o c.args.number true) (sym c.in-Some.is)
    (times c.args.dues.now c.insert.new.self c.in-Some.due c.args.number true c.in_ok-insert.ensures.updates.0)

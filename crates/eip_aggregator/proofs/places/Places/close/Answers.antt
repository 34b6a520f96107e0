use Rattle.std.proofs.Common.{ℕ, Option, None, false, sym, subst}
use Rattle.eip_aggregator.specs.Arrivals.{Key}
use Rattle.eip_aggregator.specs.Tables.{Indexes, Times}
use Rattle.eip_aggregator.proofs.Found.{closed_one}
use Rattle.eip_aggregator.proofs.places.Places.close.Goals as goal

pub invariant_of-self-2 : goal.invariant_of-self-2
invariant_of-self-2 c =
    closed_one c.self.inside.groups.entries c.take.new.map.entries c.self.inside.numbers.entries c.remove_number.new.numbers.entries c.self.inside.dues.keys c.remove_due.new.dues.keys
    c.args.number c.in_ok-group.group
    (sym c.in_ok-group.ensures.value)
    c.in_ok-group.ensures.rest
    (subst (λ (k : Key). Indexes c.self.inside.numbers.entries c.remove_number.new.numbers.entries k None) c.key.ensures c.remove_number.ensures)
    (subst (λ (o : Option ℕ). Times c.self.inside.dues.keys c.remove_due.new.dues.keys o c.args.number false) c.due.ensures c.remove_due.ensures)
    c.self.invariant

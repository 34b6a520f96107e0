use Rattle.std.proofs.Common.{◌≡◌, ℕ, List, None, sym, subst, ◌∙◌}
use Rattle.eip_aggregator.specs.Arrivals.{Group}
use Rattle.eip_ordered.specs.Numbered.{value_at}
use Rattle.eip_aggregator.specs.Tables.{IsFree}
use Rattle.eip_aggregator.proofs.Found.{opened_new}
use Rattle.eip_aggregator.proofs.places.Places.open.Goals as goal

pub invariant_of-self-2 : goal.invariant_of-self-2
invariant_of-self-2 c =
    opened_new c.self.inside.groups.entries c.put.new.map.entries c.self.inside.numbers.entries c.make_room.new.numbers.entries c.insert_number.new.numbers.entries c.self.inside.dues.keys c.add_due.new.dues.keys
    c.in_ok-key.key c.args.number c.args.group c.due-due.result
    c.in_default.ensures.ok
    c.make_room.ensures.same
    c.insert_number.ensures
    c.in_ok-add_due.ensures.ok
    (sym (c.in_ok-key.ensures ∙ c.key.ensures))
    c.due-due.ensures
    (subst (λ (gs : List (ℕ × Group)). value_at gs c.args.number ≡ None) (sym c.self.view_is) c.requires.number)
    (subst (λ (gs : List (ℕ × Group)). IsFree gs c.args.group.key) (sym c.self.view_is) c.requires.key)
    c.self.invariant

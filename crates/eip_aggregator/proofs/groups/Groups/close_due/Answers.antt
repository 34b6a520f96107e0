use Rattle.std.proofs.Common.{◌∷◌, refl, sym, subst}
use Rattle.eip_frames.specs.declared.answer.Completion.TheVariants as by
use Rattle.eip_aggregator.specs.Arrivals.{Ticked, Group, is_at_most}
use Rattle.eip_aggregator.specs.Tables.{Table, Stands}
use Rattle.eip_aggregator.proofs.Together.{are_closed, stands_closed, open_ticked, all_open}
use Rattle.eip_aggregator.proofs.groups.Groups.close_due.Goals as goal

pub close_all-requires-clause-open : goal.close_all-requires-clause-open
close_all-requires-clause-open c = all_open (λ (g : Group). is_at_most g.due c.args.tick) c.self.inside.places c.in_ok-numbers.numbers c.in_ok-numbers.ensures

pub returns-clause-groups : goal.returns-clause-groups
returns-clause-groups c = λ s calls stands.
    are_closed s calls (record { begun = c.self.inside.begun; open_groups = c.self.inside.places }) (λ (g : Group). is_at_most g.due c.args.tick) by.Timeout c.in_ok-numbers.numbers c.close_all.result.items
    (subst (λ (t : Table). Stands s calls t) (sym c.self.view_is) stands) c.in_ok-numbers.ensures c.len.ensures.ordered c.close_all.ensures.closed

pub returns-clause-ok : goal.returns-clause-ok
returns-clause-ok c = λ s calls stands.
    stands_closed s calls (Ticked c.args.tick ∷ calls) (record { begun = c.self.inside.begun; open_groups = c.self.inside.places }) (record { begun = c.self.inside.begun; open_groups = c.close_all.new.places })
    (λ (g : Group). is_at_most g.due c.args.tick) c.in_ok-numbers.numbers c.in_ok-numbers.ensures c.close_all.ensures.rest (open_ticked s calls c.args.tick) refl refl
    (subst (λ (t : Table). Stands s calls t) (sym c.self.view_is) stands)

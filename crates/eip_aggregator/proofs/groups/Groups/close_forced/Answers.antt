use Rattle.std.proofs.Common.{◌∷◌, refl, sym, subst}
use Rattle.eip_frames.specs.declared.answer.Completion.TheVariants as by
use Rattle.eip_aggregator.specs.Arrivals.{Forced, Group}
use Rattle.eip_aggregator.specs.Tables.{Table, Stands}
use Rattle.eip_aggregator.proofs.Together.{are_closed, stands_closed, open_forced, all_open}
use Rattle.eip_aggregator.proofs.groups.Groups.close_forced.Goals as goal

pub close_all-requires-clause-open : goal.close_all-requires-clause-open
close_all-requires-clause-open c = all_open (λ (g : Group). g.force) c.self.inside.places c.in_ok-numbers.numbers c.in_ok-numbers.ensures

pub returns-clause-groups : goal.returns-clause-groups
returns-clause-groups c = λ s calls stands.
    are_closed s calls (record { begun = c.self.inside.begun; open_groups = c.self.inside.places }) (λ (g : Group). g.force) by.Force c.in_ok-numbers.numbers c.close_all.result.items
    (subst (λ (t : Table). Stands s calls t) (sym c.self.view_is) stands) c.in_ok-numbers.ensures c.len.ensures.ordered c.close_all.ensures.closed

pub returns-clause-ok : goal.returns-clause-ok
returns-clause-ok c = λ s calls stands.
    stands_closed s calls (Forced ∷ calls) (record { begun = c.self.inside.begun; open_groups = c.self.inside.places }) (record { begun = c.self.inside.begun; open_groups = c.close_all.new.places })
    (λ (g : Group). g.force) c.in_ok-numbers.numbers c.in_ok-numbers.ensures c.close_all.ensures.rest (open_forced s calls) refl refl
    (subst (λ (t : Table). Stands s calls t) (sym c.self.view_is) stands)

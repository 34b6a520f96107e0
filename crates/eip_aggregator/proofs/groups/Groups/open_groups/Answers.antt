use Rattle.std.proofs.Common.{ℕ, length, map, nat_cmp, ap, subst, ◌∙◌}
use Rattle.std.specs.List.Sorted.{IsStrictlySortedBy}
use Rattle.eip_aggregator.specs.Arrivals.{Group}
use Rattle.eip_aggregator.specs.Tables.{Table}
use Rattle.eip_aggregator.proofs.Together.{as_many}
use Rattle.eip_aggregator.proofs.groups.Groups.open_groups.Goals as goal

pub returns-clause-as_many : goal.returns-clause-as_many
returns-clause-as_many c = λ s calls stands.
    as_many s calls c.args.self.now c.len.result stands
    (subst (λ (t : Table). IsStrictlySortedBy nat_cmp (map (λ (e : ℕ × Group). e.0) t.open_groups)) c.self.view_is c.len.ensures.rising)
    (c.len.ensures.len ∙ ap (λ (t : Table). length t.open_groups) c.self.view_is)

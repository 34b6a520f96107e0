use Rattle.std.proofs.Common.{refl, ap, subst, ◌∙◌}
use Rattle.eip_aggregator.specs.Arrivals.{Key}
use Rattle.eip_aggregator.specs.Tables.{Table, IsBeyond, IsNext}
use Rattle.eip_aggregator.proofs.Together.{shows_next, shows_none}
use Rattle.eip_aggregator.proofs.groups.Groups.open_group.Goals as goal

pub returns-in-None : goal.returns-in-None
returns-in-None c = λ s calls stands.
    shows_none s calls c.args.self.now c.args.behind stands
    (subst (λ (t : Table). IsBeyond t.open_groups c.args.behind) c.self.view_is c.in-None.ensures)

pub returns-in-Some : goal.returns-in-Some
returns-in-Some c = λ s calls stands.
    shows_next s calls c.args.self.now c.args.behind _ (c.in-Some.number, c.in-Some.group.now) stands
    (subst (λ (t : Table). IsNext t.open_groups c.args.behind (c.in-Some.number, c.in-Some.group.now)) c.self.view_is c.in-Some.ensures)
    (record { number = refl; size = c.count.ensures; key = c.text.ensures ∙ ap (λ (k : Key). k.1) c.key.ensures; force = c.is_forced.ensures })

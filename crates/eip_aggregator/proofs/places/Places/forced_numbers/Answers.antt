use Rattle.std.proofs.Common.{ℕ, List, subst, ◌∙◌}
use Rattle.std.proofs.lemmas.Result.{IfOk-weaker}
use Rattle.eip_aggregator.specs.Arrivals.{Group}
use Rattle.eip_aggregator.specs.Tables.{ArePicked, is_forced, group_number, ArePassing}
use Rattle.eip_aggregator.proofs.Gathering.{forced_numbers}
use Rattle.eip_aggregator.proofs.places.Places.forced_numbers.Goals as goal

pub returns : goal.returns
returns c =
    IfOk-weaker c.numbers_forced.result (ArePicked is_forced group_number c.self.inside.groups.entries) (ArePassing (λ (g : Group). g.force) c.args.self.now)
    (λ numbers picked. subst (λ (gs : List (ℕ × Group)). ArePassing (λ (g : Group). g.force) gs numbers) c.self.view_is
    (λ n. picked n ∙ forced_numbers c.self.inside.groups n c.numbers_forced.ensures.found))
    c.numbers_forced.ensures.picked

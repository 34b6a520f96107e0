use Rattle.std.proofs.Common.{ℕ, List, subst, ◌∙◌}
use Rattle.std.proofs.lemmas.Result.{IfOk-weaker}
use Rattle.eip_aggregator.specs.Arrivals.{Group, is_at_most}
use Rattle.eip_aggregator.specs.Tables.{ArePicked, is_by, due_number, ArePassing}
use Rattle.eip_aggregator.proofs.Gathering.{due_numbers}
use Rattle.eip_aggregator.proofs.places.Places.due_numbers.Goals as goal

pub returns : goal.returns
returns c =
    IfOk-weaker c.numbers_due.result (ArePicked (is_by c.args.tick) due_number c.self.inside.dues.keys) (ArePassing (λ (g : Group). is_at_most g.due c.args.tick) c.args.self.now)
    (λ numbers picked. subst (λ (gs : List (ℕ × Group)). ArePassing (λ (g : Group). is_at_most g.due c.args.tick) gs numbers) c.self.view_is
    (λ n. picked n ∙ due_numbers c.self.inside.groups.entries c.self.inside.numbers.entries c.self.inside.dues.keys c.args.tick n c.self.invariant))
    c.numbers_due.ensures

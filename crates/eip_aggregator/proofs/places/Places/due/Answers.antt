use Rattle.std.proofs.Common.{ℕ, List, Some, None, sym, subst, ◌∙◌, true≢false}
use Rattle.eip_aggregator.specs.Arrivals.{Group}
use Rattle.eip_aggregator.specs.Tables.{IsLeastDue}
use Rattle.eip_aggregator.proofs.Lookups.{holds, least_moment, no_keys}
use Rattle.eip_aggregator.proofs.Found.{least_due, none_due}
use Rattle.eip_aggregator.proofs.places.Places.due.Goals as goal

pub returns-in_err-first : goal.returns-in_err-first
returns-in_err-first c =
    rw c.from_residual.ensures
    (subst (λ (gs : List (ℕ × Group)). IsLeastDue gs None) c.self.view_is
    (none_due c.self.inside.groups.entries c.self.inside.numbers.entries c.self.inside.dues.keys c.self.invariant
    (no_keys c.self.inside.dues.keys (λ lt. true≢false (sym (c.in_err-first.ensures.variant.1 lt))))))

pub returns : goal.returns
returns c =
    subst (λ (gs : List (ℕ × Group)). IsLeastDue gs (Some c.in_ok-first.first.now.0)) c.self.view_is
    (least_due c.self.inside.groups.entries c.self.inside.numbers.entries c.self.inside.dues.keys c.in_ok-first.first.now c.self.invariant
    (holds c.self.inside.dues c.in_ok-first.first.now.0 c.in_ok-first.first.now.1 ∙ c.in_ok-first.ensures.member)
    (least_moment c.self.inside.dues c.in_ok-first.first.now c.in_ok-first.ensures.least))

use Rattle.std.proofs.Common.{◌≡◌, ◌||◌, Bool, ℕ, List, true, false, sym, ap, ◌∙◌}
use Rattle.std.specs.List.{list_any}
use Rattle.eip_aggregator.specs.Arrivals.{Group}
use Rattle.eip_aggregator.specs.Tables.{is_forced}
use Rattle.eip_aggregator.proofs.places.any_forced.Goals as goal

pub loop-number-init : goal.loop-number-init
loop-number-init c =
    let all : c.into_iter-number-iterator.result ≡ c.args.groups.now.entries = c.into_iter-number-iterator.ensures.into_iter_gives ∙ c.iter-number-items.ensures.rest in
    ap (list_any is_forced) (sym all)

pub loop-number-preserved : goal.loop-number-preserved
loop-number-preserved c =
    c.loop-number.invariant
    ∙ (ap (list_any is_forced) c.in-Some.ensures.steps ∙ ap (λ (b : Bool). b || list_any is_forced c.next.new.self) (sym c.is_forced.ensures ∙ c.if-is_forced.false))

pub returns-then-is_forced : goal.returns-then-is_forced
returns-then-is_forced c =
    sym (c.loop-number.invariant
    ∙ (ap (list_any is_forced) c.in-Some.ensures.steps ∙ ap (λ (b : Bool). b || list_any is_forced c.next.new.self) (sym c.is_forced.ensures ∙ c.if-is_forced.true)))

pub returns : goal.returns
returns c = sym (c.loop-number.invariant ∙ ap (list_any is_forced) c.in-None.ensures.steps.0)

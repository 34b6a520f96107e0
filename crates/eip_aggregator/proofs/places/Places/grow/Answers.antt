use Rattle.std.proofs.Common.{◌<◌, ℕ, List, IsSome, sym, subst}
use Rattle.eip_strategy.specs.Adding.{IsReady}
use Rattle.eip_aggregator.specs.Arrivals.{Group}
use Rattle.eip_ordered.specs.Numbered.{value_at}
use Rattle.eip_aggregator.specs.Tables.{count_in, message_in}
use Rattle.eip_aggregator.proofs.places.Places.grow.Goals as goal

pub due_of-old-requires : goal.due_of-old-requires
due_of-old-requires c = subst (λ (gs : List (ℕ × Group)). IsSome (value_at gs c.args.number)) (sym c.self.view_is) c.requires.there

pub grow_group-requires : goal.grow_group-requires
grow_group-requires c = record {
  there = subst (λ (gs : List (ℕ × Group)). IsSome (value_at gs c.args.number)) (sym c.self.view_is) c.requires.there;
  ready = subst (λ (gs : List (ℕ × Group)). IsReady c.args.setting.now.strategy (message_in (value_at gs c.args.number))) (sym c.self.view_is) c.requires.ready;
  fits = subst (λ (gs : List (ℕ × Group)). count_in (value_at gs c.args.number) < 18446744073709551615) (sym c.self.view_is) c.requires.fits;
}

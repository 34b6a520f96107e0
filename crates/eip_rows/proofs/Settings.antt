-- The setting of an aggregator is found by the block that its groups run.
use Rattle.std.proofs.Common.{◌≡◌, ℕ, List, [], ◌∷◌, Option, Some, None, sym, ap, ◌∙◌, inl, inr}
use Rattle.std.specs.Prelude.{eqb, unwrap_or}
use Rattle.std.proofs.lemmas.Bool.{cases_Bool, eqb-true}
use Rattle.eip_route.specs.declared.step.Aggregate.{Aggregate}
use Rattle.eip_route.specs.declared.step.Step.{Step}
use Rattle.eip_route.specs.declared.step.Step.TheVariants as step
use Rattle.eip_route.specs.declared.route.Block.{Block}
use Rattle.eip_route.specs.declared.route.RouteSet.{RouteSet}
use Rattle.eip_plan.specs.Plan.{aggregator_of, or_aggregator, aggregator_in, aggregator_among, plain_aggregate, setting_of}

of-step : (a : ℕ) (s : Step) (g : Aggregate) → aggregator_of a s ≡ Some g → g.block ≡ a
of-step a (step.Aggregate h) g e = elim (cases_Bool (eqb h.block a)) [
  | inl t ↦ (let found : Some h ≡ Some g = rw t at e in let same : h ≡ g = cc in ap (λ (x : Aggregate). x.block) (sym same) ∙ eqb-true h.block a t)
  | inr f ↦ absurd (let none : None ≡ Some g = rw f at e in cc none)
]
of-step a _ g e = absurd (cc e)

either : (a : ℕ) (o p : Option Aggregate) (g : Aggregate) → ((h : Aggregate) → o ≡ Some h → h.block ≡ a) → ((h : Aggregate) → p ≡ Some h → h.block ≡ a) → or_aggregator o p ≡ Some g → g.block ≡ a
either a None p g first other e = other g e
either a (Some h) p g first other e = first g e

of-steps : (a : ℕ) (ss : List Step) (g : Aggregate) → aggregator_in a ss ≡ Some g → g.block ≡ a
of-steps a [] g e = absurd (cc e)
of-steps a (s ∷ ss) g e = either a (aggregator_of a s) (aggregator_in a ss) g (λ h k. of-step a s h k) (λ h k. of-steps a ss h k) e

pub of-blocks : (a : ℕ) (bs : List Block) (g : Aggregate) → aggregator_among a bs ≡ Some g → g.block ≡ a
of-blocks a [] g e = absurd (cc e)
of-blocks a (b ∷ bs) g e = either a (aggregator_in a b.steps) (aggregator_among a bs) g (λ h k. of-steps a b.steps h k) (λ h k. of-blocks a bs h k) e

-- an aggregator of the set is the setting of its block
pub setting-found : (set : RouteSet) (a : ℕ) (g : Aggregate) → aggregator_among a set.blocks ≡ Some g → g ≡ setting_of set g.block
setting-found set a g e =
    sym (ap (λ (n : ℕ). setting_of set n) (of-blocks a set.blocks g e) ∙ ap (λ (o : Option Aggregate). unwrap_or o (plain_aggregate a)) e)

-- and of a block that no aggregator runs, the plain one
pub setting-plain : (set : RouteSet) (a : ℕ) → aggregator_among a set.blocks ≡ None → plain_aggregate a ≡ setting_of set (plain_aggregate a).block
setting-plain set a e = sym (ap (λ (o : Option Aggregate). unwrap_or o (plain_aggregate a)) e)

-- Worked rows: the plan of a set with a queue and an aggregator.
use Rattle.std.specs.Prelude.{◌≡◌, true, false, [], ◌∷◌, codes, Some, None, refl}
use Rattle.eip_exchange.specs.declared.setting.Strategy.TheVariants as strategy
use Rattle.eip_strategy.specs.Adding.{added}
use Rattle.eip_uri.specs.declared.uri.Uri.TheVariants as uri
use Rattle.eip_route.specs.Plain.{plain_handler}
use Rattle.eip_route.specs.Nest.{step_numbers}
use Rattle.eip_route.specs.declared.route.RouteSet.{RouteSet}
use Rattle.eip_route.specs.declared.step.Check.TheVariants as check
use Rattle.eip_route.specs.declared.step.Expr.TheVariants as expr
use Rattle.eip_route.specs.declared.step.Step.TheVariants as step
use Rattle.eip_meaning.specs.RowForms.{plain, lanes, block, lines_to}
use Rattle.eip_history.specs.Plan.{Gives}
use Rattle.eip_plan.specs.Plan.{plan_of}

-- lines go into a queue of five with two consumers; from there what passes a filter is joined by threes
abbrev pub set : RouteSet
set = record {
  names = lanes;
  routes = lines_to 0 ∷ (record { id = codes "queue"; from = uri.Seda (codes "q") 5 2 false; block = 1 }) ∷ [];
  blocks = block (step.To (uri.Seda (codes "q") 1000 1 false) ∷ [])
      ∷ block (step.Filter (check.Fixed true) 2 ∷ [])
      ∷ block (step.Aggregate (record {
        key = expr.Constant (codes "k");
        strategy = strategy.Joined (codes ",");
        predicate = None;
        size = Some 3;
        timeout = Some 70;
        force = true;
        block = 3;
      }) ∷ [])
      ∷ block []
      ∷ [];
  handler = plain_handler;
  clauses = [];
}

-- ---- routes

pub row-routes : (plan_of set).routes ≡ 2
unfolding plan_of
row-routes = refl

pub row-source : (plan_of set).is_source 0 ≡ true
unfolding plan_of
row-source = refl

pub row-no_source : (plan_of set).is_source 1 ≡ false
unfolding plan_of
row-no_source = refl

pub row-block : (plan_of set).block_of 1 ≡ 1
unfolding plan_of
row-block = refl

-- ---- queues: as the route that takes the copies says, not the one that offers them

pub row-queue : (plan_of set).is_queue 1 ≡ true
unfolding plan_of
row-queue = refl

pub row-no_queue : (plan_of set).is_queue 0 ≡ false
unfolding plan_of
row-no_queue = refl

pub row-room : (plan_of set).queue 1 ≡ record { size = 5; consumers = 2 }
unfolding plan_of
row-room = refl

-- ---- the aggregator whose groups run block 3

pub row-size : ((plan_of set).group 3).size ≡ Some 3
unfolding plan_of
row-size = refl

pub row-timeout : ((plan_of set).group 3).timeout ≡ Some 70
unfolding plan_of
row-timeout = refl

pub row-force : ((plan_of set).group 3).force ≡ true
unfolding plan_of
row-force = refl

-- its step stands in a block of the second route
pub row-route : ((plan_of set).group 3).route ≡ 1
unfolding plan_of step_numbers
row-route = refl

pub row-first : ((plan_of set).group 3).add None (plain (codes "a")) ≡ Gives (plain (codes "a"))
unfolding plan_of added
row-first = refl

pub row-next : ((plan_of set).group 3).add (Some (plain (codes "a"))) (plain (codes "b")) ≡ Gives (plain (codes "a,b"))
unfolding plan_of added
row-next = refl

-- without a predicate nothing else closes it
pub row-closes : ((plan_of set).group 3).closes 7 1 (plain (codes "a,b")) ≡ false
unfolding plan_of
row-closes = refl

-- no aggregator's groups run block 2
pub row-no_group : ((plan_of set).group 2).size ≡ None
unfolding plan_of
row-no_group = refl

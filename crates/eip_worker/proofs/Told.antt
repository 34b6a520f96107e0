-- A call that is told the source of an exchange, where one is to be told of an end, does what the exchange's own origin asks.
use Rattle.std.proofs.Common.{◌≡◌, ℕ, Bool, true, false, List, [], Option, Result, Ok, Err, refl, sym, subst, ◌∙◌}
use Rattle.eip_text.specs.declared.memory.NoMemory.{NoMemory}
use Rattle.eip_exchange.specs.declared.birth.Origin.{Origin}
use Rattle.eip_exchange.specs.declared.birth.Origin.TheVariants as origin
use Rattle.eip_frames.specs.declared.answer.Answer.{Answer as Reply}
use Rattle.eip_frames.specs.declared.request.Request.{Request}
use Rattle.eip_frames.specs.declared.request.Request.TheVariants as request
use Rattle.eip_route.specs.declared.route.Names.{Names}
use Rattle.eip_route.specs.declared.route.RouteSet.{RouteSet}
use Rattle.eip_endpoint.specs.Inlets.{InletView, InletsGrew}
use Rattle.eip_endpoint.specs.Lanes.{LaneView}
use Rattle.eip_endpoint.specs.Outside.{Doors}
use Rattle.eip_processor.specs.Registered.{RegistryView}
use Rattle.eip_core.specs.Doors.{doors_among}
use Rattle.eip_core.specs.Outside.{Asks, IsAskable, commits_told}
use Rattle.eip_shared.specs.Looks.{told_by}
use Rattle.eip_worker.specs.Calls.{origin_told}

abbrev is_finish : Request → Bool
is_finish (request.Finish e m commit) = true
is_finish _ = false

tells-none : (d : Doors) (o : Origin) (q : Request) (r : Result Reply NoMemory) → is_finish q ≡ false → commits_told d o q r ≡ []
tells-none d o q (Err f) h = refl
tells-none d (origin.Source t item) (request.Finish e m commit) (Ok a) h = absurd (cc h)
tells-none d (origin.Source t item) q (Ok a) h = refl
tells-none d _ q (Ok a) h = refl

module _ (set : RouteSet) (names : Names) (told : Option (ℕ × List ℕ)) where
  -- it is the exchange's own, where a source is to be told
  same-source : (from : Origin) (e : _) (m : _) (commit : Bool) → told ≡ told_by (request.Finish e m commit) from → IsAskable set names from (request.Finish e m commit) → from ≡ origin_told told
  same-source (origin.Source t item) e m commit is can = rw is refl
  same-source _ e m commit is can = absurd can.0

  pub askable-told : (from : Origin) (q : Request) → told ≡ told_by q from → IsAskable set names from q → IsAskable set names (origin_told told) q
  askable-told from (request.Finish e m commit) is can = subst (λ (o : Origin). IsAskable set names o (request.Finish e m commit)) (same-source from e m commit is can) can
  askable-told from (request.Send t m) is can = can
  askable-told from (request.Process name m) is can = can
  askable-told from (request.Test name m) is can = can
  askable-told from _ is can = absurd can

  module _ {r : Result Reply NoMemory} {l m : List LaneView} {i j : List InletView} {registry : RegistryView} where
    asks-other : (from : Origin) (q : Request) → is_finish q ≡ false → Asks set (origin_told told) q r l m i j registry → Asks set from q r l m i j registry
    asks-other from q h asks = record {
      fitting = asks.fitting;
      theirs = asks.theirs;
      lanes = asks.lanes;
      inlets = subst (λ js. InletsGrew 0 js i j) (tells-none (doors_among set l i) (origin_told told) q r h ∙ sym (tells-none (doors_among set l i) from q r h)) asks.inlets;
    }

    pub asks-told : (from : Origin) (q : Request) → told ≡ told_by q from → IsAskable set names from q → Asks set (origin_told told) q r l m i j registry
        → Asks set from q r l m i j registry
    asks-told from (request.Finish e k commit) is can asks =
        subst (λ (o : Origin). Asks set o (request.Finish e k commit) r l m i j registry) (sym (same-source from e k commit is can)) asks
    asks-told from (request.Send t k) is can asks = asks-other from (request.Send t k) refl asks
    asks-told from (request.Process name k) is can asks = asks-other from (request.Process name k) refl asks
    asks-told from (request.Test name k) is can asks = asks-other from (request.Test name k) refl asks
    asks-told from _ is can asks = absurd can

-- The plan of a route set has the laws that its histories need.
use Rattle.std.proofs.Common.{◌≡◌, ℕ, ◌<◌, ◌≤◌, true, List, [], ◌∷◌, length, Option, Some, None, refl, ◌∙◌, arith}
use Rattle.std.specs.Prelude.{slice_get}
use Rattle.std.proofs.lemmas.Option.{slice_get_within}
use Rattle.eip_exchange.specs.declared.birth.Birth.{Birth}
use Rattle.eip_uri.specs.declared.uri.Uri.{Uri}
use Rattle.eip_uri.specs.declared.uri.Uri.TheVariants as uri
use Rattle.eip_route.specs.declared.route.Route.{Route}
use Rattle.eip_route.specs.declared.route.RouteSet.{RouteSet}
use Rattle.eip_frames.specs.declared.request.Request.TheVariants.{Offer, Join}
use Rattle.eip_frames.specs.declared.answer.Answer.{Answer as Reply}
use Rattle.eip_frames.specs.Fate.{Fate, AsksNext, Ends, Strays}
use Rattle.eip_meaning.specs.Sends.{is_queue_route, is_queue}
use Rattle.eip_meaning.specs.Asked.{last_answer}
use Rattle.eip_meaning.specs.Meaning.{mean}
use Rattle.eip_meaning.proofs.Laws.{starts, asked-of-set}
use Rattle.eip_history.specs.Place.{end_of}
use Rattle.eip_history.specs.Laws.{PlanLaws, last_of}
use Rattle.eip_plan.specs.Plan.{queue_rule, queue_of_route, plan_of}

no-end : (set : RouteSet) (b : Birth) (f : Fate) → mean set b [] ≡ f → end_of f ≡ None
no-end set b (AsksNext q p) h = refl
no-end set b (Ends e m) h = absurd (starts set b e m h)
no-end set b Strays h = refl

-- a queue is a route of the set
queue-within : (rs : List Route) (q : ℕ) (o : Option Route) → slice_get rs q ≡ o → is_queue_route o ≡ true → q < length rs
queue-within rs q None e h = absurd (cc h)
queue-within rs q (Some r) e h = slice_get_within rs q r e

last-same : (a : Reply) (A : List Reply) → last_of (a ∷ A) ≡ last_answer (Some a) A
last-same a [] = refl
last-same a (b ∷ A) = last-same b A

last-answer : (given : List Reply) → last_of given ≡ last_answer None given
last-answer [] = refl
last-answer (a ∷ A) = last-same a A

has-consumer : (u : Uri) → 1 ≤ (queue_rule u).consumers
has-consumer (uri.Seda name size consumers discard) = omega arith
has-consumer _ = omega arith

route-consumer : (o : Option Route) → 1 ≤ (queue_of_route o).consumers
route-consumer None = omega arith
route-consumer (Some r) = has-consumer r.from

pub plan-laws : (set : RouteSet) → PlanLaws (plan_of set)
unfolding plan_of
plan-laws set = record {
  starts = λ b. no-end set b (mean set b []) refl;
  offers = λ b given q discard m p h.
      let is : is_queue set q ≡ true = asked-of-set set b given (Offer q discard m) p h in
      (queue-within set.routes q (slice_get set.routes q) refl is, is);
  joins = λ b given first count p h. last-answer given ∙ asked-of-set set b given (Join first count) p h;
  consumers = λ q. route-consumer (slice_get set.routes q);
}

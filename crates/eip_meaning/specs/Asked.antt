-- What exchanges of a set ask.
use Rattle.std.specs.Prelude.{◌≡◌, Bool, true, List, [], ◌∷◌, Option, Some, None}
use Rattle.eip_exchange.specs.declared.birth.Birth.{Birth}
use Rattle.eip_route.specs.Goals.{is_among}
use Rattle.eip_route.specs.declared.route.RouteSet.{RouteSet}
use Rattle.eip_frames.specs.Targets.{lane_of}
use Rattle.eip_frames.specs.declared.request.At.{At}
use Rattle.eip_frames.specs.declared.request.Request.{Request}
use Rattle.eip_frames.specs.declared.request.Request.TheVariants as request
use Rattle.eip_frames.specs.declared.answer.Answer.{Answer as Reply}
use Rattle.eip_frames.specs.declared.answer.Answer.TheVariants as reply
use Rattle.eip_meaning.specs.Contexts.{place_of}
use Rattle.eip_meaning.specs.Sends.{is_queue}
use Rattle.eip_meaning.specs.Meaning.{is_committed}

-- a request of a step, but for parts and for their ends: a send goes out by one of the set's lanes, and a copy into one of its queues
abbrev pub IsOfSet : RouteSet → Request → Type 0
IsOfSet set (request.Send t m) = is_among (lane_of t) set.names.lanes ≡ true
IsOfSet set (request.Offer q discard m) = is_queue set q ≡ true
IsOfSet set (request.Spawn seeds) = ⊥
IsOfSet set (request.Join first count) = ⊥
IsOfSet set (request.Finish e m commit) = ⊥
IsOfSet set _ = Unit {0}

-- a request before the end, with the answer that came last: parts are waited for as soon as they are born, and all that were born
abbrev pub IsOfSteps : RouteSet → Option Reply → Request → Type 0
IsOfSteps set last (request.Spawn seeds) = Unit {0}
IsOfSteps set last (request.Join first count) = last ≡ Some (reply.Born first count)
IsOfSteps set last q = IsOfSet set q

-- the last of these answers, or else the one before them
abbrev pub last_answer : (before : Option Reply) → List Reply → Option Reply
last_answer before [] = before
last_answer before (a ∷ A) = last_answer (Some a) A

-- a request of an exchange: one of its steps', or that for its end
abbrev pub IsOfExchange : RouteSet → (commit : Bool) (place : At) (last : Option Reply) → Request → At → Type 0
IsOfExchange set commit place last (request.Finish e m told) p = (told ≡ commit) × (p ≡ place)
IsOfExchange set commit place last q p = IsOfSteps set last q

-- what a birth may ask behind these answers; the end at its own place, with a commit where its source is told
abbrev pub IsAsked : RouteSet → Birth → List Reply → Request → At → Type 0
IsAsked set b given q p = IsOfExchange set (is_committed set b) (place_of b) (last_answer None given) q p

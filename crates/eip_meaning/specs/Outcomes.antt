-- What running a part of a route gives, and how parts are put one behind another.
use Rattle.std.specs.Prelude.{ℕ, Bool, true, false, cond, List, [], ◌∷◌, ◌++◌, codes, decimal, Option, Some, None, slice_get}
use Rattle.eip_exchange.specs.Ends.{fault}
use Rattle.eip_exchange.specs.declared.message.Message.{Message}
use Rattle.eip_exchange.specs.declared.end.Fault.{Fault}
use Rattle.eip_exchange.specs.declared.end.End.{End}
use Rattle.eip_uri.specs.declared.uri.Uri.{Uri}
use Rattle.eip_uri.specs.declared.uri.Uri.TheVariants as uri
use Rattle.eip_route.specs.declared.route.Route.{Route}
use Rattle.eip_route.specs.declared.route.RouteSet.{RouteSet}
use Rattle.eip_frames.specs.Fits.{fits}
use Rattle.eip_frames.specs.Targets.{target_text}
use Rattle.eip_frames.specs.declared.request.At.{At}
use Rattle.eip_frames.specs.declared.request.Request.{Request}
use Rattle.eip_frames.specs.declared.request.Request.TheVariants as request
use Rattle.eip_frames.specs.declared.answer.Answer.{Answer as Reply}
use Rattle.eip_frames.specs.declared.answer.Answer.TheVariants as reply

pub data Outcome : Type 0 where
  -- the answers are spent, and this is asked
  Asks : Request → At → Outcome
  -- it goes on behind the part, with the answers left
  Goes : Message → List Reply → Outcome
  -- the whole exchange ends
  Stops : End → Message → List Reply → Outcome
  -- one try of a step faults; the flag says that the step may be tried again
  Faults : Fault → Bool → List Reply → Outcome
  -- an answer doesn't fit
  Stray : Outcome

-- a part of a route: what it gives on a message and the answers to come
abbrev pub Runner : Type 0
Runner = Message → List Reply → Outcome

-- a part, and where it goes on the next one
abbrev pub followed : Outcome → Runner → Outcome
followed (Asks q p) k = Asks q p
followed (Goes m A) k = k m A
followed (Stops e m A) k = Stops e m A
followed (Faults f again A) k = Faults f again A
followed Stray k = Stray

-- a part, and where it faults what treats the fault
abbrev pub caught : Outcome → (Fault → Bool → List Reply → Outcome) → Outcome
caught (Asks q p) k = Asks q p
caught (Goes m A) k = Goes m A
caught (Stops e m A) k = Stops e m A
caught (Faults f again A) k = k f again A
caught Stray k = Stray

-- a fault that no request made, where there is one, else what follows
abbrev pub unless_fault : Option Fault → (List Reply → Outcome) → List Reply → Outcome
unless_fault None k A = k A
unless_fault (Some f) k A = Faults f false A

-- ---- requests

-- the name of the queue that begins a route
abbrev pub queue_of : Uri → List ℕ
queue_of (uri.Seda name size consumers discard) = name
queue_of _ = []

abbrev pub queue_in : Option Route → List ℕ
queue_in None = []
queue_in (Some r) = queue_of r.from

-- the queue of this route holds so many copies and takes no more
abbrev pub queue_full : RouteSet → (route held : ℕ) → Fault
queue_full set route held = fault (codes "QueueFull") (codes "seda:" ++ (queue_in (slice_get set.routes route) ++ (codes " " ++ decimal held)))

-- the fault that an answer is
abbrev pub fault_in : RouteSet → Request → Reply → Option Fault
fault_in set (request.Send t m) reply.SendFailed = Some (fault (codes "SendFailed") (target_text t))
fault_in set (request.Send t m) reply.Exists = Some (fault (codes "FileExists") (target_text t))
fault_in set (request.Process n m) (reply.Raised f) = Some f
fault_in set (request.Offer q discard m) (reply.Full l) = Some (queue_full set q l)
fault_in set (request.Arrive a k m) (reply.Unfit f) = Some f
fault_in set _ _ = None

-- a step whose request faults may be tried again where it sends, offers or has the message processed
abbrev pub is_tried_again : Request → Bool
is_tried_again (request.Send t m) = true
is_tried_again (request.Offer q discard m) = true
is_tried_again (request.Process n m) = true
is_tried_again _ = false

abbrev pub answered_by : Option Fault → Bool → (Reply → List Reply → Outcome) → Reply → List Reply → Outcome
answered_by None again k a A = k a A
answered_by (Some f) again k a A = Faults f again A

-- a request at a place; on an answer that fits and is no fault it goes on by k
abbrev pub ask : RouteSet → Request → At → (Reply → List Reply → Outcome) → List Reply → Outcome
ask set q p k [] = Asks q p
ask set q p k (a ∷ A) = cond (fits q a) (answered_by (fault_in set q a) (is_tried_again q) k a A) Stray

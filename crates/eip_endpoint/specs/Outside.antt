-- What the answers to the requests of exchanges say that lanes and inlets did.
use Rattle.std.specs.Prelude.{ℕ, true, List, [], ◌∷◌, Option, Some, None}
use Rattle.std.specs.List.{flat_map}
use Rattle.eip_exchange.specs.declared.birth.Origin.{Origin}
use Rattle.eip_exchange.specs.declared.birth.Origin.TheVariants as from
use Rattle.eip_exchange.specs.declared.end.End.{End}
use Rattle.eip_exchange.specs.declared.message.Message.{Message}
pub use Rattle.eip_frames.specs.Targets.{lane_of}
use Rattle.eip_frames.specs.declared.request.Target.{Target}
use Rattle.eip_frames.specs.declared.request.Request.{Request}
use Rattle.eip_frames.specs.declared.request.Request.TheVariants.{Send, Finish}
use Rattle.eip_frames.specs.declared.answer.Answer.{Answer as Reply}
use Rattle.eip_frames.specs.declared.answer.Answer.TheVariants as reply
use Rattle.eip_endpoint.specs.declared.endpoint.Call.{Call}
use Rattle.eip_endpoint.specs.declared.endpoint.Outcome.TheVariants as outcome
use Rattle.eip_endpoint.specs.declared.source.CommitOutcome.TheVariants as commit
use Rattle.eip_endpoint.specs.Calls.{call_of}
use Rattle.eip_endpoint.specs.Pulls.{commit_of}
use Rattle.eip_endpoint.specs.Lanes.{LaneCall, at_lane}
use Rattle.eip_endpoint.specs.Inlets.{Act, InletAct, acts_at, acts_of_commits}

-- an answer to a request: the worker who gave it, and the origin of the exchange that asked
pub record Answered : Type 0 where
  pub worker : ℕ
  pub origin : Origin
  pub request : Request
  pub answer : Reply

-- the index of a route's inlet and its printed URI, and the index of a target's lane, from 0
pub record Doors : Type 0 where
  pub inlet : ℕ → Option ℕ
  pub uri : ℕ → List ℕ
  pub lane : Target → Option ℕ

-- ---- lanes

-- the call that an answer to a Send tells of
abbrev pub call_by : Target → Message → Reply → List Call
call_by t m reply.Done = call_of t m outcome.Done
call_by t m reply.SendFailed = call_of t m outcome.Failed
call_by t m reply.Exists = call_of t m outcome.Exists
call_by t m _ = []

-- calls of a lane, if there is one
abbrev pub calls_by : Option ℕ → List Call → List LaneCall
calls_by (Some k) cs = at_lane k cs
calls_by None cs = []

-- an answer to a Send is a call of the target's lane
abbrev pub calls_for : Doors → Request → Reply → List LaneCall
calls_for d (Send t m) a = calls_by (d.lane t) (call_by t m a)
calls_for d _ a = []

-- the calls of lanes that an answer tells of
abbrev pub calls_in : Doors → Answered → List LaneCall
calls_in d v = calls_for d v.request v.answer

-- the calls of lanes that these answers tell of, in their order
abbrev pub calls : Doors → List Answered → List LaneCall
calls d vs = flat_map (calls_in d) vs

-- ---- inlets

-- acts of an inlet, if there is one
abbrev pub acts_by : Option ℕ → List ℕ → List Act → List InletAct
acts_by (Some k) u acts = acts_at k u acts
acts_by None u acts = []

-- acts of the inlet of a route's source
abbrev pub acts_of : Doors → ℕ → List Act → List InletAct
acts_of d t acts = acts_by (d.inlet t) (d.uri t) acts

-- what the answer to a Finish with commit tells of
abbrev pub told_by : List ℕ → End → Reply → List Act
told_by item e reply.Finished = acts_of_commits (commit_of item e commit.Done)
told_by item e reply.CommitFailed = acts_of_commits (commit_of item e commit.Failed)
told_by item e _ = []

-- by the answer to a Finish with commit the source of the exchange's item was told of its end
abbrev pub commits_for : Doors → Origin → Request → Reply → List InletAct
commits_for d (from.Source r item) (Finish e m true) a = acts_of d r (told_by item e a)
commits_for d _ _ a = []

-- what an answer says that inlets were told
abbrev pub commits_in : Doors → Answered → List InletAct
commits_in d v = commits_for d v.origin v.request v.answer

-- what these answers say that inlets were told of ends, in their order
abbrev pub commits : Doors → List Answered → List InletAct
commits d vs = flat_map (commits_in d) vs

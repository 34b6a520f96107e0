-- Which answers fit a request, and which requests are made of the outside.
use Rattle.std.specs.Prelude.{Bool, true, false, ◌==◌, not, length}
use Rattle.eip_text.specs.Names.{is_name}
use Rattle.eip_uri.specs.declared.uri.Exist.{Exist}
use Rattle.eip_uri.specs.declared.uri.Exist.TheVariants as exist
use Rattle.eip_frames.specs.declared.request.Target.{Target}
use Rattle.eip_frames.specs.declared.request.Target.TheVariants as target
use Rattle.eip_frames.specs.declared.request.Request.{Request}
use Rattle.eip_frames.specs.declared.request.Request.TheVariants.{Send, Process, Test, Offer, Call, Spawn, Join, Arrive, Idem, Wait, Log, Finish}
use Rattle.eip_frames.specs.declared.answer.Answer.{Answer as Reply}
use Rattle.eip_frames.specs.declared.answer.Answer.TheVariants as reply

abbrev pub is_fail : Exist → Bool
is_fail exist.Fail = true
is_fail _ = false

-- a file target that asks to be told of a file that is there
abbrev pub may_exist : Target → Bool
may_exist (target.File folder name e) = is_fail e
may_exist _ = false

abbrev pub fits : Request → Reply → Bool
fits (Send t m) reply.Done = true
fits (Send t m) reply.SendFailed = true
fits (Send t m) reply.Exists = may_exist t
fits (Process n m) (reply.Became m') = true
fits (Process n m) (reply.Raised f) = is_name f.kind
fits (Test n m) (reply.Holds b) = true
fits (Offer q discard m) (reply.Queued n) = true
fits (Offer q discard m) (reply.Full l) = not discard
fits (Offer q discard m) reply.Dropped = discard
fits (Call r) reply.Entered = true
fits (Spawn seeds) (reply.Born first count) = count == length seeds
fits (Join first count) (reply.Joined parts) = length parts == count
fits (Arrive a k m) (reply.Arrived n) = true
fits (Arrive a k m) (reply.Closed g c n) = true
fits (Arrive a k m) (reply.Unfit f) = true
fits (Idem r k eager remove) reply.Fresh = true
fits (Idem r k eager remove) (reply.Duplicate h) = true
fits (Wait t) (reply.Slept d) = true
fits (Log n t) reply.Noted = true
fits (Finish e m commit) reply.Finished = true
fits (Finish e m commit) reply.CommitFailed = commit
fits _ _ = false

-- a request that a lane, a processor, a predicate or a source's commit answers
abbrev pub is_outside : Request → Bool
is_outside (Send t m) = true
is_outside (Process n m) = true
is_outside (Test n m) = true
is_outside (Finish e m commit) = commit
is_outside _ = false

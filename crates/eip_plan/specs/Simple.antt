-- Journals in which nothing is answered but requests whose answers the tables know: by now each request is one.
use Rattle.std.specs.Prelude.{[], ◌∷◌}
use Rattle.eip_frames.specs.declared.request.Request.{Request}
use Rattle.eip_frames.specs.declared.request.Request.TheVariants as request
use Rattle.eip_frames.specs.declared.answer.Answer.{Answer as Reply}
use Rattle.eip_frames.specs.declared.answer.Answer.TheVariants as reply
use Rattle.eip_ledger.specs.declared.entry.Kind.{Kind}
use Rattle.eip_ledger.specs.declared.entry.Kind.TheVariants.{Answer}
use Rattle.eip_history.specs.Own.{Past}

-- a request whose answers the tables know
abbrev pub IsSimple : Request → Type 0
IsSimple (request.Send t m) = Unit {0}
IsSimple (request.Process n m) = Unit {0}
IsSimple (request.Test n m) = Unit {0}
IsSimple (request.Offer q discard m) = Unit {0}
IsSimple (request.Call r) = Unit {0}
IsSimple (request.Spawn seeds) = Unit {0}
IsSimple (request.Join first count) = Unit {0}
IsSimple (request.Arrive a key m) = Unit {0}
IsSimple (request.Idem r k eager remove) = Unit {0}
IsSimple (request.Wait t) = Unit {0}
IsSimple (request.Log n t) = Unit {0}
IsSimple (request.Finish e m commit) = Unit {0}

-- an answer to such a request
abbrev pub IsSimpleAnswer : Reply → Type 0
IsSimpleAnswer reply.Done = Unit {0}
IsSimpleAnswer reply.SendFailed = Unit {0}
IsSimpleAnswer reply.Exists = Unit {0}
IsSimpleAnswer (reply.Became m) = Unit {0}
IsSimpleAnswer (reply.Raised f) = Unit {0}
IsSimpleAnswer (reply.Holds b) = Unit {0}
IsSimpleAnswer (reply.Queued n) = Unit {0}
IsSimpleAnswer (reply.Full l) = Unit {0}
IsSimpleAnswer reply.Dropped = Unit {0}
IsSimpleAnswer reply.Entered = Unit {0}
IsSimpleAnswer (reply.Born first count) = Unit {0}
IsSimpleAnswer (reply.Joined parts) = Unit {0}
IsSimpleAnswer (reply.Arrived g) = Unit {0}
IsSimpleAnswer (reply.Closed g c n) = Unit {0}
IsSimpleAnswer (reply.Unfit f) = Unit {0}
IsSimpleAnswer reply.Fresh = Unit {0}
IsSimpleAnswer (reply.Duplicate h) = Unit {0}
IsSimpleAnswer (reply.Slept d) = Unit {0}
IsSimpleAnswer reply.Noted = Unit {0}
IsSimpleAnswer reply.Finished = Unit {0}
IsSimpleAnswer reply.CommitFailed = Unit {0}

-- an entry that answers such a request, or none
abbrev pub IsSimpleEntry : Kind → Type 0
IsSimpleEntry (Answer x a) = IsSimpleAnswer a
IsSimpleEntry _ = Unit {0}

-- each answer of a past is one to such a request
abbrev pub AnswersSimply : Past → Type 0
AnswersSimply [] = Unit {0}
AnswersSimply (e ∷ past) = AnswersSimply past × IsSimpleEntry e.kind

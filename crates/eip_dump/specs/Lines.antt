-- The lines of a dump: each entry of a journal in one line. Fields are separated by one space, and texts are quoted.
use Rattle.std.specs.Prelude.{ℕ, Bool, true, false, List, [], ◌∷◌, ◌++◌, length, codes, decimal}
use Rattle.std.specs.List.{flat_map}
use Rattle.eip_text.specs.Escapes.{quoted}
use Rattle.eip_exchange.specs.Pairs.{Pairs}
use Rattle.eip_exchange.specs.declared.message.Message.{Message}
use Rattle.eip_exchange.specs.declared.end.End.{End}
use Rattle.eip_exchange.specs.declared.end.End.TheVariants as end
use Rattle.eip_exchange.specs.declared.end.Ended.{Ended}
use Rattle.eip_exchange.specs.declared.end.Fault.{Fault}
use Rattle.eip_frames.specs.declared.answer.Answer.{Answer as Reply}
use Rattle.eip_frames.specs.declared.answer.Answer.TheVariants as reply
use Rattle.eip_frames.specs.declared.answer.Completion.{Completion}
use Rattle.eip_frames.specs.declared.answer.Completion.TheVariants as completion
use Rattle.eip_ledger.specs.declared.entry.Entry.{Entry}
use Rattle.eip_ledger.specs.declared.entry.Kind.{Kind}
use Rattle.eip_ledger.specs.declared.entry.Kind.TheVariants as kind
use Rattle.eip_ledger.specs.declared.entry.Refused.{Refused}
use Rattle.eip_ledger.specs.declared.entry.Refused.TheVariants as refused

-- ---- fields, each with the space in front of it

abbrev pub number : ℕ → List ℕ
number n = 32 ∷ decimal n

abbrev pub phrase : List ℕ → List ℕ
phrase t = 32 ∷ quoted t

abbrev pub pair_text : List ℕ × List ℕ → List ℕ
pair_text p = phrase p.0 ++ phrase p.1

-- how many there are, then each name with its value
abbrev pub pairs_text : Pairs → List ℕ
pairs_text ps = number (length ps) ++ flat_map pair_text ps

-- the body, the headers and the properties
abbrev pub message_text : Message → List ℕ
message_text m = phrase m.body ++ (pairs_text m.headers ++ pairs_text m.properties)

abbrev pub fault_text : Fault → List ℕ
fault_text f = phrase f.kind ++ phrase f.text

abbrev pub end_text : End → List ℕ
end_text end.Completed = codes " completed"
end_text end.Handled = codes " handled"
end_text (end.Failed f) = codes " failed" ++ fault_text f

abbrev pub ended_text : Ended → List ℕ
ended_text e = end_text e.end ++ message_text e.message

abbrev pub cause_text : Completion → List ℕ
cause_text completion.Size = codes " size"
cause_text completion.Predicate = codes " predicate"
cause_text completion.Timeout = codes " timeout"
cause_text completion.Force = codes " force"

abbrev pub refused_text : Refused → List ℕ
refused_text refused.NotText = codes " NotText"
refused_text refused.TooLong = codes " TooLong"

-- ---- answers

abbrev pub truth_word : Bool → List ℕ
truth_word true = codes " true"
truth_word false = codes " false"

abbrev pub answer_word : Reply → List ℕ
answer_word reply.Done = codes " done"
answer_word reply.SendFailed = codes " failed"
answer_word reply.Exists = codes " exists"
answer_word (reply.Became m) = codes " became"
answer_word (reply.Raised f) = codes " raised"
answer_word (reply.Holds t) = truth_word t
answer_word (reply.Queued n) = codes " queued"
answer_word (reply.Full n) = codes " full"
answer_word reply.Dropped = codes " dropped"
answer_word reply.Entered = codes " entered"
answer_word (reply.Born first count) = codes " born"
answer_word (reply.Joined parts) = codes " joined"
answer_word (reply.Arrived g) = codes " arrived"
answer_word (reply.Closed g cause n) = codes " closed"
answer_word (reply.Unfit f) = codes " unfit"
answer_word reply.Fresh = codes " fresh"
answer_word (reply.Duplicate n) = codes " duplicate"
answer_word (reply.Slept d) = codes " slept"
answer_word reply.Noted = codes " noted"
answer_word reply.Finished = codes " finished"
answer_word reply.CommitFailed = codes " uncommitted"

abbrev pub answer_fields : Reply → List ℕ
answer_fields (reply.Became m) = message_text m
answer_fields (reply.Raised f) = fault_text f
answer_fields (reply.Queued n) = number n
answer_fields (reply.Full n) = number n
answer_fields (reply.Born first count) = number first ++ number count
answer_fields (reply.Joined parts) = number (length parts) ++ flat_map ended_text parts
answer_fields (reply.Arrived g) = number g
answer_fields (reply.Closed g cause n) = number g ++ (cause_text cause ++ number n)
answer_fields (reply.Unfit f) = fault_text f
answer_fields (reply.Duplicate n) = number n
answer_fields (reply.Slept d) = number d
answer_fields _ = []

abbrev pub answer_text : Reply → List ℕ
answer_text a = answer_word a ++ answer_fields a

-- ---- kinds of entries

abbrev pub kind_word : Kind → List ℕ
kind_word (kind.Pull s) = codes " pull"
kind_word (kind.Accept s item m) = codes " accept"
kind_word (kind.Refuse s item cause) = codes " refuse"
kind_word (kind.SourceEnd s) = codes " end"
kind_word (kind.SourceFault s) = codes " fault"
kind_word (kind.Start q x) = codes " start"
kind_word (kind.Take x) = codes " take"
kind_word (kind.Answer x a) = codes " answer"
kind_word (kind.Tick t) = codes " tick"
kind_word kind.Force = codes " force"
kind_word (kind.Starve x) = codes " starve"
kind_word (kind.Return x) = codes " return"

abbrev pub kind_fields : Kind → List ℕ
kind_fields (kind.Pull s) = number s
kind_fields (kind.Accept s item m) = number s ++ (phrase item ++ message_text m)
kind_fields (kind.Refuse s item cause) = number s ++ (phrase item ++ refused_text cause)
kind_fields (kind.SourceEnd s) = number s
kind_fields (kind.SourceFault s) = number s
kind_fields (kind.Start q x) = number q ++ number x
kind_fields (kind.Take x) = number x
kind_fields (kind.Answer x a) = number x ++ answer_text a
kind_fields (kind.Tick t) = number t
kind_fields kind.Force = []
kind_fields (kind.Starve x) = number x
kind_fields (kind.Return x) = number x

-- the worker, what the entry says, and LF
unfoldable pub entry_text : Entry → List ℕ
entry_text e = decimal e.worker ++ (kind_word e.kind ++ (kind_fields e.kind ++ 10 ∷ []))

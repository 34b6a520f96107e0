-- What the log and the book see of a history.
use Rattle.std.specs.Prelude.{ℕ, Bool, true, false, List, [], ◌∷◌, ◌++◌, Option, Some, None, length, filter_map, map}
use Rattle.eip_exchange.specs.declared.end.End.TheVariants as end
use Rattle.eip_exchange.specs.declared.birth.Birth.{Birth}
use Rattle.eip_exchange.specs.declared.birth.Origin.{Origin}
use Rattle.eip_frames.specs.declared.answer.Answer.{Answer as Reply}
use Rattle.eip_frames.specs.declared.answer.Answer.TheVariants as reply
use Rattle.eip_frames.specs.declared.request.Request.{Request}
use Rattle.eip_frames.specs.declared.request.Request.TheVariants.{Log}
use Rattle.eip_ledger.specs.declared.entry.Kind.{Kind}
use Rattle.eip_ledger.specs.declared.entry.Kind.TheVariants.{Refuse}
use Rattle.eip_ledger.specs.declared.entry.Refused.{Refused}
use Rattle.eip_ledger.specs.declared.place.Note.{Note}
use Rattle.eip_ledger.specs.declared.place.Place.{Place}
use Rattle.eip_ledger.specs.declared.place.Place.TheVariants as place_is
use Rattle.eip_history.specs.Plan.{Plan}
use Rattle.eip_history.specs.Own.{Past}
use Rattle.eip_history.specs.Groups.{Group}
use Rattle.eip_history.specs.Births.{births}
use Rattle.eip_history.specs.Place.{place_of}
use Rattle.eip_history.specs.Stop.{open_groups}
use Rattle.eip_history.specs.Rules.{Served, served}

-- a Noted answer to a Log is a line
abbrev pub note_for : ℕ → Request → Reply → Option Note
note_for x (Log n t) reply.Noted = Some (record { number = x; name = n; text = t })
note_for x _ _ = None

-- the lines of the log, in order
abbrev pub notes : Plan → Past → List Note
notes s past = filter_map (λ (v : Served). note_for v.asked.birth.number v.asked.request v.answer) (served s past)

-- the book, as lines of data that the text of a line is a function of
pub data Line : Type 0 where
  OfExchange : ℕ → Origin → Place → Line
  OfRefusal : ℕ → List ℕ → Refused → Line
  OfGroup : ℕ → ℕ → List ℕ → Line
  OfCounts : ℕ → ℕ → Line
  OfTotals : ℕ → ℕ → ℕ → ℕ → ℕ → Line

-- a refused item is a line of the book
abbrev pub refusal_in : Kind → List Line
refusal_in (Refuse t item c) = OfRefusal t item c ∷ []
refusal_in _ = []

-- the refused items, in order
unfoldable pub refusals : Past → List Line
refusals [] = []
refusals (e ∷ past) = refusals past ++ refusal_in e.kind

-- an open group is a line of the book
abbrev pub group_line : Group → Line
group_line g = OfGroup g.number (length g.parts) g.key

-- did its route run to the end
abbrev pub is_completed : Place → Bool
is_completed (place_is.Ended end.Completed) = true
is_completed _ = false

-- did a handler take its fault
abbrev pub is_handled : Place → Bool
is_handled (place_is.Ended end.Handled) = true
is_handled _ = false

-- each exchange is a line of the book
abbrev pub exchange_lines : Plan → Past → List Line
exchange_lines s past = map (λ (b : Birth). OfExchange b.number b.origin (place_of s past b)) (births s past)

-- the lines of the book before its counts
unfoldable pub book_lines : Plan → Past → List Line
book_lines s past = exchange_lines s past ++ (refusals past ++ map group_line (open_groups s past))

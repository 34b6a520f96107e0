-- What an auditor keeps of the entries that it has judged, and what it finds of one more.
use Rattle.std.specs.Prelude.{ℕ, ◌≡◌, Bool, true, false, List, [], ◌∷◌, Option, Some, None, slice_get, unwrap_or}
use Rattle.eip_frames.specs.declared.answer.Answer.{Answer as Reply}
use Rattle.eip_ledger.specs.declared.entry.Entry.{Entry}
use Rattle.eip_ledger.specs.declared.entry.Kind.{Kind}
use Rattle.eip_ledger.specs.declared.entry.Kind.TheVariants.{Answer}
use Rattle.eip_ledger.specs.declared.place.Place.TheVariants.{InHand}
use Rattle.eip_ordered.specs.Numbered.{value_at}
use Rattle.eip_history.specs.Plan.{Plan}
use Rattle.eip_history.specs.Own.{Past}
use Rattle.eip_history.specs.Place.{place}
use Rattle.eip_history.specs.Rules.{May}
use Rattle.eip_tables.specs.declared.row.SourceState.{SourceState}
use Rattle.eip_tables.specs.declared.row.SourceState.TheVariants.{Unused}
use Rattle.eip_tables.specs.Outside.{IsAsked}
use Rattle.eip_tables.specs.Rows.{SourcesStand}
use Rattle.eip_verdict.specs.Same.{same_reply}
use Rattle.eip_verdict.specs.Verdicts.{Keeps}
use Rattle.eip_hub.specs.Ticket.{Ticket}
use Rattle.eip_hub.specs.View.{plan, IsLegalRun, Adds}
use Rattle.eip_audit.specs.declared.auditor.Auditor.{Auditor}

-- the ticket of an exchange in hand is kept, and of no other
abbrev pub HandTold : Plan → Past → ℕ → Option Ticket → Type 0
HandTold s past x (Some t) = (t.number ≡ x) × (place s past x ≡ Some (InHand t.worker)) × IsAsked s past x t.request
HandTold s past x None = (w : ℕ) → place s past x ≡ Some (InHand w) → ⊥

abbrev pub HandsStand : Plan → Past → List (ℕ × Ticket) → Type 0
HandsStand s past tickets = (x : ℕ) → HandTold s past x (value_at tickets x)

-- the entries judged so far are legal, and the states of the sources and the tickets are those of their past
pub record Holds (a : Auditor) : Type 0 where
  pub legal : IsLegalRun a.books
  pub sources : SourcesStand (plan a.books) a.books.journal.past a.sources.items
  pub hands : HandsStand (plan a.books) a.books.journal.past a.hands.entries

-- the entry is entered, and all entries of the books are legal
pub record Enters (old new : Auditor) (w : ℕ) (k : Kind) : Type 0 where
  pub adds : Adds old.books new.books w k
  pub holds : Holds new

-- an entry of one of the workers is entered where it keeps its rule; else it breaks it
abbrev pub Judges : Auditor → Auditor → ℕ → Kind → Bool → Type 0
Judges old new w k true = Enters old new w k
Judges old new w k false = May (plan old.books) old.books.journal.turns old.books.journal.past w k → ⊥

-- an entry keeps its rule behind those judged before
abbrev pub KeepsHere : Auditor → Entry → Type 0
KeepsHere a e = Keeps (plan a.books) a.books.journal.workers a.books.journal.turns a.books.journal.past e

-- an entry is entered where it keeps its rule; else it breaks it
abbrev pub JudgesEntry : Auditor → Auditor → Entry → Bool → Type 0
JudgesEntry old new e true = Enters old new e.worker e.kind
JudgesEntry old new e false = KeepsHere old e → ⊥

-- the state of a route's source; a route that isn't there has none
abbrev pub state_at : List SourceState → ℕ → SourceState
state_at states r = unwrap_or (slice_get states r) Unused

-- is it an answer, and this one
abbrev pub answers_so : Reply → Kind → Bool
answers_so a (Answer x b) = same_reply b a
answers_so a _ = false

-- is the newest entry this answer
abbrev pub is_answered : Reply → Past → Bool
is_answered a [] = false
is_answered a (e ∷ past) = answers_so a e.kind

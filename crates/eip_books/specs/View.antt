-- What contracts see of the books, and what a call does to them.
use Rattle.std.specs.Prelude.{ℕ, ◌≡◌, ◌-◌, ◌∷◌, List, Option, Some, slice_get}
use Rattle.eip_route.specs.declared.route.RouteSet.{RouteSet}
use Rattle.eip_frames.specs.declared.request.Request.{Request}
use Rattle.eip_frames.specs.declared.answer.Answer.{Answer as Reply}
use Rattle.eip_ledger.specs.declared.entry.Kind.{Kind}
use Rattle.eip_ledger.specs.declared.entry.Kind.TheVariants.{Start, Answer}
use Rattle.eip_ledger.specs.View.{JournalView}
use Rattle.eip_history.specs.Plan.{Plan}
use Rattle.eip_history.specs.Rules.{May, IsLegal, first, startable}
use Rattle.eip_plan.specs.Plan.{plan_of}

-- the set, the journal, how many hands need no memory, what each exchange is known to ask, by number,
-- and the numbers of those that are known to ask somebody outside, the least first
pub record BooksView : Type 0 where
  pub set : RouteSet
  pub journal : JournalView
  pub room : ℕ
  pub known : List (Option Request)
  pub outside : List ℕ

-- the plan that the journal is read by
abbrev pub plan : BooksView → Plan
plan v = plan_of v.set

-- the journal is a legal history of the set
abbrev pub IsLegalRun : BooksView → Type 0
IsLegalRun v = IsLegal (plan v) v.journal.workers v.journal.turns v.journal.past

-- the same set and limits stand behind a call
pub record IsSameRun (old new : BooksView) : Type 0 where
  pub set : new.set ≡ old.set
  pub workers : new.journal.workers ≡ old.journal.workers
  pub turns : new.journal.turns ≡ old.journal.turns

-- a call made exactly this entry
pub record Adds (old new : BooksView) (w : ℕ) (k : Kind) : Type 0 where
  pub same : IsSameRun old new
  pub past : new.journal.past ≡ (record { worker = w; kind = k }) ∷ old.journal.past

-- a call made no entry
pub record AddsNone (old new : BooksView) : Type 0 where
  pub same : IsSameRun old new
  pub past : new.journal.past ≡ old.journal.past

-- a call made exactly one entry, an answer of this exchange
abbrev pub AddsAnswer : BooksView → BooksView → ℕ → ℕ → Type 0
AddsAnswer old new w x = (a : Reply) × Adds old new w (Answer x a)

-- a call made exactly one entry: the first exchange of the first startable queue leaves it
pub record StartsFirst (old new : BooksView) (w x : ℕ) : Type 0 where
  pub queue : ℕ
  pub is_first : first (startable (plan old) old.journal.past) ≡ Some queue
  pub may : May (plan old) old.journal.turns old.journal.past w (Start queue x)
  pub adds : Adds old new w (Start queue x)

-- what an exchange asks is known
abbrev pub IsKnown : List (Option Request) → ℕ → Type 0
IsKnown known x = (q : Request) × (slice_get known (x - 1) ≡ Some (Some q))

-- the books are as before, but for the memory that they hold
pub record IsSame (old new : BooksView) : Type 0 where
  pub none : AddsNone old new
  pub room : new.room ≡ old.room
  pub known : new.known ≡ old.known
  pub outside : new.outside ≡ old.outside

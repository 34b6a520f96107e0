-- What a look at an exchange does: its cursor is given what it has not been given yet.
use Rattle.std.specs.Prelude.{ℕ, ◌≡◌, List, [], ◌∷◌, ◌++◌, Option, Some, None, slice_get, option_map}
use Rattle.eip_exchange.specs.declared.birth.Birth.{Birth}
use Rattle.eip_route.specs.declared.route.RouteSet.{RouteSet}
use Rattle.eip_frames.specs.declared.request.At.{At}
use Rattle.eip_frames.specs.declared.request.Request.{Request}
use Rattle.eip_frames.specs.declared.answer.Answer.{Answer as Reply}
use Rattle.eip_frames.specs.Fate.{Fate, AsksNext}
use Rattle.eip_ledger.specs.declared.entry.Entry.{Entry}
use Rattle.eip_ledger.specs.declared.entry.Kind.{Kind}
use Rattle.eip_ledger.specs.declared.entry.Kind.TheVariants.{Accept}
use Rattle.eip_meaning.specs.Meaning.{mean}
use Rattle.eip_progress.specs.declared.cursor.Cursor.{Cursor}
use Rattle.eip_progress.specs.Rest.{rest, IsFirst, AnswerFits}
use Rattle.eip_history.specs.Births.{item_birth}
use Rattle.eip_history.specs.Place.{end_of}
use Rattle.eip_plan.specs.Plan.{plan_of}
use Rattle.eip_tables.specs.declared.row.Born.{Born}
use Rattle.eip_tables.specs.declared.row.Born.TheVariants as born
use Rattle.eip_tables.specs.Row.{Row}
use Rattle.eip_tables.specs.Moves.{begun}
use Rattle.eip_tables.specs.Groups.{completed}

-- a cursor that may be given this answer, and goes on behind it
pub record CanTake (set : RouteSet) (a : Reply) (c : Cursor) : Type 0 where
  pub later : IsFirst c → ⊥
  pub fitting : AnswerFits (rest set c []) a
  pub lives : end_of (rest set c (a ∷ [])) ≡ None

-- a cursor that asks this, and gives on every list what these answers and the list gave of the fate before
pub record Stepped (set : RouteSet) (before : List Reply → Fate) (given : List Reply) (now : Cursor) (q : Request) : Type 0 where
  pub later : IsFirst now → ⊥
  pub rests : (A : List Reply) → rest set now A ≡ before (given ++ A)
  pub at : At
  pub asks : rest set now [] ≡ AsksNext q at

-- a row whose cursor may be given this answer
pub record HasCursor (set : RouteSet) (a : Reply) (r : Row) : Type 0 where
  pub cursor : Cursor
  pub has : r.cursor ≡ Some cursor
  pub can : CanTake set a cursor

-- the row with the cursor behind the answer
pub record LookedAt (set : RouteSet) (a : Reply) (old new : Row) : Type 0 where
  pub was : Cursor
  pub had : old.cursor ≡ Some was
  pub now : Cursor
  pub request : Request
  pub row : new ≡ begun now request old
  pub stepped : Stepped set (rest set was) (a ∷ []) now request

-- the birth of the exchange with this number, by what made it: an accepted item, or the birth that its row keeps
abbrev pub birth_at : RouteSet → ℕ → Kind → Option Birth
birth_at set number (Accept source item m) = Some (item_birth (plan_of set) number source item m)
birth_at set number _ = None

abbrev pub birth_in : RouteSet → ℕ → Option Entry → Option Birth
birth_in set number (Some e) = birth_at set number e.kind
birth_in set number None = None

abbrev pub birth_by : RouteSet → List Entry → ℕ → Born → Option Birth → Option Birth
birth_by set entries number (born.Item i) kept = birth_in set number (slice_get entries i)
birth_by set entries number (born.Copy q) kept = kept
birth_by set entries number (born.Part parent index) kept = kept
birth_by set entries number (born.Group group cause) kept = option_map (completed cause) kept

abbrev pub birth_of : RouteSet → List Entry → ℕ → Row → Option Birth
birth_of set entries number r = birth_by set entries number r.born r.birth

-- the first cursor of the exchange with this number and row, with what it asks
pub record FirstLook (set : RouteSet) (entries : List Entry) (number : ℕ) (r : Row) (c : Cursor) (q : Request) : Type 0 where
  pub birth : Birth
  pub made : birth_of set entries number r ≡ Some birth
  pub stepped : Stepped set (mean set birth) [] c q

-- the row of the exchange with this number behind its first look
pub record FirstSeen (set : RouteSet) (entries : List Entry) (number : ℕ) (old new : Row) : Type 0 where
  pub cursor : Cursor
  pub request : Request
  pub row : new ≡ begun cursor request old
  pub looked : FirstLook set entries number old cursor request

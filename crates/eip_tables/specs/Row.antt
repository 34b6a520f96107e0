-- What is known of one exchange, however its row keeps it.
use Rattle.std.specs.Prelude.{◌≡◌, Bool, true, false, Option, None}
use Rattle.eip_exchange.specs.declared.birth.Birth.{Birth}
use Rattle.eip_exchange.specs.declared.end.Fault.{Fault}
use Rattle.eip_frames.specs.declared.request.Request.{Request}
use Rattle.eip_progress.specs.declared.cursor.Cursor.{Cursor}
use Rattle.eip_tables.specs.declared.row.Born.{Born}
use Rattle.eip_tables.specs.declared.row.Stage.{Stage}
use Rattle.eip_tables.specs.declared.live.Live.{Live}
use Rattle.eip_tables.specs.declared.live.Kept.{Kept}
use Rattle.eip_tables.specs.declared.live.Kept.TheVariants as kept

pub record Row : Type 0 where
  pub born : Born
  pub stage : Stage
  -- what a copy, a part or a closed group's exchange was born as, until it has ended
  pub birth : Option Birth
  -- its cursor, from the first look until it has ended
  pub cursor : Option Cursor
  -- what it asks, while it asks
  pub request : Option Request
  -- what it failed with, and while a part lives, what it would fail with if it were starved
  pub fault : Option Fault

-- ---- what a row keeps, apart

abbrev pub kept_birth : Kept → Option Birth
kept_birth (kept.Live l) = l.birth
kept_birth _ = None

abbrev pub kept_cursor : Kept → Option Cursor
kept_cursor (kept.Live l) = l.cursor
kept_cursor _ = None

abbrev pub kept_request : Kept → Option Request
kept_request (kept.Live l) = l.request
kept_request _ = None

abbrev pub kept_fault : Kept → Option Fault
kept_fault (kept.Live l) = l.fault
kept_fault (kept.Failed f) = f
kept_fault kept.Nothing = None

-- what was kept before room was taken, which is k now
abbrev pub WasKept : (own : Bool) → Live → (old k : Kept) → Type 0
WasKept true l old k = (l.cursor ≡ kept_cursor old) × (l.request ≡ kept_request old)
WasKept false l old k = (kept_birth k ≡ kept_birth old) × (kept_cursor k ≡ kept_cursor old) × (kept_request k ≡ kept_request old) × (kept_fault k ≡ kept_fault old)

abbrev pub row_of : Born → Stage → Kept → Row
row_of born stage k = record { born = born; stage = stage; birth = kept_birth k; cursor = kept_cursor k; request = kept_request k; fault = kept_fault k }

-- a row with what a live exchange has
abbrev pub with_live : Live → Row → Row
with_live l r = record r { birth = l.birth; cursor = l.cursor; request = l.request; fault = l.fault }

-- the row before room was taken from it, which is r now
abbrev pub WasRow : (own : Bool) → Live → (old r : Row) → Type 0
WasRow true l old r = old ≡ with_live l r
WasRow false l old r = old ≡ r

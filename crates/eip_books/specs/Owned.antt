-- What one of several workers may take and pull.
use Rattle.std.specs.Prelude.{ℕ, ◌≡◌, ◌≤◌, ◌<◌, ◌&&◌, Bool, length}
use Rattle.eip_history.specs.Births.{births, asked}
use Rattle.eip_history.specs.Owner.{owner}
use Rattle.eip_outlets.specs.Outlets.{outlets, is_owned}
use Rattle.eip_tables.specs.Outside.{is_among}
use Rattle.eip_tables.specs.Rows.{IsIdleSource}
use Rattle.eip_books.specs.View.{BooksView, plan}

-- an exchange has this number
abbrev pub IsNumber : BooksView → ℕ → Type 0
IsNumber v x = (0 < x) × (x ≤ length (births (plan v) v.journal.past))

-- does an exchange ask a lane or an inlet of worker w, or nobody's
abbrev pub is_for : BooksView → (w x : ℕ) → Bool
is_for v w x = is_owned v.set v.journal.workers w (asked (plan v) v.journal.past x)

-- is an exchange known as Outside, and may worker w take it
abbrev pub is_takeable : BooksView → (w x : ℕ) → Bool
is_takeable v w x = is_among x v.outside && is_for v w x

-- the source of the route may be pulled but for the limit, and its inlet is worker w's
pub record IsOwnedSource (v : BooksView) (w t : ℕ) : Type 0 where
  pub idle : IsIdleSource (plan v) v.journal.past t
  pub own : w ≡ owner v.journal.workers ((outlets v.set).inlet t)

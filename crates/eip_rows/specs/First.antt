-- What a look at an exchange needs, and what it does to what a live exchange has.
use Rattle.std.specs.Prelude.{ℕ, ◌≡◌, List, [], ◌∷◌, Option, Some, None}
use Rattle.eip_exchange.specs.declared.message.Message.{Message}
use Rattle.eip_exchange.specs.declared.birth.Birth.{Birth}
use Rattle.eip_route.specs.declared.route.RouteSet.{RouteSet}
use Rattle.eip_ledger.specs.declared.entry.Entry.{Entry}
use Rattle.eip_history.specs.Place.{end_of}
use Rattle.eip_meaning.specs.Meaning.{mean}
use Rattle.eip_frames.specs.declared.answer.Answer.{Answer as Reply}
use Rattle.eip_frames.specs.declared.request.Request.{Request}
use Rattle.eip_progress.specs.declared.cursor.Cursor.{Cursor}
use Rattle.eip_progress.specs.Rest.{rest}
use Rattle.eip_tables.specs.declared.live.Live.{Live}
use Rattle.eip_tables.specs.Look.{birth_of, CanTake, Stepped}
use Rattle.eip_tables.specs.Row.{Row}

-- the exchange with this number and row has a birth, which has not ended before its first request
pub record CanBegin (set : RouteSet) (entries : List Entry) (number : ℕ) (r : Row) : Type 0 where
  pub birth : Birth
  pub made : birth_of set entries number r ≡ Some birth
  pub lives : end_of (mean set birth []) ≡ None

-- a live exchange whose cursor may be given this answer
pub record MayStep (set : RouteSet) (a : Reply) (l : Live) : Type 0 where
  pub cursor : Cursor
  pub has : l.cursor ≡ Some cursor
  pub can : CanTake set a cursor

-- the same exchange with its cursor behind the answer
pub record SteppedOn (set : RouteSet) (a : Reply) (old new : Live) : Type 0 where
  pub was : Cursor
  pub had : old.cursor ≡ Some was
  pub now : Cursor
  pub request : Request
  pub live : new ≡ record old { cursor = Some now; request = Some request }
  pub stepped : Stepped set (rest set was) (a ∷ []) now request

-- the exchange has this birth, which has not ended before its first request
pub record MayBegin (set : RouteSet) (b : Option Birth) : Type 0 where
  pub birth : Birth
  pub made : b ≡ Some birth
  pub lives : end_of (mean set birth []) ≡ None

-- the exchange of this birth has its first cursor, which asks
pub record BegunOn (set : RouteSet) (b : Option Birth) (old new : Live) : Type 0 where
  pub birth : Birth
  pub made : b ≡ Some birth
  pub cursor : Cursor
  pub request : Request
  pub live : new ≡ record old { cursor = Some cursor; request = Some request }
  pub stepped : Stepped set (mean set birth) [] cursor request

-- a birth with another message
abbrev pub with_message : Message → Option Birth → Option Birth
with_message m None = None
with_message m (Some b) = Some (record b { message = m })

-- What is true of the fields of the books: the tables stand for the history, and there is the room that was promised.
use Rattle.std.specs.Prelude.{◌+◌, ◌*◌, ◌≤◌, length}
use Rattle.eip_books.specs.declared.books.Books.TheInside.{Inside}
use Rattle.eip_tables.specs.Stands.{Tables, Stands}

abbrev pub tables_of : Inside → Tables
tables_of a = record { rows = a.rows.items; ready = a.ready.numbers; sources = a.sources; turns = a.turns; fault = a.fault; notes = a.notes.items; taken = a.taken; pulled = a.pulled; live = a.live; queues = a.queues; joins = a.joins; clock = a.clock; sleepers = a.sleepers; groups = a.groups; keys = a.keys }

pub record BooksFacts (a : Inside) : Type 0 where
  pub stands : Stands a.set a.journal.workers a.journal.turns a.journal.past (tables_of a)
  pub few : length a.set.routes ≤ 256
  pub room_small : a.room ≤ 1
  -- a hand needs an entry for itself and one for its end
  pub room_journal : 2 * a.room + (a.pulled + a.taken) ≤ a.journal.spare
  -- a pull may make an exchange
  pub room_rows : a.room + a.pulled ≤ a.rows.spare
  -- a pull, a take or the end of a part in hand may make an exchange ready
  pub room_ready : a.room + (a.pulled + a.taken) ≤ a.ready.spare

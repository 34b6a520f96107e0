-- What contracts read of a turnstile and its seats.
use Rattle.std.specs.Prelude.{ℕ}
use Rattle.atomic_table.specs.Seated.{TableId}
use Rattle.eip_turnstile.specs.declared.view.View.{View}
use Rattle.eip_turnstile.specs.declared.seat.Turnstile.{Turnstile}
use Rattle.eip_turnstile.specs.declared.seat.Seat.{Seat}
use Rattle.eip_turnstile.specs.declared.seat.Held.{Held}

module _ {X E B : Type 0} where
  -- which turnstile it is
  abbrev pub lock_id : Turnstile X E B → TableId
  lock_id t = t.table.shared.table_id

  -- how many seats it may have, the first one among them
  abbrev pub seat_limit : Turnstile X E B → ℕ
  seat_limit t = t.seats

  -- the turnstile that a seat is of
  abbrev pub lock_of : {g : _} → Seat X E B g → TableId
  lock_of s = s.place.table_id

  -- the same of a seat that has the turn
  abbrev pub lock_held : {g : _} → Held X E B g → TableId
  lock_held s = s.place.table_id

  -- what a seat knows
  abbrev pub knows : {g : _} → Seat X E B g → View E B
  knows s = s.place.me.0

  -- the same of a seat that has the turn
  abbrev pub held_knows : {g : _} → Held X E B g → View E B
  held_knows s = s.place.me.0

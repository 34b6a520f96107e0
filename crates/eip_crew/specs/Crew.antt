-- The seats of a crew: made by a first seat, and taken in by it.
use Rattle.std.specs.Prelude.{ℕ, ◌≡◌, ◌+◌, List, [], ◌++◌, Option, Some, None}
use Rattle.atomic_table.specs.Seated.{TableId}
use Rattle.eip_turnstile.specs.Seats.{lock_of, knows}
use Rattle.eip_turnstile.specs.declared.seat.Seat.{Seat}

module _ {X E B : Type 0} {g : _} where
  -- a seat that s made, under this number; it has made no entry
  abbrev pub IsNew : Seat X E B g → ℕ → Option (Seat X E B g) → Type 0
  IsNew s n (Some t) = (lock_of t ≡ lock_of s) × ((knows t).number ≡ n) × ((knows t).seen ≡ (knows s).seen) × ((knows t).mine ≡ [])
      × ((knows t).base ≡ (knows s).base) × ((knows t).olds ≡ [])
  IsNew s n None = ⊥

  -- t is s behind the making of n seats
  abbrev pub Splits : ℕ → Seat X E B g → Seat X E B g → Type 0
  Splits n s t = (lock_of t ≡ lock_of s) × ((knows t).number ≡ (knows s).number) × ((knows t).seen ≡ (knows s).seen) × ((knows t).mine ≡ (knows s).mine)
      × ((knows t).base ≡ (knows s).base) × ((knows t).made ≡ (knows s).made + n) × ((knows t).olds ≡ (knows s).olds)

  -- a seat of this turnstile that has taken in no other
  abbrev pub Mans : TableId → Option (Seat X E B g) → Type 0
  Mans id (Some s) = (lock_of s ≡ id) × ((knows s).olds ≡ [])
  Mans id None = ⊥

  -- the number of a seat, and its entries
  abbrev pub own_of : Option (Seat X E B g) → ℕ × List E
  own_of (Some s) = ((knows s).number, (knows s).mine)
  own_of None = (0, [])

  -- t is s behind the taking in of seats with these numbers and entries
  abbrev pub Gathers : List (ℕ × List E) → Seat X E B g → Seat X E B g → Type 0
  Gathers xs s t = (lock_of t ≡ lock_of s) × ((knows t).number ≡ (knows s).number) × ((knows t).mine ≡ (knows s).mine)
      × ((knows t).base ≡ (knows s).base) × ((knows t).made ≡ (knows s).made) × ((knows t).olds ≡ xs ++ (knows s).olds)

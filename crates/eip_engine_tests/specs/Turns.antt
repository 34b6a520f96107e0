-- What turns leave of a seat.
use Rattle.std.specs.Prelude.{◌≡◌, [], Option, Some, None}
use Rattle.atomic_table.specs.Seated.{TableId}
use Rattle.eip_turnstile.specs.declared.seat.Seat.{Seat}
use Rattle.eip_turnstile.specs.Seats.{lock_of, knows}

-- a seat of the same turnstile and number, which took in and made the same
abbrev pub Stays : {X E B : Type 0} {g : _} → Seat X E B g → Seat X E B g → Type 0
Stays s t = (lock_of t ≡ lock_of s) × ((knows t).number ≡ (knows s).number) × ((knows t).made ≡ (knows s).made) × ((knows t).olds ≡ (knows s).olds)

-- the same of a worker's seat, which is in its place again
abbrev pub StaysIn : {X E B : Type 0} {g : _} → Option (Seat X E B g) → Option (Seat X E B g) → Type 0
StaysIn (Some s) (Some t) = Stays s t
StaysIn (Some s) None = ⊥
StaysIn None (Some t) = ⊥
StaysIn None None = Unit {0}

-- the worker has a seat of this turnstile, which took in no other
abbrev pub IsAlone : {X E B : Type 0} {g : _} → TableId → Option (Seat X E B g) → Type 0
IsAlone id (Some s) = (lock_of s ≡ id) × ((knows s).olds ≡ [])
IsAlone id None = ⊥

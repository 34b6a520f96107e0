-- What `Held::value` lends.
use Rattle.std.specs.Borrow.{Lends, MutBor, Fml, RattleType}
use Rattle.eip_turnstile.specs.declared.chronicle.Chronicle.{Ghosts}
use Rattle.eip_turnstile.specs.declared.seat.Held.{Held}
use Rattle.eip_turnstile.specs.contracts.seat.Held.{the_row}

-- the same turn, with another value
abbrev pub with_value : {X E B : Type 0} {g : Ghosts X E B} → Held X E B g → X → Held X E B g
with_value h x = record h { value = x }

-- once the borrow r ends, the value is what r shows last
abbrev pub lends_value : (V E B : RattleType) (g : Ghosts V.Denot E.Denot B.Denot) → MutBor (Held V.Denot E.Denot B.Denot g) → MutBor V.Denot → Fml
lends_value V E B g h r = Lends (the_row V E B g) V h r (with_value h.now)

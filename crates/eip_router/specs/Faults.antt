-- What a fault of a list of recipients says.
use Rattle.std.specs.Prelude.{◌≡◌, Result, Err}
use Rattle.eip_router.specs.declared.fault.RecipientFault.{RecipientFault}
use Rattle.eip_router.specs.declared.fault.RecipientFault.TheVariants as fault

-- memory ran out, or the fault is the one that the rule has
abbrev pub IsFault : {A : Type 0} → RecipientFault → Result A RecipientFault → Type 0
IsFault fault.NoMemory ruled = Unit {0}
IsFault e ruled = ruled ≡ Err e

-- What a fault of a split says.
use Rattle.std.specs.Prelude.{◌≡◌, Result, Err}
use Rattle.eip_splitter.specs.declared.fault.SplitFault.{SplitFault}
use Rattle.eip_splitter.specs.declared.fault.SplitFault.TheVariants as fault

-- memory ran out, or the fault is the one that the rule has
abbrev pub IsFault : {A : Type 0} → SplitFault → Result A SplitFault → Type 0
IsFault fault.NoMemory ruled = Unit {0}
IsFault e ruled = ruled ≡ Err e

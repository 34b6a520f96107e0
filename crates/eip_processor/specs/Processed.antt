-- What every processor answers.
use Rattle.std.specs.Prelude.{IsTrue, Result, Ok, Err}
use Rattle.eip_text.specs.Names.{is_name}
use Rattle.eip_exchange.specs.Limits.{IsShort, IsWithinLimits}
use Rattle.eip_exchange.specs.declared.message.Message.{Message}
use Rattle.eip_processor.specs.declared.processor.ProcessFault.{ProcessFault}
use Rattle.eip_processor.specs.declared.processor.ProcessFault.TheVariants.{Raised, NoMemory}

-- a message is within the limits, and the text of a fault is no longer than a body may be
abbrev pub KeepsLimits : Result Message ProcessFault → Type 0
KeepsLimits (Ok m) = IsWithinLimits m
KeepsLimits (Err (Raised f)) = IsShort f.text
KeepsLimits (Err NoMemory) = Unit {0}

-- the kind of a fault is a name
abbrev pub IsNamed : Result Message ProcessFault → Type 0
IsNamed (Ok m) = Unit {0}
IsNamed (Err (Raised f)) = IsTrue (is_name f.kind)
IsNamed (Err NoMemory) = Unit {0}

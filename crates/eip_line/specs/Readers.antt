-- What a reader of lines gives.
use Rattle.std.specs.Prelude.{ℕ, ◌≡◌, ◌<◌, ◌≤◌, List, [], ◌∷◌, Option, Some, None, Result, Ok, Err, length, decimal}
use Rattle.std.specs.Str.{IsUtf8}
use Rattle.eip_exchange.specs.declared.message.Message.{Message}
use Rattle.eip_endpoint.specs.Counters.{risen}
use Rattle.eip_endpoint.specs.declared.source.Pulled.{Pulled}
use Rattle.eip_endpoint.specs.declared.source.Pulled.TheVariants.{Item, Refused, End}
use Rattle.eip_endpoint.specs.declared.source.Refusal.{Refusal}
use Rattle.eip_endpoint.specs.declared.source.Refusal.TheVariants.{NotText, TooLong}
use Rattle.eip_line.specs.declared.reader.LineFault.{LineFault}
use Rattle.eip_line.specs.declared.reader.LineFault.TheVariants as fault
use Rattle.eip_line.specs.Lines.{Next, Line, Nothing, Endless, next_line}

-- the message of a line: the line is the body, and there are no headers and no properties
abbrev pub message_of : List ℕ → Message
message_of line = record { body = line; headers = []; properties = [] }

-- why a line is refused: it is longer than a body may be, or else it is no UTF-8
abbrev pub IsRefusedFor : List ℕ → Refusal → Type 0
IsRefusedFor line TooLong = 65536 < length line
IsRefusedFor line NotText = (length line ≤ 65536) × ¬ (IsUtf8 line)

-- the line with a number: the item is the number, and the body the line, unless it is refused
abbrev pub IsLine : ℕ → List ℕ → Pulled → Type 0
IsLine number line (Item item message) = (item ≡ decimal number) × (message ≡ message_of line) × (length line ≤ 65536) × IsUtf8 line
IsLine number line (Refused item cause) = (item ≡ decimal number) × IsRefusedFor line cause
IsLine number line End = ⊥

-- a line was taken out of a buffer and counted, or there was no memory and nothing was done
abbrev pub TookLine : ℕ → List ℕ → List ℕ → List ℕ → Result Pulled LineFault → ℕ → List ℕ → Type 0
TookLine lines buffer line rest (Ok p) lines' buffer' = IsLine (risen lines) line p × (lines' ≡ risen lines) × (buffer' ≡ rest)
TookLine lines buffer line rest (Err fault.NoMemory) lines' buffer' = (lines' ≡ lines) × (buffer' ≡ buffer)
TookLine lines buffer line rest (Err fault.Failed) lines' buffer' = ⊥
TookLine lines buffer line rest (Err fault.Endless) lines' buffer' = ⊥

-- the last bytes were taken out of a buffer as a line, or it is empty, and nothing is left
abbrev pub TookLast : ℕ → List ℕ → Result Pulled LineFault → ℕ → List ℕ → Type 0
TookLast lines [] r lines' buffer' = (r ≡ Ok End) × (lines' ≡ lines) × (buffer' ≡ [])
TookLast lines (b ∷ bytes) r lines' buffer' = TookLine lines (b ∷ bytes) (b ∷ bytes) [] r lines' buffer'

-- what is given is the next line, which is counted, or the end, where nothing is left
abbrev pub Gave : ℕ → Next → Pulled → ℕ → List ℕ → Type 0
Gave lines (Line line rest) p lines' left' = IsLine (risen lines) line p × (lines' ≡ risen lines) × (left' ≡ rest)
Gave lines Nothing p lines' left' = (p ≡ End) × (lines' ≡ lines) × (left' ≡ [])
Gave lines Endless p lines' left' = ⊥

-- a fault leaves the lines and the bytes as they were
abbrev pub Took : {E : Type 0} → ℕ → List ℕ → Result Pulled E → ℕ → List ℕ → Type 0
Took lines left (Ok p) lines' left' = Gave lines (next_line left) p lines' left'
Took lines left (Err f) lines' left' = (lines' ≡ lines) × (left' ≡ left)

-- the same, where the bytes that are left are known
abbrev pub TookKnown : {E : Type 0} → ℕ → Option (List ℕ) → Result Pulled E → ℕ → Option (List ℕ) → Type 0
TookKnown lines None r lines' left' = Unit {0}
TookKnown lines (Some left) r lines' None = ⊥
TookKnown lines (Some left) r lines' (Some left') = Took lines left r lines' left'

-- 1 where the link failed
abbrev pub link_failure_in : {T : Type 0} → Result T LineFault → ℕ
link_failure_in (Ok r) = 0
link_failure_in (Err fault.Failed) = 1
link_failure_in (Err fault.Endless) = 0
link_failure_in (Err fault.NoMemory) = 0

-- 1 for a line that is too long to wait for its end
abbrev pub endless_in : {T : Type 0} → Result T LineFault → ℕ
endless_in (Ok r) = 0
endless_in (Err fault.Failed) = 0
endless_in (Err fault.Endless) = 1
endless_in (Err fault.NoMemory) = 0

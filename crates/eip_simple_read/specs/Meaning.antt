-- What a text means: its tree, or its first fault with the fault's offset.
use Rattle.std.specs.Prelude.{◌≡◌, ℕ, zero, ◌+◌, ◌-◌, List, length, Some, None, Result, Ok, Err}
use Rattle.eip_simple_read.specs.declared.tree.Template.{Template}
use Rattle.eip_simple_read.specs.declared.tree.Predicate.{Predicate}
use Rattle.eip_simple_read.specs.Patterns.{IsNoPattern}
use Rattle.eip_simple_read.specs.declared.fault.SimpleFault.{SimpleFault}
use Rattle.eip_simple_read.specs.declared.fault.SimpleFault.TheVariants as fault
use Rattle.eip_simple_read.specs.declared.fault.Stop.{Stop}
use Rattle.eip_simple_read.specs.declared.fault.Stop.TheVariants as stop
use Rattle.eip_simple_read.specs.declared.pattern.PatternFault.TheVariants as refusal
use Rattle.eip_simple_read.specs.Reading.{Fault, Bad, Unknown, Refused, template, all_tests}

-- a fault of a text of this length, by its offset
abbrev pub placed : ℕ → Fault → SimpleFault
placed len (Bad left) = fault.BadSimple (len - left)
placed len (Unknown left) = fault.UnknownFunction (len - left)
placed len (Refused left text) = fault.BadPattern (len - left)

-- why the code stopped, as the fault of a text of this length
abbrev pub placed_stop : ℕ → Stop → SimpleFault
placed_stop len stop.Memory = fault.NoMemory
placed_stop len (stop.Bad left) = fault.BadSimple (len - left)
placed_stop len (stop.Unknown left) = fault.UnknownFunction (len - left)
placed_stop len (stop.Pattern left refusal.Bad) = fault.BadPattern (len - left)
placed_stop len (stop.Pattern left refusal.TooLarge) = fault.PatternTooLarge (len - left)
placed_stop len (stop.Pattern left refusal.NoMemory) = fault.NoMemory

-- what was read, made whole, or its fault by its offset
abbrev pub answer : {A B : Type 0} → ℕ → (A → B) → Result A Fault → Result B SimpleFault
answer len make (Ok x) = Ok (make x)
answer len make (Err e) = Err (placed len e)

-- the template that the text spells, or its first fault
unfoldable pub template_of : List ℕ → Result Template SimpleFault
template_of bs = answer (length bs) (λ ps. record { parts = ps }) (template zero zero bs)

-- The call answered what the text means, unless memory ran out. It never answered that a pattern was refused.
abbrev pub Answers : {A : Type 0} → Result A SimpleFault → Result A SimpleFault → Type 0
Answers (Ok x) meaning = meaning ≡ Ok x
Answers (Err fault.NoMemory) meaning = Unit {0}
Answers (Err (fault.BadSimple at)) meaning = meaning ≡ Err (fault.BadSimple at)
Answers (Err (fault.UnknownFunction at)) meaning = meaning ≡ Err (fault.UnknownFunction at)
Answers (Err (fault.BadPattern at)) meaning = ⊥
Answers (Err (fault.PatternTooLarge at)) meaning = ⊥

-- ---- predicates

-- The predicate that the text spells, or its first fault. Each text counts as a good pattern.
unfoldable pub predicate_of : List ℕ → Result Predicate SimpleFault
predicate_of bs = answer (length bs) (λ any. record { any = any }) (all_tests None bs)

-- Before any fault, the text has the right side of a `regex` at this offset, with this pattern: a reading that refuses that pattern stops there.
abbrev pub IsPatternAt : List ℕ → ℕ → List ℕ → Type 0
IsPatternAt bs at pattern = (left : ℕ) × (at + left ≡ length bs) × (all_tests (Some left) bs ≡ Err (Refused left pattern))

-- a reading of the text that met refused patterns
abbrev pub IsReading : List ℕ → Result Predicate SimpleFault → Type 0
IsReading bs (Ok p) = predicate_of bs ≡ Ok p
IsReading bs (Err (fault.BadSimple at)) = predicate_of bs ≡ Err (fault.BadSimple at)
IsReading bs (Err (fault.UnknownFunction at)) = predicate_of bs ≡ Err (fault.UnknownFunction at)
IsReading bs (Err (fault.BadPattern at)) = (pattern : List ℕ) × IsPatternAt bs at pattern × IsNoPattern pattern
IsReading bs (Err (fault.PatternTooLarge at)) = (pattern : List ℕ) × IsPatternAt bs at pattern
IsReading bs (Err fault.NoMemory) = Unit {0}

-- 1 for a refusal that the count of faults tells, else 0
abbrev pub fault_failures : {X : Type 0} → Result X SimpleFault → ℕ
fault_failures (Ok x) = 0
fault_failures (Err (fault.BadSimple at)) = 0
fault_failures (Err (fault.UnknownFunction at)) = 0
fault_failures (Err (fault.BadPattern at)) = 0
fault_failures (Err (fault.PatternTooLarge at)) = 1
fault_failures (Err fault.NoMemory) = 0

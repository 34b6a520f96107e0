-- What a builder of patterns tells of its builds, and what a reading asks it for.
use Rattle.std.specs.Prelude.{◌≡◌, ◌⊎◌, ℕ, zero, suc, ◌+◌, true, false, List, [], ◌∷◌, ◌++◌, length, Option, Some, None, Result, Ok, Err}
use Rattle.eip_text.specs.Cuts.{unspaced}
use Rattle.eip_simple_read.specs.declared.tree.Predicate.{Predicate}
use Rattle.eip_simple_read.specs.declared.tree.Test.{Test}
use Rattle.eip_simple_read.specs.declared.tree.Test.TheVariants as test
use Rattle.eip_simple_read.specs.declared.operators.Operator.{Operator}
use Rattle.eip_simple_read.specs.declared.operators.Operator.TheVariants as operator
use Rattle.eip_simple_read.specs.declared.joints.Joint.{Joint}
use Rattle.eip_simple_read.specs.declared.joints.Joint.TheVariants as joint
use Rattle.eip_simple_read.specs.declared.pattern.Build.{Build}
use Rattle.eip_simple_read.specs.declared.pattern.PatternFault.{PatternFault}
use Rattle.eip_simple_read.specs.declared.pattern.PatternFault.TheVariants as refusal
use Rattle.eip_simple_read.specs.declared.fault.SimpleFault.{SimpleFault}
use Rattle.eip_simple_read.specs.declared.fault.SimpleFault.TheVariants as fault
use Rattle.eip_simple_read.specs.declared.fault.Stop.{Stop}
use Rattle.eip_simple_read.specs.declared.fault.Stop.TheVariants as stop
use Rattle.eip_simple_read.specs.Reading.{Fault, side_at, operator_at, spaced, gap, pattern_at, test_at, joint_at}

-- ---- builds

-- the builds of an object, where it tells them
abbrev pub Told : Type 0
Told = Option (List Build)

-- these with more behind them
abbrev pub added : Told → List Build → Told
added None more = None
added (Some all) more = Some (all ++ more)

abbrev pub built_one : List ℕ → Build
built_one t = record { text = t; is_built = true }

abbrev pub refused_one : List ℕ → Build
refused_one t = record { text = t; is_built = false }

-- the build that an answer tells of; where memory was wanting there was none
abbrev pub made : {X : Type 0} → List ℕ → Result X PatternFault → List Build
made t (Ok p) = built_one t ∷ []
made t (Err refusal.Bad) = refused_one t ∷ []
made t (Err refusal.TooLarge) = refused_one t ∷ []
made t (Err refusal.NoMemory) = []

-- these patterns, one behind the other, each of which was built
abbrev pub built : List (List ℕ) → List Build
built [] = []
built (t ∷ ts) = built_one t ∷ built ts

-- ---- the patterns of a text

abbrev pub behind_read : {A : Type 0} → Result A Fault → (A → List (List ℕ)) → List (List ℕ)
behind_read (Ok x) f = f x
behind_read (Err e) f = []

-- the pattern of the test behind an operator
abbrev pub operated_patterns : List ℕ → Operator → List (List ℕ)
operated_patterns after (operator.Compares op) = []
operated_patterns after (operator.Matches negated) = behind_read (pattern_at None after) (λ p. p.0 ∷ [])

abbrev pub compared_patterns : Option (Operator × List ℕ) → List (List ℕ)
compared_patterns None = []
compared_patterns (Some op) = behind_read (spaced op.1) (λ after. operated_patterns after op.0)

-- the pattern of the test that stands in front, where it has one and nothing is wrong before it
unfoldable pub test_patterns : List ℕ → List (List ℕ)
test_patterns bs = behind_read (side_at bs) (λ left. behind_read (gap left.1) (λ rest. compared_patterns (operator_at rest)))

abbrev pub unless_end : Joint → List (List ℕ) → List (List ℕ)
unless_end joint.End more = []
unless_end joint.And more = more
unless_end joint.Or more = more

-- the patterns of at most so many tests
unfoldable pub tests_patterns : Option ℕ → ℕ → List ℕ → List (List ℕ)
tests_patterns refused zero bs = []
tests_patterns refused (suc n) bs = test_patterns bs ++ behind_read (test_at refused bs) (λ t. behind_read (joint_at t.1) (λ j. unless_end j.0 (tests_patterns refused n j.1)))

-- The patterns of a predicate's text from the left, up to the first fault, or up to the one that is refused, whose side has so many bytes left.
unfoldable pub patterns_in : Option ℕ → List ℕ → List (List ℕ)
patterns_in refused bs = tests_patterns refused (length bs + 1) (unspaced bs)

-- those of a test, of a conjunction, and of several
abbrev pub pattern_of : Test → List (List ℕ)
pattern_of (test.Matches left pattern negated) = pattern ∷ []
pattern_of _ = []

abbrev pub all_patterns : List Test → List (List ℕ)
all_patterns [] = []
all_patterns (t ∷ ts) = pattern_of t ++ all_patterns ts

abbrev pub any_patterns : List (List Test) → List (List ℕ)
any_patterns [] = []
any_patterns (ts ∷ any) = all_patterns ts ++ any_patterns any

-- ---- what is asked for

-- each of these patterns was built, one behind the other, but the last, which was refused
abbrev pub EndsRefused : List (List ℕ) → Told → Told → Type 0
EndsRefused patterns before after = (front : List (List ℕ)) × (last : List ℕ) × (patterns ≡ front ++ last ∷ []) × (after ≡ added before (built front ++ refused_one last ∷ []))

-- the patterns in front were asked for, one behind the other, of which the last one may have been refused
abbrev pub Begins : List (List ℕ) → Told → Told → Type 0
Begins patterns before after = (front : List (List ℕ)) × (behind : List (List ℕ)) × (patterns ≡ front ++ behind) × ((after ≡ added before (built front)) ⊎ EndsRefused front before after)

-- what a reader that stopped so had asked for, where these are the patterns, with one refused or none
abbrev pub AsksStopped : Stop → (Option ℕ → List (List ℕ)) → Told → Told → Type 0
AsksStopped stop.Memory patterns before after = Begins (patterns None) before after
AsksStopped (stop.Bad left) patterns before after = after ≡ added before (built (patterns None))
AsksStopped (stop.Unknown left) patterns before after = after ≡ added before (built (patterns None))
AsksStopped (stop.Pattern left fault) patterns before after = EndsRefused (patterns (Some left)) before after

-- what a reader asked for
abbrev pub AsksAt : {X : Type 0} → Result X Stop → (Option ℕ → List (List ℕ)) → Told → Told → Type 0
AsksAt (Ok x) patterns before after = after ≡ added before (built (patterns None))
AsksAt (Err e) patterns before after = AsksStopped e patterns before after

-- each pattern up to this offset was built, but the last, which stands there and was refused
abbrev pub EndsRefusedAt : List ℕ → ℕ → Told → Told → Type 0
EndsRefusedAt bs at before after = (left : ℕ) × (at + left ≡ length bs) × EndsRefused (patterns_in (Some left) bs) before after

-- Each pattern was asked for once, from the left: all of them were built, up to the first fault, or all up to the one whose refusal is told. For want
-- of memory it may be fewer.
abbrev pub IsAsked : List ℕ → Result Predicate SimpleFault → Told → Told → Type 0
IsAsked bs (Ok p) before after = after ≡ added before (built (patterns_in None bs))
IsAsked bs (Err (fault.BadSimple at)) before after = after ≡ added before (built (patterns_in None bs))
IsAsked bs (Err (fault.UnknownFunction at)) before after = after ≡ added before (built (patterns_in None bs))
IsAsked bs (Err (fault.BadPattern at)) before after = EndsRefusedAt bs at before after
IsAsked bs (Err (fault.PatternTooLarge at)) before after = EndsRefusedAt bs at before after
IsAsked bs (Err fault.NoMemory) before after = Begins (patterns_in None bs) before after

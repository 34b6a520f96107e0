-- What a pattern is, and what it matches.
use Rattle.std.specs.Prelude.{◌≡◌, ◌⊎◌, ℕ, ◌<◌, ◌≤◌, ◌+◌, ◌*◌, Bool, List, ◌++◌, length, None, IfSome, chars, codes, is_some, Result, Ok, Err}
use Rattle.regex_hir.specs.declared.hir.Hir.{Hir}
use Rattle.regex_hir.specs.Meaning.{meaning}
use Rattle.regex_hir.specs.Find.{find_str}
use Rattle.regex_syntax.specs.Grammar.{Names, read}
use Rattle.regex_syntax.specs.Verdict.{Reads, default_config}
use Rattle.regex.specs.declared.string.regex.Regex.{Regex}
use Rattle.regex.specs.Failures.{IsPattern}
use Rattle.regex.specs.Strings.{regex_source, regex_config, regex_size, IsReadFromSource}
use Rattle.eip_simple_read.specs.declared.pattern.Size.{Size}
use Rattle.eip_simple_read.specs.declared.pattern.Size.TheVariants as size
use Rattle.eip_simple_read.specs.declared.pattern.PatternFault.{PatternFault}
use Rattle.eip_simple_read.specs.declared.pattern.PatternFault.TheVariants as fault

-- the text that matches where the whole of a text matches the pattern
abbrev pub enclosed : List ℕ → List ℕ
enclosed text = codes "\\A(?:" ++ text ++ codes ")\\z"

-- the grammar doesn't read the text, or not within the limit on nesting
abbrev pub IsRefused : List ℕ → Type 0
IsRefused text = (read default_config (chars text) ≡ None) ⊎ IfSome (read default_config (chars text)) (λ (re, _). default_config.nest_limit < re.depth)

-- so it is with the text, or with the text enclosed
abbrev pub IsNoPattern : List ℕ → Type 0
IsNoPattern text = IsRefused text ⊎ IsRefused (enclosed text)

-- the grammar reads the text, alone and enclosed
pub record IsGoodPattern (text : List ℕ) : Type 0 where
  pub alone : IsPattern default_config text
  pub whole : IsPattern default_config (enclosed text)

-- the compiled expression is what the grammar reads in the text
pub record IsOf (text : List ℕ) (regex : Regex) : Type 0 where
  pub source : regex_source regex ≡ text
  pub config : regex_config regex ≡ default_config
  pub read : IsReadFromSource regex

-- the bytes that the tables of a compiled pattern may take
abbrev pub size_bytes : Size → ℕ
size_bytes size.Small = 65536
size_bytes size.Large = 2097152

-- a pattern's compiled expression is of its text enclosed and no larger than the largest, and the text is a pattern by itself
pub record IsCompiled (text : List ℕ) (regex : Regex) : Type 0 where
  pub alone : IsPattern default_config text
  pub whole : IsOf (enclosed text) regex
  pub small : regex_size regex ≤ size_bytes size.Large + 24

-- b says whether the enclosed text, as the grammar reads it, matches somewhere in the other text: so whether it matches the whole
abbrev pub IsWholeMatch : List ℕ → List ℕ → Bool → Type 0
IsWholeMatch pattern text b = (hir : Hir) × (names : Names) × Reads default_config (enclosed pattern) hir names × (b ≡ is_some (find_str (meaning hir) text 0))

-- ---- the room of a builder

-- what a pattern of this text takes of the room, by its size
abbrev pub price : Size → List ℕ → ℕ
price size text = 4096 * length text + size_bytes size

-- the room that is left behind a pattern of this text
abbrev pub Takes : List ℕ → ℕ → ℕ → Type 0
Takes text room left = (size : Size) × (left + price size text ≡ room)

-- ---- refusals

-- why a pattern was refused, as far as its text tells
abbrev pub IsCauseIn : List ℕ → PatternFault → Type 0
IsCauseIn text fault.Bad = IsNoPattern text
IsCauseIn text fault.TooLarge = Unit {0}
IsCauseIn text fault.NoMemory = ⊥

-- 1 for a refusal that the count of faults tells, else 0
abbrev pub refusals : PatternFault → ℕ
refusals fault.Bad = 0
refusals fault.TooLarge = 1
refusals fault.NoMemory = 0

abbrev pub build_failures : {X : Type 0} → Result X PatternFault → ℕ
build_failures (Ok x) = 0
build_failures (Err e) = refusals e

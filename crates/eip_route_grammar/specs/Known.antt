-- The predicates of a route file that were read, by their texts.
use Rattle.std.specs.Prelude.{◌≡◌, ℕ, Bool, false, List, [], ◌∷◌, ◌++◌, All, Option, Some, None, Ok, bytes_eq, if◌then◌else◌}
use Rattle.eip_simple_read.specs.declared.tree.Predicate.{Predicate}
use Rattle.eip_simple_read.specs.Meaning.{predicate_of}
use Rattle.eip_simple_read.specs.Reading.{HasGoodPattern}
use Rattle.eip_route_grammar.specs.declared.known.Entry.{Entry}

-- the predicate is what the text spells, and its patterns are good
pub record IsRead (e : Entry) : Type 0 where
  pub value : predicate_of e.text ≡ Ok e.predicate
  pub patterns : All (All HasGoodPattern) e.predicate.any

abbrev pub AreRead : List Entry → Type 0
AreRead [] = Unit {0}
AreRead (e ∷ es) = IsRead e × AreRead es

abbrev pub predicate_in : Option Entry → Option Predicate
predicate_in None = None
predicate_in (Some e) = Some e.predicate

-- the first predicate of this text
abbrev pub first_read : List ℕ → List Entry → Option Predicate
first_read w [] = None
first_read w (e ∷ es) = if bytes_eq e.text w then Some e.predicate else first_read w es

-- the entries of the places that are not empty
abbrev pub kept : List (Option Entry) → List Entry
kept [] = []
kept (None ∷ ss) = kept ss
kept (Some e ∷ ss) = e ∷ kept ss

-- whether an entry of this text stands at a place
abbrev pub has_text : List ℕ → Option Entry → Bool
has_text w None = false
has_text w (Some e) = bytes_eq e.text w

-- one entry of this text is taken out
abbrev pub IsWithoutOne : List ℕ → List Entry → List Entry → Type 0
IsWithoutOne w old left = (before : List Entry) × (e : Entry) × (behind : List Entry) × (e.text ≡ w) × (old ≡ before ++ e ∷ behind) × (left ≡ before ++ behind)

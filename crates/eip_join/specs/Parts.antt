-- The parts of open joins and how they ended, by the calls so far, and how a table of joins stands for them.
use Rattle.std.specs.Prelude.{ℕ, zero, suc, ◌≡◌, ◌+◌, ◌-◌, ◌<◌, ◌≤◌, ◌==◌, ◌&&◌, nat_lt, nat_le, Bool, List, [], ◌∷◌, length, replicate, slice_get, slice_set, Option, Some, None, is_some, option_map, MatchOption, IsTrue, if◌then◌else◌}
use Rattle.eip_exchange.specs.declared.end.Ended.{Ended}
use Rattle.eip_ordered.specs.Numbered.{value_at}

-- what happened: a parent's join opened over so many parts from a number on, a part ended, or a parent's join was closed
pub data Call : Type 0 where
  Began : ℕ → ℕ → ℕ → Call
  PartEnded : ℕ → Ended → Call
  Took : ℕ → Call

-- ---- by the calls so far, the newest first

-- the first number and the count of the parts of a parent's open join
abbrev pub parts_of : List Call → ℕ → Option (ℕ × ℕ)
parts_of [] p = None
parts_of (Began parent first count ∷ calls) p = if parent == p then Some (first, count) else parts_of calls p
parts_of (PartEnded number ended ∷ calls) p = parts_of calls p
parts_of (Took parent ∷ calls) p = if parent == p then None else parts_of calls p

-- x is one of so many numbers from the first on
abbrev pub is_between : ℕ → ℕ → ℕ → Bool
is_between first count x = nat_le first x && nat_lt x (first + count)

-- how the part with a number ended, since its join opened
abbrev pub end_of : List Call → ℕ → Option Ended
end_of [] x = None
end_of (Began parent first count ∷ calls) x = if is_between first count x then None else end_of calls x
end_of (PartEnded number ended ∷ calls) x = if number == x then Some ended else end_of calls x
end_of (Took parent ∷ calls) x = end_of calls x

-- how each of so many parts from a number on ended, by index
abbrev pub ends_from : List Call → ℕ → ℕ → List (Option Ended)
ends_from calls first zero = []
ends_from calls first (suc count) = end_of calls first ∷ ends_from calls (first + 1) count

-- a list where there is both a first and a rest
abbrev pub cons_option : {A : Type 0} → Option A → Option (List A) → Option (List A)
cons_option (Some x) (Some xs) = Some (x ∷ xs)
cons_option (Some x) None = None
cons_option None xs = None

-- all of them, where all are there
abbrev pub all_of : {A : Type 0} → List (Option A) → Option (List A)
all_of [] = Some []
all_of (x ∷ xs) = cons_option x (all_of xs)

-- an open join: the number of its first part, and how each part ended, by index
pub record Open : Type 0 where
  pub first : ℕ
  pub ends : List (Option Ended)

-- a join over these parts, as the calls leave it
abbrev pub join_over : List Call → ℕ × ℕ → Open
join_over calls parts = record { first = parts.0; ends = ends_from calls parts.0 parts.1 }

-- the open join of a parent
abbrev pub join_of : List Call → ℕ → Option Open
join_of calls p = option_map (join_over calls) (parts_of calls p)

-- how all parts of a join ended, by index, where there is a join and all have
abbrev pub complete : Option Open → Option (List Ended)
complete None = None
complete (Some join) = all_of join.ends

abbrev pub ends_at : List Call → ℕ → Option (List Ended)
ends_at calls p = complete (join_of calls p)

abbrev pub is_ready : List Call → ℕ → Bool
is_ready calls p = is_some (ends_at calls p)

-- ---- tables of joins by their parents

-- a table has the open join of each parent, and no other
abbrev pub Stands : List Call → List (ℕ × Open) → Type 0
Stands calls joins = (p : ℕ) → value_at joins p ≡ join_of calls p

-- a parent without an open join
abbrev pub IsFree : ℕ → List (ℕ × Open) → Type 0
IsFree p joins = value_at joins p ≡ None

-- x is the number of a part
abbrev pub IsPart : ℕ → Open → Type 0
IsPart x join = (join.first ≤ x) × (x < join.first + length join.ends)

-- none of so many numbers from the first on is a part of an open join
abbrev pub AreNew : ℕ → ℕ → List (ℕ × Open) → Type 0
AreNew first count joins = (p x : ℕ) (join : Open) → value_at joins p ≡ Some join → IsPart x join → first ≤ x → x < first + count → ⊥

-- x is the number of a part of an open join that hasn't ended
pub record IsOpenPart (x : ℕ) (joins : List (ℕ × Open)) : Type 0 where
  pub parent : ℕ
  pub join : Open
  pub opened : value_at joins parent ≡ Some join
  pub part : IsPart x join
  pub unended : slice_get join.ends (x - join.first) ≡ Some None

-- all parts of a parent's open join have ended
abbrev pub IsComplete : ℕ → List (ℕ × Open) → Type 0
IsComplete p joins = IsTrue (is_some (complete (value_at joins p)))

-- ---- one join

-- so many parts that haven't ended
abbrev pub no_ends : ℕ → List (Option Ended)
no_ends count = replicate count None

-- a join over so many parts from a number on, none of which has ended
abbrev pub new_join : ℕ → ℕ → Open
new_join first count = record { first = first; ends = no_ends count }

-- how many haven't ended
abbrev pub left_of : List (Option Ended) → ℕ
left_of [] = 0
left_of (None ∷ ends) = left_of ends + 1
left_of (Some ended ∷ ends) = left_of ends

abbrev pub with_end : ℕ → Ended → Open → Open
with_end index ended join = record join { ends = slice_set join.ends index (Some ended) }

-- the part of an index hasn't ended
abbrev pub IsUnended : ℕ → Option Open → Type 0
IsUnended index None = ⊥
IsUnended index (Some join) = slice_get join.ends index ≡ Some None

-- ---- whose parts begin at a number

-- there are parts, and they begin at x
abbrev pub is_beginning : ℕ → ℕ → ℕ → Bool
is_beginning count first x = nat_lt 0 count && (first == x)

abbrev pub Indexes : List (ℕ × ℕ) → List (ℕ × ℕ) → ℕ → ℕ → ℕ → Type 0
Indexes old new first parent count = (x : ℕ) → value_at new x ≡ (if is_beginning count first x then Some parent else value_at old x)

abbrev pub Unindexes : List (ℕ × ℕ) → List (ℕ × ℕ) → ℕ → ℕ → Type 0
Unindexes old new first count = (x : ℕ) → value_at new x ≡ (if is_beginning count first x then None else value_at old x)

-- the last number in a table that isn't above this one, with its value
abbrev pub IsLastUpTo : ℕ → List (ℕ × ℕ) → Option (ℕ × ℕ) → Type 0
IsLastUpTo number parents last = MatchOption last
    ((x : ℕ) → x ≤ number → value_at parents x ≡ None)
    (λ e. (value_at parents e.0 ≡ Some e.1) × (e.0 ≤ number) × ((x p : ℕ) → value_at parents x ≡ Some p → x ≤ number → x ≤ e.0))

-- the join has parts, and they begin there
abbrev pub BeginsAt : ℕ → Option Open → Type 0
BeginsAt x None = ⊥
BeginsAt x (Some join) = (join.first ≡ x) × (0 < length join.ends)

-- where parts begin is told for each join that has some, and for nothing else, and no number is a part of two joins
pub record AreIndexed (joins : List (ℕ × Open)) (parents : List (ℕ × ℕ)) : Type 0 where
  pub told : (p : ℕ) (join : Open) → value_at joins p ≡ Some join → 0 < length join.ends → value_at parents join.first ≡ Some p
  pub begins : (x p : ℕ) → value_at parents x ≡ Some p → BeginsAt x (value_at joins p)
  pub apart : (p q x : ℕ) (join other : Open) → value_at joins p ≡ Some join → value_at joins q ≡ Some other → IsPart x join → IsPart x other → p ≡ q

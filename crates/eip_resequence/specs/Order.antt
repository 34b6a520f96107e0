-- The order in which the messages of a batch go on.
use Rattle.std.specs.Prelude.{ℕ, ℤ, Bool, List, [], ◌∷◌, Option, Some, None, map, fold, if◌then◌else◌}
use Rattle.std.specs.declared.cmp.Ordering.{Ordering}
use Rattle.std.specs.declared.cmp.Ordering.TheVariants.{Less, Greater}
use Rattle.std.specs.Cmp.Lexicographic.{slice_cmp}
use Rattle.std.specs.List.Sorted.{IsPermutation, IsSortedBy, IsStableBy}
use Rattle.std.specs.Ordering.{int_cmp, is_lt, nat_cmp}
use Rattle.eip_text.specs.Numbers.{whole_of}
use Rattle.eip_resequence.specs.declared.packed.Packed.{Packed}

-- what a key counts as
pub data Rank : Type 0 where
  number : ℤ → Rank
  bytes : List ℕ → Rank

abbrev pub number_or : Option ℤ → List ℕ → Rank
number_or (Some z) text = number z
number_or None text = bytes text

-- a text that spells a whole number of 64 bits counts as that number, every other one as its bytes
abbrev pub rank_of : List ℕ → Rank
rank_of text = number_or (whole_of text) text

-- an absent key is the empty text
abbrev pub key_text : Option (List ℕ) → List ℕ
key_text None = []
key_text (Some text) = text

-- numbers come before texts, and each of them in their own order
abbrev pub rank_cmp : Rank → Rank → Ordering
rank_cmp (number x) (number y) = int_cmp x y
rank_cmp (number x) (bytes t) = Less
rank_cmp (bytes s) (number y) = Greater
rank_cmp (bytes s) (bytes t) = slice_cmp nat_cmp s t

abbrev pub key_cmp : Option (List ℕ) → Option (List ℕ) → Ordering
key_cmp a b = rank_cmp (rank_of (key_text a)) (rank_of (key_text b))

-- a message with the key a goes before one with the key b, whichever of them came first
unfoldable pub comes_before : Option (List ℕ) → Option (List ℕ) → Bool
comes_before a b = is_lt (key_cmp a b)

-- a message with its key
abbrev pub Arrival : Type 0
Arrival = Option (List ℕ) × Packed

-- a message goes before another
abbrev pub goes_before : Arrival → Arrival → Bool
goes_before a b = comes_before a.0 b.0

-- an element among others that are in order: in front of the first that it goes before, so behind those that it ties with
abbrev pub placed : {X : Type 0} → (X → X → Bool) → X → List X → List X
placed lt x [] = x ∷ []
placed lt x (y ∷ ys) = if lt x y then x ∷ y ∷ ys else y ∷ placed lt x ys

-- the elements in order, each placed in turn
abbrev pub in_order : {X : Type 0} → (X → X → Bool) → List X → List X
in_order lt xs = fold (λ so_far x. placed lt x so_far) [] xs

-- a list of arrivals in order: all of them, each once; none whose key goes before that of the one in front of it; and those of equal keys as they stood
pub record IsInOrder (arrivals ordered : List Arrival) : Type 0 where
  pub same : IsPermutation arrivals ordered
  pub rising : IsSortedBy goes_before ordered
  pub ties : IsStableBy goes_before arrivals ordered

-- the messages in the order of their keys, those with equal keys in order of arrival
unfoldable pub ordered_messages : List Arrival → List Packed
ordered_messages arrivals = map (λ a. a.1) (in_order goes_before arrivals)

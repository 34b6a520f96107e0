-- What each operator says of two values.
use Rattle.std.specs.Prelude.{◌≡◌, ◌++◌, ℕ, Bool, true, false, not, ◌&&◌, nat_eq, ℤ, List, [], ◌∷◌, Option, Some, None, is_some, option_map, option_and_then, bytes_eq}
use Rattle.std.specs.Ordering.{is_eq, is_lt, is_le, is_gt, is_ge, int_cmp}
use Rattle.std.specs.List.{list_any, starts_with, ends_with}
use Rattle.memchr.specs.Find.{matches, first_of}
use Rattle.eip_text.specs.Cuts.{behind, cut, pieces}
use Rattle.eip_text.specs.Names.{folded}
use Rattle.eip_text.specs.Numbers.{whole_of}
use Rattle.eip_simple_read.specs.declared.tree.Op.{Op}
use Rattle.eip_simple_read.specs.declared.tree.Op.TheVariants.{Equal, NotEqual, EqualFold, Less, AtMost, Greater, AtLeast, Contains, NotContains, ContainsFold, StartsWith, EndsWith, In, NotIn, Range, NotRange}
use Rattle.eip_simple.specs.Orders.{order}

-- ---- of two texts

-- equal as numbers, else byte for byte
abbrev pub same : List ℕ → List ℕ → Bool
same a b = is_eq (order a b)

-- b occurs at some place of a
unfoldable pub occurs : List ℕ → List ℕ → Bool
occurs a b = is_some (first_of (matches a b 0))

-- a is one of the pieces of b between commas
unfoldable pub is_among : List ℕ → List ℕ → Bool
is_among a b = list_any (same a) (pieces 44 b)

-- the texts before and behind the first dot, if a second one follows it at once
abbrev pub bounds : List ℕ → Option (List ℕ × List ℕ)
bounds b = option_and_then (λ p. option_map (λ high. (p.0, high)) (behind (46 ∷ []) p.1)) (cut 46 b)

-- a whole number from one whole number to another, both included
abbrev pub is_between : Option ℤ → Option ℤ → Option ℤ → Bool
is_between (Some n) (Some low) (Some high) = is_le (int_cmp low n) && is_le (int_cmp n high)
is_between (Some n) (Some low) None = false
is_between (Some n) None high = false
is_between None low high = false

abbrev pub is_between_texts : List ℕ → Option (List ℕ × List ℕ) → Bool
is_between_texts a None = false
is_between_texts a (Some p) = is_between (whole_of a) (whole_of p.0) (whole_of p.1)

-- b is `LOW..HIGH`, and a lies between these whole numbers
unfoldable pub is_within : List ℕ → List ℕ → Bool
is_within a b = is_between_texts a (bounds b)

-- some LOW and HIGH are the range's bounds, and a lies between these whole numbers
abbrev pub IsInRange : List ℕ → List ℕ → Type 0
IsInRange a b = (low : List ℕ) × (high : List ℕ) × (b ≡ low ++ (46 ∷ 46 ∷ high)) × (is_between (whole_of a) (whole_of low) (whole_of high) ≡ true)

-- ---- of two sides

-- both are there and pass the test
abbrev pub both : (List ℕ → List ℕ → Bool) → Option (List ℕ) → Option (List ℕ) → Bool
both test (Some a) (Some b) = test a b
both test (Some a) None = false
both test None right = false

-- both are absent, or both are there and equal
abbrev pub are_equal : Option (List ℕ) → Option (List ℕ) → Bool
are_equal None None = true
are_equal None (Some b) = false
are_equal (Some a) None = false
are_equal (Some a) (Some b) = same a b

-- the table of operators, between the values of two sides
abbrev pub op_holds : Op → Option (List ℕ) → Option (List ℕ) → Bool
op_holds Equal l r = are_equal l r
op_holds NotEqual l r = not (are_equal l r)
op_holds EqualFold l r = both (λ a b. bytes_eq (folded a) (folded b)) l r
op_holds Less l r = both (λ a b. is_lt (order a b)) l r
op_holds AtMost l r = both (λ a b. is_le (order a b)) l r
op_holds Greater l r = both (λ a b. is_gt (order a b)) l r
op_holds AtLeast l r = both (λ a b. is_ge (order a b)) l r
op_holds Contains l r = both occurs l r
op_holds NotContains l r = not (both occurs l r)
op_holds ContainsFold l r = both (λ a b. occurs (folded a) (folded b)) l r
op_holds StartsWith l r = both (starts_with nat_eq) l r
op_holds EndsWith l r = both (ends_with nat_eq) l r
op_holds In l r = both is_among l r
op_holds NotIn l r = not (both is_among l r)
op_holds Range l r = both is_within l r
op_holds NotRange l r = not (both is_within l r)

-- Sets of pairs of numbers, as ordered sets hold them.
use Rattle.std.proofs.Common.{◌≡◌, ℕ, Bool, ◌==◌, ◌&&◌, ◌||◌, List, [], ◌∷◌, Ordering, Less, Equal, Greater, nat_cmp, is_eq, BTreeSet, refl, sym, ap, ◌∙◌}
use Rattle.std.specs.List.{list_any}
use Rattle.std.specs.Ordering.{ordering_then}
use Rattle.std.specs.BTreeSet.{contains}
use Rattle.eip_ordered.proofs.Lookups.{numbers_tied}

-- the order of the set: by the first number, then by the second
abbrev pub by_first : ℕ × ℕ → ℕ × ℕ → Ordering
by_first s t = ordering_then (nat_cmp s.0 t.0) (nat_cmp s.1 t.1)

then_tied : (o p : Ordering) → is_eq (ordering_then o p) ≡ (is_eq o && is_eq p)
then_tied Less p = refl
then_tied Equal p = refl
then_tied Greater p = refl

pub pairs_tied : (s t : ℕ × ℕ) → is_eq (by_first s t) ≡ ((s.0 == t.0) && (s.1 == t.1))
pairs_tied s t =
    then_tied (nat_cmp s.0 t.0) (nat_cmp s.1 t.1)
    ∙ ap (λ (b : Bool). b && is_eq (nat_cmp s.1 t.1)) (numbers_tied s.0 t.0)
    ∙ ap (λ (b : Bool). (s.0 == t.0) && b) (numbers_tied s.1 t.1)

any_alike : {X : Type 0} (p q : X → Bool) → ((x : X) → p x ≡ q x) → (xs : List X) → list_any p xs ≡ list_any q xs
any_alike p q h [] = refl
any_alike p q h (x ∷ xs) = ap (λ (b : Bool). b || list_any p xs) (h x) ∙ ap (λ (b : Bool). q x || b) (any_alike p q h xs)

-- a set contains a pair where one of its elements has both numbers
pub pair_found : (set : BTreeSet (ℕ × ℕ)) (a b : ℕ) → list_any (λ (s : ℕ × ℕ). (a == s.0) && (b == s.1)) set.keys ≡ contains by_first set (a, b)
pair_found set a b = sym (any_alike (λ (k : ℕ × ℕ). is_eq (by_first (a, b) k)) (λ (k : ℕ × ℕ). (a == k.0) && (b == k.1)) (λ k. pairs_tied (a, b) k) set.keys)

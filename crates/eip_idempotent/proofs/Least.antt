-- Least numbers.
use Rattle.std.proofs.Common.{◌≡◌, ℕ, ◌<◌, ◌≤◌, ◌⊎◌, min, Bool, true, false, cond, ◌||◌, ◌==◌, Option, Some, None, refl, sym, ap, subst, ◌∙◌, inl, inr, arith, eqb-true, eq-eqb, ne_eqb}
use Rattle.std.proofs.lemmas.Bool.{or_cases, or_from, or_left, or_right, both_ways, cases_lt}
use Rattle.std.proofs.Math.Nat.{min-eq_left, min-eq_right}
use Rattle.eip_idempotent.specs.Keys.{IsLeast, is_number, least}

pub least_alike : (p q : ℕ → Bool) → ((x : ℕ) → p x ≡ q x) → (o : Option ℕ) → IsLeast p o → IsLeast q o
least_alike p q h None l = λ x. sym (h x) ∙ l x
least_alike p q h (Some a) l = (sym (h a) ∙ l.0, λ x t. l.1 x (h x ∙ t))

-- of one number at most
pub number_least : (p : ℕ → Bool) (o : Option ℕ) → ((x : ℕ) → p x ≡ is_number x o) → IsLeast p o
number_least p None h = h
number_least p (Some a) h = (h a ∙ eq-eqb a a refl, λ x t. let e : x ≡ a = eqb-true x a (sym (h x) ∙ t) in omega arith)

min_cases : (a b : ℕ) → ((min a b ≡ a) × (a ≤ b)) ⊎ ((min a b ≡ b) × (b ≤ a))
min_cases a b =
    elim (cases_lt a b) [
      | inl h ↦ let low : a ≤ b = omega arith in inl (min-eq_left low, low)
      | inr h ↦ inr (min-eq_right h, h)
    ]

least_by : (p q : ℕ → Bool) (a b m : ℕ) → (((m ≡ a) × (a ≤ b)) ⊎ ((m ≡ b) × (b ≤ a))) → IsLeast p (Some a) → IsLeast q (Some b) → IsLeast (λ x. p x || q x) (Some m)
least_by p q a b m (inl h) l k = (
  subst (λ (n : ℕ). (p n || q n) ≡ true) (sym h.0) (or_left (p a) (q a) l.0),
  λ x t.
      let same : m ≡ a = h.0 in
      let low : a ≤ b = h.1 in
      elim (or_cases (p x) (q x) t) [
        | inl u ↦ let r : a ≤ x = l.1 x u in omega arith
        | inr u ↦ let r : b ≤ x = k.1 x u in omega arith
      ],
)
least_by p q a b m (inr h) l k = (
  subst (λ (n : ℕ). (p n || q n) ≡ true) (sym h.0) (or_right (p b) (q b) k.0),
  λ x t.
      let same : m ≡ b = h.0 in
      let low : b ≤ a = h.1 in
      elim (or_cases (p x) (q x) t) [
        | inl u ↦ let r : a ≤ x = l.1 x u in omega arith
        | inr u ↦ let r : b ≤ x = k.1 x u in omega arith
      ],
)

pub least_either : (p q : ℕ → Bool) (a b : Option ℕ) → IsLeast p a → IsLeast q b → IsLeast (λ x. p x || q x) (least a b)
least_either p q None None l k = λ x. or_from (p x) (q x) (l x) (k x)
least_either p q None (Some b) l k = (
  or_right (p b) (q b) k.0,
  λ x t.
      elim (or_cases (p x) (q x) t) [
        | inl u ↦ absurd (both_ways (p x) (l x) u)
        | inr u ↦ k.1 x u
      ],
)
least_either p q (Some a) None l k = (
  or_left (p a) (q a) l.0,
  λ x t.
      elim (or_cases (p x) (q x) t) [
        | inl u ↦ l.1 x u
        | inr u ↦ absurd (both_ways (q x) (k x) u)
      ],
)
least_either p q (Some a) (Some b) l k = least_by p q a b (min a b) (min_cases a b) l k

twice_by : (a b m : ℕ) → (((m ≡ a) × (a ≤ b)) ⊎ ((m ≡ b) × (b ≤ a))) → min a m ≡ m
twice_by a b m (inl h) = let low : m ≤ a = (let same : m ≡ a = h.0 in omega arith) in min-eq_right low
twice_by a b m (inr h) =
    let low : m ≤ a = (
    let same : m ≡ b = h.0 in
    let under : b ≤ a = h.1 in
    omega arith) in
    min-eq_right low

pub least_twice : (a : ℕ) (o : Option ℕ) → least (Some a) (least (Some a) o) ≡ least (Some a) o
least_twice a None = ap (λ (n : ℕ). Some n) (let low : a ≤ a = omega arith in min-eq_left low)
least_twice a (Some b) = ap (λ (n : ℕ). Some n) (twice_by a b (min a b) (min_cases a b))

-- the least of a number, where it counts, and of others
pub least_where : (b : Bool) (n : ℕ) (o : Option ℕ) → least (cond b (Some n) None) o ≡ cond b (least (Some n) o) o
least_where true n o = refl
least_where false n o = refl

-- another number
pub other_number : (n x : ℕ) → (n == x) ≡ false → (x == n) ≡ false
other_number n x ne = ne_eqb x n (λ e. both_ways (n == x) ne (eq-eqb n x (sym e)))

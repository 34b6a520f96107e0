-- Lists that are one where they agree at each index.
use Rattle.std.proofs.Common.{◌≡◌, ℕ, suc, ◌<◌, Bool, true, false, List, [], ◌∷◌, length, Some, refl, ap, arith}
use Rattle.std.specs.List.{slice_get}
use Rattle.std.proofs.lemmas.Bool.{and_parts, and_from, false_from_ne_true}
use Rattle.eip_verdict.specs.Same.{same_list}

-- a test of two things that tells whether they are one
abbrev pub Decides : {A : Type 0} → (A → A → Bool) → Type 0
Decides {A} same = (x y : A) → (same x y ≡ true → x ≡ y) × (x ≡ y → same x y ≡ true)

pub list-decides : {A : Type 0} (same : A → A → Bool) → Decides same → Decides (same_list same)
list-decides same d [] [] = (λ h. refl, λ h. refl)
list-decides same d [] (y ∷ ys) = (λ h. absurd (cc h), λ h. absurd (cc h))
list-decides same d (x ∷ xs) [] = (λ h. absurd (cc h), λ h. absurd (cc h))
list-decides same d (x ∷ xs) (y ∷ ys) =
    let r = list-decides same d xs ys in (
      λ h. let p = and_parts (same x y) (same_list same xs ys) h in let a = (d x y).0 p.0 in let b = r.0 p.1 in cc,
      λ h. let a : x ≡ y = cc in let b : xs ≡ ys = cc in and_from (same x y) (same_list same xs ys) ((d x y).1 a) (r.1 b),
    )

pub by-index : {A : Type 0} (xs ys : List A) → length xs ≡ length ys → ((i : ℕ) → i < length xs → slice_get xs i ≡ slice_get ys i) → xs ≡ ys
by-index [] [] n h = refl
by-index [] (y ∷ ys) n h = absurd (omega (arith, n))
by-index (x ∷ xs) [] n h = absurd (omega (arith, n))
by-index (x ∷ xs) (y ∷ ys) n h =
    let first : Some x ≡ Some y = h 0 (omega arith) in
    let a : x ≡ y = cc in
    let b : xs ≡ ys = by-index xs ys (omega (arith, n)) (λ i l. h (suc i) (omega (arith, l))) in
    cc

module _ {A : Type 0} (same : A → A → Bool) (d : Decides same) (xs ys : List A) where
  pub same-all : length xs ≡ length ys → ((i : ℕ) → i < length xs → slice_get xs i ≡ slice_get ys i) → same_list same xs ys ≡ true
  same-all n h = (list-decides same d xs ys).1 (by-index xs ys n h)

  pub differ-long : (length xs ≡ length ys → ⊥) → same_list same xs ys ≡ false
  differ-long h = false_from_ne_true (same_list same xs ys) (λ t. h (ap length ((list-decides same d xs ys).0 t)))

  pub differ-there : (i : ℕ) → (slice_get xs i ≡ slice_get ys i → ⊥) → same_list same xs ys ≡ false
  differ-there i h = false_from_ne_true (same_list same xs ys) (λ t. h (ap (λ zs. slice_get zs i) ((list-decides same d xs ys).0 t)))

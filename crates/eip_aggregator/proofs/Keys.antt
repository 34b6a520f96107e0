-- Keys that are the same.
use Rattle.std.proofs.Common.{◌≡◌, ℕ, true, false, ◌==◌, List, [], ◌∷◌, refl, sym, ap, subst, ◌∙◌, eqb-true, eq-eqb, true≢false}
use Rattle.std.proofs.lemmas.Bool.{and_from, and_parts}
use Rattle.std.specs.Str.{bytes_eq}
use Rattle.eip_aggregator.specs.Arrivals.{Key, same_key}

same_bytes : (a b : List ℕ) → bytes_eq a b ≡ true → a ≡ b
same_bytes [] [] h = refl
same_bytes [] (y ∷ ys) h = absurd (true≢false (sym h))
same_bytes (x ∷ xs) [] h = absurd (true≢false (sym h))
same_bytes (x ∷ xs) (y ∷ ys) h =
    let p = and_parts (x == y) (bytes_eq xs ys) h in
    ap (λ (n : ℕ). n ∷ xs) (eqb-true x y p.0) ∙ ap (λ (t : List ℕ). y ∷ t) (same_bytes xs ys p.1)

bytes_same : (a : List ℕ) → bytes_eq a a ≡ true
bytes_same [] = refl
bytes_same (x ∷ xs) = and_from (x == x) (bytes_eq xs xs) (eq-eqb x x refl) (bytes_same xs)

pub key_same : (a b : Key) → same_key a b ≡ true → a ≡ b
key_same a b h =
    let p = and_parts (a.0 == b.0) (bytes_eq a.1 b.1) h in
    ap (λ (n : ℕ). (n, a.1)) (eqb-true a.0 b.0 p.0) ∙ ap (λ (t : List ℕ). (b.0, t)) (same_bytes a.1 b.1 p.1)

pub same_refl : (a : Key) → same_key a a ≡ true
same_refl a = and_from (a.0 == a.0) (bytes_eq a.1 a.1) (eq-eqb a.0 a.0 refl) (bytes_same a.1)

pub same_of : (a b : Key) → a ≡ b → same_key a b ≡ true
same_of a b e = subst (λ (k : Key). same_key a k ≡ true) e (same_refl a)

pub other_key : (a b : Key) → same_key a b ≡ false → a ≡ b → ⊥
other_key a b f e = true≢false (sym (same_of a b e) ∙ f)

-- Lists with and without their last item.
use Rattle.std.proofs.Common.{◌==◌, ◌≡◌, ◌≢◌, ℕ, Bool, true, false, List, [], ◌∷◌, ◌++◌, length, take, map, refl, sym, ap, ◌∙◌, arith}
use denote.Ref.{Bor}
use Rattle.std.proofs.lemmas.List.{take_all}
use Rattle.std.proofs.lemmas.Bool.{ne_eqb}
use Rattle.eip_pieces.proofs.Cutting.{nows_append}
use Rattle.eip_splitter.specs.Parts.{without_last, is_empty}

-- a last item that passes the test is left out
pub last_dropped : {A : Type 0} (test : A → Bool) (xs : List A) (x : A) → test x ≡ true → without_last test (xs ++ x ∷ []) ≡ xs
last_dropped test [] x t = rw t refl
last_dropped test (y ∷ []) x t = ap (λ l. y ∷ l) (last_dropped test [] x t)
last_dropped test (y ∷ z ∷ zs) x t = ap (λ l. y ∷ l) (last_dropped test (z ∷ zs) x t)

-- one that fails it stays
pub last_kept : {A : Type 0} (test : A → Bool) (xs : List A) (x : A) → test x ≡ false → without_last test (xs ++ x ∷ []) ≡ xs ++ x ∷ []
last_kept test [] x t = rw t refl
last_kept test (y ∷ []) x t = ap (λ l. y ∷ l) (last_kept test [] x t)
last_kept test (y ∷ z ∷ zs) x t = ap (λ l. y ∷ l) (last_kept test (z ∷ zs) x t)

-- a list that doesn't end with an item stays
pub not_ended : (c : ℕ) (bs : List ℕ) → ((front : List ℕ) → bs ≢ front ++ (c ∷ [])) → without_last (λ (b : ℕ). b == c) bs ≡ bs
not_ended c [] h = refl
not_ended c (b ∷ []) h = rw (ne_eqb b c (λ e. h [] (ap (λ x. x ∷ []) e))) refl
not_ended c (b ∷ d ∷ ds) h = ap (λ l. b ∷ l) (not_ended c (d ∷ ds) (λ front e. h (b ∷ front) (ap (λ l. b ∷ l) e)))

-- ---- pieces as they lie in memory

nows_taken : (xs front : List (Bor (List ℕ))) (last : Bor (List ℕ)) → xs ≡ front ++ last ∷ [] → take (length front) xs ≡ front
nows_taken xs front last e = ap (take (length front)) e ∙ taken front (last ∷ [])
  where
    taken : (ys zs : List (Bor (List ℕ))) → take (length ys) (ys ++ zs) ≡ ys
    taken [] zs = refl
    taken (y ∷ ys) zs = ap (λ (l : List (Bor (List ℕ))). y ∷ l) (taken ys zs)

pub without_empty : (xs front : List (Bor (List ℕ))) (last : Bor (List ℕ)) → xs ≡ front ++ last ∷ [] → is_empty last.now ≡ true → map (λ x. x.now) (take (length front) xs) ≡ without_last is_empty (map (λ x. x.now) xs)
without_empty xs front last e t =
    ap (map (λ x. x.now)) (nows_taken xs front last e)
    ∙ sym (ap (λ (ys : List (Bor (List ℕ))). without_last is_empty (map (λ x. x.now) ys)) e
    ∙ ap (without_last is_empty) (nows_append front last)
    ∙ last_dropped is_empty (map (λ x. x.now) front) last.now t)

pub with_filled : (xs front : List (Bor (List ℕ))) (last : Bor (List ℕ)) → xs ≡ front ++ last ∷ [] → is_empty last.now ≡ false → map (λ x. x.now) (take (length xs) xs) ≡ without_last is_empty (map (λ x. x.now) xs)
with_filled xs front last e t =
    let nows : map (λ x. x.now) xs ≡ map (λ x. x.now) front ++ last.now ∷ [] = ap (map (λ x. x.now)) e ∙ nows_append front last in
    ap (map (λ x. x.now)) (take_all (length xs) xs (omega arith)) ∙ nows ∙ sym (ap (without_last is_empty) nows ∙ last_kept is_empty (map (λ x. x.now) front) last.now t)

pub without_any : (xs : List (Bor (List ℕ))) → length xs ≡ 0 → map (λ x. x.now) (take 0 xs) ≡ without_last is_empty (map (λ x. x.now) xs)
without_any [] e = refl
without_any (x ∷ xs) e = absurd (omega arith)

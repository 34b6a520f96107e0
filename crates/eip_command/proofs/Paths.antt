-- The folder and the name of the file that a path names.
use Rattle.std.proofs.Common.{◌≡◌, ℕ, ◌<◌, Bool, true, false, cond, eqb, List, [], ◌∷◌, ◌++◌, length, get_or, inl, inr, Option, Some, None, MatchOption, refl, sym, ap, ◌∙◌, arith, codes, suc, take, drop, ◌+◌, ◌≤◌, subst, take-append-drop}
use denote.Ref.{Bor}
use Rattle.std.proofs.lemmas.Bool.{ne_eqb, eqb-true, cond-true, cond-false}
use Rattle.std.specs.Str.Pattern.{RFindsChar}
use Rattle.std.proofs.lemmas.List.{drop_more}
use Rattle.std.proofs.lemmas.Str.{len_utf8_ascii}
use Rattle.std.proofs.lemmas.Str.Pattern.{NoCharPasses-char}
use Rattle.eip_text.specs.Cuts.{holds_byte}
use Rattle.eip_command.specs.Words.{name_of, front_of, or_root, folder_of, file_at, IsAt, IsFile}

-- ---- where the last `/` stands

-- no byte is a `/`
abbrev pub Lacks : List ℕ → Type 0
Lacks text = (i : ℕ) → i < length text → get_or text i 0 ≡ 47 → ⊥

-- what `rsplit_once('/')` says of its parts
pub parts : (text : List ℕ) (r : Option (Bor (List ℕ) × Bor (List ℕ)))
    → MatchOption r (RFindsChar 47 text None) (λ x. (i : ℕ) × (j : ℕ) × RFindsChar 47 text (Some (i, j)) × (x.0.now ≡ take i text) × (x.1.now ≡ drop j text) × (i ≤ j) × (length x.0.now ≡ i) × (length x.1.now + j ≡ length text))
    → MatchOption r (Lacks text) (λ x. (text ≡ x.0.now ++ (47 ∷ x.1.now)) × Lacks x.1.now)
parts text None h = λ i. NoCharPasses-char 47 text i h (omega arith)
parts text (Some x) h =
    let i = h.0 in
    let j = h.1 in
    let next : j ≡ i + 1 = omega (arith, h.2.1.ends, len_utf8_ascii 47 (omega arith)) in
    let inside : i < length text = omega (arith, h.7) in
    let rest : drop (i + 1) text ≡ x.1.now = ap (λ n. drop n text) (sym next) ∙ sym h.4 in
    let behind : drop i text ≡ 47 ∷ x.1.now = drop_more text i 0 inside ∙ ap (λ b. b ∷ drop (i + 1) text) (h.2.1.byte (omega arith)) ∙ ap (λ (l : List ℕ). 47 ∷ l) rest in (
      sym (take-append-drop i text) ∙ ap (λ (l : List ℕ). l ++ drop i text) (sym h.3) ∙ ap (λ (l : List ℕ). x.0.now ++ l) behind,
      subst Lacks (sym h.4) (λ k. NoCharPasses-char 47 (drop j text) k h.2.0 (omega arith)),
    )

-- ---- of a path without `/`

pub lacks_none : (bs : List ℕ) → Lacks bs → holds_byte 47 bs ≡ false
lacks_none [] h = refl
lacks_none (b ∷ bs) h = cond-false (eqb b 47) true (holds_byte 47 bs) (ne_eqb b 47 (h 0 (omega arith))) ∙ lacks_none bs (λ i lt. h (suc i) (omega arith))

pub name_all : (bs : List ℕ) → holds_byte 47 bs ≡ false → name_of bs ≡ bs
name_all [] h = refl
name_all (b ∷ bs) h = cond-false (holds_byte 47 (b ∷ bs)) (name_of bs) (b ∷ bs) h

-- ---- of a path that is put together

holds_or : (t : Bool) → cond t true true ≡ true
holds_or true = refl
holds_or false = refl

holds_more : (b : ℕ) (bs : List ℕ) → holds_byte 47 bs ≡ true → holds_byte 47 (b ∷ bs) ≡ true
holds_more b bs h = ap (λ t. cond (eqb b 47) true t) h ∙ holds_or (eqb b 47)

pub holds_at : (xs ys : List ℕ) → holds_byte 47 (xs ++ (47 ∷ ys)) ≡ true
holds_at [] ys = refl
holds_at (x ∷ xs) ys = holds_more x (xs ++ (47 ∷ ys)) (holds_at xs ys)

pub name_at : (xs ys : List ℕ) → holds_byte 47 ys ≡ false → name_of (xs ++ (47 ∷ ys)) ≡ ys
name_at [] ys h = name_all ys h
name_at (x ∷ xs) ys h = cond-true (holds_byte 47 (x ∷ (xs ++ (47 ∷ ys)))) _ _ (holds_at (x ∷ xs) ys) ∙ name_at xs ys h

pub front_at : (xs ys : List ℕ) → holds_byte 47 ys ≡ false → front_of (xs ++ (47 ∷ ys)) ≡ xs
front_at [] ys h = cond-false (holds_byte 47 ys) _ _ h
front_at (x ∷ xs) ys h = cond-true (holds_byte 47 (xs ++ (47 ∷ ys))) _ _ (holds_at xs ys) ∙ ap (λ (l : List ℕ). x ∷ l) (front_at xs ys h)

pub folder_at : (bs xs ys : List ℕ) → bs ≡ xs ++ (47 ∷ ys) → Lacks ys → (folder_of bs ≡ or_root xs) × (name_of bs ≡ ys)
folder_at bs xs ys e h =
    let none = lacks_none ys h in (
      ap folder_of e ∙ cond-true (holds_byte 47 (xs ++ (47 ∷ ys))) _ _ (holds_at xs ys) ∙ ap or_root (front_at xs ys none),
      ap name_of e ∙ name_at xs ys none,
    )

pub folder_none : (bs : List ℕ) → Lacks bs → (folder_of bs ≡ codes ".") × (name_of bs ≡ bs)
folder_none bs h = let none = lacks_none bs h in (cond-false (holds_byte 47 bs) _ _ none, name_all bs none)

-- ---- the file is that of the path

name_plain_by : (t : Bool) (b : ℕ) (bs : List ℕ) → holds_byte 47 (b ∷ bs) ≡ t → holds_byte 47 (name_of bs) ≡ false → holds_byte 47 (cond t (name_of bs) (b ∷ bs)) ≡ false
name_plain_by true b bs e h = h
name_plain_by false b bs e h = e

pub name_plain : (bs : List ℕ) → holds_byte 47 (name_of bs) ≡ false
name_plain [] = refl
name_plain (b ∷ bs) = name_plain_by (holds_byte 47 (b ∷ bs)) b bs refl (name_plain bs)

first_slash : (t : Bool) (b : ℕ) → eqb b 47 ≡ t → cond t true false ≡ true → b ≡ 47
first_slash true b e h = eqb-true b 47 e
first_slash false b e h = absurd cc

whole_by : (t : Bool) (b : ℕ) (bs : List ℕ) → holds_byte 47 bs ≡ t → holds_byte 47 (b ∷ bs) ≡ true → (holds_byte 47 bs ≡ true → bs ≡ front_of bs ++ (47 ∷ name_of bs))
    → b ∷ bs ≡ cond t (b ∷ front_of bs) [] ++ (47 ∷ name_of bs)
whole_by true b bs e h ih = ap (λ (l : List ℕ). b ∷ l) (ih e)
whole_by false b bs e h ih =
    let first : b ≡ 47 = first_slash (eqb b 47) b refl (ap (λ t. cond (eqb b 47) true t) (sym e) ∙ h) in
    let rest : name_of bs ≡ bs = name_all bs e in
    cc

pub whole : (bs : List ℕ) → holds_byte 47 bs ≡ true → bs ≡ front_of bs ++ (47 ∷ name_of bs)
whole [] h = absurd cc
whole (b ∷ bs) h =
    whole_by (holds_byte 47 bs) b bs refl h (whole bs)
    ∙ ap (λ (n : List ℕ). front_of (b ∷ bs) ++ (47 ∷ n)) (sym (cond-true (holds_byte 47 (b ∷ bs)) (name_of bs) (b ∷ bs) h))

at_by : (t : Bool) (bs front : List ℕ) → holds_byte 47 bs ≡ t → (holds_byte 47 bs ≡ true → bs ≡ front ++ (47 ∷ name_of bs)) → IsAt (cond t (or_root front) (codes ".")) (name_of bs) bs
at_by false bs front e h = inl (sym (name_all bs e), refl)
at_by true bs [] e h = inr (inl (h e, refl))
at_by true bs (x ∷ xs) e h = inr (inr (h e, λ n. cc))

pub file_is : (bs : List ℕ) → IsFile bs (file_at bs)
file_is bs = record { at = at_by (holds_byte 47 bs) bs (front_of bs) refl (whole bs); plain = name_plain bs }

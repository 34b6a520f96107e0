-- Items that go from the end of one list to another, and those of one list by their place.
use Rattle.std.proofs.Common.{◌≡◌, ◌≤◌, ℕ, zero, suc, ◌+◌, ◌<◌, List, [], ◌∷◌, ◌++◌, length, map, get_or, take, drop, All, ⊎_elim, Vec, Global, refl, sym, ap, subst, ◌∙◌, arith, append-nil, append_assoc, length-append, take_all, drop_of_length-le}
use Rattle.std.specs.Prelude.{reverse}
use Rattle.std.proofs.lemmas.Bool.{cases_lt}
use Rattle.std.proofs.lemmas.List.{reverse-append, map-append}
use Rattle.eip_crew.specs.Team.{items_at}

-- the last of a list in reverse goes behind those that went before it
pub moved : {W A : Type 0} (f : W → A) (old now new : List A) (ws : List W) (w : W) (x : A) → old ≡ map f ws ++ reverse now → now ≡ new ++ x ∷ [] → f w ≡ x
    → old ≡ map f (ws ++ w ∷ []) ++ reverse new
moved f old now new ws w x cut pop is =
    cut
    ∙ (ap (λ l. map f ws ++ reverse l) pop
    ∙ (ap (λ l. map f ws ++ l) (reverse-append new (x ∷ []))
    ∙ (ap (λ y. map f ws ++ y ∷ reverse new) (sym is)
    ∙ (sym (append_assoc (map f ws) (f w ∷ []) (reverse new)) ∙ ap (λ l. l ++ reverse new) (sym (map-append f ws (w ∷ [])))))))

-- what f reads of one more is put behind what it reads of those that were taken before
pub put : {W A : Type 0} (f : W → A) (now new : List A) (rest : List W) (w : W) (x : A) → now ≡ reverse (map f rest) → new ≡ now ++ x ∷ [] → f w ≡ x
    → new ≡ reverse (map f (w ∷ rest))
put f now new rest w x was more is =
    more
    ∙ (ap (λ l. l ++ x ∷ []) was ∙ (ap (λ y. reverse (map f rest) ++ y ∷ []) (sym is) ∙ sym (reverse-append (f w ∷ []) (map f rest))))

-- the last of those in front is the first behind them
pub cut-more : {W : Type 0} (all now new rest : List W) (w : W) → all ≡ now ++ rest → now ≡ new ++ w ∷ [] → all ≡ new ++ w ∷ rest
cut-more all now new rest w cut pop = cut ∙ (ap (λ l. l ++ rest) pop ∙ append_assoc new (w ∷ []) rest)

at-length : {W : Type 0} (front rest : List W) (w d : W) → get_or (front ++ w ∷ rest) (length front) d ≡ w
at-length [] rest w d = refl
at-length (x ∷ front) rest w d = at-length front rest w d

-- what is true of all is true of one behind those in front
pub true-of : {W : Type 0} (P : W → Type 0) (all front rest : List W) (w : W) → All P all → all ≡ front ++ w ∷ rest → P w
true-of P all front rest w holds cut =
    subst P (at-length front rest w w) (subst (All P) cut holds (length front) w (omega (arith, length-append front (w ∷ rest))))

-- the items of list k, where what h reads of others are the lists
pub items-at : {W A : Type 0} (h : W → Vec A Global) (ws : List W) (k : ℕ) (d : W) → k < length ws → items_at (map h ws) k ≡ (h (get_or ws k d)).items
items-at h [] k d within = absurd (omega arith)
items-at h (w ∷ ws) zero d within = refl
items-at h (w ∷ ws) (suc k) d within = items-at h ws k d (omega arith)

-- a list that has a place k has an item
pub some-item : {W : Type 0} (ws : List W) (k : ℕ) → k < length ws → W
some-item [] k within = absurd (omega arith)
some-item (w ∷ ws) k within = w

-- list k is what each reading of its place is
pub list-at : {A : Type 0} (lists : List (Vec A Global)) (k : ℕ) (xs : List A) → k < length lists → ((d : Vec A Global) → (get_or lists k d).items ≡ xs) → items_at lists k ≡ xs
list-at [] k xs within is = absurd (omega arith)
list-at (l ∷ ls) zero xs within is = is l
list-at (l ∷ ls) (suc k) xs within is = list-at ls k xs (omega arith) is

pub at-list : {A : Type 0} (lists : List (Vec A Global)) (k : ℕ) (d : Vec A Global) → k < length lists → (get_or lists k d).items ≡ items_at lists k
at-list [] k d within = absurd (omega arith)
at-list (l ∷ ls) zero d within = refl
at-list (l ∷ ls) (suc k) d within = at-list ls k d (omega arith)

-- a list that was lent whole and given back
pub whole : {A : Type 0} (n : ℕ) (new items : List A) → length new ≡ length items → n ≡ length items → take n (new ++ drop (length new) items) ≡ new
whole n new items same all =
    let none : drop (length new) items ≡ [] = drop_of_length-le items (omega arith) in
    ap (λ l. take n (new ++ l)) none ∙ (ap (take n) (append-nil new) ∙ take_all n new (omega arith))

front-at : {W : Type 0} (ws more : List W) (k : ℕ) (d : W) → k < length ws → get_or (ws ++ more) k d ≡ get_or ws k d
front-at [] more k d within = absurd (omega arith)
front-at (w ∷ ws) more zero d within = refl
front-at (w ∷ ws) more (suc k) d within = front-at ws more k d (omega arith)

-- what is true of each of n items, by their places, is true of one more, if it is true of that one
pub all-more : {W : Type 0} (P : ℕ → W → Type 0) (ws : List W) (w : W) (n : ℕ) → length ws ≡ n → ((k : ℕ) (d : W) → k < n → P k (get_or ws k d)) → P n w
    → (k : ℕ) (d : W) → k < n + 1 → P k (get_or (ws ++ w ∷ []) k d)
all-more {W = W} P ws w n long each last k d within = ⊎_elim
    (λ (before : k < n). subst (P k) (sym (front-at ws (w ∷ []) k d (omega (arith, before, long)))) (each k d before))
    (λ (behind : n ≤ k). here (omega (arith, behind, within, long)))
    (cases_lt k n)
  where
    here : k ≡ length ws → P k (get_or (ws ++ w ∷ []) k d)
    here is =
        subst (λ (m : ℕ). P m (get_or (ws ++ w ∷ []) m d)) (sym is)
        (subst (P (length ws)) (sym (at-length ws [] w d)) (subst (λ (m : ℕ). P m w) (sym long) last))

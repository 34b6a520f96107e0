-- A list that is in order, and whose ties stand as they stood before, is the list with each element placed in turn.
use Rattle.std.proofs.Common.{◌≡◌, ℕ, zero, suc, ◌<◌, ◌≤◌, Bool, true, false, cond, List, [], ◌∷◌, ◌++◌, length, get_or, refl, sym, ap, ◌∙◌, arith, append_assoc, append-nil, add-one, fold}
use Rattle.std.specs.Cmp.{IsStrictWeakOrder}
use Rattle.std.specs.List.{filter}
use Rattle.std.specs.List.Sorted.{IsPermutation, IsSortedBy, IsStableBy, ties}
use Rattle.std.proofs.lemmas.List.Sorted.{sorted_far, IsPermutation-refl, IsPermutation-sym, IsPermutation-trans, IsPermutation-cons, IsPermutation-middle, IsPermutation-append_left}
use Rattle.eip_resequence.specs.Order.{placed, in_order}

module _ {X : Type 0} (lt : X → X → Bool) (o : IsStrictWeakOrder lt) where
  -- no element of ys is less than x
  abbrev NotBelow : X → List X → Type 0
  NotBelow x [] = Unit {0}
  NotBelow x (y ∷ ys) = (lt y x ≡ false) × NotBelow x ys

  abbrev Rises : List X → Type 0
  Rises [] = Unit {0}
  Rises (x ∷ xs) = NotBelow x xs × Rises xs

  -- ---- of what a stable sort says

  not_below_from : (x : X) (ys : List X) → ((k : ℕ) (d : X) → k < length ys → lt (get_or ys k d) x ≡ false) → NotBelow x ys
  not_below_from x [] h = tt
  not_below_from x (y ∷ ys) h = (h 0 y (omega arith), not_below_from x ys (λ k d l. h (suc k) d (omega arith)))

  rises_from : (xs : List X) → ((i j : ℕ) (d : X) → i ≤ j → j < length xs → lt (get_or xs j d) (get_or xs i d) ≡ false) → Rises xs
  rises_from [] far = tt
  rises_from (x ∷ xs) far = (
    not_below_from x xs (λ k d l. far 0 (suc k) d (omega arith) (omega arith)),
    rises_from xs (λ i j d l m. far (suc i) (suc j) d (omega arith) (omega arith)),
  )

  -- ---- ties

  itself : (b : Bool) (x : X) → lt x x ≡ b → lt x x ≡ false
  itself true x e = o.one_way x x e
  itself false x e = e

  tie : (x y : X) → lt x y ≡ false → lt y x ≡ false → ties lt x y ≡ true
  tie x y p q = rw (p, q) refl

  parts : (a b : Bool) (x y : X) → lt x y ≡ a → lt y x ≡ b → ties lt x y ≡ true → (lt x y ≡ false) × (lt y x ≡ false)
  parts true b x y p q h = absurd (let e : false ≡ true = rw p at h in cc)
  parts false true x y p q h = absurd (let e : false ≡ true = rw (p, q) at h in cc)
  parts false false x y p q h = (p, q)

  above : (b : Bool) (y z w : X) → lt y w ≡ b → lt y z ≡ true → lt w z ≡ false → lt y w ≡ true
  above true y z w e p q = e
  above false y z w e p q = absurd (let no : lt y z ≡ false = o.chain y w z e q in cc)

  below : (b : Bool) (x a c : X) → lt x c ≡ b → lt a x ≡ false → lt a c ≡ true → lt x c ≡ true
  below true x a c e p q = e
  below false x a c e p q = absurd (let no : lt a c ≡ false = o.chain a x c p e in cc)

  -- what is less than z ties with nothing from z on
  none_tie : (y z : X) (zs : List X) → lt y z ≡ true → NotBelow z zs → filter (ties lt y) zs ≡ []
  none_tie y z [] p h = refl
  none_tie y z (w ∷ ws) p h =
      let q : lt y w ≡ true = above (lt y w) y z w refl p h.0 in
      rw q (none_tie y z ws p h.1)

  none_tie_from : (y z : X) (zs : List X) → lt y z ≡ true → NotBelow z zs → filter (ties lt y) (z ∷ zs) ≡ []
  none_tie_from y z zs p h = none_tie y z (z ∷ zs) p (itself (lt z z) z refl, h)

  self_tie : (y : X) (ys : List X) → filter (ties lt y) (y ∷ ys) ≡ y ∷ filter (ties lt y) ys
  self_tie y ys = let e = itself (lt y y) y refl in rw e refl

  -- ---- order and ties determine a list

  heads : (a b : Bool) (y z : X) (ys zs : List X) → lt y z ≡ a → lt z y ≡ b → NotBelow y ys → NotBelow z zs
      → ((x : X) → filter (ties lt x) (y ∷ ys) ≡ filter (ties lt x) (z ∷ zs)) → y ≡ z
  heads true b y z ys zs p q h k same = absurd (let e = sym (self_tie y ys) ∙ same y ∙ none_tie_from y z zs p k in cc)
  heads false true y z ys zs p q h k same = absurd (let e = sym (self_tie z zs) ∙ sym (same z) ∙ none_tie_from z y ys q h in cc)
  heads false false y z ys zs p q h k same =
      let t : ties lt y z ≡ true = tie y z p q in
      let e : y ∷ filter (ties lt y) ys ≡ z ∷ filter (ties lt y) zs = sym (self_tie y ys) ∙ same y ∙ ap (λ (b : Bool). cond b (z ∷ filter (ties lt y) zs) (filter (ties lt y) zs)) t in
      cc

  tails : (b : Bool) (y : X) (us vs : List X) → cond b (y ∷ us) us ≡ cond b (y ∷ vs) vs → us ≡ vs
  tails true y us vs e = cc
  tails false y us vs e = e

  unique : (ys zs : List X) → Rises ys → Rises zs → ((x : X) → filter (ties lt x) ys ≡ filter (ties lt x) zs) → ys ≡ zs
  unique [] [] h k same = refl
  unique [] (z ∷ zs) h k same = absurd (let e = same z ∙ self_tie z zs in cc)
  unique (y ∷ ys) [] h k same = absurd (let e = sym (self_tie y ys) ∙ same y in cc)
  unique (y ∷ ys) (z ∷ zs) h k same =
      let e : y ≡ z = heads (lt y z) (lt z y) y z ys zs refl refl h.0 k.0 same in
      let rest : ys ≡ zs = unique ys zs h.1 k.1 (λ x. tails (ties lt x y) y (filter (ties lt x) ys) (filter (ties lt x) zs)
      (same x ∙ ap (λ (w : X). cond (ties lt x w) (w ∷ filter (ties lt x) zs) (filter (ties lt x) zs)) (sym e))) in
      cc

  -- ---- placing

  not_below_placed : (b : Bool) (x a : X) (ys : List X) → lt a x ≡ false → NotBelow x ys → NotBelow x (placed lt a ys)
  not_below_placed b x a [] p h = (p, tt)
  not_below_placed b x a (y ∷ ys) p h =
      elim (lt a y) as (λ c. NotBelow x (cond c (a ∷ y ∷ ys) (y ∷ placed lt a ys))) [ true ↦ (p, h) | false ↦ (h.0, not_below_placed b x a ys p h.1) ]

  lower : (a b : X) (ys : List X) → lt b a ≡ false → NotBelow b ys → NotBelow a ys
  lower a b [] p h = tt
  lower a b (y ∷ ys) p h = (o.chain y b a h.0 p, lower a b ys p h.1)

  rises_by : (c : Bool) (a b : X) (bs : List X) → lt a b ≡ c → Rises (b ∷ bs) → Rises (placed lt a bs) → Rises (cond c (a ∷ b ∷ bs) (b ∷ placed lt a bs))
  rises_by true a b bs e h rest = let back = o.one_way a b e in ((back, lower a b bs back h.0), h)
  rises_by false a b bs e h rest = (not_below_placed false b a bs e h.0, rest)

  rises_placed : (a : X) (bs : List X) → Rises bs → Rises (placed lt a bs)
  rises_placed a [] h = (tt, tt)
  rises_placed a (b ∷ bs) h = rises_by (lt a b) a b bs refl h (rises_placed a bs h.1)

  front : (t : Bool) (x a b : X) (bs : List X) → ties lt x a ≡ t → lt a b ≡ true → NotBelow b bs
      → cond t (a ∷ filter (ties lt x) (b ∷ bs)) (filter (ties lt x) (b ∷ bs)) ≡ filter (ties lt x) (b ∷ bs) ++ cond t (a ∷ []) []
  front true x a b bs e p h =
      let q = parts (lt x a) (lt a x) x a refl refl e in
      let none : filter (ties lt x) (b ∷ bs) ≡ [] = none_tie_from x b bs (below (lt x b) x a b refl q.1 p) h in
      ap (λ (l : List X). a ∷ l) none ∙ ap (λ (l : List X). l ++ a ∷ []) (sym none)
  front false x a b bs e p h = sym (append-nil _)

  behind : (t : Bool) (b : X) (us vs ws : List X) → us ≡ vs ++ ws → cond t (b ∷ us) us ≡ cond t (b ∷ vs) vs ++ ws
  behind true b us vs ws e = ap (λ (l : List X). b ∷ l) e
  behind false b us vs ws e = e

  kept_by : (c : Bool) (x a b : X) (bs : List X) → lt a b ≡ c → NotBelow b bs
      → filter (ties lt x) (placed lt a bs) ≡ filter (ties lt x) bs ++ filter (ties lt x) (a ∷ [])
      → filter (ties lt x) (cond c (a ∷ b ∷ bs) (b ∷ placed lt a bs)) ≡ filter (ties lt x) (b ∷ bs) ++ filter (ties lt x) (a ∷ [])
  kept_by true x a b bs e h rest = front (ties lt x a) x a b bs refl e h
  kept_by false x a b bs e h rest = behind (ties lt x b) b (filter (ties lt x) (placed lt a bs)) (filter (ties lt x) bs) (filter (ties lt x) (a ∷ [])) rest

  kept : (x a : X) (bs : List X) → Rises bs → filter (ties lt x) (placed lt a bs) ≡ filter (ties lt x) bs ++ filter (ties lt x) (a ∷ [])
  kept x a [] h = refl
  kept x a (b ∷ bs) h = kept_by (lt a b) x a b bs refl h.0 (kept x a bs h.1)

  one_more : (t : Bool) (a : X) (us : List X) → cond t (a ∷ []) [] ++ us ≡ cond t (a ∷ us) us
  one_more true a us = refl
  one_more false a us = refl

  abbrev all_placed : List X → List X → List X
  all_placed so_far xs = fold (λ l x. placed lt x l) so_far xs

  rises_all : (so_far xs : List X) → Rises so_far → Rises (all_placed so_far xs)
  rises_all so_far [] h = h
  rises_all so_far (x ∷ xs) h = rises_all (placed lt x so_far) xs (rises_placed x so_far h)

  kept_all : (y : X) (so_far xs : List X) → Rises so_far → filter (ties lt y) (all_placed so_far xs) ≡ filter (ties lt y) so_far ++ filter (ties lt y) xs
  kept_all y so_far [] h = sym (append-nil _)
  kept_all y so_far (x ∷ xs) h =
      kept_all y (placed lt x so_far) xs (rises_placed x so_far h)
      ∙ ap (λ (l : List X). l ++ filter (ties lt y) xs) (kept y x so_far h)
      ∙ append_assoc (filter (ties lt y) so_far) (filter (ties lt y) (x ∷ [])) (filter (ties lt y) xs)
      ∙ ap (λ (l : List X). filter (ties lt y) so_far ++ l) (one_more (ties lt y x) x (filter (ties lt y) xs))

  -- what a stable sort gives is each element placed in turn
  pub sorted_is : (xs ys : List X) → IsSortedBy lt ys → IsStableBy lt xs ys → ys ≡ in_order lt xs
  sorted_is xs ys up stable =
      unique ys (in_order lt xs) (rises_from ys (sorted_far lt o ys up)) (rises_all [] xs tt) (λ x. stable x ∙ sym (kept_all x [] xs tt))

  -- ---- what is placed in turn is in order

  up : (xs : List X) → Rises xs → (k : ℕ) (d : X) → suc k < length xs → lt (get_or xs (suc k) d) (get_or xs k d) ≡ false
  up [] h k d l = absurd (omega arith)
  up (x ∷ []) h k d l = absurd (omega arith)
  up (x ∷ y ∷ ys) h zero d l = h.0.0
  up (x ∷ y ∷ ys) h (suc k) d l = up (y ∷ ys) h.1 k d (omega arith)

  pub in_order-rises : (xs : List X) → IsSortedBy lt (in_order lt xs)
  in_order-rises xs = λ k d _ l. rw add-one (up (in_order lt xs) (rises_all [] xs tt) k d (omega arith))

  pub in_order-ties : (xs : List X) → IsStableBy lt xs (in_order lt xs)
  in_order-ties xs = λ x. kept_all x [] xs tt

  placed-moves : (x : X) (ys : List X) → IsPermutation (x ∷ ys) (placed lt x ys)
  placed-moves x [] = IsPermutation-refl (x ∷ [])
  placed-moves x (y ∷ ys) =
      elim (lt x y) as (λ c. IsPermutation (x ∷ y ∷ ys) (cond c (x ∷ y ∷ ys) (y ∷ placed lt x ys))) [
        | true ↦ IsPermutation-refl (x ∷ y ∷ ys)
        | false ↦ IsPermutation-trans (x ∷ y ∷ ys) (y ∷ x ∷ ys) (y ∷ placed lt x ys)
            (IsPermutation-sym (y ∷ x ∷ ys) (x ∷ y ∷ ys) (IsPermutation-middle (y ∷ []) x ys))
            (IsPermutation-cons y (x ∷ ys) (placed lt x ys) (placed-moves x ys))
      ]

  all-moves : (so_far xs : List X) → IsPermutation (so_far ++ xs) (all_placed so_far xs)
  all-moves so_far [] = rw append-nil (IsPermutation-refl so_far)
  all-moves so_far (x ∷ xs) =
      let end = all_placed (placed lt x so_far) xs in
      IsPermutation-trans (so_far ++ x ∷ xs) (x ∷ (so_far ++ xs)) end (IsPermutation-middle so_far x xs)
      (IsPermutation-trans (x ∷ (so_far ++ xs)) (placed lt x so_far ++ xs) end
      (IsPermutation-append_left xs (x ∷ so_far) (placed lt x so_far) (placed-moves x so_far))
      (all-moves (placed lt x so_far) xs))

  pub in_order-moves : (xs : List X) → IsPermutation xs (in_order lt xs)
  in_order-moves xs = all-moves [] xs

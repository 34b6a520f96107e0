-- One more item at the end of a list, and lists of which each has its share.
use Rattle.std.proofs.Common.{◌≡◌, ◌≢◌, ℕ, suc, ◌+◌, ◌≤◌, ◌<◌, ◌%◌, ◌==◌, Bool, true, false, cond, List, [], ◌∷◌, ◌++◌, length, map, get_or, set, refl, sym, ap, ◌∙◌, arith, inl, inr, append_assoc, append-nil, length-append}
use Rattle.std.specs.Prelude.{reverse}
use Rattle.std.proofs.lemmas.Bool.{eq-eqb, ne_eqb, cases_eq}
use Rattle.std.proofs.lemmas.List.{get_or-set_same, get_or-set_other, get_or_default, reverse-append, same_from_push}
use Rattle.eip_shares.specs.Shares.{share}

-- what one more item adds to a share
abbrev pub added : {A : Type 0} → (n k e : ℕ) → A → List A
added n k e x = cond (e % n == k) (x ∷ []) []

cond-append : {A : Type 0} (b : Bool) (x : A) (xs ys : List A) → cond b (x ∷ (xs ++ ys)) (xs ++ ys) ≡ cond b (x ∷ xs) xs ++ ys
cond-append true x xs ys = refl
cond-append false x xs ys = refl

pub share-more : {A : Type 0} (n k e : ℕ) (xs : List A) (x : A) → share n k e (xs ++ x ∷ []) ≡ share n k e xs ++ added n k (e + length xs) x
share-more n k e [] x =
    let z : e + 0 ≡ e = omega arith in
    rw z (elim (e % n == k) as (λ b. cond b (x ∷ []) [] ≡ [] ++ cond b (x ∷ []) []) [ true ↦ refl | false ↦ refl ])
share-more n k e (y ∷ xs) x =
    let z : e + suc (length xs) ≡ e + 1 + length xs = omega arith in
    let ih = share-more n k (e + 1) xs x in
    rw (z, ih) (cond-append (e % n == k) y (share n k (e + 1) xs) (added n k (e + 1 + length xs) x))

-- the share of what is seen of the items is what is seen of their share
pub share-map : {A B : Type 0} (f : A → B) (n k e : ℕ) (xs : List A) → map f (share n k e xs) ≡ share n k e (map f xs)
share-map f n k e [] = refl
share-map f n k e (x ∷ xs) = by_test (e % n == k) (share-map f n k (e + 1) xs)
  where
    by_test : (b : Bool) → map f (share n k (e + 1) xs) ≡ share n k (e + 1) (map f xs)
        → map f (cond b (x ∷ share n k (e + 1) xs) (share n k (e + 1) xs)) ≡ cond b (f x ∷ share n k (e + 1) (map f xs)) (share n k (e + 1) (map f xs))
    by_test true ih = ap (λ ys. f x ∷ ys) ih
    by_test false ih = ih

-- a share is no longer than the list
pub share-length : {A : Type 0} (n k e : ℕ) (xs : List A) → length (share n k e xs) ≤ length xs
share-length n k e [] = omega arith
share-length n k e (x ∷ xs) =
    let ih = share-length n k (e + 1) xs in
    elim (e % n == k) as (λ b. length (cond b (x ∷ share n k (e + 1) xs) (share n k (e + 1) xs)) ≤ suc (length xs)) [ true ↦ omega (arith, ih) | false ↦ omega (arith, ih) ]

-- ---- lists of lists: f reads the items of one

added-here : {A : Type 0} (n k e : ℕ) (x : A) → e % n ≡ k → added n k e x ≡ x ∷ []
added-here n k e x h = ap (λ b. cond b (x ∷ []) []) (eq-eqb (e % n) k h)

added-elsewhere : {A : Type 0} (n k e : ℕ) (x : A) → e % n ≢ k → added n k e x ≡ []
added-elsewhere n k e x h = ap (λ b. cond b (x ∷ []) []) (ne_eqb (e % n) k h)

-- the share that gets one more item at the end, and those that don't
pub share-here : {A : Type 0} (n k : ℕ) (xs : List A) (x : A) → length xs % n ≡ k → share n k 0 (xs ++ x ∷ []) ≡ share n k 0 xs ++ x ∷ []
share-here n k xs x h =
    let z : 0 + length xs ≡ length xs = omega arith in
    share-more n k 0 xs x ∙ ap (λ ys. share n k 0 xs ++ ys) (ap (λ e. added n k e x) z ∙ added-here n k (length xs) x h)

pub share-elsewhere : {A : Type 0} (n k : ℕ) (xs : List A) (x : A) → length xs % n ≢ k → share n k 0 (xs ++ x ∷ []) ≡ share n k 0 xs
share-elsewhere n k xs x h =
    let z : 0 + length xs ≡ length xs = omega arith in
    share-more n k 0 xs x ∙ (ap (λ ys. share n k 0 xs ++ ys) (ap (λ e. added n k e x) z ∙ added-elsewhere n k (length xs) x h) ∙ append-nil (share n k 0 xs))

-- the last of a list
pub last_of : {A : Type 0} (xs : List A) → 0 < length xs → (front : List A) × (y : A) × (xs ≡ front ++ y ∷ [])
last_of [] h = absurd (omega (arith, h))
last_of (x ∷ []) h = ([], x, refl)
last_of (x ∷ y ∷ xs) h = let rest = last_of (y ∷ xs) (omega arith) in (x ∷ rest.0, rest.1, ap (λ ys. x ∷ ys) rest.2)

-- an item is given to the list whose turn it is
pub given : {V A : Type 0} (f : V → List A) (n t : ℕ) (lists : List V) (xs : List A) (x : A) (was now : V) → length lists ≡ n → t ≡ length xs % n → t < n
    → was ≡ get_or lists t was → f now ≡ f was ++ x ∷ [] → ((k : ℕ) (d : V) → k < n → f (get_or lists k d) ≡ share n k 0 xs)
    → (k : ℕ) (d : V) → k < n → f (get_or (set lists t now) k d) ≡ share n k 0 (xs ++ x ∷ [])
given f n t lists xs x was now long turn within at put before k d h = elim (cases_eq k t) [ inl e ↦ here e | inr e ↦ elsewhere e ]
  where
    here : k ≡ t → f (get_or (set lists t now) k d) ≡ share n k 0 (xs ++ x ∷ [])
    here e =
        ap (λ j. f (get_or (set lists t now) j d)) e
        ∙ (ap f (get_or-set_same lists t now d (omega (arith, long, within)))
        ∙ (put
        ∙ (ap (λ ys. ys ++ x ∷ []) (ap f at ∙ before t was within)
        ∙ (sym (share-here n t xs x (sym turn)) ∙ ap (λ j. share n j 0 (xs ++ x ∷ [])) (sym e)))))

    elsewhere : k ≢ t → f (get_or (set lists t now) k d) ≡ share n k 0 (xs ++ x ∷ [])
    elsewhere e = ap f (get_or-set_other lists t k now d e) ∙ (before k d h ∙ sym (share-elsewhere n k xs x (λ g. e (sym g ∙ sym turn))))

-- a field that the turn leaves as it was
pub same_field : {V F : Type 0} (f : V → F) (n t : ℕ) (lists first : List V) (was now : V) → length lists ≡ n → t < n → was ≡ get_or lists t was → f now ≡ f was
    → ((k : ℕ) (d : V) → k < n → f (get_or lists k d) ≡ f (get_or first k d))
    → (k : ℕ) (d : V) → k < n → f (get_or (set lists t now) k d) ≡ f (get_or first k d)
same_field f n t lists first was now long within at same before k d h = elim (cases_eq k t) [ inl e ↦ here e | inr e ↦ elsewhere e ]
  where
    here : k ≡ t → f (get_or (set lists t now) k d) ≡ f (get_or first k d)
    here e =
        ap (λ j. f (get_or (set lists t now) j d)) e
        ∙ (ap f (get_or-set_same lists t now d (omega (arith, long, within)))
        ∙ (same ∙ (ap f (at ∙ get_or_default lists t was d (omega (arith, long, within))) ∙ (before t d within ∙ ap (λ j. f (get_or first j d)) (sym e)))))

    elsewhere : k ≢ t → f (get_or (set lists t now) k d) ≡ f (get_or first k d)
    elsewhere e = ap f (get_or-set_other lists t k now d e) ∙ before k d h

-- the item popped is the first of those in reverse
pub popped : {A : Type 0} (old xs now new : List A) (x : A) → old ≡ xs ++ reverse now → now ≡ new ++ x ∷ [] → old ≡ (xs ++ x ∷ []) ++ reverse new
popped old xs now new x cut pop =
    cut ∙ (ap (λ ys. xs ++ reverse ys) pop ∙ (ap (λ ys. xs ++ ys) (reverse-append new (x ∷ [])) ∙ sym (append_assoc xs (x ∷ []) (reverse new))))

-- what is left of the items where the list whose turn it is lost its last one
pub record Lost {V A : Type 0} (f : V → List A) (n t : ℕ) (lists : List V) (now : V) (items xs : List A) (x : A) (e : ℕ) : Type 0 where
  pub front : List A
  pub whole : xs ≡ front ++ reverse (items ++ x ∷ [])
  pub long : length front ≡ e
  pub shares : (k : ℕ) (d : V) → k < n → f (get_or (set lists t now) k d) ≡ share n k 0 front

-- the list whose turn it is has the last of the items
pub has_last : {V A : Type 0} (f : V → List A) (n t e : ℕ) (lists : List V) (front : List A) (was : V) → t ≡ e % n → t < n → length front ≡ e + 1
    → was ≡ get_or lists t was → ((k : ℕ) (d : V) → k < n → f (get_or lists k d) ≡ share n k 0 front)
    → (before : List A) × (y : A) × (front ≡ before ++ y ∷ []) × (length before ≡ e) × (f was ≡ share n t 0 before ++ y ∷ [])
has_last f n t e lists front was turn within long at shares =
    let last = last_of front (omega (arith, long)) in
    let size : length last.0 ≡ e = omega (arith, long, ap length last.2, length-append last.0 (last.1 ∷ [])) in (
      last.0,
      last.1,
      last.2,
      size,
      ap f at ∙ (shares t was within ∙ (ap (share n t 0) last.2 ∙ share-here n t last.0 last.1 (ap (λ j. j % n) size ∙ sym turn))),
    )

pub lost : {V A : Type 0} (f : V → List A) (n t e : ℕ) (lists : List V) (front items xs : List A) (was now : V) (x : A) → length lists ≡ n → t ≡ e % n
    → t < n → length front ≡ e + 1 → was ≡ get_or lists t was → f was ≡ f now ++ x ∷ [] → ((k : ℕ) (d : V) → k < n → f (get_or lists k d) ≡ share n k 0 front)
    → xs ≡ front ++ reverse items → Lost f n t lists now items xs x e
lost {V = V} {A = A} f n t e lists front items xs was now x wide turn within long at pop shares whole =
    let last = has_last f n t e lists front was turn within long at shares in
    let same = same_from_push (f now) (share n t 0 last.0) x last.1 (sym pop ∙ last.4) in
    record {
      front = last.0;
      whole = whole
          ∙ (ap (λ ys. ys ++ reverse items) (last.2 ∙ ap (λ y. last.0 ++ y ∷ []) (sym same.1))
          ∙ (append_assoc last.0 (x ∷ []) (reverse items) ∙ ap (λ ys. last.0 ++ ys) (sym (reverse-append items (x ∷ [])))));
      long = last.3;
      shares = λ k d h. elim (cases_eq k t) [ inl c ↦ here last.0 same.0 k d c | inr c ↦ elsewhere last.0 last.1 last.2 last.3 k d h c ];
    }
  where
    here : (before : List A) → f now ≡ share n t 0 before → (k : ℕ) (d : V) → k ≡ t → f (get_or (set lists t now) k d) ≡ share n k 0 before
    here before is k d c =
        ap (λ j. f (get_or (set lists t now) j d)) c
        ∙ (ap f (get_or-set_same lists t now d (omega (arith, wide, within))) ∙ (is ∙ ap (λ j. share n j 0 before) (sym c)))

    elsewhere : (before : List A) (y : A) → front ≡ before ++ y ∷ [] → length before ≡ e → (k : ℕ) (d : V) → k < n → k ≢ t
        → f (get_or (set lists t now) k d) ≡ share n k 0 before
    elsewhere before y cut size k d h c =
        ap f (get_or-set_other lists t k now d c)
        ∙ (shares k d h ∙ (ap (share n k 0) cut ∙ share-elsewhere n k before y (λ g. c (sym g ∙ (ap (λ j. j % n) size ∙ sym turn)))))

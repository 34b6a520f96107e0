-- Lemmas on lists alone: what one row's change does to a table.
use Rattle.std.proofs.Common.{nat_lt, ◌≡◌, ◌≢◌, ℕ, zero, suc, ◌+◌, ◌<◌, ◌≤◌, Bool, true, false, List, [], ◌∷◌, ◌++◌, length, set, filter, map, Some, refl, sym, ap, subst, ◌∙◌, arith, eq-eqb, cond, inl, inr}
use Rattle.std.specs.List.{slice_get}
use Rattle.std.proofs.lemmas.List.{map-append}
use Rattle.std.proofs.lemmas.List.Elements.{filter-append}
use Rattle.std.proofs.lemmas.Bool.{ne_eqb, lt-ltb, ltb-true, cases_Bool}
use Rattle.eip_exchange.specs.declared.birth.Birth.{Birth}
use Rattle.eip_history.specs.Tables.{Related, AreNumberedFrom, bit, without, put_in}

pub related-all : {A B : Type 0} (R S : A → B → Type 0) (xs : List A) (ys : List B) → ((x : A) (y : B) → R x y → S x y) → Related R xs ys → Related S xs ys
related-all R S [] [] h r = tt
related-all R S [] (y ∷ ys) h r = r
related-all R S (x ∷ xs) [] h r = r
related-all R S (x ∷ xs) (y ∷ ys) h r = (h x y r.0, related-all R S xs ys h r.1)

pub related-push : {A B : Type 0} (R : A → B → Type 0) (xs : List A) (ys : List B) (x : A) (y : B) → Related R xs ys → R x y
    → Related R (xs ++ x ∷ []) (ys ++ y ∷ [])
related-push R [] [] x y r h = (h, tt)
related-push R [] (z ∷ ys) x y r h = absurd r
related-push R (z ∷ xs) [] x y r h = absurd r
related-push R (z ∷ xs) (w ∷ ys) x y r h = (r.0, related-push R xs ys x y r.1 h)

pub related-length : {A B : Type 0} (R : A → B → Type 0) (xs : List A) (ys : List B) → Related R xs ys → length xs ≡ length ys
related-length R [] [] r = refl
related-length R [] (z ∷ ys) r = absurd r
related-length R (z ∷ xs) [] r = absurd r
related-length R (z ∷ xs) (w ∷ ys) r = ap suc (related-length R xs ys r.1)

pub related-at : {A B : Type 0} (R : A → B → Type 0) (xs : List A) (ys : List B) (i : ℕ) (x : A) (y : B) → Related R xs ys → slice_get xs i ≡ Some x
    → slice_get ys i ≡ Some y → R x y
related-at R [] ys i x y r p q = absurd (cc p)
related-at R (z ∷ xs) [] i x y r p q = absurd r
related-at R (z ∷ xs) (w ∷ ys) zero x y r p q =
    let e : z ≡ x = cc in let f : w ≡ y = cc in subst (λ u. R u y) e (subst (λ v. R z v) f r.0)
related-at R (z ∷ xs) (w ∷ ys) (suc i) x y r p q = related-at R xs ys i x y r.1 p q

-- no row of numbers from m on is that of a number below m
pub related-above : {B : Type 0} (R S : Birth → B → Type 0) (n m : ℕ) (bs : List Birth) (rs : List B)
    → n < m → AreNumberedFrom m bs → ((b : Birth) (q : B) → b.number ≢ n → R b q → S b q) → Related R bs rs → Related S bs rs
related-above R S n m [] [] l ns other rel = tt
related-above R S n m [] (q ∷ rs) l ns other rel = rel
related-above R S n m (b ∷ bs) [] l ns other rel = rel
related-above R S n m (b ∷ bs) (q ∷ rs) l ns other rel =
    (other b q (omega (arith, ns.0)) rel.0, related-above R S n (m + 1) bs rs (omega arith) ns.1 other rel.1)

-- the row at i changes, and every other row stands as before
pub related-set : {B : Type 0} (R S : Birth → B → Type 0) (n : ℕ) (bs : List Birth) (rs : List B) (i : ℕ) (r : B)
    → AreNumberedFrom n bs
    → ((b : Birth) (q : B) → b.number ≢ n + i → R b q → S b q)
    → ((b : Birth) → slice_get bs i ≡ Some b → S b r)
    → Related R bs rs → Related S bs (set rs i r)
related-set R S n [] [] i r ns other here rel = tt
related-set R S n [] (q ∷ rs) i r ns other here rel = absurd rel
related-set R S n (b ∷ bs) [] i r ns other here rel = absurd rel
related-set R S n (b ∷ bs) (q ∷ rs) zero r ns other here rel =
    (here b refl, related-above R S n (n + 1) bs rs (omega arith) ns.1 (λ d p ne. other d p (omega arith)) rel.1)
related-set R S n (b ∷ bs) (q ∷ rs) (suc i) r ns other here rel =
    (other b q (omega (arith, ns.0)) rel.0, related-set R S (n + 1) bs rs i r ns.1 (λ d p ne. other d p (omega arith)) here rel.1)

pub numbered-push : (n : ℕ) (bs : List Birth) (b : Birth) → AreNumberedFrom n bs → b.number ≡ n + length bs → AreNumberedFrom n (bs ++ b ∷ [])
numbered-push n [] b ns e = (omega (arith, e), tt)
numbered-push n (c ∷ bs) b ns e = (ns.0, numbered-push (n + 1) bs b ns.1 (omega (arith, e)))

pub filter-same : {A : Type 0} (p q : A → Bool) (xs : List A) → ((x : A) → p x ≡ q x) → filter p xs ≡ filter q xs
filter-same p q [] h = refl
filter-same p q (x ∷ xs) h = rw (h x, filter-same p q xs h) refl

-- the birth at a place has that place's number
pub numbered-at : (n : ℕ) (bs : List Birth) (i : ℕ) (b : Birth) → AreNumberedFrom n bs → slice_get bs i ≡ Some b → b.number ≡ n + i
numbered-at n [] i b ns p = absurd (cc p)
numbered-at n (c ∷ bs) zero b ns p =
    let e : c ≡ b = cc in
    let f : c.number ≡ b.number = ap (λ (d : Birth). d.number) e in omega (arith, ns.0, f)
numbered-at n (c ∷ bs) (suc i) b ns p = omega (arith, numbered-at (n + 1) bs i b ns.1 p)

-- a test that changes at no birth of the list keeps the same ones
pub same-above : (p q : Birth → Bool) (n m : ℕ) (bs : List Birth) → n < m → AreNumberedFrom m bs → ((b : Birth) → b.number ≢ n → p b ≡ q b)
    → filter p bs ≡ filter q bs
same-above p q n m [] l ns other = refl
same-above p q n m (b ∷ bs) l ns other =
    rw (other b (omega (arith, ns.0)), same-above p q n (m + 1) bs (omega arith) ns.1 other) refl

pub same-at : (p q : Birth → Bool) (n : ℕ) (bs : List Birth) (i : ℕ) → AreNumberedFrom n bs
    → ((b : Birth) → b.number ≢ n + i → p b ≡ q b) → ((b : Birth) → slice_get bs i ≡ Some b → p b ≡ q b)
    → filter p bs ≡ filter q bs
same-at p q n [] i ns other here = refl
same-at p q n (b ∷ bs) zero ns other here =
    rw (here b refl, same-above p q n (n + 1) bs (omega arith) ns.1 (λ d ne. other d (omega arith))) refl
same-at p q n (b ∷ bs) (suc i) ns other here =
    rw (other b (omega (arith, ns.0)), same-at p q (n + 1) bs i ns.1 (λ d ne. other d (omega arith)) here) refl

-- the numbers without one that is none of them
pub without-above : (p : Birth → Bool) (n m : ℕ) (bs : List Birth) → n < m → AreNumberedFrom m bs
    → without n (map (λ (d : Birth). d.number) (filter p bs)) ≡ map (λ (d : Birth). d.number) (filter p bs)
without-above p n m [] l ns = refl
without-above p n m (b ∷ bs) l ns =
    let ih = without-above p n (m + 1) bs (omega arith) ns.1 in
    elim (p b) as (λ v. without n (map (λ (d : Birth). d.number) (cond v (b ∷ filter p bs) (filter p bs)))
    ≡ map (λ (d : Birth). d.number) (cond v (b ∷ filter p bs) (filter p bs))) [
      | true ↦ rw (ne_eqb b.number n (omega (arith, ns.0))) (ap (λ t. b.number ∷ t) ih)
      | false ↦ ih
    ]

-- where the birth at i leaves, the other numbers stay
pub numbers-leave : (p q : Birth → Bool) (n : ℕ) (bs : List Birth) (i : ℕ) → AreNumberedFrom n bs
    → ((b : Birth) → b.number ≢ n + i → p b ≡ q b) → ((b : Birth) → slice_get bs i ≡ Some b → q b ≡ false)
    → map (λ (d : Birth). d.number) (filter q bs) ≡ without (n + i) (map (λ (d : Birth). d.number) (filter p bs))
numbers-leave p q n [] i ns other here = refl
numbers-leave p q n (b ∷ bs) zero ns other here =
    let rest = same-above p q n (n + 1) bs (omega arith) ns.1 (λ d ne. other d (omega arith)) in
    let gone = without-above p n (n + 1) bs (omega arith) ns.1 in
    let zero_more : n + 0 ≡ n = omega arith in
    rw (here b refl, ← rest, zero_more) (elim (p b) as (λ v. map (λ (d : Birth). d.number) (filter p bs)
    ≡ without n (map (λ (d : Birth). d.number) (cond v (b ∷ filter p bs) (filter p bs)))) [
      | true ↦ rw (eq-eqb b.number n ns.0) (sym gone)
      | false ↦ sym gone
    ])
numbers-leave p q n (b ∷ bs) (suc i) ns other here =
    let ih = numbers-leave p q (n + 1) bs i ns.1 (λ d ne. other d (omega arith)) here in
    let e : n + suc i ≡ n + 1 + i = omega arith in
    rw (← other b (omega (arith, ns.0)), e) (elim (p b) as (λ v. map (λ (d : Birth). d.number) (cond v (b ∷ filter q bs) (filter q bs))
    ≡ without (n + 1 + i) (map (λ (d : Birth). d.number) (cond v (b ∷ filter p bs) (filter p bs)))) [
      | true ↦ rw (ne_eqb b.number (n + 1 + i) (omega (arith, ns.0))) (ap (λ t. b.number ∷ t) ih)
      | false ↦ ih
    ])

-- a new number goes to the end
pub numbers-push : (p q : Birth → Bool) (bs : List Birth) (b : Birth) → filter q bs ≡ filter p bs → q b ≡ true
    → map (λ (d : Birth). d.number) (filter q (bs ++ b ∷ [])) ≡ map (λ (d : Birth). d.number) (filter p bs) ++ b.number ∷ []
numbers-push p q bs b same here =
    ap (map (λ (d : Birth). d.number)) (filter-append q bs (b ∷ []))
    ∙ (map-append (λ (d : Birth). d.number) (filter q bs) (filter q (b ∷ [])) ∙ rw (here, same) refl)

-- one birth that passed may pass no longer: the rest stays
pub shrink-at : (p q : Birth → Bool) (n : ℕ) (bs : List Birth) (i : ℕ) → AreNumberedFrom n bs
    → ((b : Birth) → b.number ≢ n + i → p b ≡ q b) → ((b : Birth) → slice_get bs i ≡ Some b → p b ≡ true)
    → length (filter q bs) ≤ length (filter p bs)
shrink-at p q n [] i ns other here = omega arith
shrink-at p q n (b ∷ bs) zero ns other here =
    let same = ap length (same-above p q n (n + 1) bs (omega arith) ns.1 (λ d ne. other d (omega arith))) in
    rw (here b refl) (elim (q b) as (λ v. length (cond v (b ∷ filter q bs) (filter q bs)) ≤ length (b ∷ filter p bs)) [
      | true ↦ omega (arith, same)
      | false ↦ omega (arith, same)
    ])
shrink-at p q n (b ∷ bs) (suc i) ns other here =
    let ih = shrink-at p q (n + 1) bs i ns.1 (λ d ne. other d (omega arith)) here in
    rw (other b (omega (arith, ns.0))) (elim (q b) as (λ v. length (cond v (b ∷ filter q bs) (filter q bs)) ≤ length (cond v (b ∷ filter p bs) (filter p bs))) [
      | true ↦ omega (arith, ih)
      | false ↦ ih
    ])

-- one birth that passed passes no longer: one fewer
pub fewer-at : (p q : Birth → Bool) (n : ℕ) (bs : List Birth) (i : ℕ) (c : Birth) → slice_get bs i ≡ Some c → AreNumberedFrom n bs
    → ((b : Birth) → b.number ≢ n + i → p b ≡ q b) → ((b : Birth) → slice_get bs i ≡ Some b → (p b ≡ true) × (q b ≡ false))
    → length (filter q bs) < length (filter p bs)
fewer-at p q n [] i c at ns other here = absurd (cc at)
fewer-at p q n (b ∷ bs) zero c at ns other here =
    let same = ap length (same-above p q n (n + 1) bs (omega arith) ns.1 (λ d ne. other d (omega arith))) in
    let h = here b refl in
    rw (h.0, h.1) (omega (arith, same))
fewer-at p q n (b ∷ bs) (suc i) c at ns other here =
    let ih = fewer-at p q (n + 1) bs i c at ns.1 (λ d ne. other d (omega arith)) here in
    rw (other b (omega (arith, ns.0))) (elim (q b) as (λ v. length (cond v (b ∷ filter q bs) (filter q bs)) < length (cond v (b ∷ filter p bs) (filter p bs))) [
      | true ↦ omega (arith, ih)
      | false ↦ ih
    ])

pub filter-length : {A : Type 0} (p : A → Bool) (xs : List A) → length (filter p xs) ≤ length xs
filter-length p [] = omega arith
filter-length p (x ∷ xs) =
    let ih = filter-length p xs in
    elim (p x) as (λ v. length (cond v (x ∷ filter p xs) (filter p xs)) ≤ length (x ∷ xs)) [ true ↦ omega (arith, ih) | false ↦ omega (arith, ih) ]

pub slice_get-some : {A : Type 0} (xs : List A) (i : ℕ) → i < length xs → (x : A) × (slice_get xs i ≡ Some x)
slice_get-some [] i l = absurd (omega arith)
slice_get-some (x ∷ xs) zero l = (x, refl)
slice_get-some (x ∷ xs) (suc i) l = slice_get-some xs i (omega arith)

lt-true : (x y : ℕ) → x < y → nat_lt x y ≡ true
lt-true x y l = lt-ltb x y l

lt-false : (x y : ℕ) → y ≤ x → nat_lt x y ≡ false
lt-false x y l = elim (cases_Bool (nat_lt x y)) [ inl t ↦ absurd (let h = ltb-true x y t in omega arith) | inr f ↦ f ]

-- a number below all of them goes to the front
put-front : (p : Birth → Bool) (n m : ℕ) (bs : List Birth) → n < m → AreNumberedFrom m bs
    → put_in n (map (λ (d : Birth). d.number) (filter p bs)) ≡ n ∷ map (λ (d : Birth). d.number) (filter p bs)
put-front p n m [] l ns = refl
put-front p n m (b ∷ bs) l ns =
    let ih = put-front p n (m + 1) bs (omega arith) ns.1 in
    elim (p b) as (λ v. put_in n (map (λ (d : Birth). d.number) (cond v (b ∷ filter p bs) (filter p bs)))
    ≡ n ∷ map (λ (d : Birth). d.number) (cond v (b ∷ filter p bs) (filter p bs))) [
      | true ↦ rw (lt-true n b.number (omega (arith, ns.0))) refl
      | false ↦ ih
    ]

-- where the birth at i joins, its number goes in its place
pub numbers-join : (p q : Birth → Bool) (n : ℕ) (bs : List Birth) (i : ℕ) (c : Birth) → slice_get bs i ≡ Some c → AreNumberedFrom n bs
    → ((b : Birth) → b.number ≢ n + i → p b ≡ q b) → ((b : Birth) → slice_get bs i ≡ Some b → (p b ≡ false) × (q b ≡ true))
    → map (λ (d : Birth). d.number) (filter q bs) ≡ put_in (n + i) (map (λ (d : Birth). d.number) (filter p bs))
numbers-join p q n [] i c at ns other here = absurd (cc at)
numbers-join p q n (b ∷ bs) zero c at ns other here =
    let same = same-above p q n (n + 1) bs (omega arith) ns.1 (λ d ne. other d (omega arith)) in
    let h = here b refl in
    let zero_more : n + 0 ≡ n = omega arith in
    rw (h.0, h.1, ← same, zero_more, ns.0) (sym (put-front p n (n + 1) bs (omega arith) ns.1))
numbers-join p q n (b ∷ bs) (suc i) c at ns other here =
    let ih = numbers-join p q (n + 1) bs i c at ns.1 (λ d ne. other d (omega arith)) here in
    let e : n + suc i ≡ n + 1 + i = omega arith in
    let no : nat_lt (n + 1 + i) b.number ≡ false = lt-false (n + 1 + i) b.number (omega (arith, ns.0)) in
    rw (← other b (omega (arith, ns.0)), e) (elim (p b) as (λ v. map (λ (d : Birth). d.number) (cond v (b ∷ filter q bs) (filter q bs))
    ≡ put_in (n + 1 + i) (map (λ (d : Birth). d.number) (cond v (b ∷ filter p bs) (filter p bs)))) [
      | true ↦ rw no (ap (λ t. b.number ∷ t) ih)
      | false ↦ ih
    ])

-- how a count changes where one birth's test changes
pub count-at : (p q : Birth → Bool) (n : ℕ) (bs : List Birth) (i : ℕ) (c : Birth) → slice_get bs i ≡ Some c → AreNumberedFrom n bs
    → ((b : Birth) → b.number ≢ n + i → p b ≡ q b)
    → length (filter q bs) + bit (p c) ≡ length (filter p bs) + bit (q c)
count-at p q n [] i c at ns other = absurd (cc at)
count-at p q n (b ∷ bs) zero c at ns other =
    let e : b ≡ c = cc in
    let same = ap length (same-above p q n (n + 1) bs (omega arith) ns.1 (λ d ne. other d (omega arith))) in
    rw (← e) (elim (p b) as (λ v. length (cond (q b) (b ∷ filter q bs) (filter q bs)) + bit v ≡ length (cond v (b ∷ filter p bs) (filter p bs)) + bit (q b)) [
      | true ↦ elim (q b) as (λ u. length (cond u (b ∷ filter q bs) (filter q bs)) + 1 ≡ length (b ∷ filter p bs) + bit u) [
        | true ↦ omega (arith, same)
        | false ↦ omega (arith, same)
      ]
      | false ↦ elim (q b) as (λ u. length (cond u (b ∷ filter q bs) (filter q bs)) + 0 ≡ length (filter p bs) + bit u) [
        | true ↦ omega (arith, same)
        | false ↦ omega (arith, same)
      ]
    ])
count-at p q n (b ∷ bs) (suc i) c at ns other =
    let ih = count-at p q (n + 1) bs i c at ns.1 (λ d ne. other d (omega arith)) in
    rw (other b (omega (arith, ns.0))) (elim (q b) as (λ v. length (cond v (b ∷ filter q bs) (filter q bs)) + bit (p c)
    ≡ length (cond v (b ∷ filter p bs) (filter p bs)) + bit (q c)) [
      | true ↦ omega (arith, ih)
      | false ↦ ih
    ])

-- An item under its index among all, and under that in a share.
use Rattle.std.proofs.Common.{◌≡◌, ℕ, suc, ◌+◌, ◌≤◌, ◌%◌, ◌==◌, Bool, true, false, cond, List, [], ◌∷◌, map, Option, Some, None, refl, sym, ap, ◌∙◌, arith}
use Rattle.std.specs.Prelude.{All, bytes_eq, slice_get}
use Rattle.std.specs.List.{position_from}
use Rattle.std.proofs.lemmas.Bool.{eqb-true, eqb-false, eq-eqb, ne_eqb}
use Rattle.std.proofs.lemmas.List.Elements.{All-head, All-tail, All-nil, All-cons}
use Rattle.eip_endpoint.specs.Lanes.{first_named}
use Rattle.eip_outlets.specs.Doors.{inlet_named}
use Rattle.eip_owners.specs.Owners.{is_door}
use Rattle.eip_shares.specs.Shares.{share, indexed, GoWith}

-- ---- facts on both indices

-- a fact on the index among all, from e on, and on that in the share, from i on, of each item of a share
abbrev pub PairsFrom : {A : Type 0} → (ℕ → ℕ → Type 0) → (n k e i : ℕ) → List A → Type 0
PairsFrom P n k e i [] = Unit {0}
PairsFrom P n k e i (x ∷ xs) = cond (e % n == k) (P e i × PairsFrom P n k (e + 1) (i + 1) xs) (PairsFrom P n k (e + 1) i xs)

pairs-two : {A : Type 0} (P Q R : ℕ → ℕ → Type 0) (n k e i : ℕ) (xs : List A) → ((a b : ℕ) → P a b → Q a b → R a b)
    → PairsFrom P n k e i xs → PairsFrom Q n k e i xs → PairsFrom R n k e i xs
pairs-two P Q R n k e i [] both p q = tt
pairs-two P Q R n k e i (x ∷ xs) both p q = by_test (e % n == k) p q (λ j u v. pairs-two P Q R n k (e + 1) j xs both u v)
  where
    by_test : (t : Bool) → cond t (P e i × PairsFrom P n k (e + 1) (i + 1) xs) (PairsFrom P n k (e + 1) i xs)
        → cond t (Q e i × PairsFrom Q n k (e + 1) (i + 1) xs) (PairsFrom Q n k (e + 1) i xs)
        → ((j : ℕ) → PairsFrom P n k (e + 1) j xs → PairsFrom Q n k (e + 1) j xs → PairsFrom R n k (e + 1) j xs)
        → cond t (R e i × PairsFrom R n k (e + 1) (i + 1) xs) (PairsFrom R n k (e + 1) i xs)
    by_test true p q ih = (both e i p.0 q.0, ih (i + 1) p.1 q.1)
    by_test false p q ih = ih i p q

pub pairs-any : {A : Type 0} (P : ℕ → ℕ → Type 0) (n k e i : ℕ) (xs : List A) → ((a b : ℕ) → e ≤ a → i ≤ b → P a b) → PairsFrom P n k e i xs
pairs-any P n k e i [] any = tt
pairs-any P n k e i (x ∷ xs) any =
    by_test (e % n == k)
    (pairs-any P n k (e + 1) (i + 1) xs (λ a b l m. any a b (omega (arith, l)) (omega (arith, m))))
    (pairs-any P n k (e + 1) i xs (λ a b l m. any a b (omega (arith, l)) m))
  where
    by_test : (t : Bool) → PairsFrom P n k (e + 1) (i + 1) xs → PairsFrom P n k (e + 1) i xs
        → cond t (P e i × PairsFrom P n k (e + 1) (i + 1) xs) (PairsFrom P n k (e + 1) i xs)
    by_test true mine rest = (any e i (omega arith) (omega arith), mine)
    by_test false mine rest = rest

-- what holds with each of these values holds with all of them
pub pairs-all : {A B : Type 0} (Q : B → ℕ → ℕ → Type 0) (Ok : B → Type 0) (n k : ℕ) (xs : List A) (vs : List B)
    → ((v : B) → Ok v → PairsFrom (Q v) n k 0 0 xs) → All Ok vs → PairsFrom (λ a b. All (λ v. Q v a b) vs) n k 0 0 xs
pairs-all Q Ok n k xs [] each all = pairs-any (λ a b. All (λ v. Q v a b) []) n k 0 0 xs (λ a b l m. All-nil (λ v. Q v a b))
pairs-all Q Ok n k xs (v ∷ vs) each all =
    pairs-two (Q v) (λ a b. All (λ w. Q w a b) vs) (λ a b. All (λ w. Q w a b) (v ∷ vs)) n k 0 0 xs
    (λ a b here rest. All-cons (λ w. Q w a b) v vs here rest)
    (each v (All-head Ok v vs all))
    (pairs-all Q Ok n k xs vs each (All-tail Ok v vs all))

-- both of two
pub pairs-both : {A : Type 0} (P Q : ℕ → ℕ → Type 0) (n k : ℕ) (xs : List A) → PairsFrom P n k 0 0 xs → PairsFrom Q n k 0 0 xs
    → PairsFrom (λ a b. P a b × Q a b) n k 0 0 xs
pairs-both P Q n k xs p q = pairs-two P Q (λ a b. P a b × Q a b) n k 0 0 xs (λ a b here there. (here, there)) p q

-- what goes with the items of a share under their indices there goes with them under those among all
pub share-goes : {V W : Type 0} (P : ℕ → ℕ → Type 0) (G H : ℕ → V → W → Type 0) (n k e i : ℕ) (old : List V) (new : List W)
    → ((a b : ℕ) (v : V) (w : W) → a % n ≡ k → P a b → G b v w → H a v w) → PairsFrom P n k e i old
    → GoWith G (indexed i (share n k e old)) new → GoWith H (share n k e (indexed e old)) new
share-goes P G H n k e i [] [] step pairs go = tt
share-goes P G H n k e i [] (w ∷ ws) step pairs go = absurd go
share-goes {V = V} {W = W} P G H n k e i (v ∷ old) new step pairs go =
    by_test (e % n == k) refl pairs go (λ j ws rest some. share-goes P G H n k (e + 1) j old ws step rest some)
  where
    one : (ws : List W) → e % n ≡ k → P e i → PairsFrom P n k (e + 1) (i + 1) old → GoWith G ((i, v) ∷ indexed (i + 1) (share n k (e + 1) old)) ws
        → ((j : ℕ) (us : List W) → PairsFrom P n k (e + 1) j old → GoWith G (indexed j (share n k (e + 1) old)) us
        → GoWith H (share n k (e + 1) (indexed (e + 1) old)) us)
        → GoWith H ((e, v) ∷ share n k (e + 1) (indexed (e + 1) old)) ws
    one [] turn here rest go ih = absurd go
    one (w ∷ ws) turn here rest go ih = (step e i v w turn here go.0, ih (i + 1) ws rest go.1)

    by_test : (b : Bool) → (e % n == k) ≡ b → cond b (P e i × PairsFrom P n k (e + 1) (i + 1) old) (PairsFrom P n k (e + 1) i old)
        → GoWith G (indexed i (cond b (v ∷ share n k (e + 1) old) (share n k (e + 1) old))) new
        → ((j : ℕ) (us : List W) → PairsFrom P n k (e + 1) j old → GoWith G (indexed j (share n k (e + 1) old)) us
        → GoWith H (share n k (e + 1) (indexed (e + 1) old)) us)
        → GoWith H (cond b ((e, v) ∷ share n k (e + 1) (indexed (e + 1) old)) (share n k (e + 1) (indexed (e + 1) old))) new
    by_test true t pairs go ih = one new (eqb-true (e % n) k t) pairs.0 pairs.1 go ih
    by_test false t pairs go ih = ih i new pairs go

-- ---- the first of a name

-- a place is not before the one that is looked at first
place-behind : {B : Type 0} (p : B → Bool) (n m : ℕ) (xs : List B) → position_from p n xs ≡ Some m → n ≤ m
place-behind p n m [] h = absurd (cc h)
place-behind p n m (x ∷ xs) h = by_test (p x) h (place-behind p (n + 1) m xs)
  where
    by_test : (t : Bool) → cond t (Some n) (position_from p (n + 1) xs) ≡ Some m → (position_from p (n + 1) xs ≡ Some m → n + 1 ≤ m) → n ≤ m
    by_test true g ih = let same : n ≡ m = cc in omega (arith, same)
    by_test false g ih = omega (arith, ih g)

-- what stands behind an index is not there
not-there : {B : Type 0} (p : B → Bool) (e : ℕ) (xs : List B) → is_door e (position_from p (e + 1) xs) ≡ false
not-there p e xs = by_place (position_from p (e + 1) xs) refl
  where
    by_place : (o : Option ℕ) → position_from p (e + 1) xs ≡ o → is_door e o ≡ false
    by_place None h = refl
    by_place (Some m) h = let l = place-behind p (e + 1) m xs h in ne_eqb m e (λ g. omega (arith, l, g))

-- the first that passes, found among all at o and in the share at r, is one, where it is one of these
pick-agrees : {A B : Type 0} (p : B → Bool) (f : A → B) (n k e i : ℕ) (xs : List A) (o r : Option ℕ) → position_from p e (map f xs) ≡ o
    → position_from p i (map f (share n k e xs)) ≡ r → ((m : ℕ) → o ≡ Some m → m % n ≡ k) → PairsFrom (λ a b. is_door a o ≡ is_door b r) n k e i xs
pick-agrees p f n k e i [] o r at_o at_r own = tt
pick-agrees p f n k e i (x ∷ xs) o r at_o at_r own =
    by_tests (p (f x)) refl (e % n == k) refl at_o at_r (λ j rest_o rest_r. pick-agrees p f n k (e + 1) j xs o r rest_o rest_r own)
  where
    first : Some e ≡ o → Some i ≡ r → (is_door e o ≡ is_door i r) × PairsFrom (λ a b. is_door a o ≡ is_door b r) n k (e + 1) (i + 1) xs
    first go gr = (
      ap (is_door e) (sym go) ∙ (eq-eqb e e refl ∙ (sym (eq-eqb i i refl) ∙ ap (is_door i) gr)),
      pairs-any (λ a b. is_door a o ≡ is_door b r) n k (e + 1) (i + 1) xs
          (λ a b l m. ap (is_door a) (sym go)
          ∙ (ne_eqb e a (λ g. omega (arith, l, g)) ∙ (sym (ne_eqb i b (λ g. omega (arith, m, g))) ∙ ap (is_door b) gr))),
    )

    later : position_from p (e + 1) (map f xs) ≡ o → position_from p (i + 1) (map f (share n k (e + 1) xs)) ≡ r → is_door e o ≡ is_door i r
    later ho hr =
        ap (is_door e) (sym ho) ∙ (not-there p e (map f xs) ∙ (sym (not-there p i (map f (share n k (e + 1) xs))) ∙ ap (is_door i) hr))

    by_tests : (b : Bool) → p (f x) ≡ b → (c : Bool) → (e % n == k) ≡ c → cond (p (f x)) (Some e) (position_from p (e + 1) (map f xs)) ≡ o
        → position_from p i (map f (cond c (x ∷ share n k (e + 1) xs) (share n k (e + 1) xs))) ≡ r
        → ((j : ℕ) → position_from p (e + 1) (map f xs) ≡ o → position_from p j (map f (share n k (e + 1) xs)) ≡ r
        → PairsFrom (λ a b. is_door a o ≡ is_door b r) n k (e + 1) j xs)
        → cond c ((is_door e o ≡ is_door i r) × PairsFrom (λ a b. is_door a o ≡ is_door b r) n k (e + 1) (i + 1) xs)
        (PairsFrom (λ a b. is_door a o ≡ is_door b r) n k (e + 1) i xs)
    by_tests true t true s ho hr ih =
        first (ap (λ b. cond b (Some e) (position_from p (e + 1) (map f xs))) (sym t) ∙ ho)
        (ap (λ b. cond b (Some i) (position_from p (i + 1) (map f (share n k (e + 1) xs)))) (sym t) ∙ hr)
    by_tests true t false s ho hr ih =
        absurd (eqb-false (e % n) k s (own e (sym ho ∙ ap (λ b. cond b (Some e) (position_from p (e + 1) (map f xs))) t)))
    by_tests false t true s ho hr ih =
        let go = ap (λ b. cond b (Some e) (position_from p (e + 1) (map f xs))) (sym t) ∙ ho in
        let gr = ap (λ b. cond b (Some i) (position_from p (i + 1) (map f (share n k (e + 1) xs)))) (sym t) ∙ hr in
        (later go gr, ih (i + 1) go gr)
    by_tests false t false s ho hr ih =
        ih i (ap (λ b. cond b (Some e) (position_from p (e + 1) (map f xs))) (sym t) ∙ ho) hr

-- the door of a name that is asked for, if one is, is one among all and in the share, where it is one of the share
pub door-pairs : {A : Type 0} (f : A → List ℕ) (n k : ℕ) (xs : List A) (asked : Option (List ℕ)) (o r : Option ℕ) → o ≡ inlet_named (map f xs) asked
    → r ≡ inlet_named (map f (share n k 0 xs)) asked → ((e : ℕ) → is_door e o ≡ true → e % n ≡ k)
    → PairsFrom (λ a b. is_door a o ≡ is_door b r) n k 0 0 xs
door-pairs f n k xs None o r at_o at_r own =
    pairs-any (λ a b. is_door a o ≡ is_door b r) n k 0 0 xs (λ a b l m. ap (is_door a) at_o ∙ sym (ap (is_door b) at_r))
door-pairs f n k xs (Some name) o r at_o at_r own =
    pick-agrees (λ m. bytes_eq m name) f n k 0 0 xs o r (sym at_o) (sym at_r) (λ e h. own e (ap (is_door e) h ∙ eq-eqb e e refl))

-- ---- what is found among all is found in its share

found-from : {A B : Type 0} (p : B → Bool) (f : A → B) (n k e i m : ℕ) (xs : List A) → position_from p e (map f xs) ≡ Some m → m % n ≡ k
    → (j : ℕ) × (position_from p i (map f (share n k e xs)) ≡ Some (i + j)) × (at : ℕ) × (e + at ≡ m) × (slice_get (share n k e xs) j ≡ slice_get xs at)
found-from p f n k e i m [] at own = absurd (cc at)
found-from {A = A} p f n k e i m (x ∷ xs) at own =
    by_tests (p (f x)) refl (e % n == k) refl at (λ j h. found-from p f n k (e + 1) j m xs h own)
  where
    Rest : ℕ → List A → Type 0
    Rest a ys = (j : ℕ) × (position_from p a (map f ys) ≡ Some (a + j)) × (at : ℕ) × (e + 1 + at ≡ m) × (slice_get ys j ≡ slice_get xs at)

    by_tests : (b : Bool) → p (f x) ≡ b → (c : Bool) → (e % n == k) ≡ c → cond b (Some e) (position_from p (e + 1) (map f xs)) ≡ Some m
        → ((a : ℕ) → position_from p (e + 1) (map f xs) ≡ Some m → Rest a (share n k (e + 1) xs))
        → (j : ℕ) × (position_from p i (map f (cond c (x ∷ share n k (e + 1) xs) (share n k (e + 1) xs))) ≡ Some (i + j)) × (at : ℕ) × (e + at ≡ m)
        × (slice_get (cond c (x ∷ share n k (e + 1) xs) (share n k (e + 1) xs)) j ≡ slice_get (x ∷ xs) at)
    by_tests true t true s at ih =
        let same : e ≡ m = cc in
        let zero_more : i ≡ i + 0 = omega arith in
        let here : e + 0 ≡ m = omega (arith, same) in
        (0, ap (λ b. cond b (Some i) (position_from p (i + 1) (map f (share n k (e + 1) xs)))) t ∙ ap Some zero_more, 0, here, refl)
    by_tests true t false s at ih = let same : e ≡ m = cc in absurd (eqb-false (e % n) k s (ap (λ a. a % n) same ∙ own))
    by_tests false t true s at ih =
        let rest = ih (i + 1) at in
        let place : i + 1 + rest.0 ≡ i + suc rest.0 = omega arith in
        let there = rest.3 in
        let here : e + suc rest.2 ≡ m = omega (arith, there) in
        (suc rest.0, ap (λ b. cond b (Some i) (position_from p (i + 1) (map f (share n k (e + 1) xs)))) t ∙ (rest.1 ∙ ap Some place), suc rest.2, here, rest.4)
    by_tests false t false s at ih =
        let rest = ih i at in
        let there = rest.3 in
        let here : e + suc rest.2 ≡ m = omega (arith, there) in
        (rest.0, rest.1, suc rest.2, here, rest.4)

pub own-door : {A : Type 0} (f : A → List ℕ) (n k e : ℕ) (name : List ℕ) (all : List A) → first_named name (map f all) ≡ Some e → e % n ≡ k
    → (i : ℕ) × (first_named name (map f (share n k 0 all)) ≡ Some i) × (slice_get (share n k 0 all) i ≡ slice_get all e)
own-door f n k e name all at own =
    let found = found-from (λ m. bytes_eq m name) f n k 0 0 e all at own in
    let place : 0 + found.0 ≡ found.0 = omega arith in
    let there = found.3 in
    let here : found.2 ≡ e = omega (arith, there) in
    (found.0, found.1 ∙ ap Some place, found.4 ∙ ap (slice_get all) here)

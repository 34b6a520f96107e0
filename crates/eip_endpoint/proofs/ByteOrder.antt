-- Names in byte order, each once, and the names of the files of a folder.
use Rattle.std.proofs.Common.{ℕ, ◌≡◌, ◌||◌, ◌&&◌, Bool, true, false, cond, bytes_eq, List, [], ◌∷◌, map, Option, Some, None, is_some, Result, Ok, Err, IfOk, refl, ap, sym, ◌∙◌, subst, Ordering, Less, nat_cmp, IsSorted, Bor}
use Rattle.std.specs.List.{dedup, dedup_from, AllByRecursion}
use Rattle.std.specs.List.Sorted.{IsPermutation, IsStrictlySortedBy}
use Rattle.std.specs.Cmp.Lexicographic.{slice_cmp, on_texts, texts_ties}
use Rattle.std.proofs.lemmas.List.Kept.{IsStrictlySortedBy-dedup}
use Rattle.std.proofs.lemmas.Slice.Eq.{bytes_eq-Decides}
use Rattle.std.proofs.lemmas.List.Sorted.{list_any-IsPermutation, IsPermutation-map}
use Rattle.eip_endpoint.specs.Files.{File, IsAscending, is_among, is_there, bytes_at}
use Rattle.eip_endpoint.specs.MemoryFolders.{names_in}

AllByRecursion-map : {X Y : Type 0} (f : X → Y) (P : Y → Type 0) (xs : List X) → AllByRecursion (λ x. P (f x)) xs → AllByRecursion P (map f xs)
AllByRecursion-map f P [] all = tt
AllByRecursion-map f P (x ∷ xs) all = (all.0, AllByRecursion-map f P xs all.1)

-- what is in order by what f reads, has that in order
pub IsStrictlySortedBy-map :
    {X Y : Type 0} (f : X → Y) (R : Y → Y → Ordering) (xs : List X) → IsStrictlySortedBy (λ x y. R (f x) (f y)) xs
    → IsStrictlySortedBy R (map f xs)
unfolding IsStrictlySortedBy
IsStrictlySortedBy-map f R [] sorted = tt
IsStrictlySortedBy-map f R (x ∷ xs) sorted =
    (AllByRecursion-map f (λ y. R (f x) y ≡ Less) xs sorted.0, IsStrictlySortedBy-map f R xs sorted.1)

twice : (p r : Bool) → (p || r) ≡ (p || (p || r))
twice true r = refl
twice false r = refl

-- an element that is left out because the one before it is read alike leaves the same names
left_out :
    {X : Type 0} (f : X → List ℕ) (name : List ℕ) (e : Bool) (k x : X) (xs a b : List X) → (e ≡ true → f x ≡ f k)
    → is_among name (map f a) ≡ is_among name (map f (k ∷ xs)) → is_among name (map f b) ≡ is_among name (map f (x ∷ xs))
    → is_among name (map f (cond e a (k ∷ b))) ≡ is_among name (map f (k ∷ x ∷ xs))
left_out f name true k x xs a b same one other =
    let e : f x ≡ f k = same refl in
    one ∙ twice (bytes_eq (f k) name) (is_among name (map f xs))
    ∙ ap (λ n. bytes_eq (f k) name || (bytes_eq n name || is_among name (map f xs))) (sym e)
left_out f name false k x xs a b same one other = ap (λ r. bytes_eq (f k) name || r) other

is_among-dedup_from :
    {X : Type 0} (f : X → List ℕ) (E : X → X → Bool) → ((x y : X) → E x y ≡ true → f x ≡ f y) → (name : List ℕ) (k : X) (xs : List X)
    → is_among name (map f (dedup_from E k xs)) ≡ is_among name (map f (k ∷ xs))
is_among-dedup_from f E same name k [] = refl
is_among-dedup_from f E same name k (x ∷ xs) =
    left_out f name (E x k) k x xs _ _ (same x k) (is_among-dedup_from f E same name k xs) (is_among-dedup_from f E same name x xs)

pub is_among-dedup :
    {X : Type 0} (f : X → List ℕ) (E : X → X → Bool) → ((x y : X) → E x y ≡ true → f x ≡ f y) → (name : List ℕ) (xs : List X)
    → is_among name (map f (dedup E xs)) ≡ is_among name (map f xs)
is_among-dedup f E same name [] = refl
is_among-dedup f E same name (x ∷ xs) = is_among-dedup_from f E same name x xs

-- the same names in another order
pub is_among-permutation :
    {X : Type 0} (f : X → List ℕ) (name : List ℕ) (xs ys : List X) → IsPermutation xs ys → is_among name (map f ys) ≡ is_among name (map f xs)
is_among-permutation f name xs ys p = sym (list_any-IsPermutation (λ n. bytes_eq n name) _ _ (IsPermutation-map f xs ys p))

-- names that were sorted, and of which each is kept once, are in order
pub ordered-ascending :
    (ys zs : List (Bor (List ℕ))) → IsSorted (λ x y. slice_cmp nat_cmp x.now y.now) ys → zs ≡ dedup (λ x y. bytes_eq x.now y.now) ys
    → IsAscending (map (λ n. n.now) zs)
ordered-ascending ys zs sorted is =
    subst (λ (ns : List (Bor (List ℕ))). IsAscending (map (λ n. n.now) ns)) (sym is)
    (IsStrictlySortedBy-map (λ n. n.now) (slice_cmp nat_cmp) (dedup (λ x y. bytes_eq x.now y.now) ys)
    (IsStrictlySortedBy-dedup (on_texts (λ (n : Bor (List ℕ)). n.now)) (λ x y. texts_ties x.now y.now) ys sorted))

-- and they are the same names
pub ordered-same :
    (name : List ℕ) (xs ys zs : List (Bor (List ℕ))) → IsPermutation xs ys → zs ≡ dedup (λ x y. bytes_eq x.now y.now) ys
    → is_among name (map (λ n. n.now) zs) ≡ is_among name (map (λ n. n.now) xs)
ordered-same name xs ys zs moved is =
    ap (λ (ns : List (Bor (List ℕ))). is_among name (map (λ n. n.now) ns)) is
    ∙ is_among-dedup (λ (n : Bor (List ℕ)). n.now) (λ x y. bytes_eq x.now y.now) (λ x y e. (bytes_eq-Decides x.now y.now).0 e) name ys
    ∙ is_among-permutation (λ (n : Bor (List ℕ)). n.now) name xs ys moved

-- texts of these names
pub texts-named :
    (ys zs : List (Bor (List ℕ))) (texts : List (List ℕ)) → texts ≡ map (λ n. n.now) zs → zs ≡ ys → texts ≡ map (λ n. n.now) ys
texts-named ys zs texts e same = e ∙ ap (λ (ns : List (Bor (List ℕ))). map (λ n. n.now) ns) same

-- what follows for the value of an answer
pub ok-then : {T E : Type 0} {P Q : T → Type 0} (r : Result T E) → IfOk r P → ((t : T) → P t → Q t) → IfOk r Q
ok-then (Ok t) p q = q t p
ok-then (Err e) p q = tt

named : (c r : Bool) (bytes : List ℕ) (rest : Option (List ℕ)) → r ≡ is_some rest → (c || r) ≡ is_some (cond c (Some bytes) rest)
named true r bytes rest e = refl
named false r bytes rest e = e

in_folder :
    (b : Bool) (f : File) (name : List ℕ) (fs : List File) (rest : Option (List ℕ)) → is_among name (map (λ g. g.1) fs) ≡ is_some rest
    → is_among name (map (λ g. g.1) (cond b (f ∷ fs) fs)) ≡ is_some (cond (b && bytes_eq f.1 name) (Some f.2) rest)
in_folder true f name fs rest e = named (bytes_eq f.1 name) (is_among name (map (λ g. g.1) fs)) f.2 rest e
in_folder false f name fs rest e = e

-- the names that stand in a folder are those of its files
pub names_in-there : (folder name : List ℕ) (all : List File) → is_among name (names_in folder all) ≡ is_there folder name all
names_in-there folder name [] = refl
names_in-there folder name (f ∷ fs) = in_folder (bytes_eq f.0 folder) f name _ _ (names_in-there folder name fs)

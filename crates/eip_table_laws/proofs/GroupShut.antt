-- The groups that a table closes together are those that the journal closes, in the order of their numbers, and their exchanges.
use Rattle.std.proofs.Common.{suc, zero, ◌≡◌, ℕ, ◌+◌, ◌<◌, ◌≤◌, Bool, true, false, ◌==◌, ◌&&◌, cond, List, [], ◌∷◌, length, map, filter, Option, Some, None, option_map, ◌⊎◌, bytes_eq, nat_cmp, get_or, refl, sym, ap, subst, ◌∙◌, arith, eq-eqb, inl, inr}
use Rattle.std.specs.List.{find, IsAmong}
use Rattle.std.specs.List.Sorted.{IsStrictlySortedBy}
use Rattle.std.proofs.lemmas.Bool.{and_parts, cases_Bool}
use Rattle.std.proofs.lemmas.Slice.Eq.{bytes_eq-Decides}
use Rattle.std.proofs.lemmas.Map.Keys.{below_from_sorted, sorted_tail}
use Rattle.eip_frames.specs.declared.answer.Completion.{Completion}
use Rattle.eip_route.specs.declared.route.RouteSet.{RouteSet}
use Rattle.eip_aggregator.specs.Arrivals as table
use Rattle.eip_aggregator.specs.Arrivals.{Key, Call, open_at}
use Rattle.eip_aggregator.specs.Tables.{AreClosed, closed_as}
use Rattle.eip_aggregator.specs.declared.closed.Closed.{Closed}
use Rattle.eip_history.specs.Own.{Past, own, turns}
use Rattle.eip_history.specs.Groups.{Group, is_open, is_for}
use Rattle.eip_history.specs.Births.{group_birth, group_births}
use Rattle.eip_history.specs.Tables.{Related}
use Rattle.eip_history.proofs.GroupNumbers.{GroupsFrom}
use Rattle.eip_plan.specs.Plan.{plan_of}
use Rattle.eip_tables.specs.Groups.{settings, HopsWithin, closed_birth, completed, group_row, group_rows}
use Rattle.eip_tables.specs.Rows.{RowStands}
use Rattle.eip_table_laws.proofs.GroupLists.{OnlyOne, found-passes}
use Rattle.eip_table_laws.proofs.GroupLaws.{open_for, Gathers, kept_group, open-is}

-- ---- lists in rising order

abbrev pub In : {A : Type 0} → List A → A → Type 0
In [] v = ⊥
In (x ∷ xs) v = (x ≡ v) ⊎ In xs v

-- each has a greater number than those before it, and none a lesser one than n
abbrev pub RiseUp : {A : Type 0} → (A → ℕ) → ℕ → List A → Type 0
RiseUp f n [] = Unit {0}
RiseUp f n (x ∷ xs) = (n ≤ f x) × RiseUp f (f x + 1) xs

pub rises-above : {A : Type 0} (f : A → ℕ) (n : ℕ) (xs : List A) (v : A) → RiseUp f n xs → In xs v → n ≤ f v
rises-above f n [] v h i = absurd i
rises-above f n (x ∷ xs) v h (inl e) = let same : f x ≡ f v = ap f e in omega (arith, h.0, same)
rises-above f n (x ∷ xs) v h (inr i) = let l = rises-above f (f x + 1) xs v h.1 i in omega (arith, h.0, l)

rises-before : {A : Type 0} (f : A → ℕ) (m n : ℕ) (xs : List A) → m ≤ n → RiseUp f n xs → RiseUp f m xs
rises-before f m n [] l h = tt
rises-before f m n (x ∷ xs) l h = (omega (arith, l, h.0), h.1)

-- two lists of the same elements, both in rising order, are one
pub same-rising : {A : Type 0} (f : A → ℕ) (n m : ℕ) (xs ys : List A) → RiseUp f n xs → RiseUp f m ys → ((v : A) → In xs v → In ys v) → ((v : A) → In ys v → In xs v) → xs ≡ ys
same-rising f n m [] [] hx hy to back = refl
same-rising f n m [] (y ∷ ys) hx hy to back = absurd (back y (inl refl))
same-rising f n m (x ∷ xs) [] hx hy to back = absurd (to x (inl refl))
same-rising {A} f n m (x ∷ xs) (y ∷ ys) hx hy to back =
    let same : x ≡ y = heads (to x (inl refl)) (back y (inl refl)) in
    let rest : xs ≡ ys = same-rising f (f x + 1) (f y + 1) xs ys hx.1 hy.1
    (λ v i. later-y v (to v (inr i)) (rises-above f (f x + 1) xs v hx.1 i) same)
    (λ v i. later-x v (back v (inr i)) (rises-above f (f y + 1) ys v hy.1 i) same) in
    rw (same, rest) refl
  where
    heads : (y ≡ x) ⊎ In ys x → (x ≡ y) ⊎ In xs y → x ≡ y
    heads (inl e) b = sym e
    heads (inr i) (inl e) = e
    heads (inr i) (inr j) = absurd (let a = rises-above f (f y + 1) ys x hy.1 i in let b = rises-above f (f x + 1) xs y hx.1 j in omega (arith, a, b))

    later-y : (v : A) → (y ≡ v) ⊎ In ys v → f x + 1 ≤ f v → x ≡ y → In ys v
    later-y v (inl e) l same = absurd (let g : f y ≡ f v = ap f e in let k : f x ≡ f y = ap f same in omega (arith, l, g, k))
    later-y v (inr i) l same = i

    later-x : (v : A) → (x ≡ v) ⊎ In xs v → f y + 1 ≤ f v → x ≡ y → In xs v
    later-x v (inl e) l same = absurd (let g : f x ≡ f v = ap f e in let k : f x ≡ f y = ap f same in omega (arith, l, g, k))
    later-x v (inr i) l same = i

-- ---- the closed groups

in-among : {A : Type 0} (xs : List A) (v : A) → In xs v → IsAmong xs v
in-among [] v i = absurd i
in-among (x ∷ xs) v (inl e) = (0, (omega arith, sym e))
in-among (x ∷ xs) v (inr i) = let r = in-among xs v i in (suc r.0, ((let l : r.0 < length xs = r.1.0 in omega (arith, l)), r.1.1))

among-in : {A : Type 0} (xs : List A) (v : A) (i : ℕ) → i < length xs → v ≡ get_or xs i v → In xs v
among-in [] v i l e = absurd (omega (arith, l))
among-in (x ∷ xs) v zero l e = inl (sym e)
among-in (x ∷ xs) v (suc i) l e = inr (among-in xs v i (omega (arith, l)) e)

rises-from : {A : Type 0} (f : A → ℕ) (x : A) (xs : List A) → IsStrictlySortedBy nat_cmp (map f (x ∷ xs)) → RiseUp f (f x + 1) xs
rises-from f x [] h = tt
rises-from f x (y ∷ ys) h =
    let l : f x < f y = below_from_sorted (f x ∷ (f y ∷ map f ys)) 0 1 0 h (omega arith) (omega arith) in
    (omega (arith, l), rises-from f y ys (sorted_tail nat_cmp (f x) (map f (y ∷ ys)) h))

pub sorted-rises : {A : Type 0} (f : A → ℕ) (xs : List A) → IsStrictlySortedBy nat_cmp (map f xs) → RiseUp f 0 xs
sorted-rises f [] h = tt
sorted-rises f (x ∷ xs) h = (omega arith, rises-from f x xs h)

-- ---- the groups of a journal

pub group-rises : (test : Group → Bool) (n : ℕ) (gs : List Group) → GroupsFrom n gs → RiseUp (λ (g : Group). g.number) n (filter test gs)
group-rises test n [] ns = tt
group-rises test n (g ∷ gs) ns =
    let ih = group-rises test (n + 1) gs ns.1 in
    let e : g.number ≡ n = ns.0 in
    elim (test g) as (λ v. RiseUp (λ (h : Group). h.number) n (cond v (g ∷ filter test gs) (filter test gs))) [
      | true ↦ (omega (arith, e), rw e ih)
      | false ↦ rises-before (λ (h : Group). h.number) n (n + 1) (filter test gs) (omega arith) ih
    ]

pub rises-map : {A B : Type 0} (f : A → ℕ) (g : B → ℕ) (h : A → B) (n : ℕ) (xs : List A) → ((x : A) → g (h x) ≡ f x) → RiseUp f n xs → RiseUp g n (map h xs)
rises-map f g h n [] same r = tt
rises-map f g h n (x ∷ xs) same r = let e = same x in (omega (arith, e, r.0), rw e (rises-map f g h (f x + 1) xs same r.1))

pub in-map : {A B : Type 0} (h : A → B) (xs : List A) (x : A) → In xs x → In (map h xs) (h x)
in-map h [] x i = absurd i
in-map h (y ∷ xs) x (inl e) = inl (ap h e)
in-map h (y ∷ xs) x (inr i) = inr (in-map h xs x i)

pub map-in : {A B : Type 0} (h : A → B) (xs : List A) (v : B) → In (map h xs) v → (x : A) × In xs x × (h x ≡ v)
map-in h [] v i = absurd i
map-in h (y ∷ xs) v (inl e) = (y, inl refl, e)
map-in h (y ∷ xs) v (inr i) = let r = map-in h xs v i in (r.0, inr r.1, r.2)

pub in-filter : {A : Type 0} (p : A → Bool) (xs : List A) (x : A) → In xs x → p x ≡ true → In (filter p xs) x
in-filter p [] x i t = absurd i
in-filter p (y ∷ xs) x (inl e) t = let u : p y ≡ true = ap p e ∙ t in rw u (inl e)
in-filter p (y ∷ xs) x (inr i) t = let ih = in-filter p xs x i t in elim (p y) as (λ v. In (cond v (y ∷ filter p xs) (filter p xs)) x) [ true ↦ inr ih | false ↦ ih ]

pub filter-in : {A : Type 0} (p : A → Bool) (xs : List A) (x : A) → In (filter p xs) x → In xs x × (p x ≡ true)
filter-in p [] x i = absurd i
filter-in p (y ∷ xs) x i = elim (cases_Bool (p y)) [
  | inl t ↦ (let j : (y ≡ x) ⊎ In (filter p xs) x = rw t at i in by_either t j (λ k. filter-in p xs x k))
  | inr f ↦ (let j : In (filter p xs) x = rw f at i in let r = filter-in p xs x j in (inr r.0, r.1))
]
  where
    by_either : p y ≡ true → (y ≡ x) ⊎ In (filter p xs) x → (In (filter p xs) x → In xs x × (p x ≡ true)) → ((y ≡ x) ⊎ In xs x) × (p x ≡ true)
    by_either t (inl e) ih = (inl e, ap p (sym e) ∙ t)
    by_either t (inr k) ih = let r = ih k in (inr r.0, r.1)

-- what is found is there, and what is there alone is found
pub find-in : {A : Type 0} (p : A → Bool) (xs : List A) (x : A) → find p xs ≡ Some x → In xs x
find-in p [] x h = absurd (cc h)
find-in p (y ∷ xs) x h = elim (cases_Bool (p y)) [
  | inl t ↦ (let g : Some y ≡ Some x = rw t at h in inl cc)
  | inr f ↦ (let g : find p xs ≡ Some x = rw f at h in inr (find-in p xs x g))
]

in-some : {A : Type 0} (p : A → Bool) (xs : List A) (x : A) → In xs x → p x ≡ true → 1 ≤ length (filter p xs)
in-some {A} p xs x i t = by_list (filter p xs) (in-filter p xs x i t)
  where
    by_list : (ys : List A) → In ys x → 1 ≤ length ys
    by_list [] j = absurd j
    by_list (y ∷ ys) j = omega arith

pub alone-found : {A : Type 0} (p : A → Bool) (xs : List A) (x : A) → length (filter p xs) ≤ 1 → In xs x → p x ≡ true → find p xs ≡ Some x
alone-found p [] x one i t = absurd i
alone-found p (y ∷ xs) x one (inl e) t = let u : p y ≡ true = ap p e ∙ t in rw u (ap Some e)
alone-found p (y ∷ xs) x one (inr i) t = elim (cases_Bool (p y)) [
  | inl u ↦ absurd (let c : length (filter p (y ∷ xs)) ≡ suc (length (filter p xs)) = rw u refl in let l = in-some p xs x i t in omega (arith, one, c, l))
  | inr f ↦ (let c : length (filter p (y ∷ xs)) ≡ length (filter p xs) = rw f refl in rw f (alone-found p xs x (omega (arith, one, c)) i t))
]

-- ---- both

-- a group of the journal, closed by a cause
abbrev pub shut_group : RouteSet → Completion → Group → Closed
shut_group set c g = closed_as c g.number (kept_group set g).1

pub some-of : {A B : Type 0} (f : A → B) (o : Option A) (b : B) → option_map f o ≡ Some b → (a : A) × (o ≡ Some a) × (f a ≡ b)
some-of f None b h = absurd (cc h)
some-of f (Some a) b h = (a, refl, cc)

module _ (set : RouteSet) (gs : List Group) (calls : List Call) (ns : GroupsFrom 1 gs) (one : (a : ℕ) (key : List ℕ) → OnlyOne a key gs) (st : Gathers set gs calls) where
  -- a group that is open is the one of its key
  pub own-open : (g : Group) → In gs g → is_open g ≡ true → open_for gs (g.aggregator, g.key) ≡ Some g
  own-open g i o =
      alone-found (is_for g.aggregator g.key) gs g (one g.aggregator g.key) i (rw (o, eq-eqb g.aggregator g.aggregator refl, (bytes_eq-Decides g.key g.key).1 refl) refl)

  pub open-own : (g : Group) → In gs g → is_open g ≡ true → open_at (settings set) calls (g.aggregator, g.key) ≡ Some (kept_group set g)
  open-own g i o = open-is set gs calls one st (g.aggregator, g.key) ∙ ap (option_map (kept_group set)) (own-open g i o)

  pub are-shut : (test : table.Group → Bool) (mine : Group → Bool) (c : Completion) (closed : List Closed) → ((g : Group) → mine g ≡ true → is_open g ≡ true) → ((g : Group) → is_open g ≡ true → test (kept_group set g).1 ≡ mine g)
      → AreClosed (settings set) calls test c closed → closed ≡ map (shut_group set c) (filter mine gs)
  are-shut test mine c closed opens same are =
      same-rising (λ (x : Closed). x.group) 0 1 closed (map (shut_group set c) (filter mine gs))
      (sorted-rises (λ (x : Closed). x.group) closed are.rising)
      (rises-map (λ (g : Group). g.number) (λ (x : Closed). x.group) (shut_group set c) 1 (filter mine gs) (λ g. refl) (group-rises mine 1 gs ns))
      (λ v i.
      let e = (are.each v).0 (in-among closed v i) in
      let h = some-of (kept_group set) (open_for gs e.0) (e.1, e.2) (sym (open-is set gs calls one st e.0) ∙ e.3) in
      let o : is_open h.0 ≡ true = (and_parts (is_open h.0) ((h.0.aggregator == e.0.0) && bytes_eq h.0.key e.0.1) (found-passes (is_for e.0.0 e.0.1) gs h.0 h.1)).0 in
      let its : (kept_group set h.0).1 ≡ e.2 = ap (λ (x : ℕ × table.Group). x.1) h.2 in
      let number : h.0.number ≡ e.1 = ap (λ (x : ℕ × table.Group). x.0) h.2 in
      let passes : mine h.0 ≡ true = sym (same h.0 o) ∙ (ap test its ∙ e.4) in
      let is : shut_group set c h.0 ≡ v = ap (λ (n : ℕ). closed_as c n (kept_group set h.0).1) number ∙ (ap (closed_as c e.1) its ∙ sym e.5) in
      subst (λ (x : Closed). In (map (shut_group set c) (filter mine gs)) x) is
      (in-map (shut_group set c) (filter mine gs) h.0 (in-filter mine gs h.0 (find-in (is_for e.0.0 e.0.1) gs h.0 h.1) passes)))
      (λ v i.
      let g = map-in (shut_group set c) (filter mine gs) v i in
      let there = filter-in mine gs g.0 g.1 in
      let o = opens g.0 there.1 in
      let among = (are.each v).1 ((g.0.aggregator, g.0.key), g.0.number, (kept_group set g.0).1, open-own g.0 there.0 o, same g.0 o ∙ there.1, sym g.2) in
      among-in closed v among.0 among.1.0 among.1.1)

-- ---- their exchanges

-- the birth of a closed group's exchange is the one that its row keeps, with what closed it
pub birth-completed : (set : RouteSet) (n : ℕ) (c : Completion) (g : Group) → group_birth (plan_of set) n c g ≡ completed c (closed_birth set n (shut_group set c g))
unfolding plan_of
birth-completed set n c g = refl

-- its row stands for it
pub group-stands : (set : RouteSet) (past : Past) (n : ℕ) (c : Completion) (g : Group) → own n past ≡ [] → (group_birth (plan_of set) n c g).hops ≤ turns past → RowStands set past (group_birth (plan_of set) n c g) (group_row set n (shut_group set c g))
group-stands set past n c g none hops = record {
  born = refl;
  kept = (closed_birth set n (shut_group set c g), refl, birth-completed set n c g);
  hops = hops;
  stands = record { fed = rw none refl; taken = rw none refl; silent = rw none refl; runs = rw none refl; left = refl };
}

within-filter : (n : ℕ) (test : Group → Bool) (gs : List Group) → HopsWithin n gs → HopsWithin n (filter test gs)
within-filter n test [] h = tt
within-filter n test (g ∷ gs) h = let ih = within-filter n test gs h.1 in elim (test g) as (λ v. HopsWithin n (cond v (g ∷ filter test gs) (filter test gs))) [ true ↦ (h.0, ih) | false ↦ ih ]

stand-all : (set : RouteSet) (past : Past) (n : ℕ) (c : Completion) (gs : List Group) → ((m : ℕ) → n ≤ m → own m past ≡ []) → HopsWithin (turns past) gs
    → Related (RowStands set past) (group_births (plan_of set) n c gs) (group_rows set n (map (shut_group set c) gs))
stand-all set past n c [] none h = tt
stand-all set past n c (g ∷ gs) none h = (group-stands set past n c g (none n (omega arith)) h.0, stand-all set past (n + 1) c gs (λ m l. none m (omega (arith, l))) h.1)

pub groups-stand : (set : RouteSet) (past : Past) (n : ℕ) (c : Completion) (test : Group → Bool) (gs : List Group) → ((m : ℕ) → n ≤ m → own m past ≡ []) → HopsWithin (turns past) gs
    → Related (RowStands set past) (group_births (plan_of set) n c (filter test gs)) (group_rows set n (map (shut_group set c) (filter test gs)))
groups-stand set past n c test gs none h = stand-all set past n c (filter test gs) none (within-filter (turns past) test gs h)

-- The open group of an aggregator and key, where an arrival joins one, and where groups close.
use Rattle.std.proofs.Common.{suc, ◌≡◌, ℕ, ◌+◌, ◌≤◌, Bool, true, false, ◌==◌, ◌&&◌, cond, List, [], ◌∷◌, ◌++◌, length, filter, Option, Some, None, bytes_eq, refl, sym, ap, ◌∙◌, arith, eq-eqb, inl, inr}
use Rattle.std.specs.Prelude.{is_none}
use Rattle.std.specs.List.{find}
use Rattle.std.proofs.lemmas.Bool.{and_parts, and_right, cases_Bool, eqb-true, ne_eqb}
use Rattle.std.proofs.lemmas.Slice.Eq.{bytes_eq-Decides}
use Rattle.eip_frames.specs.declared.answer.Completion.{Completion}
use Rattle.eip_history.specs.Plan.{Plan}
use Rattle.eip_history.specs.Own.{Past}
use Rattle.eip_history.specs.Groups.{Group, Arrival, is_open, is_for, arrived, put_group, closed_by}
use Rattle.eip_history.specs.Births.{groups}
use Rattle.eip_history.specs.Pieces.{is_of_key}
use Rattle.eip_history.proofs.GroupNumbers.{GroupsFrom, arrived-least}
use Rattle.eip_history.proofs.Pieces.{one-open}

-- ---- at most one group is open for a key

abbrev pub OnlyOne : ℕ → List ℕ → List Group → Type 0
OnlyOne a key gs = length (filter (is_for a key) gs) ≤ 1

for-open : (a : ℕ) (key : List ℕ) (gs : List Group) → filter is_open (filter (is_of_key a key) gs) ≡ filter (is_for a key) gs
for-open a key [] = refl
for-open a key (g ∷ gs) =
    let ih = for-open a key gs in
    elim (cases_Bool (is_of_key a key g)) [
      | inl t ↦ elim (cases_Bool (is_open g)) [ inl o ↦ rw (t, o) (ap (λ hs. g ∷ hs) ih) | inr f ↦ rw (t, f) ih ]
      | inr f ↦ rw (f, and_right (is_open g) false refl) ih
    ]

pub only-one : (s : Plan) (past : Past) (a : ℕ) (key : List ℕ) → OnlyOne a key (groups s past)
only-one s past a key = let one = one-open s a key past in let same = ap (λ (gs : List Group). length gs) (for-open a key (groups s past)) in omega (arith, one, same)

find-none : {A : Type 0} (p : A → Bool) (xs : List A) → length (filter p xs) ≤ 0 → find p xs ≡ None
find-none p [] l = refl
find-none p (x ∷ xs) l = elim (cases_Bool (p x)) [
  | inl t ↦ absurd (let e : length (filter p (x ∷ xs)) ≡ suc (length (filter p xs)) = rw t refl in omega (arith, l, e))
  | inr f ↦ (let e : length (filter p (x ∷ xs)) ≡ length (filter p xs) = rw f refl in rw f (find-none p xs (omega (arith, l, e))))
]

rest-none : {A : Type 0} (p : A → Bool) (x : A) (xs : List A) → p x ≡ true → length (filter p (x ∷ xs)) ≤ 1 → find p xs ≡ None
rest-none p x xs t l = let e : length (filter p (x ∷ xs)) ≡ suc (length (filter p xs)) = rw t refl in find-none p xs (omega (arith, l, e))

rest-one : {A : Type 0} (p : A → Bool) (x : A) (xs : List A) → p x ≡ false → length (filter p (x ∷ xs)) ≤ 1 → length (filter p xs) ≤ 1
rest-one p x xs f l = let e : length (filter p (x ∷ xs)) ≡ length (filter p xs) = rw f refl in omega (arith, l, e)

-- what is found passes
pub found-passes : {A : Type 0} (p : A → Bool) (xs : List A) (x : A) → find p xs ≡ Some x → p x ≡ true
found-passes p [] x h = absurd (cc h)
found-passes p (y ∷ xs) x h = elim (cases_Bool (p y)) [
  | inl t ↦ (let g : Some y ≡ Some x = rw t at h in let same : y ≡ x = cc in ap p (sym same) ∙ t)
  | inr f ↦ (let g : find p xs ≡ Some x = rw f at h in found-passes p xs x g)
]

-- ---- closing

-- what is left open by a closing of what passes a test
abbrev pub left_by : (Group → Bool) → Option Group → Option Group
left_by p None = None
left_by p (Some g) = cond (p g) None (Some g)

closed-shut : (a : ℕ) (key : List ℕ) (c : Completion) (g : Group) → is_for a key (record g { closed = Some c }) ≡ false
closed-shut a key c g = refl

pub found-closed : (c : Completion) (p : Group → Bool) (a : ℕ) (key : List ℕ) (gs : List Group) → OnlyOne a key gs → find (is_for a key) (closed_by c p gs) ≡ left_by p (find (is_for a key) gs)
found-closed c p a key [] one = refl
found-closed c p a key (g ∷ gs) one = elim (cases_Bool (is_for a key g)) [
  | inl t ↦ (
      let rest = rest-none (is_for a key) g gs t one in
      let ih = found-closed c p a key gs (let e : length (filter (is_for a key) (g ∷ gs)) ≡ suc (length (filter (is_for a key) gs)) = rw t refl in omega (arith, one, e)) in
      elim (cases_Bool (p g)) [
        | inl y ↦ rw (y, t, y) (ih ∙ ap (left_by p) rest)
        | inr n ↦ rw (n, t, n) refl
      ])
  | inr f ↦ (
      let ih = found-closed c p a key gs (rest-one (is_for a key) g gs f one) in
      elim (cases_Bool (p g)) [ inl y ↦ rw (y, f) ih | inr n ↦ rw (n, f) ih ])
]

-- ---- arriving

-- the group of an arrival, by the open group of its aggregator and key, where n is the number of a new one
abbrev pub arrived_at : ℕ → ℕ → List ℕ → Arrival → Option Group → Group
arrived_at n a key p None = record { number = n; aggregator = a; key = key; parts = p ∷ []; closed = None }
arrived_at n a key p (Some g) = record g { parts = g.parts ++ p ∷ [] }

pub arrived-is : (n : ℕ) (gs : List Group) (a : ℕ) (key : List ℕ) (p : Arrival) → arrived n gs a key p ≡ arrived_at (n + length gs) a key p (find (is_for a key) gs)
arrived-is n [] a key p = let e : n + 0 ≡ n = omega arith in rw e refl
arrived-is n (g ∷ gs) a key p =
    let ih = arrived-is (n + 1) gs a key p in
    let e : n + 1 + length gs ≡ n + suc (length gs) = omega arith in
    elim (cases_Bool (is_for a key g)) [ inl t ↦ rw t refl | inr f ↦ rw f (ih ∙ ap (λ (m : ℕ). arrived_at m a key p (find (is_for a key) gs)) e) ]

-- what an arrival leaves open, where something closes its group or not
abbrev pub left_of : Option Completion → Group → Option Group
left_of None g = Some g
left_of (Some c) g = None

found-one : (a : ℕ) (key : List ℕ) (c : Option Completion) (g : Group) (gs : List Group) → (g.aggregator == a) && bytes_eq g.key key ≡ true → find (is_for a key) gs ≡ None
    → find (is_for a key) ((record g { closed = c }) ∷ gs) ≡ left_of c (record g { closed = c })
found-one a key None g gs t none = rw t refl
found-one a key (Some c) g gs t none = none

of-itself : (a : ℕ) (key : List ℕ) → (a == a) && bytes_eq key key ≡ true
of-itself a key = rw (eq-eqb a a refl, (bytes_eq-Decides key key).1 refl) refl

pub found-own : (n : ℕ) (gs : List Group) (a : ℕ) (key : List ℕ) (p : Arrival) (c : Option Completion) → GroupsFrom n gs → OnlyOne a key gs
    → find (is_for a key) (put_group (record (arrived n gs a key p) { closed = c }) gs) ≡ left_of c (record (arrived n gs a key p) { closed = c })
found-own n [] a key p c ns one = found-one a key c (record { number = n; aggregator = a; key = key; parts = p ∷ []; closed = None }) [] (of-itself a key) refl
found-own n (g ∷ gs) a key p c ns one = elim (cases_Bool (is_for a key g)) [
  | inl t ↦ (
      let its : (g.aggregator == a) && bytes_eq g.key key ≡ true = (and_parts (is_open g) ((g.aggregator == a) && bytes_eq g.key key) t).1 in
      rw (t, eq-eqb g.number g.number refl) (found-one a key c (record g { parts = g.parts ++ p ∷ [] }) gs its (rest-none (is_for a key) g gs t one)))
  | inr f ↦ (
      let least = arrived-least (n + 1) gs a key p ns.1 in
      let ih = found-own (n + 1) gs a key p c ns.1 (rest-one (is_for a key) g gs f one) in
      let skip : arrived n (g ∷ gs) a key p ≡ arrived (n + 1) gs a key p = ap (λ v. cond v (record g { parts = g.parts ++ p ∷ [] }) (arrived (n + 1) gs a key p)) f in
      let apart = ne_eqb g.number (arrived (n + 1) gs a key p).number (omega (arith, least, ns.0)) in
      ap (λ (r : Group). find (is_for a key) (put_group (record r { closed = c }) (g ∷ gs))) skip
      ∙ (rw (apart, f) ih ∙ ap (λ (r : Group). left_of c (record r { closed = c })) (sym skip)))
]

-- a group of another aggregator or key isn't found
other-for : (a b : ℕ) (key l : List ℕ) (g : Group) → ((a == b) && bytes_eq key l) ≡ false → (g.aggregator == a) && bytes_eq g.key key ≡ true → (g.aggregator == b) && bytes_eq g.key l ≡ false
other-for a b key l g apart its =
    let same = and_parts (g.aggregator == a) (bytes_eq g.key key) its in
    let of_a : g.aggregator ≡ a = eqb-true g.aggregator a same.0 in
    let of_key : g.key ≡ key = (bytes_eq-Decides g.key key).0 same.1 in
    ap (λ x. (x == b) && bytes_eq g.key l) of_a ∙ (ap (λ x. (a == b) && bytes_eq x l) of_key ∙ apart)

pub found-other : (n : ℕ) (gs : List Group) (a b : ℕ) (key l : List ℕ) (p : Arrival) (c : Option Completion) → GroupsFrom n gs → ((a == b) && bytes_eq key l) ≡ false
    → find (is_for b l) (put_group (record (arrived n gs a key p) { closed = c }) gs) ≡ find (is_for b l) gs
found-other n [] a b key l p c ns apart = rw (apart, and_right (is_none c) false refl) refl
found-other n (g ∷ gs) a b key l p c ns apart = elim (cases_Bool (is_for a key g)) [
  | inl t ↦ (
      let its : (g.aggregator == a) && bytes_eq g.key key ≡ true = (and_parts (is_open g) ((g.aggregator == a) && bytes_eq g.key key) t).1 in
      let off = other-for a b key l g apart its in
      rw (t, eq-eqb g.number g.number refl, off, and_right (is_none c) false refl, and_right (is_open g) false refl) refl)
  | inr f ↦ (
      let least = arrived-least (n + 1) gs a key p ns.1 in
      let ih = found-other (n + 1) gs a b key l p c ns.1 apart in
      let skip : arrived n (g ∷ gs) a key p ≡ arrived (n + 1) gs a key p = ap (λ v. cond v (record g { parts = g.parts ++ p ∷ [] }) (arrived (n + 1) gs a key p)) f in
      let apart' = ne_eqb g.number (arrived (n + 1) gs a key p).number (omega (arith, least, ns.0)) in
      ap (λ (r : Group). find (is_for b l) (put_group (record r { closed = c }) (g ∷ gs))) skip
      ∙ rw apart' (ap (λ (o : Option Group). cond (is_for b l g) (Some g) o) ih))
]

-- ---- how many groups there are

-- an arrival makes one more where none is open for its key
abbrev pub more_by : Option Group → ℕ
more_by None = 1
more_by (Some g) = 0

pub put-many : (n : ℕ) (gs : List Group) (a : ℕ) (key : List ℕ) (p : Arrival) (c : Option Completion) → GroupsFrom n gs
    → length (put_group (record (arrived n gs a key p) { closed = c }) gs) ≡ length gs + more_by (find (is_for a key) gs)
put-many n [] a key p c ns = refl
put-many n (g ∷ gs) a key p c ns = elim (cases_Bool (is_for a key g)) [
  | inl t ↦ rw (t, eq-eqb g.number g.number refl) (omega arith)
  | inr f ↦ (
      let least = arrived-least (n + 1) gs a key p ns.1 in
      let ih = put-many (n + 1) gs a key p c ns.1 in
      let skip : arrived n (g ∷ gs) a key p ≡ arrived (n + 1) gs a key p = ap (λ v. cond v (record g { parts = g.parts ++ p ∷ [] }) (arrived (n + 1) gs a key p)) f in
      let apart = ne_eqb g.number (arrived (n + 1) gs a key p).number (omega (arith, least, ns.0)) in
      ap (λ (r : Group). length (put_group (record r { closed = c }) (g ∷ gs))) skip ∙ rw (apart, f) (omega (arith, ih)))
]

pub closed-many : (c : Completion) (p : Group → Bool) (gs : List Group) → length (closed_by c p gs) ≡ length gs
closed-many c p [] = refl
closed-many c p (g ∷ gs) = ap suc (closed-many c p gs)

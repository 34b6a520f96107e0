-- The running groups of an aggregator and key are its arrivals in order, cut behind each closing.
use Rattle.std.proofs.Common.{suc, ◌≡◌, ℕ, ◌+◌, ◌≤◌, ◌==◌, ◌&&◌, Bool, true, false, cond, List, [], ◌∷◌, ◌++◌, Option, Some, None, map, filter, length, append_assoc, bytes_eq, refl, sym, ap, ◌∙◌, arith, eq-eqb, inl, inr}
use Rattle.std.specs.Prelude.{is_none}
use Rattle.std.specs.List.{flat_map}
use Rattle.std.proofs.lemmas.Bool.{and_parts, and_right, cases_Bool, eqb-true, ne_eqb}
use Rattle.std.proofs.lemmas.Slice.Eq.{bytes_eq-Decides}
use Rattle.eip_frames.specs.declared.answer.Answer.{Answer as Reply}
use Rattle.eip_frames.specs.declared.answer.Answer.TheVariants as reply
use Rattle.eip_frames.specs.declared.answer.Completion.{Completion}
use Rattle.eip_frames.specs.declared.answer.Completion.TheVariants as by
use Rattle.eip_frames.specs.declared.request.Request.{Request}
use Rattle.eip_frames.specs.declared.request.Request.TheVariants.{Arrive}
use Rattle.eip_ledger.specs.declared.entry.Kind.{Kind}
use Rattle.eip_ledger.specs.declared.entry.Kind.TheVariants.{Answer, Tick, Force}
use Rattle.eip_history.specs.Plan.{Plan}
use Rattle.eip_history.specs.Own.{Past, numbered}
use Rattle.eip_history.specs.Groups.{Arrival, Group, is_open, is_for, arrived, put_group, closed_by, last_at, after, is_at_most, is_due, is_forced}
use Rattle.eip_history.specs.Births.{Asked, Story, story, groups, asked_of, arrival_of, grouped, grouped_by, grouped_for}
use Rattle.eip_history.specs.Pieces.{Mark, mark_if, mark_last, is_due_at, marked_for, marked_by, marked_in, marked, Piece, open_piece, cut_at, cut_from, pieces, piece_of, is_of_key}
use Rattle.eip_history.proofs.Clock.{last-push}
use Rattle.eip_history.proofs.GroupNumbers.{GroupsFrom, arrived-least, groups-numbered}

-- one more arrival joins the open piece, or begins one
abbrev pub add_piece : Arrival → Option Completion → List Piece → List Piece
add_piece p c [] = (record { parts = p ∷ []; closed = c }) ∷ []
add_piece p c (q ∷ qs) = cond (is_none q.closed) ((record { parts = q.parts ++ p ∷ []; closed = c }) ∷ qs) (q ∷ add_piece p c qs)

-- a closing reaches the open piece
abbrev pub close_piece : Completion → (List Arrival → Bool) → Piece → Piece
close_piece c p q = cond (is_none q.closed && p q.parts) (record q { closed = Some c }) q

cut-first : (before : List Arrival) (p : Arrival) (c : Option Completion)
    → cut_from before ((record { arrival = p; closing = c }) ∷ []) ≡ add_piece p c (open_piece before)
cut-first [] p None = refl
cut-first [] p (Some c) = refl
cut-first (o ∷ os) p None = refl
cut-first (o ∷ os) p (Some c) = refl

-- one more mark at the end
pub cut-more : (before : List Arrival) (ms : List Mark) (p : Arrival) (c : Option Completion)
    → cut_from before (ms ++ (record { arrival = p; closing = c }) ∷ []) ≡ add_piece p c (cut_from before ms)
cut-more before [] p c = cut-first before p c
cut-more before (m ∷ ms) p c = by_closing (before ++ m.arrival ∷ []) m.closing (λ ps. cut-more ps ms p c)
  where
    by_closing : (ps : List Arrival) (o : Option Completion)
        → ((qs : List Arrival) → cut_from qs (ms ++ (record { arrival = p; closing = c }) ∷ []) ≡ add_piece p c (cut_from qs ms))
        → cut_at ps o (λ qs. cut_from qs (ms ++ (record { arrival = p; closing = c }) ∷ [])) ≡ add_piece p c (cut_at ps o (λ qs. cut_from qs ms))
    by_closing ps (Some d) ih = ap (λ qs. (record { parts = ps; closed = Some d }) ∷ qs) (ih [])
    by_closing ps None ih = ih ps

open-push : (before : List Arrival) (x : Arrival) → open_piece (before ++ x ∷ []) ≡ (record { parts = before ++ x ∷ []; closed = None }) ∷ []
open-push [] x = refl
open-push (o ∷ os) x = refl

closed-one : (c : Completion) (p : List Arrival → Bool) (q : Arrival → Bool) → ((ps : List Arrival) (x : Arrival) → p (ps ++ x ∷ []) ≡ q x)
    → (before : List Arrival) (x : Arrival) (o : Option Completion)
    → map (close_piece c p) (cut_from before ((record { arrival = x; closing = o }) ∷ [])) ≡ cut_from before (mark_if c q (record { arrival = x; closing = o }) ∷ [])
closed-one c p q h before x (Some d) = refl
closed-one c p q h before x None = rw (open-push before x, h before x) (by_test (q x))
  where
    by_test : (v : Bool)
        → (cond v (record { parts = before ++ x ∷ []; closed = Some c }) (record { parts = before ++ x ∷ []; closed = None })) ∷ []
        ≡ cut_from before (cond v (record { arrival = x; closing = Some c }) (record { arrival = x; closing = None }) ∷ [])
    by_test true = refl
    by_test false = sym (open-push before x)

-- a closing reaches the last mark
cut-closed : (c : Completion) (p : List Arrival → Bool) (q : Arrival → Bool) → ((ps : List Arrival) (x : Arrival) → p (ps ++ x ∷ []) ≡ q x)
    → (before : List Arrival) (m : Mark) (ms : List Mark)
    → map (close_piece c p) (cut_from before (m ∷ ms)) ≡ cut_from before (mark_last c q (m ∷ ms))
cut-closed c p q h before m [] = closed-one c p q h before m.arrival m.closing
cut-closed c p q h before m (n ∷ ms) = by_closing (before ++ m.arrival ∷ []) m.closing (λ ps. cut-closed c p q h ps n ms)
  where
    by_closing : (ps : List Arrival) (o : Option Completion)
        → ((qs : List Arrival) → map (close_piece c p) (cut_from qs (n ∷ ms)) ≡ cut_from qs (mark_last c q (n ∷ ms)))
        → map (close_piece c p) (cut_at ps o (λ qs. cut_from qs (n ∷ ms))) ≡ cut_at ps o (λ qs. cut_from qs (mark_last c q (n ∷ ms)))
    by_closing ps (Some d) ih = ap (λ qs. (record { parts = ps; closed = Some d }) ∷ qs) (ih [])
    by_closing ps None ih = ih ps

-- a closing of the pieces is one of the marks
pub cut-marked : (c : Completion) (p : List Arrival → Bool) (q : Arrival → Bool) → ((ps : List Arrival) (x : Arrival) → p (ps ++ x ∷ []) ≡ q x)
    → (ms : List Mark)
    → map (close_piece c p) (cut_from [] ms) ≡ cut_from [] (mark_last c q ms)
cut-marked c p q h [] = refl
cut-marked c p q h (m ∷ ms) = cut-closed c p q h [] m ms

-- the groups with one more arrival, whose group may close
abbrev pub joined_by : ℕ → ℕ → List ℕ → Arrival → Option Completion → List Group → List Group
joined_by n a key p c [] = (record { number = n; aggregator = a; key = key; parts = p ∷ []; closed = c }) ∷ []
joined_by n a key p c (g ∷ gs) = cond (is_for a key g) ((record g { parts = g.parts ++ p ∷ []; closed = c }) ∷ gs) (g ∷ joined_by (n + 1) a key p c gs)

put-joined : (n : ℕ) (gs : List Group) (a : ℕ) (key : List ℕ) (p : Arrival) (c : Option Completion) → GroupsFrom n gs
    → put_group (record (arrived n gs a key p) { closed = c }) gs ≡ joined_by n a key p c gs
put-joined n [] a key p c ns = refl
put-joined n (g ∷ gs) a key p c ns =
    let ih = put-joined (n + 1) gs a key p c ns.1 in
    let least = arrived-least (n + 1) gs a key p ns.1 in
    elim (cases_Bool (is_for a key g)) [
      | inl t ↦ rw (t, eq-eqb g.number g.number refl) refl
      | inr f ↦ (
          let skip : arrived n (g ∷ gs) a key p
          ≡ arrived (n + 1) gs a key p = ap (λ v. cond v (record g { parts = g.parts ++ p ∷ [] }) (arrived (n + 1) gs a key p)) f in
          let apart = ne_eqb g.number (arrived (n + 1) gs a key p).number (omega (arith, least, ns.0)) in
          ap (λ (r : Group). put_group (record r { closed = c }) (g ∷ gs)) skip ∙ rw (apart, f) (ap (λ hs. g ∷ hs) ih))
    ]

none-is : {A : Type 0} (o : Option A) → is_none o ≡ true → o ≡ None
none-is None h = refl
none-is (Some x) h = absurd (cc h)

arrived-open : (n : ℕ) (gs : List Group) (a : ℕ) (key : List ℕ) (p : Arrival) → (arrived n gs a key p).closed ≡ None
arrived-open n [] a key p = refl
arrived-open n (g ∷ gs) a key p =
    let ih = arrived-open (n + 1) gs a key p in
    elim (cases_Bool (is_for a key g)) [
      | inl t ↦ (let b = and_parts (is_open g) ((g.aggregator == a) && bytes_eq g.key key) t in rw t (none-is g.closed b.0))
      | inr f ↦ rw f ih
    ]

-- the groups of the arrival's own aggregator and key
joined-here : (n a : ℕ) (key : List ℕ) (p : Arrival) (c : Option Completion) (gs : List Group)
    → map piece_of (filter (is_of_key a key) (joined_by n a key p c gs)) ≡ add_piece p c (map piece_of (filter (is_of_key a key) gs))
joined-here n a key p c [] = rw (eq-eqb a a refl, (bytes_eq-Decides key key).1 refl) refl
joined-here n a key p c (g ∷ gs) =
    let ih = joined-here (n + 1) a key p c gs in
    elim (cases_Bool (is_of_key a key g)) [
      | inl t ↦ elim (cases_Bool (is_none g.closed)) [
        | inl o ↦ rw (t, o, t) refl
        | inr f ↦ rw (t, f, t) (ap (λ qs. piece_of g ∷ qs) ih)
      ]
      | inr f ↦ rw (f, and_right (is_open g) false refl, f) ih
    ]

-- the groups of any other aggregator or key
joined-other : (n a b : ℕ) (key l : List ℕ) (p : Arrival) (c : Option Completion) (gs : List Group) → ((b == a) && bytes_eq l key) ≡ false
    → filter (is_of_key a key) (joined_by n b l p c gs) ≡ filter (is_of_key a key) gs
joined-other n a b key l p c [] apart = rw apart refl
joined-other n a b key l p c (g ∷ gs) apart =
    let ih = joined-other (n + 1) a b key l p c gs apart in
    elim (cases_Bool (is_for b l g)) [
      | inl t ↦ (
          let both = and_parts (is_open g) ((g.aggregator == b) && bytes_eq g.key l) t in
          let same = and_parts (g.aggregator == b) (bytes_eq g.key l) both.1 in
          let of_b : g.aggregator ≡ b = eqb-true g.aggregator b same.0 in
          let of_l : g.key ≡ l = (bytes_eq-Decides g.key l).0 same.1 in
          let off : is_of_key a key g ≡ false = ap (λ x. (x == a) && bytes_eq g.key key) of_b ∙ (ap (λ x. (b == a) && bytes_eq x key) of_l ∙ apart) in
          rw (t, off) refl)
      | inr f ↦ rw f (ap (λ hs. cond (is_of_key a key g) (g ∷ hs) hs) ih)
    ]

-- a closing of the groups is one of the pieces
closed-pieces : (a : ℕ) (key : List ℕ) (c : Completion) (p : Group → Bool) (q : List Arrival → Bool)
    → ((g : Group) → is_of_key a key g ≡ true → p g ≡ (is_none g.closed && q g.parts)) → (gs : List Group)
    → map piece_of (filter (is_of_key a key) (closed_by c p gs)) ≡ map (close_piece c q) (map piece_of (filter (is_of_key a key) gs))
closed-pieces a key c p q h [] = refl
closed-pieces a key c p q h (g ∷ gs) =
    let ih = closed-pieces a key c p q h gs in
    elim (cases_Bool (is_of_key a key g)) [
      | inl t ↦ (let same = h g t in elim (cases_Bool (p g)) [
        | inl y ↦ (let e : (is_none g.closed && q g.parts) ≡ true = sym same ∙ y in rw (y, t, e) (ap (λ qs. (record { parts = g.parts; closed = Some c }) ∷ qs) ih))
        | inr f ↦ (let e : (is_none g.closed && q g.parts) ≡ false = sym same ∙ f in rw (f, t, e) (ap (λ qs. piece_of g ∷ qs) ih))
      ])
      | inr f ↦ elim (cases_Bool (p g)) [ inl y ↦ rw (y, f) ih | inr y ↦ rw (y, f) ih ]
    ]

due-open : (s : Plan) (t a : ℕ) (g : Group) → g.aggregator ≡ a → is_due s t g ≡ (is_none g.closed && is_at_most (after (last_at g.parts) (s.group a).timeout) t)
due-open s t a g e = rw e (by_open (is_none g.closed))
  where
    by_open : (v : Bool)
        → is_at_most (cond v (after (last_at g.parts) (s.group a).timeout) None) t ≡ (v && is_at_most (after (last_at g.parts) (s.group a).timeout) t)
    by_open true = refl
    by_open false = refl

of-aggregator : (a : ℕ) (key : List ℕ) (g : Group) → is_of_key a key g ≡ true → g.aggregator ≡ a
of-aggregator a key g h = eqb-true g.aggregator a (and_parts (g.aggregator == a) (bytes_eq g.key key) h).0

-- an arrival, whose group may close
arrival-pieces : (n a b : ℕ) (key l : List ℕ) (p : Arrival) (c : Option Completion) (gs : List Group) (ms : List Mark) → GroupsFrom n gs
    → map piece_of (filter (is_of_key a key) gs) ≡ cut_from [] ms
    → map piece_of (filter (is_of_key a key) (put_group (record (arrived n gs b l p) { closed = c }) gs))
    ≡ cut_from [] (cond ((b == a) && bytes_eq l key) (ms ++ (record { arrival = p; closing = c }) ∷ []) ms)
arrival-pieces n a b key l p c gs ms ns ih =
    ap (λ hs. map piece_of (filter (is_of_key a key) hs)) (put-joined n gs b l p c ns)
    ∙ elim (cases_Bool ((b == a) && bytes_eq l key)) [
      | inl t ↦ (
          let both = and_parts (b == a) (bytes_eq l key) t in
          let of_a : b ≡ a = eqb-true b a both.0 in
          let of_key : l ≡ key = (bytes_eq-Decides l key).0 both.1 in
          rw t (ap (λ x. map piece_of (filter (is_of_key a key) (joined_by n x l p c gs))) of_a
          ∙ (ap (λ x. map piece_of (filter (is_of_key a key) (joined_by n a x p c gs))) of_key
          ∙ (joined-here n a key p c gs ∙ (ap (add_piece p c) ih ∙ sym (cut-more [] ms p c))))))
      | inr f ↦ rw f (ap (map piece_of) (joined-other n a b key l p c gs f) ∙ ih)
    ]

pieces-for : (t : Story) (past : Past) (a : ℕ) (key : List ℕ) (k : Asked) (q : Request) (r : Reply) (ms : List Mark) → GroupsFrom 1 t.groups
    → map piece_of (filter (is_of_key a key) t.groups) ≡ cut_from [] ms
    → map piece_of (filter (is_of_key a key) (grouped_for t past k q r)) ≡ cut_from [] (marked_for past a key k q r ms)
pieces-for t past a key k (Arrive b l m) (reply.Arrived n) ms ns ih =
    ap (λ o. map piece_of (filter (is_of_key a key) (put_group (record (arrived 1 t.groups b l (arrival_of past k m)) { closed = o }) t.groups)))
    (arrived-open 1 t.groups b l (arrival_of past k m))
    ∙ arrival-pieces 1 a b key l (arrival_of past k m) None t.groups ms ns ih
pieces-for t past a key k (Arrive b l m) (reply.Closed g c n) ms ns ih = arrival-pieces 1 a b key l (arrival_of past k m) (Some c) t.groups ms ns ih
pieces-for t past a key k _ _ ms ns ih = ih

pieces-by : (t : Story) (past : Past) (a : ℕ) (key : List ℕ) (o : Option Asked) (r : Reply) (ms : List Mark) → GroupsFrom 1 t.groups
    → map piece_of (filter (is_of_key a key) t.groups) ≡ cut_from [] ms
    → map piece_of (filter (is_of_key a key) (grouped_by t past o r)) ≡ cut_from [] (marked_by past a key o r ms)
pieces-by t past a key None r ms ns ih = ih
pieces-by t past a key (Some k) r ms ns ih = pieces-for t past a key k k.request r ms ns ih

pieces-in : (s : Plan) (past : Past) (a : ℕ) (key : List ℕ) (k : Kind) → map piece_of (filter (is_of_key a key) (groups s past)) ≡ pieces s a key past
    → map piece_of (filter (is_of_key a key) (grouped s (story s past) past k)) ≡ cut_from [] (marked_in s past a key k (marked s a key past))
pieces-in s past a key (Answer x r) ih =
    pieces-by (story s past) past a key (asked_of s past (numbered (story s past).births x)) r (marked s a key past) (groups-numbered s past) ih
pieces-in s past a key (Tick t) ih =
    closed-pieces a key by.Timeout (is_due s t) (λ ps. is_at_most (after (last_at ps) (s.group a).timeout) t)
    (λ g h. due-open s t a g (of-aggregator a key g h)) (groups s past)
    ∙ (ap (map (close_piece by.Timeout (λ ps. is_at_most (after (last_at ps) (s.group a).timeout) t))) ih
    ∙ cut-marked by.Timeout (λ ps. is_at_most (after (last_at ps) (s.group a).timeout) t) (is_due_at s a t)
    (λ ps x. ap (λ n. is_at_most (after n (s.group a).timeout) t) (last-push ps x)) (marked s a key past))
pieces-in s past a key Force ih =
    closed-pieces a key by.Force (is_forced s) (λ ps. (s.group a).force) (λ g h. ap (λ n. is_open g && (s.group n).force) (of-aggregator a key g h)) (groups s past)
    ∙ (ap (map (close_piece by.Force (λ ps. (s.group a).force))) ih
    ∙ cut-marked by.Force (λ ps. (s.group a).force) (λ p. (s.group a).force) (λ ps x. refl) (marked s a key past))
pieces-in s past a key _ ih = ih

-- the running groups of an aggregator and key are its arrivals in the journal's order, cut behind each closing
pub groups-are-pieces : (s : Plan) (a : ℕ) (key : List ℕ) (past : Past) → map piece_of (filter (is_of_key a key) (groups s past)) ≡ pieces s a key past
unfolding story marked
groups-are-pieces s a key [] = refl
groups-are-pieces s a key (e ∷ past) = pieces-in s past a key e.kind (groups-are-pieces s a key past)

abbrev pub parts_of : Piece → List Arrival
parts_of q = q.parts

abbrev pub arrival_in : Mark → Arrival
arrival_in m = m.arrival

cut-whole : (before : List Arrival) (ms : List Mark) → flat_map parts_of (cut_from before ms) ≡ before ++ map arrival_in ms
cut-whole [] [] = refl
cut-whole (o ∷ os) [] = refl
cut-whole before (m ∷ ms) = by_closing m.closing (λ ps. cut-whole ps ms)
  where
    by_closing : (o : Option Completion) → ((ps : List Arrival) → flat_map parts_of (cut_from ps ms) ≡ ps ++ map arrival_in ms)
        → flat_map parts_of (cut_at (before ++ m.arrival ∷ []) o (λ ps. cut_from ps ms)) ≡ before ++ m.arrival ∷ map arrival_in ms
    by_closing (Some c) ih = ap (λ ps. (before ++ m.arrival ∷ []) ++ ps) (ih []) ∙ append_assoc before (m.arrival ∷ []) (map arrival_in ms)
    by_closing None ih = ih (before ++ m.arrival ∷ []) ∙ append_assoc before (m.arrival ∷ []) (map arrival_in ms)

-- each arrival is in exactly one piece, in order
pub pieces-whole : (s : Plan) (a : ℕ) (key : List ℕ) (past : Past) → flat_map parts_of (pieces s a key past) ≡ map arrival_in (marked s a key past)
pieces-whole s a key past = cut-whole [] (marked s a key past)

abbrev pub is_open_piece : Piece → Bool
is_open_piece q = is_none q.closed

cut-open : (before : List Arrival) (ms : List Mark) → length (filter is_open_piece (cut_from before ms)) ≤ 1
cut-open [] [] = omega arith
cut-open (o ∷ os) [] = omega arith
cut-open before (m ∷ ms) = by_closing m.closing (λ ps. cut-open ps ms)
  where
    by_closing : (o : Option Completion) → ((ps : List Arrival) → length (filter is_open_piece (cut_from ps ms)) ≤ 1)
        → length (filter is_open_piece (cut_at (before ++ m.arrival ∷ []) o (λ ps. cut_from ps ms))) ≤ 1
    by_closing (Some c) ih = ih []
    by_closing None ih = ih (before ++ m.arrival ∷ [])

open-pieces : (gs : List Group) → length (filter is_open_piece (map piece_of gs)) ≡ length (filter is_open gs)
open-pieces [] = refl
open-pieces (g ∷ gs) = let ih = open-pieces gs in elim (cases_Bool (is_none g.closed)) [ inl t ↦ rw t (ap suc ih) | inr f ↦ rw f ih ]

-- an aggregator has at most one open group for a key
pub one-open : (s : Plan) (a : ℕ) (key : List ℕ) (past : Past) → length (filter is_open (filter (is_of_key a key) (groups s past))) ≤ 1
one-open s a key past =
    let cut = cut-open [] (marked s a key past) in
    let same = open-pieces (filter (is_of_key a key) (groups s past)) in
    let whole = ap (λ qs. length (filter is_open_piece qs)) (groups-are-pieces s a key past) in
    omega (arith, cut, same, whole)

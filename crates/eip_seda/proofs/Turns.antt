-- What a call at one queue does to a table that stands for the calls so far.
use Rattle.std.proofs.Common.{◌≡◌, ℕ, zero, suc, ◌+◌, ◌-◌, ◌<◌, ◌≤◌, ◌↔◌, Bool, true, false, cond, eqb, nat_lt, List, [], ◌∷◌, ◌++◌, length, drop, set, map, slice_get, Option, Some, None, option_map, refl, sym, ap, subst, ◌∙◌, arith, eqb-true, eq-eqb, length-append, length-drop, length-set}
use Rattle.std.proofs.lemmas.Bool.{eqb-false}
use Rattle.std.proofs.lemmas.List.{drop-append-le, drop-drop, length-map}
use Rattle.std.proofs.lemmas.Option.{none-some, same_Some, slice_get-map, slice_get_within, get_or_from_slice_get}
use Rattle.eip_text.proofs.Cutting.{guarded}
use Rattle.eip_seda.specs.Consuming.{Call, Offered, Started, Ended, offered, starts, endings, waiting, busy, next, IsFullAt, QueueView, fresh, with_waiting, with_busy, next_in, started, started_by, IsInTurn, queue_after, Stands}

-- ---- one place of a list

set_same : {X : Type 0} (xs : List X) (i : ℕ) (v : X) → i < length xs → slice_get (set xs i v) i ≡ Some v
set_same [] i v h = absurd (omega arith)
set_same (x ∷ xs) zero v h = refl
set_same (x ∷ xs) (suc i) v h = set_same xs i v (omega arith)

set_other : {X : Type 0} (xs : List X) (i j : ℕ) (v : X) → (i ≡ j → ⊥) → slice_get (set xs i v) j ≡ slice_get xs j
set_other [] i j v h = refl
set_other (x ∷ xs) zero zero v h = absurd (h refl)
set_other (x ∷ xs) zero (suc j) v h = refl
set_other (x ∷ xs) (suc i) zero v h = refl
set_other (x ∷ xs) (suc i) (suc j) v h = set_other xs i j v (λ e. h (ap suc e))

alike : {A B : Type 0} (f g : A → B) → ((x : A) → f x ≡ g x) → (o : Option A) → option_map f o ≡ option_map g o
alike f g h None = refl
alike {B = B} f g h (Some x) = ap (λ (y : B). Some y) (h x)

-- ---- one queue of a table

-- the limits of a queue that stands for the calls
told : (o : Option (ℕ × ℕ)) (calls : List Call) (q : ℕ) (old : QueueView) → Some old ≡ option_map (queue_after calls q) o → (limit : ℕ × ℕ) × (o ≡ Some limit) × (old ≡ queue_after calls q limit)
told None calls q old e = absurd (none-some old (sym e))
told (Some limit) calls q old e = (limit, refl, same_Some old (queue_after calls q limit) e)

own_queue : (o : Option (ℕ × ℕ)) (calls after : List Call) (q : ℕ) (old new : QueueView) → Some old ≡ option_map (queue_after calls q) o
    → ((limit : ℕ × ℕ) → old ≡ queue_after calls q limit → new ≡ queue_after after q limit) → Some new ≡ option_map (queue_after after q) o
own_queue None calls after q old new e h = absurd (none-some old (sym e))
own_queue (Some limit) calls after q old new e h = ap (λ (w : QueueView). Some w) (h limit (same_Some old (queue_after calls q limit) e))

each_by : (t : Bool) (limits : List (ℕ × ℕ)) (calls after : List Call) (v : List QueueView) (q p : ℕ) (old new : QueueView) → eqb q p ≡ t → q < length v → slice_get v q ≡ Some old
    → ((limit : ℕ × ℕ) → old ≡ queue_after calls q limit → new ≡ queue_after after q limit)
    → ((limit : ℕ × ℕ) → eqb q p ≡ false → queue_after calls p limit ≡ queue_after after p limit)
    → ((r : ℕ) → slice_get v r ≡ option_map (queue_after calls r) (slice_get limits r))
    → slice_get (set v q new) p ≡ option_map (queue_after after p) (slice_get limits p)
each_by true limits calls after v q p old new t within at own other each =
    subst (λ (r : ℕ). slice_get (set v q new) r ≡ option_map (queue_after after r) (slice_get limits r)) (eqb-true q p t)
    (set_same v q new within ∙ own_queue (slice_get limits q) calls after q old new (sym at ∙ each q) own)
each_by false limits calls after v q p old new t within at own other each =
    set_other v q p new (eqb-false q p t) ∙ each p ∙ alike (queue_after calls p) (queue_after after p) (λ limit. other limit t) (slice_get limits p)

stands_at : (limits : List (ℕ × ℕ)) (calls after : List Call) (v : List QueueView) (q : ℕ) (old new : QueueView) → q < length v → slice_get v q ≡ Some old
    → ((limit : ℕ × ℕ) → old ≡ queue_after calls q limit → new ≡ queue_after after q limit)
    → ((p : ℕ) (limit : ℕ × ℕ) → eqb q p ≡ false → queue_after calls p limit ≡ queue_after after p limit)
    → ((p : ℕ) → IsInTurn after p)
    → Stands limits calls v → Stands limits after (set v q new)
stands_at limits calls after v q old new within at own other turns stands = record {
  as_many = length-set v q new ∙ stands.as_many;
  each = λ p. each_by (eqb q p) limits calls after v q p old new refl within at own (other p) stands.each;
  turns = turns;
}

abbrev made : ℕ × ℕ → List ℕ → ℕ → QueueView
made limit numbers n = record { size = limit.0; consumers = limit.1; waiting = numbers; busy = n }

-- ---- a number comes

longer : (t : Bool) (xs : List ℕ) (n k : ℕ) → k ≤ length xs → k ≤ length (cond t (xs ++ n ∷ []) xs)
longer true xs n k h = omega (arith, length-append xs (n ∷ []))
longer false xs n k h = h

one_more : (calls : List Call) (q n : ℕ) → IsInTurn calls q → waiting calls q ++ n ∷ [] ≡ waiting (Offered q n ∷ calls) q
one_more calls q n turn = sym (
    ap (λ (b : Bool). drop (starts calls q) (cond b (offered calls q ++ n ∷ []) (offered calls q))) (eq-eqb q q refl)
    ∙ drop-append-le (starts calls q) (offered calls q) (n ∷ []) turn.came)

pub stands_offered : (limits : List (ℕ × ℕ)) (calls : List Call) (v : List QueueView) (q n : ℕ) (old : QueueView) → q < length v → slice_get v q ≡ Some old
    → Stands limits calls v → Stands limits (Offered q n ∷ calls) (set v q (with_waiting (old.waiting ++ n ∷ []) old))
stands_offered limits calls v q n old within at stands =
    stands_at limits calls (Offered q n ∷ calls) v q old (with_waiting (old.waiting ++ n ∷ []) old) within at
    (λ limit e. ap (λ (w : QueueView). with_waiting (w.waiting ++ n ∷ []) w) e ∙ ap (λ (ns : List ℕ). made limit ns (busy calls q)) (one_more calls q n (stands.turns q)))
    (λ p limit ne. ap (λ (b : Bool). made limit (drop (starts calls p) (cond b (offered calls p ++ n ∷ []) (offered calls p))) (busy calls p)) (sym ne))
    (λ p. record { came = longer (eqb q p) (offered calls p) n (starts calls p) (stands.turns p).came; began = (stands.turns p).began })
    stands

-- ---- the first one starts

turned : (t : Bool) (s l : ℕ) → s ≤ l → (t ≡ true → s < l) → cond t (s + 1) s ≤ l
turned true s l h m = let more : s < l = m refl in omega arith
turned false s l h m = h

risen : (t : Bool) (s e : ℕ) → e ≤ s → e ≤ cond t (s + 1) s
risen true s e h = omega arith
risen false s e h = h

one_less : (calls : List Call) (q : ℕ) (limit : ℕ × ℕ) → IsInTurn calls q → made limit (drop 1 (waiting calls q)) (busy calls q + 1) ≡ queue_after (Started q ∷ calls) q limit
one_less calls q limit turn =
    let began : endings calls q ≤ starts calls q = turn.began in
    let same : busy calls q + 1 ≡ (starts calls q + 1) - endings calls q = omega arith in
    ap (λ (ns : List ℕ). made limit ns (busy calls q + 1)) (drop-drop 1 (starts calls q) (offered calls q))
    ∙ ap (λ (n : ℕ). made limit (drop (starts calls q + 1) (offered calls q)) n) same
    ∙ ap (λ (b : Bool). made limit (drop (cond b (starts calls q + 1) (starts calls q)) (offered calls q)) (cond b (starts calls q + 1) (starts calls q) - endings calls q)) (sym (eq-eqb q q refl))

-- somebody waits
pub has_come : (calls : List Call) (q n : ℕ) → slice_get (waiting calls q) 0 ≡ Some n → starts calls q < length (offered calls q)
has_come calls q n e =
    let within : 0 < length (drop (starts calls q) (offered calls q)) = slice_get_within (drop (starts calls q) (offered calls q)) 0 n e in
    omega (arith, length-drop (starts calls q) (offered calls q))

some_started : (limits : List (ℕ × ℕ)) (calls : List Call) (v : List QueueView) (q n : ℕ) (old : QueueView) → q < length v → slice_get v q ≡ Some old → next_in old ≡ Some n
    → Stands limits calls v → Stands limits (Started q ∷ calls) (set v q (started (Some n) old))
some_started limits calls v q n old within at first stands =
    let t = told (slice_get limits q) calls q old (sym at ∙ stands.each q) in
    let waits : slice_get (waiting calls q) 0 ≡ Some n = ap (λ (w : QueueView). slice_get w.waiting 0) (sym t.2) ∙ (guarded (nat_lt old.busy old.consumers) (slice_get old.waiting 0) n first).1 in
    let some : starts calls q < length (offered calls q) = has_come calls q n waits in
    stands_at limits calls (Started q ∷ calls) v q old (started (Some n) old) within at
    (λ limit e. ap (started (Some n)) e ∙ one_less calls q limit (stands.turns q))
    (λ p limit ne. ap (λ (b : Bool). made limit (drop (cond b (starts calls p + 1) (starts calls p)) (offered calls p)) (cond b (starts calls p + 1) (starts calls p) - endings calls p)) (sym ne))
    (λ p. record {
      came = turned (eqb q p) (starts calls p) (length (offered calls p)) (stands.turns p).came
          (λ s. subst (λ (r : ℕ). starts calls r < length (offered calls r)) (eqb-true q p s) some);
      began = risen (eqb q p) (starts calls p) (endings calls p) (stands.turns p).began;
    })
    stands

none_started : (limits : List (ℕ × ℕ)) (calls : List Call) (v : List QueueView) (q : ℕ) (old : QueueView) → q < length v → slice_get v q ≡ Some old
    → Stands limits calls v → Stands limits calls (set v q old)
none_started limits calls v q old within at stands =
    stands_at limits calls calls v q old old within at (λ limit e. e) (λ p limit ne. refl) stands.turns stands

pub stands_started : (result : Option ℕ) (limits : List (ℕ × ℕ)) (calls : List Call) (v : List QueueView) (q : ℕ) (old : QueueView) → q < length v → slice_get v q ≡ Some old → next_in old ≡ result
    → Stands limits calls v → Stands limits (started_by q result calls) (set v q (started result old))
stands_started None limits calls v q old within at first stands = none_started limits calls v q old within at stands
stands_started (Some n) limits calls v q old within at first stands = some_started limits calls v q n old within at first stands

pub next_told : (limits : List (ℕ × ℕ)) (calls : List Call) (v : List QueueView) (q : ℕ) (old : QueueView) → slice_get v q ≡ Some old → Stands limits calls v → next_in old ≡ next limits calls q
next_told limits calls v q old at stands =
    let t = told (slice_get limits q) calls q old (sym at ∙ stands.each q) in
    ap next_in t.2
    ∙ ap (λ (l : ℕ × ℕ). cond (nat_lt (busy calls q) l.1) (slice_get (waiting calls q) 0) None) (sym (get_or_from_slice_get limits q t.0 (0, 0) t.1))

pub full_told : (R : Type 0) (size : ℕ) (limits : List (ℕ × ℕ)) (calls : List Call) (v : List QueueView) (q : ℕ) (old : QueueView) → slice_get v q ≡ Some old → Stands limits calls v
    → R ↔ ((length old.waiting ≡ old.size) × (size ≡ old.size)) → R ↔ IsFullAt limits calls q size
full_told R size limits calls v q old at stands h =
    let t = told (slice_get limits q) calls q old (sym at ∙ stands.each q) in
    subst (λ (n : ℕ). R ↔ ((length (waiting calls q) ≡ n) × (size ≡ n))) (ap (λ (l : ℕ × ℕ). l.0) (sym (get_or_from_slice_get limits q t.0 (0, 0) t.1)))
    (subst (λ (w : QueueView). R ↔ ((length w.waiting ≡ w.size) × (size ≡ w.size))) t.2 h)

-- ---- one that had started ends

pub stands_ended : (limits : List (ℕ × ℕ)) (calls : List Call) (v : List QueueView) (q : ℕ) (old : QueueView) → q < length v → slice_get v q ≡ Some old → 0 < old.busy
    → Stands limits calls v → Stands limits (Ended q ∷ calls) (set v q (with_busy (old.busy - 1) old))
stands_ended limits calls v q old within at works stands =
    let t = told (slice_get limits q) calls q old (sym at ∙ stands.each q) in
    let at_work : 0 < busy calls q = subst (λ (w : QueueView). 0 < w.busy) t.2 works in
    let begun : endings calls q < starts calls q = omega arith in
    let less : busy calls q - 1 ≡ starts calls q - (endings calls q + 1) = omega arith in
    stands_at limits calls (Ended q ∷ calls) v q old (with_busy (old.busy - 1) old) within at
    (λ limit e. ap (λ (w : QueueView). with_busy (w.busy - 1) w) e
    ∙ ap (λ (n : ℕ). made limit (waiting calls q) n) less
    ∙ ap (λ (b : Bool). made limit (waiting calls q) (starts calls q - cond b (endings calls q + 1) (endings calls q))) (sym (eq-eqb q q refl)))
    (λ p limit ne. ap (λ (b : Bool). made limit (waiting calls p) (starts calls p - cond b (endings calls p + 1) (endings calls p))) (sym ne))
    (λ p. record {
      came = (stands.turns p).came;
      began = turned (eqb q p) (endings calls p) (starts calls p) (stands.turns p).began (λ s. subst (λ (r : ℕ). endings calls r < starts calls r) (eqb-true q p s) begun);
    })
    stands

-- ---- nobody has come yet

pub stands_new : (limits : List (ℕ × ℕ)) (v : List QueueView) → v ≡ map fresh limits → Stands limits [] v
stands_new limits v e = record {
  as_many = ap length e ∙ length-map limits fresh;
  each = λ q. ap (λ (w : List QueueView). slice_get w q) e ∙ slice_get-map fresh limits q ∙ alike fresh (queue_after [] q) (λ limit. refl) (slice_get limits q);
  turns = λ q. record { came = omega arith; began = omega arith };
}

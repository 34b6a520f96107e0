-- The clock never goes back: who is due, is due no sooner than now.
use Rattle.std.proofs.Common.{◌≡◌, ℕ, zero, suc, ◌+◌, ◌≤◌, Bool, true, false, ◌==◌, min, List, [], ◌∷◌, ◌++◌, Option, Some, None, refl, subst, arith, cond, inl, inr}
use Rattle.std.specs.List.{slice_get}
use Rattle.std.proofs.lemmas.Bool.{cases_Bool, ltb-true, cases_lt, le-leb}
use Rattle.std.proofs.Math.Nat.{le-min, min-le_right}
use Rattle.eip_exchange.specs.declared.birth.Birth.{Birth}
use Rattle.eip_frames.specs.declared.answer.Answer.{Answer as Reply}
use Rattle.eip_frames.specs.declared.answer.Answer.TheVariants as reply
use Rattle.eip_frames.specs.declared.request.Request.{Request}
use Rattle.eip_frames.specs.declared.request.Request.TheVariants as request
use Rattle.eip_frames.specs.declared.answer.Completion.{Completion}
use Rattle.eip_frames.specs.declared.answer.Completion.TheVariants as by
use Rattle.eip_frames.specs.Fits.{fits}
use Rattle.eip_ledger.specs.declared.entry.Kind.{Kind}
use Rattle.eip_ledger.specs.declared.entry.Kind.TheVariants.{Answer, Tick, Force}
use Rattle.eip_history.specs.Plan.{Plan}
use Rattle.eip_history.specs.Own.{Past, own, concerns, last_answer, clock, or_answer}
use Rattle.eip_history.specs.Groups.{Group, due_of, is_forced, Arrival, is_open, closed_by, is_due, put_group, arrived, is_for, last_at, after}
use Rattle.eip_history.specs.Births.{Asked, Story, story, groups, grouped_by, grouped_for, asked, arrival_of}
use Rattle.eip_history.specs.Place.{place_of}
use Rattle.eip_history.specs.Rules.{KeepsRules, May, dues, least, retry_due, MayAnswer, Content}
use Rattle.eip_history.proofs.Told.{own-other, own-here}
use Rattle.eip_history.proofs.Unborn.{legal-tail, legal-may, own-none}
use Rattle.eip_history.proofs.Stuck.{Standing, InEnd, InQueue, Held, Asleep, Waits, Able, standing}
use Rattle.eip_history.proofs.Ticks.{due-at}

abbrev pub most : ℕ
most = 18446744073709551615

abbrev pub EachGroup : (Group → Type 0) → List Group → Type 0
EachGroup P [] = Unit {0}
EachGroup P (g ∷ gs) = P g × EachGroup P gs

group-at : (P : Group → Type 0) (gs : List Group) (i : ℕ) (g : Group) → EachGroup P gs → slice_get gs i ≡ Some g → P g
group-at P [] i g a h = absurd (cc h)
group-at P (h' ∷ gs) zero g a h = let e : h' ≡ g = cc in subst P e a.0
group-at P (h' ∷ gs) (suc i) g a h = group-at P gs i g a.1 h

group-all : (P Q : Group → Type 0) (gs : List Group) → ((g : Group) → P g → Q g) → EachGroup P gs → EachGroup Q gs
group-all P Q [] h a = tt
group-all P Q (g ∷ gs) h a = (h g a.0, group-all P Q gs h a.1)

put-each : (P : Group → Type 0) (g : Group) (gs : List Group) → P g → EachGroup P gs → EachGroup P (put_group g gs)
put-each P g [] p a = (p, tt)
put-each P g (h ∷ gs) p a =
    elim (h.number == g.number) as (λ v. EachGroup P (cond v (g ∷ gs) (h ∷ put_group g gs))) [ true ↦ (p, a.1) | false ↦ (a.0, put-each P g gs p a.1) ]

closed-each : (P Q : Group → Type 0) (c : Completion) (p : Group → Bool) (gs : List Group)
    → ((g : Group) → p g ≡ true → Q (record g { closed = Some c })) → ((g : Group) → p g ≡ false → P g → Q g) → EachGroup P gs
    → EachGroup Q (closed_by c p gs)
closed-each P Q c p [] yes' no' a = tt
closed-each P Q c p (g ∷ gs) yes' no' a =
    let rest = closed-each P Q c p gs yes' no' a.1 in
    elim (cases_Bool (p g)) [ inl t ↦ rw t (yes' g t, rest) | inr f ↦ rw f (no' g f a.0, rest) ]

-- a group is due no sooner than a moment
abbrev pub Late : Plan → ℕ → Group → Type 0
Late s now g = (d : ℕ) → due_of s g ≡ Some d → (now ≤ d) × (d ≤ most)

pub last-push : (ps : List Arrival) (p : Arrival) → last_at (ps ++ p ∷ []) ≡ p.at
last-push [] p = refl
last-push (q ∷ []) p = refl
last-push (q ∷ (r ∷ ps)) p = last-push (r ∷ ps) p

after-late : (now at : ℕ) (o : Option ℕ) (d : ℕ) → now ≤ at → at ≤ most → after at o ≡ Some d → (now ≤ d) × (d ≤ most)
after-late now at None d l m h = absurd (cc h)
after-late now at (Some k) d l m h =
    let e : min (at + k) most ≡ d = cc in
    let a : now ≤ min (at + k) most = le-min (omega (arith, l)) (omega (arith, l, m)) in
    let b = min-le_right (at + k) most in
    (omega (arith, a, e), omega (arith, b, e))

late-open : (s : Plan) (now : ℕ) (v : Bool) (at : ℕ) (o : Option ℕ) (d : ℕ) → now ≤ at → at ≤ most → cond v (after at o) None ≡ Some d → (now ≤ d) × (d ≤ most)
late-open s now true at o d l m h = after-late now at o d l m h
late-open s now false at o d l m h = absurd (cc h)

arrived-late : (s : Plan) (now n : ℕ) (gs : List Group) (a : ℕ) (key : List ℕ) (p : Arrival) (c : Option Completion) → now ≤ p.at → p.at ≤ most
    → Late s now (record (arrived n gs a key p) { closed = c })
arrived-late s now n [] a key p c l m = λ d h. late-open s now (is_open (record (arrived n [] a key p) { closed = c })) p.at (s.group a).timeout d l m h
arrived-late s now n (g ∷ gs) a key p c l m = elim (cases_Bool (is_for a key g)) [
  | inl t ↦ rw t (λ d h. let e = last-push g.parts p in
      let h' = rw e at h in late-open s now (is_open (record g { closed = c })) p.at (s.group g.aggregator).timeout d l m h')
  | inr f ↦ rw f (arrived-late s now (n + 1) gs a key p c l m)
]

arrived-late-open : (s : Plan) (now n : ℕ) (gs : List Group) (a : ℕ) (key : List ℕ) (p : Arrival) → now ≤ p.at → p.at ≤ most → Late s now (arrived n gs a key p)
arrived-late-open s now n [] a key p l m = λ d h. late-open s now (is_open (arrived n [] a key p)) p.at (s.group a).timeout d l m h
arrived-late-open s now n (g ∷ gs) a key p l m = elim (cases_Bool (is_for a key g)) [
  | inl t ↦ rw t (λ d h. let e = last-push g.parts p in let h' = rw e at h in late-open s now (is_open g) p.at (s.group g.aggregator).timeout d l m h')
  | inr f ↦ rw f (arrived-late-open s now (n + 1) gs a key p l m)
]

late-for : (s : Plan) (t : Story) (past : Past) (k : Asked) (q : Request) (a : Reply) → clock past ≤ most → EachGroup (Late s (clock past)) t.groups
    → EachGroup (Late s (clock past)) (grouped_for t past k q a)
late-for s t past k (request.Offer q discard m) (reply.Queued n) l e = e
late-for s t past k (request.Spawn seeds) (reply.Born first count) l e = e
late-for s t past k (request.Arrive a key m) (reply.Arrived n) l e =
    put-each (Late s (clock past)) _ t.groups (arrived-late-open s (clock past) 1 t.groups a key (arrival_of past k m) (omega arith) l) e
late-for s t past k (request.Arrive a key m) (reply.Closed g c n) l e =
    put-each (Late s (clock past)) _ t.groups (arrived-late s (clock past) 1 t.groups a key (arrival_of past k m) (Some c) (omega arith) l) e
late-for s t past k _ _ l e = e

late-by : (s : Plan) (t : Story) (past : Past) (o : Option Asked) (a : Reply) → clock past ≤ most → EachGroup (Late s (clock past)) t.groups
    → EachGroup (Late s (clock past)) (grouped_by t past o a)
late-by s t past None a l e = e
late-by s t past (Some k) a l e = late-for s t past k k.request a l e

closed-late : (s : Plan) (now : ℕ) (c : Completion) (g : Group) → Late s now (record g { closed = Some c })
closed-late s now c g d h = absurd (cc h)

-- which moments a Slept says
waits : (q : Request) (d : ℕ) → fits q (reply.Slept d) ≡ true → (t : ℕ) × (q ≡ request.Wait t)
waits (request.Wait t) d h = (t, refl)
waits (request.Spawn ds) d h = absurd (cc h)
waits (request.Send t m) d h = absurd (cc h)
waits (request.Process t m) d h = absurd (cc h)
waits (request.Test t m) d h = absurd (cc h)
waits (request.Offer q v m) d h = absurd (cc h)
waits (request.Call r) d h = absurd (cc h)
waits (request.Join f c) d h = absurd (cc h)
waits (request.Arrive a k m) d h = absurd (cc h)
waits (request.Idem r k eager remove) d h = absurd (cc h)
waits (request.Log n t) d h = absurd (cc h)
waits (request.Finish e m c) d h = absurd (cc h)

slept-most : (s : Plan) (w limit : ℕ) (past : Past) (y d : ℕ) → KeepsRules s w limit past → last_answer (own y past) ≡ Some (reply.Slept d) → d ≤ most
slept-most s w limit [] y d legal h = let g = rw (own-none y) at h in absurd (cc g)
slept-most s w limit (e ∷ past) y d legal h = by_test (concerns y e.kind) refl (λ g. slept-most s w limit past y d (legal-tail s w limit e past legal) g)
  where
    answered : (x : ℕ) (a : Reply) → MayAnswer s limit past e.worker x a → a ≡ reply.Slept d → d ≤ most
    answered x a may born =
        let m = subst (λ b. MayAnswer s limit past e.worker x b) born may in
        let q = waits m.asks.request d m.fitting in
        let c : d ≡ min (clock past + q.0) most = subst (λ r. Content s past m.asks r (reply.Slept d)) q.1 m.content in
        let b = min-le_right (clock past + q.0) most in
        omega (arith, b, c)

    by_kind : (k : Kind) → May s limit past e.worker k → (last_answer (own y past) ≡ Some (reply.Slept d) → d ≤ most)
        → or_answer k (last_answer (own y past)) ≡ Some (reply.Slept d) → d ≤ most
    by_kind (Answer n a) may ih g = let born : a ≡ reply.Slept d = cc in answered n a may born
    by_kind _ may ih g = ih g

    by_test : (v : Bool) → concerns y e.kind ≡ v → (last_answer (own y past) ≡ Some (reply.Slept d) → d ≤ most) → d ≤ most
    by_test true c ih = by_kind e.kind (legal-may s w limit e past legal) ih (rw (own-here y e past c) at h)
    by_test false c ih = ih (rw (own-other y e past c) at h)

-- the clock is within the moments, and every open group is due no sooner than it
pub record IsLate (s : Plan) (past : Past) : Type 0 where
  pub clock_most : clock past ≤ most
  pub groups_late : EachGroup (Late s (clock past)) (groups s past)

-- who is due is due no sooner than now
due-late : (s : Plan) (w limit : ℕ) (past : Past) (t : ℕ) → KeepsRules s w limit past → IsLate s past → least (dues s past) ≡ Some t
    → (clock past ≤ t) × (t ≤ most)
due-late s w limit past t legal late h = elim (due-at s past t h) [
  | inl d ↦ by_standing d.1 d.3 (standing s past d.1)
  | inr d ↦ group-at (Late s (clock past)) (groups s past) d.0 d.1 late.groups_late d.2 t d.3
]
  where
    by_standing : (b : Birth) → retry_due (place_of s past b) ≡ Some t → Standing s past b → (clock past ≤ t) × (t ≤ most)
    by_standing b r (InEnd e p u) = absurd (let g = rw p at r in cc g)
    by_standing b r (InQueue q o p) = absurd (let g = rw p at r in cc g)
    by_standing b r (Held v u p) = absurd (let g = rw p at r in cc g)
    by_standing b r (Able p) = absurd (let g = rw p at r in cc g)
    by_standing b r (Waits f c la a p) = absurd (let g = rw p at r in cc g)
    by_standing b r (Asleep d la n p) =
        let g = rw p at r in
        let same : d ≡ t = cc in
        let l = ltb-true (clock past) d n in
        let m = slept-most s w limit past b.number d legal la in
        (omega (arith, same, l), omega (arith, same, m))

late-none : (s : Plan) → IsLate s []
unfolding clock story
late-none s = record { clock_most = omega arith; groups_late = tt }

clock-tick : (v t : ℕ) (past : Past) → clock ((record { worker = v; kind = Tick t }) ∷ past) ≡ t
unfolding clock
clock-tick v t past = refl

late-tick : (s : Plan) (now t : ℕ) (gs : List Group) → EachGroup (Late s now) gs → EachGroup (Late s t) (closed_by by.Timeout (is_due s t) gs)
late-tick s now t gs e = closed-each (Late s now) (Late s t) by.Timeout (is_due s t) gs (λ g y. closed-late s t by.Timeout g)
    (λ g n h. λ d due. let x = h d due in
    let m = rw due at n in elim (cases_lt d t) [ inl l ↦ absurd (let k = le-leb d t (omega (arith, l)) in cc k) | inr l ↦ (l, x.1) ]) e

late-step : (s : Plan) (w limit v : ℕ) (k : Kind) (past : Past) → KeepsRules s w limit ((record { worker = v; kind = k }) ∷ past) → IsLate s past
    → IsLate s ((record { worker = v; kind = k }) ∷ past)
unfolding clock story
late-step s w limit v (Tick t) past legal late =
    let d = due-late s w limit past t (legal-tail s w limit _ past legal) late (legal-may s w limit _ past legal).2 in
    record { clock_most = d.1; groups_late = late-tick s (clock past) t (groups s past) late.groups_late }
late-step s w limit v Force past legal late =
    record {
      clock_most = late.clock_most;
      groups_late = closed-each (Late s (clock past)) (Late s (clock past)) by.Force (is_forced s) (groups s past)
          (λ g y. closed-late s (clock past) by.Force g) (λ g n h. h) late.groups_late;
    }
late-step s w limit v (Answer x a) past legal late =
    record { clock_most = late.clock_most; groups_late = late-by s (story s past) past (asked s past x) a late.clock_most late.groups_late }
late-step s w limit v _ past legal late = record { clock_most = late.clock_most; groups_late = late.groups_late }

pub legal-late : (s : Plan) (w limit : ℕ) (past : Past) → KeepsRules s w limit past → IsLate s past
legal-late s w limit [] legal = late-none s
legal-late s w limit (e ∷ past) legal = late-step s w limit e.worker e.kind past legal (legal-late s w limit past (legal-tail s w limit e past legal))

-- a Tick's moment is no sooner than the clock
pub clock-rises : (s : Plan) (w limit : ℕ) (past : Past) (t : ℕ) → KeepsRules s w limit past → least (dues s past) ≡ Some t → clock past ≤ t
clock-rises s w limit past t legal h = (due-late s w limit past t legal (legal-late s w limit past legal) h).0

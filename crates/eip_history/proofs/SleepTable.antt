-- What an entry does to the exchanges that sleep.
use Rattle.std.proofs.Common.{◌≡◌, ℕ, Bool, true, false, nat_lt, ◌∷◌, Option, Some, None, refl, sym, ap, subst, ◌∙◌, cond, inl, inr}
use Rattle.std.proofs.lemmas.Bool.{cases_Bool, eqb-true}
use Rattle.eip_exchange.specs.declared.birth.Birth.{Birth}
use Rattle.eip_exchange.specs.declared.birth.Origin.{Origin}
use Rattle.eip_exchange.specs.declared.birth.Origin.TheVariants as from
use Rattle.eip_exchange.specs.declared.end.Ended.{Ended as Finished}
use Rattle.eip_exchange.specs.Ends.{out_of_memory}
use Rattle.eip_frames.specs.declared.answer.Answer.{Answer as Reply}
use Rattle.eip_frames.specs.declared.answer.Answer.TheVariants as reply
use Rattle.eip_frames.specs.Fate.{Fate, AsksNext, Ends, Strays}
use Rattle.eip_ledger.specs.declared.entry.Entry.{Entry}
use Rattle.eip_ledger.specs.declared.entry.Kind.{Kind}
use Rattle.eip_ledger.specs.declared.entry.Kind.TheVariants.{Start, Take, Answer, Tick, Starve, Return}
use Rattle.eip_ledger.specs.declared.place.Place.{Place}
use Rattle.eip_ledger.specs.declared.place.Place.TheVariants as place_is
use Rattle.eip_history.specs.Plan.{Plan}
use Rattle.eip_history.specs.Own.{Past, own, concerns, started, taker, taken_by, last_answer, or_answer, clock, ticked, numbered}
use Rattle.eip_history.specs.Births.{births, fate, fate_by}
use Rattle.eip_history.specs.Place.{ended, end_of, all_ended, Pause, Sleeps, Joins, Runs, pause_of, paused, in_hand, queued, place_by, place_of, place, is_in}
use Rattle.eip_history.specs.Rules.{KeepsRules, May, retry_due}
use Rattle.eip_history.specs.Laws.{PlanLaws}
use Rattle.eip_history.specs.TableWords.{unless_ended, moves_sleepers, sleeps, slept_by, slept_in, slept_on}
use Rattle.eip_history.proofs.Told.{own-other, own-here}
use Rattle.eip_history.proofs.Unborn.{legal-tail, legal-may, birth-stays, entry-born, place-born, first-placed}
use Rattle.eip_history.proofs.Parts.{numbered-number}
use Rattle.eip_history.proofs.Places.{fate-other, clock-same, ended-is, place-tick, woken}
use Rattle.eip_history.proofs.Clock.{clock-rises}
use Rattle.eip_history.proofs.Numbers.{newborn-at}
use Rattle.eip_history.proofs.Acting.{is_acting, Actor, place-here, newborn-silent, entry-actor, acting-out, waiting-silent}

-- ---- of a place the moment alone

no-moment : (v : Bool) → retry_due (cond v place_is.Ready place_is.Joining) ≡ None
no-moment true = refl
no-moment false = refl

moment-pause : (now : ℕ) (all all' : ℕ → ℕ → Bool) (p : Pause) → retry_due (paused now all' p) ≡ retry_due (paused now all p)
moment-pause now all all' (Sleeps d) = refl
moment-pause now all all' (Joins f c) = no-moment (all' f c) ∙ sym (no-moment (all f c))
moment-pause now all all' Runs = refl

moment-hand : (w : Option ℕ) (p q : Place) → retry_due q ≡ retry_due p → retry_due (in_hand w q) ≡ retry_due (in_hand w p)
moment-hand (Some v) p q h = refl
moment-hand None p q h = h

moment-queue : (r : Origin) (v : Bool) (p q : Place) → retry_due q ≡ retry_due p → retry_due (queued r v q) ≡ retry_due (queued r v p)
moment-queue (from.Queue n) false p q h = refl
moment-queue (from.Queue n) true p q h = h
moment-queue (from.Source n i) v p q h = h
moment-queue (from.Part n i) v p q h = h
moment-queue (from.Group n) v p q h = h

moment-by : (now : ℕ) (all all' : ℕ → ℕ → Bool) (b : Birth) (o : Past) (f : Fate) → retry_due (place_by now all' b o f) ≡ retry_due (place_by now all b o f)
moment-by now all all' b o (Ends e m) = refl
moment-by now all all' b o (AsksNext q p) =
    moment-queue b.origin (started o) _ _ (moment-hand (taker o) _ _ (moment-pause now all all' (pause_of (last_answer o))))
moment-by now all all' b o Strays = moment-queue b.origin (started o) _ _ (moment-hand (taker o) _ _ (moment-pause now all all' (pause_of (last_answer o))))

newborn-moment : (r : Origin) → retry_due (queued r false place_is.Ready) ≡ None
newborn-moment (from.Queue n) = refl
newborn-moment (from.Source n i) = refl
newborn-moment (from.Part n i) = refl
newborn-moment (from.Group n) = refl

sleeps-at : (s : Plan) (past : Past) (x : ℕ) (b : Birth) → numbered (births s past) x ≡ Some b → sleeps s past x ≡ retry_due (place_of s past b)
unfolding sleeps place
sleeps-at s past x b at = rw at refl

sleeps-unborn : (s : Plan) (past : Past) (x : ℕ) → numbered (births s past) x ≡ None → sleeps s past x ≡ None
unfolding sleeps place
sleeps-unborn s past x at = rw at refl

-- who is born by an entry doesn't sleep behind it
newborn-awake : (s : Plan) (laws : PlanLaws s) (w limit : ℕ) (e : Entry) (past : Past) (x : ℕ) → KeepsRules s w limit (e ∷ past)
    → numbered (births s past) x ≡ None → sleeps s (e ∷ past) x ≡ None
newborn-awake s laws w limit e past x legal none = by_birth (numbered (births s (e ∷ past)) x) refl
  where
    by_birth : (o : Option Birth) → numbered (births s (e ∷ past)) x ≡ o → sleeps s (e ∷ past) x ≡ None
    by_birth None at = sleeps-unborn s (e ∷ past) x at
    by_birth (Some b) at =
        sleeps-at s (e ∷ past) x b at
        ∙ (ap retry_due (newborn-at s laws (e ∷ past) b (newborn-silent s w limit e past x b legal none at)) ∙ newborn-moment b.origin)

moment-other : (s : Plan) (e : Entry) (past : Past) (b : Birth) → concerns b.number e.kind ≡ false → clock (e ∷ past) ≡ clock past
    → retry_due (place_of s (e ∷ past) b) ≡ retry_due (place_of s past b)
unfolding place_of
moment-other s e past b c t =
    let o = own-other b.number e past c in
    let f = fate-other s e past b c in
    ap (λ n. retry_due (place_by n (all_ended s (e ∷ past)) b (own b.number (e ∷ past)) (fate s (e ∷ past) b))) t
    ∙ (ap (λ o'. retry_due (place_by (clock past) (all_ended s (e ∷ past)) b o' (fate s (e ∷ past) b))) o
    ∙ (ap (λ g. retry_due (place_by (clock past) (all_ended s (e ∷ past)) b (own b.number past) g)) f
    ∙ moment-by (clock past) (all_ended s past) (all_ended s (e ∷ past)) b (own b.number past) (fate s past b)))

-- an entry that isn't x's, and no Tick, leaves x as it slept
pub sleeps-same : (s : Plan) (laws : PlanLaws s) (w limit : ℕ) (e : Entry) (past : Past) (x : ℕ) → KeepsRules s w limit (e ∷ past)
    → concerns x e.kind ≡ false → ((n : ℕ) → ticked e.kind n ≡ n) → sleeps s (e ∷ past) x ≡ sleeps s past x
sleeps-same s laws w limit e past x legal c t = by_birth (numbered (births s past) x) refl
  where
    by_birth : (o : Option Birth) → numbered (births s past) x ≡ o → sleeps s (e ∷ past) x ≡ sleeps s past x
    by_birth None at = newborn-awake s laws w limit e past x legal at ∙ sym (sleeps-unborn s past x at)
    by_birth (Some b) at =
        let n = numbered-number s past x b at in
        let c' : concerns b.number e.kind ≡ false = rw n c in
        sleeps-at s (e ∷ past) x b (birth-stays s e past x b at)
        ∙ (moment-other s e past b c' (clock-same e past t) ∙ sym (sleeps-at s past x b at))

woken-moment : (t : ℕ) (p : Place) → retry_due (woken t p) ≡ slept_on t (retry_due p)
woken-moment t (place_is.Retry d) = elim (nat_lt t d) as (λ v. retry_due (cond v (place_is.Retry d) place_is.Ready) ≡ cond v (Some d) None) [ true ↦ refl | false ↦ refl ]
woken-moment t (place_is.Ended e) = refl
woken-moment t (place_is.Queue q) = refl
woken-moment t (place_is.InHand w) = refl
woken-moment t place_is.Joining = refl
woken-moment t place_is.Ready = refl

-- at a Tick all sleep on whose moment is beyond it
pub sleeps-tick : (s : Plan) (laws : PlanLaws s) (w limit v t : ℕ) (past : Past) (x : ℕ) → KeepsRules s w limit ((record { worker = v; kind = Tick t }) ∷ past)
    → sleeps s ((record { worker = v; kind = Tick t }) ∷ past) x ≡ slept_on t (sleeps s past x)
sleeps-tick s laws w limit v t past x legal = by_birth (numbered (births s past) x) refl
  where
    e : Entry
    e = record { worker = v; kind = Tick t }

    by_birth : (o : Option Birth) → numbered (births s past) x ≡ o → sleeps s (e ∷ past) x ≡ slept_on t (sleeps s past x)
    by_birth None at = newborn-awake s laws w limit e past x legal at ∙ ap (slept_on t) (sym (sleeps-unborn s past x at))
    by_birth (Some b) at =
        let tail = legal-tail s w limit e past legal in
        let l = clock-rises s w limit past t tail (legal-may s w limit e past legal).2 in
        sleeps-at s (e ∷ past) x b (birth-stays s e past x b at)
        ∙ (ap retry_due (place-tick s w limit v t past b tail l)
        ∙ (woken-moment t (place_of s past b) ∙ ap (slept_on t) (sym (sleeps-at s past x b at))))

-- ---- an own entry

moment-reply : (now : ℕ) (all : ℕ → ℕ → Bool) (a : Reply) → retry_due (paused now all (pause_of (Some a))) ≡ slept_by now a
moment-reply now all (reply.Slept d) = elim (nat_lt now d) as (λ v. retry_due (cond v (place_is.Retry d) place_is.Ready) ≡ cond v (Some d) None) [ true ↦ refl | false ↦ refl ]
moment-reply now all (reply.Born f c) = no-moment (all f c)
moment-reply now all _ = refl

unless-none : {A : Type 0} (o : Option Finished) → unless_ended {A = A} o None ≡ None
unless-none None = refl
unless-none (Some f) = refl

moment-answer : (now : ℕ) (all : ℕ → ℕ → Bool) (b : Birth) (v n : ℕ) (a : Reply) (o : Past) (f : Fate) → ((p : Place) → queued b.origin (started o) p ≡ p)
    → retry_due (place_by now all b ((record { worker = v; kind = Answer n a }) ∷ o) f) ≡ unless_ended (end_of f) (slept_by now a)
moment-answer now all b v n a o (Ends e m) out = refl
moment-answer now all b v n a o (AsksNext q p) out = ap retry_due (out _) ∙ moment-reply now all a
moment-answer now all b v n a o Strays out = ap retry_due (out _) ∙ moment-reply now all a

moment-held : (r : Origin) (v : Bool) (w : ℕ) → retry_due (queued r v (place_is.InHand w)) ≡ None
moment-held (from.Queue n) false w = refl
moment-held (from.Queue n) true w = refl
moment-held (from.Source n i) v w = refl
moment-held (from.Part n i) v w = refl
moment-held (from.Group n) v w = refl

moment-taken : (now : ℕ) (all : ℕ → ℕ → Bool) (b : Birth) (v n : ℕ) (o : Past) (f : Fate)
    → retry_due (place_by now all b ((record { worker = v; kind = Take n }) ∷ o) f) ≡ None
moment-taken now all b v n o (Ends e m) = refl
moment-taken now all b v n o (AsksNext q p) = moment-held b.origin (started o) v
moment-taken now all b v n o Strays = moment-held b.origin (started o) v

-- where nothing is waited for there is no moment, whether it has left a queue or not
moment-ready : (r : Origin) (v : Bool) (p : Place) → p ≡ place_is.Ready → retry_due (queued r v p) ≡ None
moment-ready (from.Queue n) false p h = refl
moment-ready (from.Queue n) true p h = ap retry_due h
moment-ready (from.Source n i) v p h = ap retry_due h
moment-ready (from.Part n i) v p h = ap retry_due h
moment-ready (from.Group n) v p h = ap retry_due h

moment-back : (now : ℕ) (all : ℕ → ℕ → Bool) (b : Birth) (e : Entry) (o : Past) (f : Fate) → taken_by e.worker e.kind ≡ None
    → paused now all (pause_of (or_answer e.kind (last_answer o))) ≡ place_is.Ready → retry_due (place_by now all b (e ∷ o) f) ≡ None
moment-back now all b e o (Ends e' m) t h = refl
moment-back now all b e o (AsksNext q p) t h =
    moment-ready b.origin (started (e ∷ o)) _ (ap (λ w. in_hand w (paused now all (pause_of (or_answer e.kind (last_answer o))))) t ∙ h)
moment-back now all b e o Strays t h =
    moment-ready b.origin (started (e ∷ o)) _ (ap (λ w. in_hand w (paused now all (pause_of (or_answer e.kind (last_answer o))))) t ∙ h)

starved-ends : (s : Plan) (v n : ℕ) (past : Past) (b : Birth) → concerns b.number (Starve n) ≡ true
    → fate s ((record { worker = v; kind = Starve n }) ∷ past) b ≡ Ends out_of_memory b.message
unfolding fate
starved-ends s v n past b c = ap (fate_by s b) (own-here b.number (record { worker = v; kind = Starve n }) past c)

born-one : (s : Plan) (past : Past) (x : ℕ) (b : Birth) → numbered (births s past) x ≡ Some b → (d : Birth) → numbered (births s past) b.number ≡ Some d → d ≡ b
born-one s past x b at d u = let n = numbered-number s past x b at in let g = rw n at u in cc

start-ready : (s : Plan) (w limit v q n : ℕ) (past : Past) (x : ℕ) (b : Birth) → KeepsRules s w limit ((record { worker = v; kind = Start q n }) ∷ past)
    → numbered (births s past) x ≡ Some b → concerns x (Start q n) ≡ true
    → paused (clock past) (all_ended s ((record { worker = v; kind = Start q n }) ∷ past)) (pause_of (last_answer (own b.number past))) ≡ place_is.Ready
start-ready s w limit v q n past x b l at c =
    let p = first-placed s past (is_in q) n (legal-may s w limit _ past l).0 in
    let e : n ≡ x = eqb-true n x c in
    let u : numbered (births s past) x ≡ Some p.0 = rw (← e) p.1 in
    let same : p.0 ≡ b = cc in
    let h : is_in q (place_of s past b) ≡ true = subst (λ d. is_in q (place_of s past d) ≡ true) same p.2 in
    let none = waiting-silent s w limit past b q (legal-tail s w limit _ past l) (born-one s past x b at) h in
    ap (λ o. paused (clock past) (all_ended s ((record { worker = v; kind = Start q n }) ∷ past)) (pause_of (last_answer o))) none

-- an entry of x: x sleeps behind an answer that lets it sleep, and behind no other entry of it, nor behind its end
pub sleeps-own : (s : Plan) (w limit v x : ℕ) (k : Kind) (past : Past) → KeepsRules s w limit ((record { worker = v; kind = k }) ∷ past) → concerns x k ≡ true
    → sleeps s ((record { worker = v; kind = k }) ∷ past) x ≡ unless_ended (ended s ((record { worker = v; kind = k }) ∷ past) x) (slept_in (clock past) k)
unfolding clock
sleeps-own s w limit v x k past legal c = by_kind k legal c
  where
    behind : Kind → Past
    behind k' = (record { worker = v; kind = k' }) ∷ past

    none-here : (k' : Kind) (b : Birth) → KeepsRules s w limit (behind k') → numbered (births s past) x ≡ Some b → concerns x k' ≡ true → slept_in (clock past) k' ≡ None
        → retry_due (place_by (clock (behind k')) (all_ended s (behind k')) b ((record { worker = v; kind = k' }) ∷ own b.number past) (fate s (behind k') b)) ≡ None
        → sleeps s (behind k') x ≡ unless_ended (ended s (behind k') x) (slept_in (clock past) k')
    none-here k' b l at c' n h =
        let m = numbered-number s past x b at in
        sleeps-at s (behind k') x b (birth-stays s _ past x b at)
        ∙ (ap retry_due (place-here s (record { worker = v; kind = k' }) past b (rw m c'))
        ∙ (h ∙ (sym (unless-none (ended s (behind k') x)) ∙ ap (unless_ended (ended s (behind k') x)) (sym n))))

    by_kind : (k' : Kind) → KeepsRules s w limit (behind k') → concerns x k' ≡ true
        → sleeps s (behind k') x ≡ unless_ended (ended s (behind k') x) (slept_in (clock past) k')
    by_kind (Answer n a) l c' =
        let r = entry-actor s limit past v x (Answer n a) (legal-may s w limit (record { worker = v; kind = Answer n a }) past l) c' refl in
        let b = r.birth in
        let m = numbered-number s past x b r.born in
        let at = birth-stays s (record { worker = v; kind = Answer n a }) past x b r.born in
        sleeps-at s (behind (Answer n a)) x b at
        ∙ (ap retry_due (place-here s (record { worker = v; kind = Answer n a }) past b (rw m c'))
        ∙ (moment-answer (clock past) (all_ended s (behind (Answer n a))) b v n a (own b.number past) (fate s (behind (Answer n a)) b) (acting-out s past b r.acting)
        ∙ ap (λ o. unless_ended o (slept_by (clock past) a)) (sym (ended-is s (behind (Answer n a)) x b at))))
    by_kind (Take n) l c' =
        let r = entry-born s limit past v x (Take n) (legal-may s w limit (record { worker = v; kind = Take n }) past l) c' in
        none-here (Take n) r.0 l r.1 c' refl (moment-taken (clock past) (all_ended s (behind (Take n))) r.0 v n (own r.0.number past) (fate s (behind (Take n)) r.0))
    by_kind (Starve n) l c' =
        let r = entry-born s limit past v x (Starve n) (legal-may s w limit (record { worker = v; kind = Starve n }) past l) c' in
        let m = numbered-number s past x r.0 r.1 in
        none-here (Starve n) r.0 l r.1 c' refl
        (ap (λ f. retry_due (place_by (clock past) (all_ended s (behind (Starve n))) r.0 ((record { worker = v; kind = Starve n }) ∷ own r.0.number past) f)) (starved-ends s v n past r.0 (rw m c')))
    by_kind (Return n) l c' = absurd (legal-may s w limit (record { worker = v; kind = Return n }) past l)
    by_kind (Start q n) l c' =
        let r = entry-born s limit past v x (Start q n) (legal-may s w limit (record { worker = v; kind = Start q n }) past l) c' in
        none-here (Start q n) r.0 l r.1 c' refl (moment-back (clock past) (all_ended s (behind (Start q n))) r.0 (record { worker = v; kind = Start q n }) (own r.0.number past) (fate s (behind (Start q n)) r.0) refl
        (start-ready s w limit v q n past x r.0 l r.1 c'))
    by_kind _ l c' = absurd (cc c')

-- ---- an entry by which nobody falls asleep or wakes

acting-awake : (p : Place) → is_acting p ≡ true → retry_due p ≡ None
acting-awake place_is.Ready h = refl
acting-awake (place_is.InHand w) h = refl
acting-awake (place_is.Ended e) h = absurd (cc h)
acting-awake (place_is.Queue q) h = absurd (cc h)
acting-awake (place_is.Retry d) h = absurd (cc h)
acting-awake place_is.Joining h = absurd (cc h)

waiting-awake : (q : ℕ) (p : Place) → is_in q p ≡ true → retry_due p ≡ None
waiting-awake q (place_is.Queue r) h = refl
waiting-awake q (place_is.Ended e) h = absurd (cc h)
waiting-awake q (place_is.InHand w) h = absurd (cc h)
waiting-awake q (place_is.Retry d) h = absurd (cc h)
waiting-awake q place_is.Joining h = absurd (cc h)
waiting-awake q place_is.Ready h = absurd (cc h)

actor-awake : (s : Plan) (past : Past) (x : ℕ) → Actor s past x → sleeps s past x ≡ None
actor-awake s past x r = sleeps-at s past x r.birth r.born ∙ acting-awake (place_of s past r.birth) r.acting

-- whose entry it is doesn't sleep before it
pub awake-before : (s : Plan) (limit : ℕ) (past : Past) (v x : ℕ) (k : Kind) → May s limit past v k → concerns x k ≡ true → sleeps s past x ≡ None
awake-before s limit past v x (Start q n) may c =
    let p = first-placed s past (is_in q) n may.0 in
    let e : n ≡ x = eqb-true n x c in
    sleeps-at s past x p.0 (rw (← e) p.1) ∙ waiting-awake q (place_of s past p.0) p.2
awake-before s limit past v x (Tick t) may c = absurd (cc c)
awake-before s limit past v x (Take n) may c = actor-awake s past x (entry-actor s limit past v x (Take n) may c refl)
awake-before s limit past v x (Answer n a) may c = actor-awake s past x (entry-actor s limit past v x (Answer n a) may c refl)
awake-before s limit past v x (Starve n) may c = actor-awake s past x (entry-actor s limit past v x (Starve n) may c refl)
awake-before s limit past v x (Return n) may c = absurd may
awake-before s limit past v x _ may c = absurd (cc c)

nobody-slept : (now : ℕ) (k : Kind) → moves_sleepers k ≡ false → slept_in now k ≡ None
nobody-slept now (Answer x (reply.Slept d)) h = absurd (cc h)
nobody-slept now (Answer x _) h = refl
nobody-slept now _ h = refl

no-tick : (k : Kind) → moves_sleepers k ≡ false → (n : ℕ) → ticked k n ≡ n
no-tick (Tick t) h n = absurd (cc h)
no-tick _ h n = refl

-- by such an entry the sleepers stay as they were
pub sleeps-stay : (s : Plan) (laws : PlanLaws s) (w limit v : ℕ) (k : Kind) (past : Past) (x : ℕ) → KeepsRules s w limit ((record { worker = v; kind = k }) ∷ past)
    → moves_sleepers k ≡ false → sleeps s ((record { worker = v; kind = k }) ∷ past) x ≡ sleeps s past x
sleeps-stay s laws w limit v k past x legal h = elim (cases_Bool (concerns x k)) [
  | inl c ↦ sleeps-own s w limit v x k past legal c
      ∙ (ap (unless_ended (ended s ((record { worker = v; kind = k }) ∷ past) x)) (nobody-slept (clock past) k h)
      ∙ (unless-none (ended s ((record { worker = v; kind = k }) ∷ past) x)
      ∙ sym (awake-before s limit past v x k (legal-may s w limit (record { worker = v; kind = k }) past legal) c)))
  | inr f ↦ sleeps-same s laws w limit (record { worker = v; kind = k }) past x legal f (no-tick k h)
]

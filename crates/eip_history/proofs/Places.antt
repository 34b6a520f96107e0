-- How one entry changes the places.
use Rattle.std.proofs.Common.{◌≡◌, ◌≢◌, ℕ, zero, suc, ◌+◌, ◌<◌, ◌≤◌, Bool, true, false, nat_lt, ◌∷◌, Option, Some, None, is_some, refl, sym, ap, ◌∙◌, arith, cond}
use Rattle.std.proofs.lemmas.Bool.{ltb-false, le-ltb}
use Rattle.eip_exchange.specs.declared.birth.Birth.{Birth}
use Rattle.eip_exchange.specs.declared.birth.Origin.{Origin}
use Rattle.eip_exchange.specs.declared.birth.Origin.TheVariants as from
use Rattle.eip_frames.specs.declared.answer.Answer.{Answer as Reply}
use Rattle.eip_frames.specs.declared.answer.Answer.TheVariants as reply
use Rattle.eip_frames.specs.Fate.{Fate, AsksNext, Ends, Strays}
use Rattle.eip_ledger.specs.declared.entry.Entry.{Entry}
use Rattle.eip_ledger.specs.declared.place.Place.{Place}
use Rattle.eip_ledger.specs.declared.place.Place.TheVariants as place_is
use Rattle.eip_ledger.specs.declared.entry.Kind.TheVariants.{Tick}
use Rattle.eip_history.specs.Plan.{Plan}
use Rattle.eip_history.specs.Own.{Past, own, concerns, numbered, last_answer, started, taker, clock, ticked}
use Rattle.eip_history.specs.Births.{births, fate, fate_by}
use Rattle.eip_history.specs.Place.{ended, end_at, end_of, joined, cons_option, all_ended, pause_of, Pause, Sleeps, Joins, Runs, paused, in_hand, queued, place_by, place_of}
use Rattle.eip_history.specs.Rules.{KeepsRules}
use Rattle.eip_history.proofs.Told.{own-other}
use Rattle.eip_history.proofs.Unborn.{birth-stays}
use Rattle.eip_history.proofs.Parts.{parts-of, is_part_of, numbered-number}

pub fate-other : (s : Plan) (e : Entry) (past : Past) (b : Birth) → concerns b.number e.kind ≡ false → fate s (e ∷ past) b ≡ fate s past b
unfolding fate
fate-other s e past b h = ap (fate_by s b) (own-other b.number e past h)

pub ended-is : (s : Plan) (past : Past) (x : ℕ) (b : Birth) → numbered (births s past) x ≡ Some b → ended s past x ≡ end_of (fate s past b)
unfolding ended
ended-is s past x b h = ap (end_at s past) h

-- an entry that changes no end of a born exchange
abbrev pub EndsNone : Plan → Entry → Past → Type 0
EndsNone s e past = (x : ℕ) (b : Birth) → numbered (births s past) x ≡ Some b → ended s (e ∷ past) x ≡ ended s past x

-- where the fate ends no more than before, the end is the same
pub ended-same : (s : Plan) (e : Entry) (past : Past) (x : ℕ) (b : Birth) → numbered (births s past) x ≡ Some b
    → end_of (fate s (e ∷ past) b) ≡ end_of (fate s past b) → ended s (e ∷ past) x ≡ ended s past x
ended-same s e past x b h same = ended-is s (e ∷ past) x b (birth-stays s e past x b h) ∙ (same ∙ sym (ended-is s past x b h))

pub ended-other : (s : Plan) (e : Entry) (past : Past) (x : ℕ) (b : Birth) → numbered (births s past) x ≡ Some b → concerns x e.kind ≡ false
    → ended s (e ∷ past) x ≡ ended s past x
ended-other s e past x b h c =
    let n = numbered-number s past x b h in
    ended-same s e past x b h (ap end_of (fate-other s e past b (rw n c)))

joined-same : (s : Plan) (past past' : Past) (first count : ℕ) → ((i : ℕ) → i < count → ended s past' (first + i) ≡ ended s past (first + i))
    → joined s past' first count ≡ joined s past first count
joined-same s past past' first zero h = refl
joined-same s past past' first (suc k) h =
    let z : first + 0 ≡ first = omega arith in
    let here = rw z at (h 0 (omega arith)) in
    let there = joined-same s past past' (first + 1) k (λ i l. let e : first + suc i ≡ first + 1 + i = omega arith in rw e at (h (suc i) (omega (arith, l)))) in
    ap (λ o. cons_option o (joined s past' (first + 1) k)) here ∙ ap (cons_option (ended s past first)) there

paused-same : (now : ℕ) (all all' : ℕ → ℕ → Bool) (o : Option Reply) → ((f c : ℕ) → o ≡ Some (reply.Born f c) → all' f c ≡ all f c)
    → paused now all' (pause_of o) ≡ paused now all (pause_of o)
paused-same now all all' (Some (reply.Born f c)) h = ap (λ v. cond v place_is.Ready place_is.Joining) (h f c refl)
paused-same now all all' (Some (reply.Slept d)) h = refl
paused-same now all all' (Some _) h = refl
paused-same now all all' None h = refl

place-by-same : (now : ℕ) (all all' : ℕ → ℕ → Bool) (b : Birth) (o : Past) (f : Fate)
    → ((x c : ℕ) → last_answer o ≡ Some (reply.Born x c) → all' x c ≡ all x c) → place_by now all' b o f ≡ place_by now all b o f
place-by-same now all all' b o (Ends e m) h = refl
place-by-same now all all' b o (AsksNext q p) h = ap (λ v. queued b.origin (started o) (in_hand (taker o) v)) (paused-same now all all' (last_answer o) h)
place-by-same now all all' b o Strays h = ap (λ v. queued b.origin (started o) (in_hand (taker o) v)) (paused-same now all all' (last_answer o) h)

-- a place is as before where the own entries, the clock and the ends of the parts are
pub place-same : (s : Plan) (e : Entry) (past : Past) (b : Birth) → concerns b.number e.kind ≡ false → clock (e ∷ past) ≡ clock past
    → ((f c : ℕ) → last_answer (own b.number past) ≡ Some (reply.Born f c) → all_ended s (e ∷ past) f c ≡ all_ended s past f c)
    → place_of s (e ∷ past) b ≡ place_of s past b
unfolding place_of
place-same s e past b c t h =
    let o = own-other b.number e past c in
    let f = fate-other s e past b c in
    ap (λ n. place_by n (all_ended s (e ∷ past)) b (own b.number (e ∷ past)) (fate s (e ∷ past) b)) t
    ∙ (ap (λ o'. place_by (clock past) (all_ended s (e ∷ past)) b o' (fate s (e ∷ past) b)) o
    ∙ (ap (place_by (clock past) (all_ended s (e ∷ past)) b (own b.number past)) f
    ∙ place-by-same (clock past) (all_ended s past) (all_ended s (e ∷ past)) b (own b.number past) (fate s past b) h))

pub clock-same : (e : Entry) (past : Past) → ((n : ℕ) → ticked e.kind n ≡ n) → clock (e ∷ past) ≡ clock past
unfolding clock
clock-same e past h = h (clock past)

-- an entry of nobody, or of another exchange that ends by it no exchange
pub place-other : (s : Plan) (w limit : ℕ) (e : Entry) (past : Past) (b : Birth) → KeepsRules s w limit past → EndsNone s e past
    → concerns b.number e.kind ≡ false → ((n : ℕ) → ticked e.kind n ≡ n) → place_of s (e ∷ past) b ≡ place_of s past b
place-other s w limit e past b legal none c t =
    place-same s e past b c (clock-same e past t) (λ f k h.
    let p = parts-of s w limit past b.number f k legal h in
    ap is_some (joined-same s past (e ∷ past) f k (λ i l. let r = p.part i l in none (f + i) r.0 r.1)))

-- an entry of x alone, by which x may end: only x's place and that of its parent change
pub place-end-other : (s : Plan) (w limit : ℕ) (e : Entry) (past : Past) (x : ℕ) (d b : Birth) → KeepsRules s w limit past
    → numbered (births s past) x ≡ Some d → ((y : ℕ) → y ≢ x → concerns y e.kind ≡ false)
    → b.number ≢ x → is_part_of b.number d.origin ≡ false → ((n : ℕ) → ticked e.kind n ≡ n) → place_of s (e ∷ past) b ≡ place_of s past b
place-end-other s w limit e past x d b legal at only ne apart t =
    place-same s e past b (only b.number ne) (clock-same e past t) (λ f k h.
    let p = parts-of s w limit past b.number f k legal h in
    ap is_some (joined-same s past (e ∷ past) f k (λ i l. let r = p.part i l in
    ended-other s e past (f + i) r.0 r.1 (only (f + i) (λ same. let g = rw same at r.1 in
    let u : r.0 ≡ d = cc in let y : is_part_of b.number d.origin ≡ true = rw (← u) r.2 in cc)))))

-- what a Tick makes of a place
abbrev pub woken : ℕ → Place → Place
woken t (place_is.Retry d) = cond (nat_lt t d) (place_is.Retry d) place_is.Ready
woken t p = p

woken-cond : (t : ℕ) (v : Bool) → cond v place_is.Ready place_is.Joining ≡ woken t (cond v place_is.Ready place_is.Joining)
woken-cond t true = refl
woken-cond t false = refl

woken-sleeps : (now t d : ℕ) → now ≤ t → (v : Bool) → nat_lt now d ≡ v
    → cond (nat_lt t d) (place_is.Retry d) place_is.Ready ≡ woken t (cond v (place_is.Retry d) place_is.Ready)
woken-sleeps now t d l true h = refl
woken-sleeps now t d l false h =
    let le : d ≤ t = omega (arith, ltb-false now d h, l) in
    rw (le-ltb t d le) refl

woken-pause : (now t : ℕ) (all : ℕ → ℕ → Bool) (p : Pause) → now ≤ t → paused t all p ≡ woken t (paused now all p)
woken-pause now t all (Sleeps d) l = woken-sleeps now t d l (nat_lt now d) refl
woken-pause now t all (Joins f c) l = woken-cond t (all f c)
woken-pause now t all Runs l = refl

woken-hand : (t : ℕ) (h : Option ℕ) (p : Place) → in_hand h (woken t p) ≡ woken t (in_hand h p)
woken-hand t (Some w) p = refl
woken-hand t None p = refl

woken-queue : (t : ℕ) (o : Origin) (v : Bool) (p : Place) → queued o v (woken t p) ≡ woken t (queued o v p)
woken-queue t (from.Queue q) false p = refl
woken-queue t (from.Queue q) true p = refl
woken-queue t (from.Source r i) v p = refl
woken-queue t (from.Part y i) v p = refl
woken-queue t (from.Group g) v p = refl

woken-by : (now t : ℕ) (all : ℕ → ℕ → Bool) (b : Birth) (o : Past) (f : Fate) → now ≤ t → place_by t all b o f ≡ woken t (place_by now all b o f)
woken-by now t all b o (Ends e m) l = refl
woken-by now t all b o (AsksNext q p) l =
    ap (λ v. queued b.origin (started o) (in_hand (taker o) v)) (woken-pause now t all (pause_of (last_answer o)) l)
    ∙ (ap (queued b.origin (started o)) (woken-hand t (taker o) _) ∙ woken-queue t b.origin (started o) _)
woken-by now t all b o Strays l =
    ap (λ v. queued b.origin (started o) (in_hand (taker o) v)) (woken-pause now t all (pause_of (last_answer o)) l)
    ∙ (ap (queued b.origin (started o)) (woken-hand t (taker o) _) ∙ woken-queue t b.origin (started o) _)

-- a Tick wakes who is due by then, and moves nobody else
pub place-tick : (s : Plan) (w limit : ℕ) (v t : ℕ) (past : Past) (b : Birth) → KeepsRules s w limit past → clock past ≤ t
    → place_of s ((record { worker = v; kind = Tick t }) ∷ past) b ≡ woken t (place_of s past b)
unfolding place_of clock
place-tick s w limit v t past b legal l =
    let e : Entry = record { worker = v; kind = Tick t } in
    let o = own-other b.number e past refl in
    let f = fate-other s e past b refl in
    ap (λ o'. place_by t (all_ended s (e ∷ past)) b o' (fate s (e ∷ past) b)) o
    ∙ (ap (place_by t (all_ended s (e ∷ past)) b (own b.number past)) f
    ∙ (place-by-same t (all_ended s past) (all_ended s (e ∷ past)) b (own b.number past) (fate s past b) (λ x k h.
    let p = parts-of s w limit past b.number x k legal h in
    ap is_some (joined-same s past (e ∷ past) x k (λ i m. let r = p.part i m in ended-other s e past (x + i) r.0 r.1 refl)))
    ∙ woken-by (clock past) t (all_ended s past) b (own b.number past) (fate s past b) l))

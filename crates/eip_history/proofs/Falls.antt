-- Each legal entry that is no turn lowers the work.
use Rattle.std.proofs.Common.{◌≡◌, ◌≢◌, ℕ, zero, suc, ◌+◌, ◌*◌, ◌<◌, ◌≤◌, Bool, true, false, ◌==◌, ◌||◌, nat_lt, List, [], ◌∷◌, ◌++◌, length, filter, Some, refl, sym, ap, ◌∙◌, arith, eq-eqb, cond, inl, inr}
use Rattle.std.specs.List.{slice_get}
use Rattle.std.proofs.lemmas.Bool.{cases_Bool, eqb-true}
use Rattle.std.proofs.lemmas.List.{append-nil}
use Rattle.eip_exchange.specs.declared.birth.Birth.{Birth}
use Rattle.eip_exchange.specs.declared.birth.Origin.{Origin}
use Rattle.eip_exchange.specs.declared.birth.Origin.TheVariants as from
use Rattle.eip_exchange.specs.Ends.{out_of_memory}
use Rattle.eip_frames.specs.declared.answer.Completion.{Completion}
use Rattle.eip_frames.specs.declared.answer.Completion.TheVariants as by
use Rattle.eip_frames.specs.Fate.{Fate, AsksNext, Ends, Strays}
use Rattle.eip_ledger.specs.declared.entry.Entry.{Entry}
use Rattle.eip_ledger.specs.declared.place.Place.{Place}
use Rattle.eip_ledger.specs.declared.place.Place.TheVariants as place_is
use Rattle.eip_ledger.specs.declared.entry.Kind.{Kind}
use Rattle.eip_ledger.specs.declared.entry.Kind.TheVariants.{Pull, Accept, Refuse, SourceEnd, SourceFault, Start, Take, Answer, Tick, Force, Starve, Return}
use Rattle.eip_history.specs.Plan.{Plan}
use Rattle.eip_history.specs.Own.{Past, own, concerns, numbered, last_answer, started, answers, starved, clock, ticked, SourceState, source_state, turns_in, moved}
use Rattle.eip_history.specs.Groups.{Group, is_forced, is_open, closed_by, is_due}
use Rattle.eip_history.specs.Births.{story, births, groups, fate, fate_by, made_at, group_births, group_birth, grouped}
use Rattle.eip_history.specs.Place.{all_ended, pause_of, Pause, Sleeps, Joins, Runs, paused, queued, place_by, place_of, is_in}
use Rattle.eip_history.specs.Rules.{KeepsRules, May, any_group, IsSource}
use Rattle.eip_history.specs.Laws.{PlanLaws}
use Rattle.eip_history.specs.Work.{weight, weigh, source_weight, sum_below, open_count, births_work, sources_work, work}
use Rattle.eip_history.proofs.Parts.{numbered-number}
use Rattle.eip_history.proofs.Told.{own-here}
use Rattle.eip_history.proofs.Unborn.{legal-may, place-born, first-placed, newborn-own}
use Rattle.eip_history.proofs.Places.{clock-same}
use Rattle.eip_history.proofs.Limit.{not-same}
use Rattle.eip_history.proofs.Numbers.{newborn-at}
use Rattle.eip_history.proofs.Final.{weight-other}

pub weigh-append : (f : Birth → ℕ) (xs ys : List Birth) → weigh f (xs ++ ys) ≡ weigh f xs + weigh f ys
weigh-append f [] ys = omega arith
weigh-append f (x ∷ xs) ys = let ih = weigh-append f xs ys in omega (arith, ih)

weigh-most : (f g : Birth → ℕ) (xs : List Birth) → ((i : ℕ) (b : Birth) → slice_get xs i ≡ Some b → g b ≤ f b) → weigh g xs ≤ weigh f xs
weigh-most f g [] h = omega arith
weigh-most f g (x ∷ xs) h = let ih = weigh-most f g xs (λ i b at. h (suc i) b at) in omega (arith, ih, h 0 x refl)

pub weigh-less : (f g : Birth → ℕ) (xs : List Birth) (i : ℕ) (b : Birth) → slice_get xs i ≡ Some b → g b < f b
    → ((i : ℕ) (b : Birth) → slice_get xs i ≡ Some b → g b ≤ f b) → weigh g xs < weigh f xs
weigh-less f g [] i b at l h = absurd (cc at)
weigh-less f g (x ∷ xs) zero b at l h =
    let same : x ≡ b = cc in
    let m = weigh-most f g xs (λ i b at. h (suc i) b at) in
    let here : g x < f x = rw same l in
    omega (arith, m, here)
weigh-less f g (x ∷ xs) (suc i) b at l h = let ih = weigh-less f g xs i b at l (λ i b at. h (suc i) b at) in omega (arith, ih, h 0 x refl)

sum-above : (f g : ℕ → ℕ) (n t : ℕ) → n ≤ t → ((u : ℕ) → u ≢ t → g u ≡ f u) → sum_below g n ≡ sum_below f n
sum-above f g zero t l h = refl
sum-above f g (suc n) t l h = let a = sum-above f g n t (omega (arith, l)) h in let b = h n (omega (arith, l)) in omega (arith, a, b)

sum-change : (f g : ℕ → ℕ) (n t : ℕ) → t < n → ((u : ℕ) → u ≢ t → g u ≡ f u) → sum_below g n + f t ≡ sum_below f n + g t
sum-change f g zero t l h = absurd (omega (arith, l))
sum-change f g (suc n) t l h = elim (cases_Bool (t == n)) [
  | inl y ↦ (let same = eqb-true t n y in let a = sum-above f g n t (omega (arith, same)) h in rw same (omega (arith, a)))
  | inr y ↦ (let ne : n ≢ t = λ same. let k = eq-eqb t n (sym same) in cc in
      let ih = sum-change f g n t (omega (arith, l, ne)) h in let b = h n ne in omega (arith, ih, b))
]

-- the sources' work
sources-change : (s : Plan) (w t : ℕ) (k : Kind) (past : Past) → t < s.routes → ((u : ℕ) (was : SourceState) → u ≢ t → moved w u k was ≡ was)
    → sources_work s ((record { worker = w; kind = k }) ∷ past) + source_weight (source_state t past)
    ≡ sources_work s past + source_weight (moved w t k (source_state t past))
unfolding sources_work source_state
sources-change s w t k past l h =
    sum-change (λ u. source_weight (source_state u past))
    (λ u. source_weight (source_state u ((record { worker = w; kind = k }) ∷ past))) s.routes t l (λ u ne. ap source_weight (h u (source_state u past) ne))

sum-same : (f g : ℕ → ℕ) (n : ℕ) → ((u : ℕ) → g u ≡ f u) → sum_below g n ≡ sum_below f n
sum-same f g zero h = refl
sum-same f g (suc n) h = let a = sum-same f g n h in let b = h n in omega (arith, a, b)

pub sources-same : (s : Plan) (w : ℕ) (k : Kind) (past : Past) → ((u : ℕ) (was : SourceState) → moved w u k was ≡ was)
    → sources_work s ((record { worker = w; kind = k }) ∷ past) ≡ sources_work s past
unfolding sources_work source_state
sources-same s w k past h =
    sum-same (λ u. source_weight (source_state u past)) (λ u. source_weight (source_state u ((record { worker = w; kind = k }) ∷ past))) s.routes
    (λ u. ap source_weight (h u (source_state u past)))

-- entries that make no birth and no group
pub record Tells (s : Plan) (w : ℕ) (k : Kind) (past : Past) : Type 0 where
  pub same_births : births s ((record { worker = w; kind = k }) ∷ past) ≡ births s past
  pub same_groups : groups s ((record { worker = w; kind = k }) ∷ past) ≡ groups s past

pub old-weigh : (s : Plan) (w limit v : ℕ) (k : Kind) (past : Past) → KeepsRules s w limit ((record { worker = v; kind = k }) ∷ past)
    → ((x : ℕ) → concerns x k ≡ false) → clock past ≤ clock ((record { worker = v; kind = k }) ∷ past)
    → weigh (λ (b : Birth). weight (place_of s ((record { worker = v; kind = k }) ∷ past) b)) (births s past) ≤ births_work s past
unfolding births_work
old-weigh s w limit v k past legal none l =
    let e : Entry = record { worker = v; kind = k } in
    weigh-most (λ (b : Birth). weight (place_of s past b)) (λ (b : Birth). weight (place_of s (e ∷ past) b)) (births s past)
    (λ i b at. weight-other s w limit e past b legal (none b.number) l)

births-work-told : (s : Plan) (w : ℕ) (k : Kind) (past : Past) → Tells s w k past
    → births_work s ((record { worker = w; kind = k }) ∷ past)
    ≡ weigh (λ (b : Birth). weight (place_of s ((record { worker = w; kind = k }) ∷ past) b)) (births s past)
unfolding births_work
births-work-told s w k past h = ap (weigh (λ (b : Birth). weight (place_of s ((record { worker = w; kind = k }) ∷ past) b))) h.same_births

groups-told : (s : Plan) (w : ℕ) (k : Kind) (past : Past) → Tells s w k past
    → open_count (groups s ((record { worker = w; kind = k }) ∷ past)) ≡ open_count (groups s past)
groups-told s w k past h = ap open_count h.same_groups

-- a source's entry
falls-source : (s : Plan) (w limit v t : ℕ) (k : Kind) (past : Past) → KeepsRules s w limit ((record { worker = v; kind = k }) ∷ past) → Tells s v k past
    → IsSource s t → ((x : ℕ) → concerns x k ≡ false) → ((n : ℕ) → ticked k n ≡ n)
    → ((u : ℕ) (was : SourceState) → u ≢ t → moved v u k was ≡ was) → source_weight (moved v t k (source_state t past)) < source_weight (source_state t past)
    → work s ((record { worker = v; kind = k }) ∷ past) < work s past
falls-source s w limit v t k past legal told source none tick other less =
    let e : Entry = record { worker = v; kind = k } in
    let c = clock-same e past tick in
    let a = old-weigh s w limit v k past legal none (omega (arith, c)) in
    let b = births-work-told s v k past told in
    let g = groups-told s v k past told in
    let r = sources-change s v t k past source.0 other in
    omega (arith, a, b, g, r, less)

-- an entry of an exchange, by which its own place weighs less
falls-own : (s : Plan) (w limit v x : ℕ) (k : Kind) (past : Past) (b : Birth) → KeepsRules s w limit ((record { worker = v; kind = k }) ∷ past)
    → Tells s v k past → numbered (births s past) x ≡ Some b
    → ((y : ℕ) → y ≢ x → concerns y k ≡ false) → ((n : ℕ) → ticked k n ≡ n) → ((u : ℕ) (was : SourceState) → moved v u k was ≡ was)
    → weight (place_of s ((record { worker = v; kind = k }) ∷ past) b) < weight (place_of s past b) → work s ((record { worker = v; kind = k }) ∷ past) < work s past
unfolding births_work
falls-own s w limit v zero k past b legal told at only tick none less = absurd (cc at)
falls-own s w limit v (suc i) k past b legal told at only tick none less =
    let e : Entry = record { worker = v; kind = k } in
    let c = clock-same e past tick in
    let a = weigh-less (λ (d : Birth). weight (place_of s past d)) (λ (d : Birth). weight (place_of s (e ∷ past) d)) (births s past) i b at less
    (λ j d at_d. elim (cases_Bool (d.number == suc i)) [
      | inl y ↦ (let n = eqb-true d.number (suc i) y in
          let m : d.number ≡ suc j = numbered-number s past (suc j) d at_d in
          let same : j ≡ i = omega (arith, n, m) in let u = rw same at at_d in let eq : d ≡ b = cc in rw eq (omega (arith, less)))
      | inr f ↦ weight-other s w limit e past d legal (only d.number (λ g. let y = eq-eqb d.number (suc i) g in cc)) (omega (arith, c))
    ]) in
    let t = births-work-told s v k past told in
    let g = groups-told s v k past told in
    let r = sources-same s v k past none in
    omega (arith, a, t, g, r)

-- groups that close
pub open-due : (s : Plan) (t : ℕ) (g : Group) → is_due s t g ≡ true → is_open g ≡ true
open-due s t g h = elim (cases_Bool (is_open g)) [ inl y ↦ y | inr n ↦ absurd (let k = rw n at h in cc k) ]

open-forced : (s : Plan) (g : Group) → is_forced s g ≡ true → is_open g ≡ true
open-forced s g h = elim (cases_Bool (is_open g)) [ inl y ↦ y | inr n ↦ absurd (let k = rw n at h in cc k) ]

pub closed-count : (c : Completion) (p : Group → Bool) (gs : List Group) → ((g : Group) → p g ≡ true → is_open g ≡ true)
    → open_count (closed_by c p gs) + length (filter p gs) ≡ open_count gs
closed-count c p [] h = omega arith
closed-count c p (g ∷ gs) h =
    let ih = closed-count c p gs h in
    elim (cases_Bool (p g)) [
      | inl y ↦ rw (y, h g y) (omega (arith, ih))
      | inr n ↦ rw n (elim (is_open g) as (λ v. length (cond v (g ∷ filter is_open (closed_by c p gs)) (filter is_open (closed_by c p gs))) + length (filter p gs)
          ≡ length (cond v (g ∷ filter is_open gs) (filter is_open gs))) [
            | true ↦ omega (arith, ih)
            | false ↦ ih
          ])
    ]

pub groups-weigh : (s : Plan) (laws : PlanLaws s) (past : Past) (c : Completion) (n m : ℕ) (gs : List Group) → n < m
    → ((x : ℕ) → n < x → own x past ≡ []) → weigh (λ (b : Birth). weight (place_of s past b)) (group_births s m c gs) ≡ 2 * length gs
groups-weigh s laws past c n m [] l h = omega arith
groups-weigh s laws past c n m (g ∷ gs) l h =
    let b = newborn-at s laws past (group_birth s m c g) (h m l) in
    let ih = groups-weigh s laws past c n (m + 1) gs (omega (arith, l)) h in
    rw b (omega (arith, ih))

force-births : (s : Plan) (v : ℕ) (past : Past)
    → births s ((record { worker = v; kind = Force }) ∷ past)
    ≡ births s past ++ group_births s (length (births s past) + 1) by.Force (filter (is_forced s) (groups s past))
unfolding story
force-births s v past = refl

force-groups : (s : Plan) (v : ℕ) (past : Past) → groups s ((record { worker = v; kind = Force }) ∷ past) ≡ closed_by by.Force (is_forced s) (groups s past)
unfolding story
force-groups s v past = refl

forced-some : (p : Group → Bool) (gs : List Group) → any_group p gs ≡ true → 1 ≤ length (filter p gs)
forced-some p [] h = absurd (cc h)
forced-some p (g ∷ gs) h = by_test (p g) refl h (λ i. forced-some p gs i)
  where
    by_test : (v : Bool) → p g ≡ v → (v || any_group p gs) ≡ true → (any_group p gs ≡ true → 1 ≤ length (filter p gs))
        → 1 ≤ length (cond (p g) (g ∷ filter p gs) (filter p gs))
    by_test true t i ih = rw t (omega arith)
    by_test false t i ih = rw t (ih i)

falls-force : (s : Plan) (laws : PlanLaws s) (w limit v : ℕ) (past : Past) → KeepsRules s w limit ((record { worker = v; kind = Force }) ∷ past)
    → any_group (is_forced s) (groups s past) ≡ true → work s ((record { worker = v; kind = Force }) ∷ past) < work s past
unfolding births_work
falls-force s laws w limit v past legal any =
    let e : Entry = record { worker = v; kind = Force } in
    let f : Birth → ℕ = λ b. weight (place_of s (e ∷ past) b) in
    let c = clock-same e past (λ n. refl) in
    let a = old-weigh s w limit v Force past legal (λ x. refl) (omega (arith, c)) in
    let b = ap (weigh f) (force-births s v past)
    ∙ weigh-append f (births s past) (group_births s (length (births s past) + 1) by.Force (filter (is_forced s) (groups s past))) in
    let n = groups-weigh s laws (e ∷ past) by.Force (length (births s past)) (length (births s past)
    + 1) (filter (is_forced s) (groups s past)) (omega arith) (λ x l. newborn-own s w limit e past x legal l) in
    let g = ap open_count (force-groups s v past) in
    let k = closed-count by.Force (is_forced s) (groups s past) (open-forced s) in
    let r = sources-same s v Force past (λ u was. refl) in
    let m = forced-some (is_forced s) (groups s past) any in
    omega (arith, a, b, n, g, k, r, m)

-- Take, Starve, Start
queued-take : (r : Origin) (v : Bool) (p q : Place) → queued r v p ≡ place_is.Ready → queued r v q ≡ q
queued-take (from.Queue n) false p q h = absurd (cc h)
queued-take (from.Queue n) true p q h = refl
queued-take (from.Source r i) v p q h = refl
queued-take (from.Part y i) v p q h = refl
queued-take (from.Group g) v p q h = refl

take-place : (now now' : ℕ) (all all' : ℕ → ℕ → Bool) (b : Birth) (v x : ℕ) (o : Past) (f : Fate) → place_by now all b o f ≡ place_is.Ready
    → place_by now' all' b ((record { worker = v; kind = Take x }) ∷ o) f ≡ place_is.InHand v
take-place now now' all all' b v x o (Ends e m) h = absurd (cc h)
take-place now now' all all' b v x o (AsksNext q p) h = queued-take b.origin (started o) _ (place_is.InHand v) h
take-place now now' all all' b v x o Strays h = queued-take b.origin (started o) _ (place_is.InHand v) h

pub fate-take : (s : Plan) (b : Birth) (v x : ℕ) (o : Past) → fate_by s b ((record { worker = v; kind = Take x }) ∷ o) ≡ fate_by s b o
fate-take s b v x o = ap (λ given. cond (starved o) (Ends out_of_memory b.message) (s.mean b given)) (append-nil (answers o))

weight-take : (s : Plan) (v x : ℕ) (past : Past) (b : Birth) → b.number ≡ x → place_of s past b ≡ place_is.Ready
    → weight (place_of s ((record { worker = v; kind = Take x }) ∷ past) b) < weight (place_of s past b)
unfolding place_of fate
weight-take s v x past b n h =
    let e : Entry = record { worker = v; kind = Take x } in
    let o = own-here b.number e past (eq-eqb x b.number (sym n)) in
    let g = ap (λ o'. place_by (clock (e ∷ past)) (all_ended s (e ∷ past)) b o' (fate_by s b o')) o
    ∙ (ap (place_by (clock (e ∷ past)) (all_ended s (e ∷ past)) b (e ∷ own b.number past)) (fate-take s b v x (own b.number past))
    ∙ take-place (clock past) (clock (e ∷ past)) (all_ended s past) (all_ended s (e ∷ past)) b v x (own b.number past) (fate_by s b (own b.number past)) h) in
    rw (g, h) (omega arith)

weight-starve : (s : Plan) (v x : ℕ) (past : Past) (b : Birth) → b.number ≡ x → weight (place_of s ((record { worker = v; kind = Starve x }) ∷ past) b) ≡ 0
unfolding place_of fate
weight-starve s v x past b n =
    let e : Entry = record { worker = v; kind = Starve x } in
    ap (λ o. weight (place_by (clock (e ∷ past)) (all_ended s (e ∷ past)) b o (fate_by s b o))) (own-here b.number e past (eq-eqb x b.number (sym n)))

pause-most : (now : ℕ) (all : ℕ → ℕ → Bool) (p : Pause) → weight (paused now all p) ≤ 3
pause-most now all (Sleeps d) = elim (nat_lt now d) as (λ v. weight (cond v (place_is.Retry d) place_is.Ready) ≤ 3) [ true ↦ omega arith | false ↦ omega arith ]
pause-most now all (Joins f c) = elim (all f c) as (λ v. weight (cond v place_is.Ready place_is.Joining) ≤ 3) [ true ↦ omega arith | false ↦ omega arith ]
pause-most now all Runs = omega arith

queued-started : (r : Origin) (p : Place) → queued r true p ≡ p
queued-started (from.Queue n) p = refl
queued-started (from.Source r i) p = refl
queued-started (from.Part y i) p = refl
queued-started (from.Group g) p = refl

start-place : (now : ℕ) (all : ℕ → ℕ → Bool) (b : Birth) (v q x : ℕ) (o : Past) (f : Fate)
    → weight (place_by now all b ((record { worker = v; kind = Start q x }) ∷ o) f) ≤ 3
start-place now all b v q x o (Ends e m) = omega arith
start-place now all b v q x o (AsksNext r p) = rw (queued-started b.origin) (pause-most now all (pause_of (last_answer o)))
start-place now all b v q x o Strays = rw (queued-started b.origin) (pause-most now all (pause_of (last_answer o)))

weight-start : (s : Plan) (v q x : ℕ) (past : Past) (b : Birth) → b.number ≡ x → weight (place_of s ((record { worker = v; kind = Start q x }) ∷ past) b) ≤ 3
unfolding place_of
weight-start s v q x past b n =
    let e : Entry = record { worker = v; kind = Start q x } in
    rw (own-here b.number e past (eq-eqb x b.number (sym n)))
    (start-place (clock (e ∷ past)) (all_ended s (e ∷ past)) b v q x (own b.number past) (fate s (e ∷ past) b))

weight-queue : (q : ℕ) (p : Place) → is_in q p ≡ true → weight p ≡ 4
weight-queue q (place_is.Queue r) h = refl
weight-queue q (place_is.Ended e) h = absurd (cc h)
weight-queue q (place_is.InHand w) h = absurd (cc h)
weight-queue q (place_is.Retry d) h = absurd (cc h)
weight-queue q place_is.Joining h = absurd (cc h)
weight-queue q place_is.Ready h = absurd (cc h)

told-none : (s : Plan) (v : ℕ) (past : Past) (k : Kind) → made_at s past k ≡ [] → grouped s (story s past) past k ≡ groups s past → Tells s v k past
unfolding story
told-none s v past k h g = record { same_births = ap (λ xs. births s past ++ xs) h ∙ append-nil (births s past); same_groups = g }

-- each legal entry that is no turn and no Tick lowers the work
pub falls : (s : Plan) (laws : PlanLaws s) (w limit v : ℕ) (k : Kind) (past : Past) → KeepsRules s w limit ((record { worker = v; kind = k }) ∷ past)
    → turns_in k ≡ 0 → ((t : ℕ) → k ≢ Tick t)
    → work s ((record { worker = v; kind = k }) ∷ past) < work s past
falls s laws w limit v (Pull t) past legal z nt =
    let may = legal-may s w limit _ past legal in
    falls-source s w limit v t (Pull t) past legal (told-none s v past (Pull t) refl refl) may.0 (λ x. refl) (λ n. refl)
    (λ u was ne. rw (not-same u t ne) refl) (rw (eq-eqb t t refl, may.1) (omega arith))
falls s laws w limit v (SourceEnd t) past legal z nt =
    let may = legal-may s w limit _ past legal in
    falls-source s w limit v t (SourceEnd t) past legal (told-none s v past (SourceEnd t) refl refl) may.0 (λ x. refl) (λ n. refl)
    (λ u was ne. rw (not-same u t ne) refl) (rw (eq-eqb t t refl, may.1) (omega arith))
falls s laws w limit v (SourceFault t) past legal z nt =
    let may = legal-may s w limit _ past legal in
    falls-source s w limit v t (SourceFault t) past legal (told-none s v past (SourceFault t) refl refl) may.0 (λ x. refl) (λ n. refl)
    (λ u was ne. rw (not-same u t ne) refl) (rw (eq-eqb t t refl, may.1) (omega arith))
falls s laws w limit v (Start q x) past legal z nt =
    let may = legal-may s w limit _ past legal in
    let b = first-placed s past (is_in q) x may.0 in
    let l = weight-start s v q x past b.0 (numbered-number s past x b.0 b.1) in
    let m = weight-queue q (place_of s past b.0) b.2 in
    falls-own s w limit v x (Start q x) past b.0 legal (told-none s v past (Start q x) refl refl) b.1 (λ y ne. not-same y x ne) (λ n. refl)
    (λ u was. refl) (omega (arith, l, m))
falls s laws w limit v (Take x) past legal z nt =
    let may = legal-may s w limit _ past legal in
    let b = place-born s past x _ may.0 in
    falls-own s w limit v x (Take x) past b.0 legal (told-none s v past (Take x) refl refl) b.1 (λ y ne. not-same y x ne) (λ n. refl)
    (λ u was. refl) (weight-take s v x past b.0 (numbered-number s past x b.0 b.1) b.2)
falls s laws w limit v (Starve x) past legal z nt = by_side (legal-may s w limit _ past legal)
  where
    by_side : May s limit past v (Starve x) → work s ((record { worker = v; kind = Starve x }) ∷ past) < work s past
    by_side (inl h) = let b = place-born s past x _ h in let l = weight-starve s v x past b.0 (numbered-number s past x b.0 b.1) in
        falls-own s w limit v x (Starve x) past b.0 legal (told-none s v past (Starve x) refl refl) b.1 (λ y ne. not-same y x ne) (λ n. refl)
        (λ u was. refl) (rw (l, b.2) (omega arith))
    by_side (inr h) = let b = place-born s past x _ h in let l = weight-starve s v x past b.0 (numbered-number s past x b.0 b.1) in
        falls-own s w limit v x (Starve x) past b.0 legal (told-none s v past (Starve x) refl refl) b.1 (λ y ne. not-same y x ne) (λ n. refl)
        (λ u was. refl) (rw (l, b.2) (omega arith))
falls s laws w limit v Force past legal z nt = falls-force s laws w limit v past legal (legal-may s w limit _ past legal).3
falls s laws w limit v (Accept t i m) past legal z nt = absurd (omega (arith, z))
falls s laws w limit v (Refuse t i c) past legal z nt = absurd (omega (arith, z))
falls s laws w limit v (Answer x a) past legal z nt = absurd (omega (arith, z))
falls s laws w limit v (Tick t) past legal z nt = absurd (nt t refl)
falls s laws w limit v (Return x) past legal z nt = absurd (legal-may s w limit _ past legal)

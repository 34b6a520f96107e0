-- Where nobody may act, nothing waits.
use Rattle.std.proofs.Common.{◌≡◌, ℕ, zero, suc, ◌<◌, Bool, true, false, ◌==◌, ◌&&◌, not, nat_lt, List, [], ◌∷◌, length, filter, filter_map, Option, Some, None, refl, ap, arith, eq-eqb}
use Rattle.std.specs.List.{cons_option as list_cons}
use Rattle.std.proofs.lemmas.Bool.{and_right, or_parts, lt-ltb}
use Rattle.eip_exchange.specs.declared.birth.Birth.{Birth}
use Rattle.eip_exchange.specs.declared.birth.Origin.TheVariants as from
use Rattle.eip_ledger.specs.declared.place.Place.{Place}
use Rattle.eip_ledger.specs.declared.place.Place.TheVariants as place_is
use Rattle.eip_history.specs.Plan.{Plan}
use Rattle.eip_history.specs.Own.{Past, numbered}
use Rattle.eip_history.specs.Groups.{Group, due_of, is_forced}
use Rattle.eip_history.specs.Births.{births, groups}
use Rattle.eip_history.specs.Place.{place_of, numbers_at, count_at, ready_numbers, waiting, hands, is_ready, is_in, is_ended, is_busy, busy, is_born_into, is_startable, number_of, at_place, is_some_first, takes_out, is_taken}
use Rattle.eip_history.specs.Rules.{KeepsRules, IsQuiet, dues, least, retry_due, startable, unfinished, any_group, first}
use Rattle.eip_history.specs.Stop.{is_over, unended, will_close}
use Rattle.eip_history.specs.Laws.{PlanLaws}
use Rattle.eip_history.proofs.Stuck.{none-at, none-from, map-none, length-none, append-none, some-none-at, below-none, least-none, Standing, InEnd, InQueue, Held, Asleep, Waits, Able, standing}
use Rattle.eip_history.proofs.Over.{AllRest, no-joining, each-at, Queued, queues-known}

pub placed-none : (s : Plan) (past : Past) (p : Place → Bool) (x : ℕ) (b : Birth) → numbers_at s past p ≡ [] → numbered (births s past) x ≡ Some b
    → p (place_of s past b) ≡ false
unfolding numbers_at
placed-none s past p zero b e h = absurd (cc h)
placed-none s past p (suc i) b e h = none-at (λ (c : Birth). p (place_of s past c)) (births s past) i b (map-none number_of (at_place s past p) e) h

pub taken-none : (s : Plan) (past : Past) (x : ℕ) (b : Birth) → takes_out s past ≡ 0 → numbered (births s past) x ≡ Some b → is_taken past b ≡ false
unfolding takes_out
taken-none s past zero b e h = absurd (cc h)
taken-none s past (suc i) b e h = none-at (is_taken past) (births s past) i b (length-none (filter (is_taken past) (births s past)) e) h

due-none : (s : Plan) (past : Past) (x : ℕ) (b : Birth) → dues s past ≡ [] → numbered (births s past) x ≡ Some b → retry_due (place_of s past b) ≡ None
unfolding dues
due-none s past zero b e h = absurd (cc h)
due-none s past (suc i) b e h =
    some-none-at (λ (c : Birth). retry_due (place_of s past c)) (births s past) i b (append-none (filter_map
    (λ (c : Birth). retry_due (place_of s past c)) (births s past)) (filter_map (due_of s) (groups s past)) e).0 h

all-rest : (s : Plan) (past : Past) → IsQuiet s past → least (dues s past) ≡ None → AllRest s past
all-rest s past quiet none = record {
  no_ready = λ x b h p. let f = placed-none s past is_ready x b quiet.none_ready h in let g = rw p at f in cc g;
  no_hand = λ x b w h p. let f = taken-none s past x b (omega (arith, quiet.no_hand)) h in let g = rw p at f in cc g;
  no_retry = λ x b d h p. let f = due-none s past x b (least-none (dues s past) none) h in let g = rw p at f in cc g;
}

queue-not-busy : (q r : ℕ) → (r == q) && (not (r == q) && true) ≡ false
queue-not-busy q r = by_test (r == q)
  where
    by_test : (v : Bool) → v && (not v && true) ≡ false
    by_test true = refl
    by_test false = refl

not-busy : (s : Plan) (w limit : ℕ) (past : Past) (q x : ℕ) (b : Birth) → KeepsRules s w limit past → AllRest s past
    → numbered (births s past) x ≡ Some b → is_busy q b (place_of s past b) ≡ false
not-busy s w limit past q x b legal rest at = by_standing (standing s past b)
  where
    by_standing : Standing s past b → is_busy q b (place_of s past b) ≡ false
    by_standing (InEnd e p t) = rw p (and_right (is_born_into q b.origin) false refl)
    by_standing (InQueue r o p) = rw (p, o) (queue-not-busy q r)
    by_standing (Held v y p) = absurd (rest.no_hand x b v at y)
    by_standing (Asleep d sl lt_now p) = absurd (rest.no_retry x b d at p)
    by_standing (Able p) = absurd (rest.no_ready x b at p)
    by_standing (Waits f c la a p) = absurd (no-joining s w limit past legal rest (suc (length (births s past))) x b at (omega arith) p)

busy-none : (s : Plan) (w limit : ℕ) (past : Past) (q : ℕ) → KeepsRules s w limit past → AllRest s past → busy s past q ≡ 0
unfolding busy
busy-none s w limit past q legal rest =
    ap length (none-from (λ (b : Birth). is_busy q b (place_of s past b)) (births s past) (λ i b h. not-busy s w limit past q (suc i) b legal rest h))

some-first : (xs : List ℕ) → (xs ≡ [] → ⊥) → is_some_first xs ≡ true
some-first [] h = absurd (h refl)
some-first (x ∷ xs) h = refl

startable-at : (s : Plan) (past : Past) (q : ℕ) → startable s past ≡ [] → q < s.routes → (s.is_queue q && is_startable s past q) ≡ false
unfolding startable
startable-at s past q e l = below-none (λ r. s.is_queue r && is_startable s past r) s.routes q e l

-- nobody waits in a queue
no-queue : (s : Plan) (laws : PlanLaws s) (w limit : ℕ) (past : Past) (q x : ℕ) (b : Birth) → KeepsRules s w limit past → IsQuiet s past → AllRest s past
    → numbered (births s past) x ≡ Some b → b.origin ≡ from.Queue q → place_of s past b ≡ place_is.Queue q → ⊥
no-queue s laws w limit past q zero b legal quiet rest at o p = cc at
no-queue s laws w limit past q (suc i) b legal quiet rest at o p =
    let known = each-at (Queued s) (births s past) i b (queues-known s laws past) at q o in
    let st = startable-at s past q quiet.none_startable known.0 in
    let waits : is_some_first (waiting s past q) ≡ true = some-first (waiting s past q) (λ e. let f = placed-none s past (is_in q) (suc i) b e at in
    let g = rw (p, eq-eqb q q refl) at f in cc g) in
    let free : nat_lt (busy s past q) (s.queue q).consumers
    ≡ true = lt-ltb (busy s past q) (s.queue q).consumers (omega (arith, busy-none s w limit past q legal rest, laws.consumers q)) in
    let g = rw (known.1, waits, free) at st in cc g

ended-all : (s : Plan) (laws : PlanLaws s) (w limit : ℕ) (past : Past) (x : ℕ) (b : Birth) → KeepsRules s w limit past → IsQuiet s past → AllRest s past
    → numbered (births s past) x ≡ Some b → not (is_ended (place_of s past b)) ≡ false
ended-all s laws w limit past x b legal quiet rest at = by_standing (standing s past b)
  where
    by_standing : Standing s past b → not (is_ended (place_of s past b)) ≡ false
    by_standing (InEnd e p t) = rw p refl
    by_standing (InQueue q o p) = absurd (no-queue s laws w limit past q x b legal quiet rest at o p)
    by_standing (Held v y p) = absurd (rest.no_hand x b v at y)
    by_standing (Asleep d sl lt_now p) = absurd (rest.no_retry x b d at p)
    by_standing (Able p) = absurd (rest.no_ready x b at p)
    by_standing (Waits f c la a p) = absurd (no-joining s w limit past legal rest (suc (length (births s past))) x b at (omega arith) p)

unended-none : (s : Plan) (laws : PlanLaws s) (w limit : ℕ) (past : Past) → KeepsRules s w limit past → IsQuiet s past → AllRest s past → unended s past ≡ 0
unfolding count_at
unended-none s laws w limit past legal quiet rest =
    ap length (none-from (λ (b : Birth). not (is_ended (place_of s past b))) (births s past) (λ i b h. ended-all s laws w limit past (suc i) b legal quiet rest h))

none-cons : {A B : Type 0} (f : A → Option B) (x : A) (xs : List A) → filter_map f (x ∷ xs) ≡ [] → (f x ≡ None) × (filter_map f xs ≡ [])
none-cons {A} {B} f x xs e = by_value (f x) refl e
  where
    by_value : (o : Option B) → f x ≡ o → list_cons o (filter_map f xs) ≡ [] → (f x ≡ None) × (filter_map f xs ≡ [])
    by_value (Some z) t g = absurd (cc g)
    by_value None t g = (t, g)

none-close : (s : Plan) (gs : List Group) → filter_map (due_of s) gs ≡ [] → any_group (is_forced s) gs ≡ false → any_group (will_close s) gs ≡ false
none-close s [] e f = refl
none-close s (g ∷ gs) e f =
    let d = none-cons (due_of s) g gs e in
    let o = or_parts (is_forced s g) (any_group (is_forced s) gs) f in
    rw (d.0, o.0) (none-close s gs d.1 o.1)

dues-groups : (s : Plan) (past : Past) → dues s past ≡ [] → filter_map (due_of s) (groups s past) ≡ []
unfolding dues
dues-groups s past e = (append-none (filter_map (λ (c : Birth). retry_due (place_of s past c)) (births s past)) (filter_map (due_of s) (groups s past)) e).1

-- where nobody may act, nothing waits
pub nothing-waits : (s : Plan) (laws : PlanLaws s) (w limit : ℕ) (past : Past) → KeepsRules s w limit past → IsQuiet s past → least (dues s past) ≡ None
    → any_group (is_forced s) (groups s past) ≡ false → is_over s past ≡ true
unfolding is_over
nothing-waits s laws w limit past legal quiet none force =
    let rest = all-rest s past quiet none in
    let u = unended-none s laws w limit past legal quiet rest in
    let c = none-close s (groups s past) (dues-groups s past (least-none (dues s past) none)) force in
    rw (u, quiet.sources_done, c) refl

-- who may act
pub data Acts (s : Plan) (limit : ℕ) (past : Past) : Type 0 where
  Runs : (x : ℕ) → first (ready_numbers s past) ≡ Some x → Acts s limit past
  Starts : (q : ℕ) → first (startable s past) ≡ Some q → Acts s limit past
  Pulls : (t : ℕ) → first (unfinished s past) ≡ Some t → Acts s limit past
  Ticks : (t : ℕ) → IsQuiet s past → least (dues s past) ≡ Some t → Acts s limit past
  Forces : IsQuiet s past → least (dues s past) ≡ None → any_group (is_forced s) (groups s past) ≡ true → Acts s limit past

-- no state is stuck
pub not-stuck : (s : Plan) (laws : PlanLaws s) (w limit : ℕ) (past : Past) → KeepsRules s w limit past → hands s past ≡ 0 → is_over s past ≡ false
    → Acts s limit past
not-stuck s laws w limit past legal home e = by_ready (ready_numbers s past) refl
  where
    by_force : IsQuiet s past → least (dues s past) ≡ None → (v : Bool) → any_group (is_forced s) (groups s past) ≡ v → Acts s limit past
    by_force quiet none true f = Forces quiet none f
    by_force quiet none false f = absurd (let o = nothing-waits s laws w limit past legal quiet none f in let g = rw o at e in cc g)

    by_due : IsQuiet s past → (o : Option ℕ) → least (dues s past) ≡ o → Acts s limit past
    by_due quiet (Some t) d = Ticks t quiet d
    by_due quiet None d = by_force quiet d (any_group (is_forced s) (groups s past)) refl

    by_source : ready_numbers s past ≡ [] → startable s past ≡ [] → (xs : List ℕ) → unfinished s past ≡ xs → Acts s limit past
    by_source r q [] u = by_due (record { none_ready = r; no_hand = home; none_startable = q; sources_done = u }) (least (dues s past)) refl
    by_source r q (t ∷ ts) u = Pulls t (ap first u)

    by_queue : ready_numbers s past ≡ [] → (xs : List ℕ) → startable s past ≡ xs → Acts s limit past
    by_queue r [] q = by_source r q (unfinished s past) refl
    by_queue r (x ∷ xs) q = Starts x (ap first q)

    by_ready : (xs : List ℕ) → ready_numbers s past ≡ xs → Acts s limit past
    by_ready [] r = by_queue r (startable s past) refl
    by_ready (x ∷ xs) r = Runs x (ap first r)

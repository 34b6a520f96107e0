-- The plain schedule names nobody only where the run is at a stop, and at a stop nobody is in hand.
use Rattle.std.proofs.Common.{zero, sym, ◌∙◌, not, ◌==◌, ◌&&◌, ◌≡◌, ◌≢◌, ℕ, suc, Bool, true, false, cond, List, [], ◌∷◌, Option, Some, None, length, is_some, refl, ap, arith}
use Rattle.std.specs.List.{slice_get}
use Rattle.std.proofs.lemmas.Bool.{and_parts, eqb-true}
use Rattle.eip_exchange.specs.declared.birth.Birth.{Birth}
use Rattle.eip_ledger.specs.declared.place.Stop.{Stop}
use Rattle.eip_ledger.specs.declared.place.Stop.TheVariants.{Spent}
use Rattle.eip_ledger.specs.declared.place.Place.TheVariants as place_is
use Rattle.eip_history.specs.Plan.{Plan}
use Rattle.eip_history.specs.Laws.{PlanLaws}
use Rattle.eip_history.specs.Own.{Past, own, taker, numbered, numbers_below, source_state, is_out, turns}
use Rattle.eip_history.specs.Births.{births, groups}
use Rattle.eip_history.specs.Place.{hands, numbers_at, ready_numbers, is_held, is_taken, takes_out, pulls_out, place_of, count_at, at_place, is_ended}
use Rattle.eip_history.specs.Rules.{KeepsRules, startable, unfinished, least, dues, any_group}
use Rattle.eip_history.specs.Groups.{is_forced}
use Rattle.eip_history.specs.Stop.{is_over, stop_of, Actor, TheExchange, TheSource, TheQueue, TheClock, TheForce, Nobody, first_or, actor, first_fault, with_fault, held_or_drained, open_groups, unended}
use Rattle.eip_history.proofs.Stuck.{none-from, none-at, length-none}
use Rattle.eip_history.proofs.Waits.{taken-none, placed-none, nothing-waits}
use Rattle.eip_history.proofs.Limit.{in-hand-taken}
use Rattle.eip_history.proofs.Hands.{taken-in-hand}

-- nobody is there to be named
pub record NoneToAct (s : Plan) (past : Past) : Type 0 where
  pub none_held : numbers_at s past is_held ≡ []
  pub none_out : numbers_below (λ t. is_out (source_state t past)) s.routes ≡ []
  pub none_ready : ready_numbers s past ≡ []
  pub none_startable : startable s past ≡ []
  pub sources_done : unfinished s past ≡ []
  pub none_due : least (dues s past) ≡ None
  pub none_forced : any_group (is_forced s) (groups s past) ≡ false

first-nobody : (xs : List ℕ) (f : ℕ → Actor) (a : Actor) → ((x : ℕ) → f x ≢ Nobody) → first_or xs f a ≡ Nobody → (xs ≡ []) × (a ≡ Nobody)
first-nobody [] f a apart h = (refl, h)
first-nobody (x ∷ xs) f a apart h = absurd (apart x h)

last-nobody : (due : Option ℕ) (forced : Bool) → cond (is_some due) TheClock (cond forced TheForce Nobody) ≡ Nobody → (due ≡ None) × (forced ≡ false)
last-nobody None false h = (refl, refl)
last-nobody None true h = absurd (cc h)
last-nobody (Some d) forced h = absurd (cc h)

pub none-to-act : (s : Plan) (past : Past) → actor s past ≡ Nobody → NoneToAct s past
unfolding actor
none-to-act s past h =
    let a = first-nobody (numbers_at s past is_held) TheExchange _ (λ x e. cc e) h in
    let b = first-nobody (numbers_below (λ t. is_out (source_state t past)) s.routes) TheSource _ (λ x e. cc e) a.1 in
    let c = first-nobody (ready_numbers s past) TheExchange _ (λ x e. cc e) b.1 in
    let d = first-nobody (startable s past) TheQueue _ (λ x e. cc e) c.1 in
    let e = first-nobody (unfinished s past) TheSource _ (λ x g. cc g) d.1 in
    let f = last-nobody (least (dues s past)) (any_group (is_forced s) (groups s past)) e.1 in
    record { none_held = a.0; none_out = b.0; none_ready = c.0; none_startable = d.0; sources_done = e.0; none_due = f.0; none_forced = f.1 }

pulls-none : (s : Plan) (past : Past) → numbers_below (λ t. is_out (source_state t past)) s.routes ≡ [] → pulls_out s past ≡ 0
unfolding pulls_out
pulls-none s past h = ap length h

takes-none : (s : Plan) (w limit : ℕ) (past : Past) → KeepsRules s w limit past → numbers_at s past is_held ≡ [] → takes_out s past ≡ 0
unfolding takes_out
takes-none s w limit past legal h = ap length (none-from (is_taken past) (births s past) (λ i b at. by_taker i b at (taker (own b.number past)) refl))
  where
    by_taker : (i : ℕ) (b : Birth) → numbered (births s past) (suc i) ≡ Some b → (o : Option ℕ) → taker (own b.number past) ≡ o → is_some o ≡ false
    by_taker i b at None t = refl
    by_taker i b at (Some v) t =
        let p = taken-in-hand s w limit past (suc i) v b legal at t in
        let f = placed-none s past is_held (suc i) b h at in
        absurd (let g = rw p at f in cc g)

-- where the schedule names nobody, nothing waits
pub nobody-over : (s : Plan) (laws : PlanLaws s) (w limit : ℕ) (past : Past) → KeepsRules s w limit past → actor s past ≡ Nobody → is_over s past ≡ true
nobody-over s laws w limit past legal h =
    let n = none-to-act s past h in
    let p = pulls-none s past n.none_out in
    let t = takes-none s w limit past legal n.none_held in
    nothing-waits s laws w limit past legal
    (record { none_ready = n.none_ready; no_hand = omega (arith, p, t); none_startable = n.none_startable; sources_done = n.sources_done }) n.none_due n.none_forced

-- so the run is at a stop there
pub nobody-stops : (s : Plan) (laws : PlanLaws s) (w limit : ℕ) (past : Past) → KeepsRules s w limit past → actor s past ≡ Nobody
    → (stop : Stop) × (stop_of s limit past ≡ Some stop)
unfolding stop_of
nobody-stops s laws w limit past legal h =
    (with_fault (first_fault past) (held_or_drained (length (open_groups s past))), rw (nobody-over s laws w limit past legal h) refl)

over-home : (s : Plan) (past : Past) (i w : ℕ) (b : Birth) → is_over s past ≡ true → slice_get (births s past) i ≡ Some b → place_of s past b ≡ place_is.InHand w → ⊥
unfolding is_over count_at
over-home s past i w b over at held =
    let none = (and_parts (unended s past == 0) _ over).0 in
    let empty = length-none (at_place s past (λ p. not (is_ended p))) (eqb-true (unended s past) 0 none) in
    let f = none-at (λ (d : Birth). not (is_ended (place_of s past d))) (births s past) i b empty at in
    let g = rw held at f in
    cc g

-- at a stop nobody is in hand
pub stop-home : (s : Plan) (limit : ℕ) (past : Past) (stop : Stop) (x w : ℕ) (b : Birth) → stop_of s limit past ≡ Some stop → numbered (births s past) x ≡ Some b
    → place_of s past b ≡ place_is.InHand w → ⊥
unfolding stop_of
stop-home s limit past stop zero w b h at held = cc at
stop-home s limit past stop (suc i) w b h at held = by_over (is_over s past) refl h
  where
    by_spent : (t : Bool) (z : Bool) → (hands s past == 0) ≡ z → cond (t && z) (Some (with_fault (first_fault past) Spent)) None ≡ Some stop → ⊥
    by_spent true true e g =
        let home : hands s past ≡ 0 = eqb-true (hands s past) 0 e in
        let free = taken-none s past (suc i) b (omega (arith, home)) at in
        let taken = in-hand-taken s past b w held in
        let k : true ≡ false = sym taken ∙ free in
        cc k
    by_spent true false e g = cc g
    by_spent false z e g = cc g

    by_over : (o : Bool) → is_over s past ≡ o
        → cond o (Some (with_fault (first_fault past) (held_or_drained (length (open_groups s past)))))
        (cond ((turns past == limit) && (hands s past == 0)) (Some (with_fault (first_fault past) Spent)) None)
        ≡ Some stop
        → ⊥
    by_over true e g = over-home s past i w b e at held
    by_over false e g = by_spent (turns past == limit) (hands s past == 0) refl g

-- Who has a Take as newest entry is in hand, and how many parts are still to end.
use Rattle.std.proofs.Common.{◌≡◌, ◌≢◌, ℕ, zero, suc, ◌+◌, ◌<◌, Bool, true, false, ◌==◌, not, List, [], ◌∷◌, Option, Some, None, is_some, refl, sym, ap, subst, ◌∙◌, arith}
use Rattle.std.proofs.lemmas.Bool.{ne_eqb, eqb-true}
use Rattle.eip_exchange.specs.declared.birth.Birth.{Birth}
use Rattle.eip_exchange.specs.declared.birth.Origin.{Origin}
use Rattle.eip_exchange.specs.declared.birth.Origin.TheVariants as from
use Rattle.eip_exchange.specs.declared.end.Ended.{Ended as Finished}
use Rattle.eip_frames.specs.Fate.{Fate, AsksNext, Ends, Strays}
use Rattle.eip_ledger.specs.declared.place.Place.{Place}
use Rattle.eip_ledger.specs.declared.place.Place.TheVariants as place_is
use Rattle.eip_ledger.specs.declared.entry.Kind.{Kind}
use Rattle.eip_ledger.specs.declared.entry.Kind.TheVariants.{Take}
use Rattle.eip_history.specs.Plan.{Plan}
use Rattle.eip_history.specs.Own.{Past, own, concerns, numbered, last_answer, started, taker, clock, taken_by}
use Rattle.eip_history.specs.Births.{births, fate, fate_by}
use Rattle.eip_history.specs.Place.{ended, end_of, joined, cons_option, all_ended, pause_of, paused, in_hand, queued, place_by, place_of}
use Rattle.eip_history.specs.Rules.{KeepsRules, May}
use Rattle.eip_history.specs.Tables.{bit}
use Rattle.eip_history.proofs.Parts.{numbered-number}
use Rattle.eip_history.proofs.Told.{own-other, own-here}
use Rattle.eip_history.proofs.Unborn.{legal-tail, legal-may, place-born, birth-stays, own-none}
use Rattle.eip_history.proofs.Falls.{fate-take}

-- read from the own entries alone: it hasn't ended, and it has been started
pub record IsLive (s : Plan) (b : Birth) (o : Past) : Type 0 where
  pub no_end : is_some (end_of (fate_by s b o)) ≡ false
  pub out : (p : Place) → queued b.origin (started o) p ≡ p

queue-out : (r : Origin) (v : Bool) (p : Place) → queued r v p ≡ place_is.Ready → (q : Place) → queued r v q ≡ q
queue-out (from.Queue n) false p h q = absurd (cc h)
queue-out (from.Queue n) true p h q = refl
queue-out (from.Source n i) v p h q = refl
queue-out (from.Part n i) v p h q = refl
queue-out (from.Group n) v p h q = refl

ready-live : (s : Plan) (past : Past) (b : Birth) → place_of s past b ≡ place_is.Ready → IsLive s b (own b.number past)
unfolding place_of fate
ready-live s past b h = by_fate (fate_by s b (own b.number past)) refl h
  where
    by_fate : (f : Fate) → fate_by s b (own b.number past) ≡ f → place_by (clock past) (all_ended s past) b (own b.number past) f ≡ place_is.Ready
        → IsLive s b (own b.number past)
    by_fate (Ends e m) t g = absurd (cc g)
    by_fate (AsksNext q p) t g = record { no_end = rw t refl; out = queue-out b.origin (started (own b.number past)) _ g }
    by_fate Strays t g = record { no_end = rw t refl; out = queue-out b.origin (started (own b.number past)) _ g }

pub taken-live : (s : Plan) (w limit : ℕ) (past : Past) (x v : ℕ) (b : Birth) → KeepsRules s w limit past → b.number ≡ x
    → ((d : Birth) → numbered (births s past) x ≡ Some d → d ≡ b) → taker (own x past) ≡ Some v → IsLive s b (own x past)
taken-live s w limit [] x v b legal n same h = absurd (let g = rw (own-none x) at h in cc g)
taken-live s w limit (e ∷ past) x v b legal n same h =
    by_test (concerns x e.kind) refl (λ g. taken-live s w limit past x v b (legal-tail s w limit e past legal) n (λ d at. same d (birth-stays s e past x d at)) g)
  where
    by_kind : (k : Kind) → May s limit past e.worker k → concerns x k ≡ true → taken_by e.worker k ≡ Some v
        → IsLive s b ((record { worker = e.worker; kind = k }) ∷ own x past)
    by_kind (Take y) may c g =
        let yx : y ≡ x = eqb-true y x c in
        let p = place-born s past y _ may.0 in
        let at : numbered (births s past) x ≡ Some p.0 = subst (λ (m : ℕ). numbered (births s past) m ≡ Some p.0) yx p.1 in
        let d : p.0 ≡ b = same p.0 (birth-stays s e past x p.0 at) in
        let r : place_of s past b ≡ place_is.Ready = subst (λ u. place_of s past u ≡ place_is.Ready) d p.2 in
        let l : IsLive s b (own x past) = subst (λ (m : ℕ). IsLive s b (own m past)) n (ready-live s past b r) in
        record { no_end = ap (λ f. is_some (end_of f)) (fate-take s b e.worker y (own x past)) ∙ l.no_end; out = l.out }
    by_kind _ may c g = absurd (cc g)

    by_test : (u : Bool) → concerns x e.kind ≡ u → (taker (own x past) ≡ Some v → IsLive s b (own x past)) → IsLive s b (own x (e ∷ past))
    by_test true c ih = rw (own-here x e past c) (by_kind e.kind (legal-may s w limit e past legal) c (rw (own-here x e past c) at h))
    by_test false c ih = rw (own-other x e past c) (ih (rw (own-other x e past c) at h))

-- who has a Take as newest entry is in hand
pub taken-in-hand : (s : Plan) (w limit : ℕ) (past : Past) (x v : ℕ) (b : Birth) → KeepsRules s w limit past → numbered (births s past) x ≡ Some b
    → taker (own b.number past) ≡ Some v → place_of s past b ≡ place_is.InHand v
unfolding place_of fate
taken-in-hand s w limit past x v b legal at t =
    let n = numbered-number s past x b at in
    let l = taken-live s w limit past b.number v b legal refl (λ d h. let g = rw n at h in cc) t in
    by_fate (fate_by s b (own b.number past)) refl l
  where
    by_fate : (f : Fate) → fate_by s b (own b.number past) ≡ f → IsLive s b (own b.number past)
        → place_by (clock past) (all_ended s past) b (own b.number past) f ≡ place_is.InHand v
    by_fate (Ends e m) u l = absurd (let g = l.no_end in let k = rw u at g in cc k)
    by_fate (AsksNext q p) u l = l.out _ ∙ ap (λ h. in_hand h (paused (clock past) (all_ended s past) (pause_of (last_answer (own b.number past))))) t
    by_fate Strays u l = l.out _ ∙ ap (λ h. in_hand h (paused (clock past) (all_ended s past) (pause_of (last_answer (own b.number past))))) t

-- how many of the parts are still to end: what the table of joins counts
abbrev pub to_end : Plan → Past → ℕ → ℕ → ℕ
to_end s past first zero = 0
to_end s past first (suc k) = bit (not (is_some (ended s past first))) + to_end s past (first + 1) k

-- Joining until nobody is to end
pub all-ended-is : (s : Plan) (past : Past) (first count : ℕ) → all_ended s past first count ≡ (to_end s past first count == 0)
all-ended-is s past first zero = refl
all-ended-is s past first (suc k) = by_first (ended s past first) refl (all-ended-is s past (first + 1) k)
  where
    by_rest : (o : Option (List Finished)) (n : ℕ) → is_some o ≡ (n == 0) → (f : Finished) → is_some (cons_option (Some f) o) ≡ (0 + n == 0)
    by_rest (Some r) n h f = let z : 0 + n ≡ n = omega arith in rw z h
    by_rest None n h f = let z : 0 + n ≡ n = omega arith in rw z h

    by_first : (o : Option Finished) → ended s past first ≡ o → is_some (joined s past (first + 1) k) ≡ (to_end s past (first + 1) k == 0)
        → is_some (cons_option o (joined s past (first + 1) k)) ≡ (bit (not (is_some o)) + to_end s past (first + 1) k == 0)
    by_first None t ih = sym (ne_eqb (1 + to_end s past (first + 1) k) 0 (λ g. omega (arith, g)))
    by_first (Some f) t ih = by_rest (joined s past (first + 1) k) (to_end s past (first + 1) k) ih f

pub to-end-same : (s : Plan) (past past' : Past) (first count : ℕ) → ((i : ℕ) → i < count → ended s past' (first + i) ≡ ended s past (first + i))
    → to_end s past' first count ≡ to_end s past first count
to-end-same s past past' first zero h = refl
to-end-same s past past' first (suc k) h =
    let z : first + 0 ≡ first = omega arith in
    let here = ap (λ o. bit (not (is_some o))) (rw z at (h 0 (omega arith))) in
    let there = to-end-same s past past' (first + 1) k (λ i l. let e : first + suc i ≡ first + 1 + i = omega arith in rw e at (h (suc i) (omega (arith, l)))) in
    omega (arith, here, there)

-- where one part ends, one fewer is to end
pub to-end-less : (s : Plan) (past past' : Past) (first count j : ℕ) → j < count → is_some (ended s past (first + j)) ≡ false
    → is_some (ended s past' (first + j)) ≡ true
    → ((i : ℕ) → i < count → i ≢ j → ended s past' (first + i) ≡ ended s past (first + i)) → to_end s past' first count + 1 ≡ to_end s past first count
to-end-less s past past' first zero j l was now h = absurd (omega (arith, l))
to-end-less s past past' first (suc k) zero l was now h =
    let z : first + 0 ≡ first = omega arith in
    let there = to-end-same s past past' (first + 1) k (λ i m. let e : first + suc i ≡ first + 1 + i = omega arith in
    rw e at (h (suc i) (omega (arith, m)) (omega arith))) in
    let a = ap (λ v. bit (not v)) (rw z at was) in
    let b = ap (λ v. bit (not v)) (rw z at now) in
    omega (arith, there, a, b)
to-end-less s past past' first (suc k) (suc j) l was now h =
    let z : first + 0 ≡ first = omega arith in
    let e : first + suc j ≡ first + 1 + j = omega arith in
    let here = ap (λ o. bit (not (is_some o))) (rw z at (h 0 (omega arith) (omega arith))) in
    let ih = to-end-less s past past' (first + 1) k j (omega (arith, l)) (rw e at was) (rw e at now) (λ i m ne. let e2 : first + suc i
    ≡ first + 1 + i = omega arith in
    rw e2 at (h (suc i) (omega (arith, m)) (omega (arith, ne)))) in
    omega (arith, here, ih)

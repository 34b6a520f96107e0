-- What a worker has in hand, and a pull of a worker, stay while it makes no entry.
use Rattle.std.proofs.Common.{◌≡◌, ℕ, ◌==◌, Bool, true, false, cond, [], ◌∷◌, ◌++◌, Some, option_map, refl, sym, ap, subst, ◌∙◌, inl, inr}
use Rattle.std.proofs.lemmas.Bool.{eqb-true, eqb-false, false_from_ne_true}
use Rattle.eip_exchange.specs.declared.birth.Birth.{Birth}
use Rattle.eip_frames.specs.Fits.{is_outside}
use Rattle.eip_ledger.specs.declared.entry.Entry.{Entry}
use Rattle.eip_ledger.specs.declared.entry.Kind.{Kind}
use Rattle.eip_ledger.specs.declared.entry.Kind.TheVariants.{Pull, Accept, Refuse, SourceEnd, SourceFault, Start, Take, Answer, Starve, Return}
use Rattle.eip_ledger.specs.declared.place.Place.{Place}
use Rattle.eip_ledger.specs.declared.place.Place.TheVariants.{InHand, Ready}
use Rattle.eip_history.specs.Births.{asked, asked_by, asked_of, births, fate}
use Rattle.eip_history.specs.Own.{Past, SourceState, Idle, Out, Done, moved, concerns, numbered, own, source_state, taker}
use Rattle.eip_history.specs.Place.{is_in, place, place_of}
use Rattle.eip_history.specs.Plan.{Plan}
use Rattle.eip_history.specs.Rules.{KeepsRules, May, MayAct}
use Rattle.eip_history.proofs.Hands.{taken-in-hand}
use Rattle.eip_history.proofs.Parts.{numbered-number}
use Rattle.eip_history.proofs.Places.{fate-other}
use Rattle.eip_history.proofs.Stuck.{Standing, InEnd, InQueue, Held, Asleep, Waits, Able, standing}
use Rattle.eip_history.proofs.Told.{own-other}
use Rattle.eip_history.proofs.Unborn.{legal-tail, legal-may, place-born, first-placed, birth-stays}
use Rattle.eip_owners.specs.Owners.{entries_of}
use Rattle.eip_owners.proofs.Answers.{other-made}

-- ---- entries of others

-- an exchange stands at one place
one-place : (s : Plan) (past : Past) (x n w : ℕ) (p : Place) → n ≡ x → place s past x ≡ Some (InHand w) → place s past n ≡ Some p → p ≡ InHand w
one-place s past x n w p here held there = let g : place s past x ≡ Some p = subst (λ (m : ℕ). place s past m ≡ Some p) here there in cc

not-queued : (s : Plan) (past : Past) (q x w : ℕ) → place s past x ≡ Some (InHand w)
    → (b : Birth) × (numbered (births s past) x ≡ Some b) × (is_in q (place_of s past b) ≡ true) → ⊥
not-queued s past q x w held there =
    let born = place-born s past x (InHand w) held in
    let same : there.0 ≡ born.0 = cc in
    let at : place_of s past there.0 ≡ InHand w = subst (λ b. place_of s past b ≡ InHand w) (sym same) born.2 in
    let g = rw at at there.2 in
    cc g

-- an entry of another worker is none of an exchange in hand
beside : (s : Plan) (limit : ℕ) (past : Past) (x w v : ℕ) (k : Kind) → place s past x ≡ Some (InHand w) → May s limit past v k → (v == w) ≡ false
    → concerns x k ≡ true → ⊥
beside s limit past x w v (Start q n) held may other c =
    let here : n ≡ x = eqb-true n x c in
    not-queued s past q x w held (subst (λ (m : ℕ). (b : Birth) × (numbered (births s past) m ≡ Some b) × (is_in q (place_of s past b) ≡ true)) here
    (first-placed s past (is_in q) n may.0))
beside s limit past x w v (Take n) held may other c = let g = one-place s past x n w Ready (eqb-true n x c) held may.0 in absurd (cc g)
beside s limit past x w v (Answer n a) held may other c = by_side (is_outside may.asks.request) may.act
  where
    by_side : (b : Bool) → MayAct s limit past v n b → ⊥
    by_side true act = let g = one-place s past x n w (InHand v) (eqb-true n x c) held act in eqb-false v w other (cc g)
    by_side false act = let g = one-place s past x n w Ready (eqb-true n x c) held act.0 in absurd (cc g)
beside s limit past x w v (Starve n) held (inl h) other c = let g = one-place s past x n w Ready (eqb-true n x c) held h in absurd (cc g)
beside s limit past x w v (Starve n) held (inr h) other c = let g = one-place s past x n w (InHand v) (eqb-true n x c) held h in eqb-false v w other (cc g)
beside s limit past x w v (Return n) held may other c = absurd may
beside s limit past x w v _ held may other c = absurd (cc c)

-- ---- exchanges

-- who is in hand was taken by that worker
taken-by : (s : Plan) (past : Past) (b : Birth) (w : ℕ) → place_of s past b ≡ InHand w → taker (own b.number past) ≡ Some w
taken-by s past b w at = by_standing (standing s past b)
  where
    by_standing : Standing s past b → taker (own b.number past) ≡ Some w
    by_standing (Held v t p) = let same : v ≡ w = cc in t ∙ ap Some same
    by_standing (InEnd e p t) = absurd (cc p)
    by_standing (InQueue q r p) = absurd (cc p)
    by_standing (Asleep d l t p) = absurd (cc p)
    by_standing (Waits f c l t p) = absurd (cc p)
    by_standing (Able p) = absurd (cc p)

placed : (s : Plan) (past : Past) (x : ℕ) (b : Birth) (p : Place) → numbered (births s past) x ≡ Some b → place_of s past b ≡ p → place s past x ≡ Some p
unfolding place
placed s past x b p at is = ap (option_map (place_of s past)) at ∙ ap Some is

asking : (s : Plan) (past : Past) (x : ℕ) (b : Birth) → numbered (births s past) x ≡ Some b → asked s past x ≡ asked_by b (fate s past b)
asking s past x b at = ap (asked_of s past) at

-- one entry of another worker
hand-step : (s : Plan) (workers limit w x : ℕ) (e : Entry) (past : Past) → KeepsRules s workers limit (e ∷ past) → (e.worker == w) ≡ false
    → place s past x ≡ Some (InHand w)
    → (place s (e ∷ past) x ≡ Some (InHand w)) × (asked s (e ∷ past) x ≡ asked s past x)
hand-step s workers limit w x e past legal other held =
    let born = place-born s past x (InHand w) held in
    let number : (born.0).number ≡ x = numbered-number s past x born.0 born.1 in
    let apart : concerns x e.kind ≡ false = false_from_ne_true (concerns x e.kind)
    (beside s limit past x w e.worker e.kind held (legal-may s workers limit e past legal) other) in
    let silent : concerns (born.0).number e.kind ≡ false = ap (λ n. concerns n e.kind) number ∙ apart in
    let there : numbered (births s (e ∷ past)) x ≡ Some born.0 = birth-stays s e past x born.0 born.1 in
    let took : taker (own (born.0).number (e ∷ past)) ≡ Some w = ap taker (own-other (born.0).number e past silent) ∙ taken-by s past born.0 w born.2 in
    let here : numbered (births s (e ∷ past)) (born.0).number ≡ Some born.0 = rw number there in (
      placed s (e ∷ past) x born.0 (InHand w) there (taken-in-hand s workers limit (e ∷ past) (born.0).number w born.0 legal here took),
      asking s (e ∷ past) x born.0 there ∙ (ap (asked_by born.0) (fate-other s e past born.0 silent) ∙ sym (asking s past x born.0 born.1)),
    )

pub hand-stays : (s : Plan) (workers limit w x : ℕ) (past behind : Past) → KeepsRules s workers limit (behind ++ past) → entries_of w behind ≡ []
    → place s past x ≡ Some (InHand w)
    → (place s (behind ++ past) x ≡ Some (InHand w)) × (asked s (behind ++ past) x ≡ asked s past x)
hand-stays s workers limit w x past [] legal none held = (held, refl)
hand-stays s workers limit w x past (e ∷ behind) legal none held =
    let others = other-made w e behind none in
    let before = hand-stays s workers limit w x past behind (legal-tail s workers limit e (behind ++ past) legal) others.1 held in
    let now = hand-step s workers limit w x e (behind ++ past) legal others.0 before.0 in
    (now.0, now.1 ∙ before.1)

-- ---- pulls

-- the end of another worker's pull is none of a source that this one pulls
ends : (s : Plan) (past : Past) (t u w v : ℕ) (state : SourceState) → (v == w) ≡ false → source_state t past ≡ Out w → source_state u past ≡ Out v
    → cond (u == t) state (source_state t past) ≡ Out w
ends s past t u w v state other out may = by_test (u == t) refl
  where
    by_test : (b : Bool) → (u == t) ≡ b → cond b state (source_state t past) ≡ Out w
    by_test true same =
        let g : source_state t past ≡ Out v = subst (λ r. source_state r past ≡ Out v) (eqb-true u t same) may in
        let both : v ≡ w = cc in
        absurd (eqb-false v w other both)
    by_test false same = out

-- one entry of another worker leaves a source alone that is being pulled
pull-step : (s : Plan) (limit : ℕ) (past : Past) (t w v : ℕ) (k : Kind) → May s limit past v k → (v == w) ≡ false → source_state t past ≡ Out w
    → moved v t k (source_state t past) ≡ Out w
pull-step s limit past t w v (Pull u) may other out = by_test (u == t) refl
  where
    by_test : (b : Bool) → (u == t) ≡ b → cond b (Out v) (source_state t past) ≡ Out w
    by_test true same = absurd (let g = subst (λ r. source_state r past ≡ Idle) (eqb-true u t same) may.1 in cc)
    by_test false same = out
pull-step s limit past t w v (Accept u item m) may other out = ends s past t u w v Idle other out may.1
pull-step s limit past t w v (Refuse u item cause) may other out = ends s past t u w v Idle other out may.1
pull-step s limit past t w v (SourceEnd u) may other out = ends s past t u w v Done other out may.1
pull-step s limit past t w v (SourceFault u) may other out = ends s past t u w v Done other out may.1
pull-step s limit past t w v _ may other out = out

pub pull-stays : (s : Plan) (workers limit w t : ℕ) (past behind : Past) → KeepsRules s workers limit (behind ++ past) → entries_of w behind ≡ []
    → source_state t past ≡ Out w → source_state t (behind ++ past) ≡ Out w
unfolding source_state
pull-stays s workers limit w t past [] legal none out = out
pull-stays s workers limit w t past (e ∷ behind) legal none out =
    let others = other-made w e behind none in
    pull-step s limit (behind ++ past) t w e.worker e.kind (legal-may s workers limit e (behind ++ past) legal) others.0
    (pull-stays s workers limit w t past behind (legal-tail s workers limit e (behind ++ past) legal) others.1 out)

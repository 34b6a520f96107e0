-- Behind an act no hand is out.
use Rattle.std.proofs.Common.{◌≡◌, ◌≢◌, ℕ, ◌+◌, ◌≤◌, Bool, true, false, List, [], ◌∷◌, Some, map, filter, suc, ◌⊎◌, inl, inr, refl, ap, arith, eq-eqb}
use Rattle.std.specs.List.{slice_get}
use Rattle.std.proofs.lemmas.Bool.{cases_Bool}
use Rattle.eip_exchange.specs.declared.birth.Birth.{Birth}
use Rattle.eip_frames.specs.declared.answer.Answer.{Answer as Reply}
use Rattle.eip_ledger.specs.declared.entry.Entry.{Entry}
use Rattle.eip_ledger.specs.declared.entry.Kind.{Kind}
use Rattle.eip_ledger.specs.declared.entry.Kind.TheVariants.{Pull, Start, Take, Answer, Tick, Force, Starve}
use Rattle.eip_ledger.specs.declared.place.Place.{Place}
use Rattle.eip_ledger.specs.declared.place.Place.TheVariants as place_is
use Rattle.eip_history.specs.Plan.{Plan}
use Rattle.eip_history.specs.Own.{Past, SourceState, Out, numbered, concerns, moved, is_out, source_state}
use Rattle.eip_history.specs.Births.{births}
use Rattle.eip_history.specs.Place.{place, place_of, hands, is_taken, is_ready, ready_numbers, numbers_at, number_of}
use Rattle.eip_history.specs.Rules.{KeepsRules, IsSource, first}
use Rattle.eip_history.specs.Tables.{AreNumberedFrom, bit}
use Rattle.eip_history.proofs.Limit.{within-own, within-source, within-take, within-pull, within-none, in-hand-taken, not-same}
use Rattle.eip_history.proofs.Unborn.{place-born, entry-born, legal-may}
use Rattle.eip_history.proofs.Told.{births-numbered}

-- an answer or a starving of somebody who is not in hand
module _ (s : Plan) (w limit v : ℕ) (past : Past) where
  pub home-answer : (x : ℕ) (a : Reply) (p : Place) → KeepsRules s w limit ((record { worker = v; kind = Answer x a }) ∷ past) → hands s past ≡ 0 → place s past x ≡ Some p
      → hands s ((record { worker = v; kind = Answer x a }) ∷ past) ≡ 0
  home-answer x a p legal home at =
      let b = place-born s past x p at in
      let h = within-own s w limit v x (Answer x a) past b.0 legal b.1 (λ y ne. not-same y x ne) (eq-eqb x x refl) refl (λ u was. refl) in
      omega (arith, h, home)

  pub home-starve : (x : ℕ) (p : Place) → KeepsRules s w limit ((record { worker = v; kind = Starve x }) ∷ past) → hands s past ≡ 0 → place s past x ≡ Some p
      → hands s ((record { worker = v; kind = Starve x }) ∷ past) ≡ 0
  home-starve x p legal home at =
      let b = place-born s past x p at in
      let h = within-own s w limit v x (Starve x) past b.0 legal b.1 (λ y ne. not-same y x ne) (eq-eqb x x refl) refl (λ u was. refl) in
      omega (arith, h, home)

  -- nor does a start put anybody in hand
  pub home-start : (q x : ℕ) → KeepsRules s w limit ((record { worker = v; kind = Start q x }) ∷ past) → hands s past ≡ 0 → hands s ((record { worker = v; kind = Start q x }) ∷ past) ≡ 0
  home-start q x legal home =
      let e : Entry = record { worker = v; kind = Start q x } in
      let b = entry-born s limit past v x (Start q x) (legal-may s w limit e past legal) (eq-eqb x x refl) in
      let h = within-own s w limit v x (Start q x) past b.0 legal b.1 (λ y ne. not-same y x ne) (eq-eqb x x refl) refl (λ u was. refl) in
      omega (arith, h, home)

  -- nor does a tick
  pub home-tick : (t : ℕ) → KeepsRules s w limit ((record { worker = v; kind = Tick t }) ∷ past) → hands s past ≡ 0 → hands s ((record { worker = v; kind = Tick t }) ∷ past) ≡ 0
  home-tick t legal home = let h = within-none s w limit v (Tick t) past legal (λ x. refl) (λ u was. refl) in omega (arith, h, home)

  -- nor does a force
  pub home-force : KeepsRules s w limit ((record { worker = v; kind = Force }) ∷ past) → hands s past ≡ 0 → hands s ((record { worker = v; kind = Force }) ∷ past) ≡ 0
  home-force legal home = let h = within-none s w limit v Force past legal (λ x. refl) (λ u was. refl) in omega (arith, h, home)

  -- behind a Take one hand is out
  pub hand-take : (x : ℕ) (p : Place) → KeepsRules s w limit ((record { worker = v; kind = Take x }) ∷ past) → hands s past ≡ 0 → place s past x ≡ Some p
      → hands s ((record { worker = v; kind = Take x }) ∷ past) ≤ 1
  hand-take x p legal home at =
      let b = place-born s past x p at in
      let h = within-take s w limit v x past b.0 legal b.1 in
      omega (arith, h, home)

  -- the answer to who is in hand, and its starving, bring the hand back
  pub back-answer : (x u : ℕ) (a : Reply) → KeepsRules s w limit ((record { worker = v; kind = Answer x a }) ∷ past) → hands s past ≤ 1 → place s past x ≡ Some (place_is.InHand u)
      → hands s ((record { worker = v; kind = Answer x a }) ∷ past) ≡ 0
  back-answer x u a legal one at =
      let b = place-born s past x (place_is.InHand u) at in
      let h = within-own s w limit v x (Answer x a) past b.0 legal b.1 (λ y ne. not-same y x ne) (eq-eqb x x refl) refl (λ t was. refl) in
      let t : bit (is_taken past b.0) ≡ 1 = ap bit (in-hand-taken s past b.0 u b.2) in
      omega (arith, h, one, t)

  pub back-starve : (x u : ℕ) → KeepsRules s w limit ((record { worker = v; kind = Starve x }) ∷ past) → hands s past ≤ 1 → place s past x ≡ Some (place_is.InHand u)
      → hands s ((record { worker = v; kind = Starve x }) ∷ past) ≡ 0
  back-starve x u legal one at =
      let b = place-born s past x (place_is.InHand u) at in
      let h = within-own s w limit v x (Starve x) past b.0 legal b.1 (λ y ne. not-same y x ne) (eq-eqb x x refl) refl (λ t was. refl) in
      let t : bit (is_taken past b.0) ≡ 1 = ap bit (in-hand-taken s past b.0 u b.2) in
      omega (arith, h, one, t)

  -- behind a Pull one hand is out
  pub hand-pull : (t : ℕ) → KeepsRules s w limit ((record { worker = v; kind = Pull t }) ∷ past) → hands s past ≡ 0 → IsSource s t
      → hands s ((record { worker = v; kind = Pull t }) ∷ past) ≤ 1
  hand-pull t legal home source = let h = within-pull s w limit v t past legal source.0 in omega (arith, h, home)

  -- what comes of a pull brings the hand back
  pub back-pull : (t : ℕ) (k : Kind) → KeepsRules s w limit ((record { worker = v; kind = k }) ∷ past) → hands s past ≤ 1 → IsSource s t → source_state t past ≡ Out v
      → ((x : ℕ) → concerns x k ≡ false) → ((u : ℕ) (was : SourceState) → u ≢ t → moved v u k was ≡ was) → is_out (moved v t k (source_state t past)) ≡ false
      → hands s ((record { worker = v; kind = k }) ∷ past) ≡ 0
  back-pull t k legal one source out none other after =
      let h = within-source s w limit v t k past legal source out none other after in
      omega (arith, h, one)

-- ---- who is the first of the Ready numbers is Ready

ready-is : (p : Place) → is_ready p ≡ true → p ≡ place_is.Ready
ready-is place_is.Ready h = refl
ready-is _ h = absurd (cc h)

first-at : (p : Birth → Bool) (n : ℕ) (bs : List Birth) (x : ℕ) → AreNumberedFrom n bs → first (map number_of (filter p bs)) ≡ Some x
    → (i : ℕ) × (b : Birth) × (slice_get bs i ≡ Some b) × (x ≡ n + i) × (p b ≡ true)
first-at p n [] x ns h = absurd (cc h)
first-at p n (c ∷ bs) x ns h = by_test (cases_Bool (p c)) (first-at p (n + 1) bs x ns.1)
  where
    by_test : (p c ≡ true) ⊎ (p c ≡ false) → (first (map number_of (filter p bs)) ≡ Some x → (i : ℕ) × (b : Birth) × (slice_get bs i ≡ Some b) × (x ≡ n + 1 + i) × (p b ≡ true))
        → (i : ℕ) × (b : Birth) × (slice_get (c ∷ bs) i ≡ Some b) × (x ≡ n + i) × (p b ≡ true)
    by_test (inl t) later =
        let g : Some (number_of c) ≡ Some x = rw t at h in
        let e : c.number ≡ x = cc in
        (0, c, refl, omega (arith, ns.0, e), t)
    by_test (inr f) later =
        let r = later (rw f at h) in
        (suc r.0, r.1, r.2, omega (arith, r.3), r.4)

pub ready-place : (s : Plan) (past : Past) (x : ℕ) → first (ready_numbers s past) ≡ Some x → place s past x ≡ Some place_is.Ready
unfolding numbers_at place
ready-place s past x h =
    let r = first-at (λ (b : Birth). is_ready (place_of s past b)) 1 (births s past) x (births-numbered s past) h in
    let n : x ≡ suc r.0 = omega (arith, r.3) in
    let at : numbered (births s past) (suc r.0) ≡ Some r.1 = r.2 in
    rw (n, at, ready-is (place_of s past r.1) r.4) refl

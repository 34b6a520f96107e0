-- The equation of a block's weight.
use Rattle.std.proofs.Common.{◌≡◌, ℕ, zero, suc, ◌+◌, ◌<◌, List, [], ◌∷◌, refl, ◌∙◌, ap, inl, inr, arith, cond, eqb, ltb}
use Rattle.std.specs.Prelude.{slice_get, true, false}
use Rattle.std.proofs.Math.Path.{fun_ext}
use Rattle.std.proofs.lemmas.Bool.{cases_lt, lt-ltb, le-ltb, eq-eqb, ne_eqb}
use Rattle.eip_route.specs.declared.route.Block.{Block}
use Rattle.eip_route.specs.declared.route.RouteSet.{RouteSet}
use Rattle.eip_meaning.specs.Meaning.{steps_in, steps_of}
use Rattle.eip_turns.specs.Weights.{steps_weight, blocks_weight, block_weight, nested_block}

module _ (h : ℕ) where
  below : (here : ℕ) (bs : List Block) (j : ℕ) → j < here → blocks_weight h here bs j ≡ 1
  unfolding blocks_weight
  below here [] j l = refl
  below here (b ∷ bs) j l =
      let e : eqb j here ≡ false = ne_eqb j here (λ (q : j ≡ here). omega arith) in
      rw e (below (suc here) bs j (omega arith))

  seen : ℕ → List Block → ℕ → ℕ → ℕ
  seen here bs j i = cond (ltb j i) (blocks_weight h here bs i) 1

  behind : (here : ℕ) (b : Block) (bs : List Block) (i : ℕ) → blocks_weight h (suc here) bs i ≡ seen here (b ∷ bs) here i
  unfolding seen blocks_weight
  behind here b bs i =
      elim (cases_lt here i) [
        | inl l ↦
            let t : ltb here i ≡ true = lt-ltb here i l in
            let e : eqb i here ≡ false = ne_eqb i here (λ (q : i ≡ here). omega arith) in
            rw (t, e) refl
        | inr l ↦
            let t : ltb here i ≡ false = le-ltb here i l in
            rw t (below (suc here) bs i (omega arith))
      ]

  later : (here : ℕ) (b : Block) (bs : List Block) (j i : ℕ) → here < j → seen (suc here) bs j i ≡ seen here (b ∷ bs) j i
  unfolding seen blocks_weight
  later here b bs j i g =
      elim (cases_lt j i) [
        | inl l ↦
            let t : ltb j i ≡ true = lt-ltb j i l in
            let e : eqb i here ≡ false = ne_eqb i here (λ (q : i ≡ here). omega arith) in
            rw (t, e) refl
        | inr l ↦
            let t : ltb j i ≡ false = le-ltb j i l in
            rw t refl
      ]

  at : (here : ℕ) (bs : List Block) (k j : ℕ) → j ≡ here + k → blocks_weight h here bs j ≡ steps_weight h (seen here bs j) (steps_in (slice_get bs k))
  unfolding blocks_weight seen
  at here [] k j g = refl
  at here (b ∷ bs) zero j g =
      let e : j ≡ here = omega arith in
      let t : eqb j here ≡ true = eq-eqb j here e in
      rw t (rw e (ap (λ (n : ℕ → ℕ). steps_weight h n b.steps) (fun_ext (λ i. behind here b bs i))))
  at here (b ∷ bs) (suc k) j g =
      let t : eqb j here ≡ false = ne_eqb j here (λ (q : j ≡ here). omega arith) in
      rw t (at (suc here) bs k j (omega arith) ∙ ap (λ (n : ℕ → ℕ). steps_weight h n (steps_in (slice_get bs k))) (fun_ext (λ i. later here b bs j i (omega arith))))

pub weight_equation : (set : RouteSet) (h b : ℕ) → block_weight set h b ≡ steps_weight h (nested_block set h b) (steps_of set b)
unfolding seen
weight_equation set h b = at h 0 set.blocks b b (omega arith)

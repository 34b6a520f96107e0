-- A block is its steps, with the blocks behind it and the routes that it may call; a step with its tries is one try, and what follows its fault.
use Rattle.std.proofs.Common.{◌≡◌, ℕ, zero, suc, ◌+◌, ◌-◌, ◌<◌, ◌≤◌, List, [], ◌∷◌, refl, sym, ◌∙◌, ap, inl, inr, arith, cond, eqb, ltb}
use Rattle.std.specs.Prelude.{slice_get, Option, Some, None, true, false}
use Rattle.std.proofs.Math.Path.{fun_ext}
use Rattle.std.proofs.lemmas.Bool.{cases_lt, lt-ltb, le-ltb, eq-eqb, ne_eqb}
use Rattle.eip_exchange.specs.declared.message.Message.{Message}
use Rattle.eip_route.specs.declared.route.Block.{Block}
use Rattle.eip_route.specs.declared.route.RouteSet.{RouteSet}
use Rattle.eip_frames.specs.declared.answer.Answer.{Answer as Reply}
use Rattle.eip_meaning.specs.declared.context.Context.{Context}
use Rattle.eip_meaning.specs.Outcomes.{Outcome, Goes, Runner, caught}
use Rattle.eip_meaning.specs.Contexts.{called}
use Rattle.eip_meaning.specs.Values.{redelivered}
use Rattle.eip_meaning.specs.Attempts.{Handle, tries, number_of_try, faulted}
use Rattle.eip_meaning.specs.Meaning.{steps_mean, blocks_mean, level_mean, block_mean, steps_in, steps_of, nested_in, call_in, block_of_route}

module _ (set : RouteSet) (handle : Handle) (call : ℕ → Runner) (c : Context) where
  -- no block with a lower number is found
  below : (here : ℕ) (bs : List Block) (j : ℕ) (m : Message) (A : List Reply) → j < here → blocks_mean set handle call c here bs j m A ≡ Goes m A
  unfolding blocks_mean
  below here [] j m A h = refl
  below here (b ∷ bs) j m A h =
      let e : eqb j here ≡ false = ne_eqb j here (λ (q : j ≡ here). omega arith) in
      rw e (below (suc here) bs j m A (omega arith))

  -- the blocks behind `here`, seen from block j
  seen : ℕ → List Block → ℕ → ℕ → Runner
  seen here bs j i m A = cond (ltb j i) (blocks_mean set handle call c here bs i m A) (Goes m A)

  behind : (here : ℕ) (b : Block) (bs : List Block) (i : ℕ) (m : Message) (A : List Reply) → blocks_mean set handle call c (suc here) bs i m A ≡ seen here (b ∷ bs) here i m A
  unfolding seen blocks_mean
  behind here b bs i m A =
      elim (cases_lt here i) [
        | inl h ↦
            let t : ltb here i ≡ true = lt-ltb here i h in
            let e : eqb i here ≡ false = ne_eqb i here (λ (q : i ≡ here). omega arith) in
            rw (t, e) refl
        | inr h ↦
            let t : ltb here i ≡ false = le-ltb here i h in
            rw t (below (suc here) bs i m A (omega arith))
      ]

  later : (here : ℕ) (b : Block) (bs : List Block) (j i : ℕ) (m : Message) (A : List Reply) → here < j → seen (suc here) bs j i m A ≡ seen here (b ∷ bs) j i m A
  unfolding seen blocks_mean
  later here b bs j i m A h =
      elim (cases_lt j i) [
        | inl l ↦
            let t : ltb j i ≡ true = lt-ltb j i l in
            let e : eqb i here ≡ false = ne_eqb i here (λ (q : i ≡ here). omega arith) in
            rw (t, e) refl
        | inr l ↦
            let t : ltb j i ≡ false = le-ltb j i l in
            rw t refl
      ]

  at : (here : ℕ) (bs : List Block) (k j : ℕ) (m : Message) (A : List Reply) → j ≡ here + k →
      blocks_mean set handle call c here bs j m A ≡ steps_mean set handle (seen here bs j) call c (steps_in (slice_get bs k)) m A
  unfolding blocks_mean seen
  at here [] k j m A h = refl
  at here (b ∷ bs) zero j m A h =
      let e : j ≡ here = omega arith in
      let t : eqb j here ≡ true = eq-eqb j here e in
      rw t (rw e (ap (λ (n : ℕ → Runner). steps_mean set handle n call c b.steps m A) (fun_ext (λ i. fun_ext (λ m'. fun_ext (λ A'. behind here b bs i m' A'))))))
  at here (b ∷ bs) (suc k) j m A h =
      let t : eqb j here ≡ false = ne_eqb j here (λ (q : j ≡ here). omega arith) in
      rw t (at (suc here) bs k j m A (omega arith)
      ∙ ap (λ (n : ℕ → Runner). steps_mean set handle n call c (steps_in (slice_get bs k)) m A) (fun_ext (λ i. fun_ext (λ m'. fun_ext (λ A'. later here b bs j i m' A' (omega arith))))))

  top : (bs : List Block) (j : ℕ) (m : Message) (A : List Reply) →
      blocks_mean set handle call c 0 bs j m A ≡ steps_mean set handle (seen 0 bs j) call c (steps_in (slice_get bs j)) m A
  top bs j m A = at 0 bs j j m A (omega arith)

module _ (set : RouteSet) (handle : Handle) (c : Context) where
  calls_left : (k : ℕ) → c.depth < 32 → k ≡ 32 - (c.depth + 1) → (r : ℕ) (m : Message) (A : List Reply) →
      level_mean set handle k (called c r) (block_of_route set r) m A ≡ call_in set handle c r m A
  unfolding block_mean
  calls_left k h e r m A =
      let t : ltb c.depth 32 ≡ true = lt-ltb c.depth 32 h in
      rw (t, e) refl

  no_call : 32 ≤ c.depth → (r : ℕ) (m : Message) (A : List Reply) → Goes m A ≡ call_in set handle c r m A
  no_call h r m A =
      let t : ltb c.depth 32 ≡ false = le-ltb c.depth 32 h in
      rw t refl

  pub block_of_blocks : (b : ℕ) (m : Message) (A : List Reply) →
      block_mean set handle c b m A ≡ blocks_mean set handle (call_in set handle c) c 0 set.blocks b m A
  unfolding block_mean level_mean
  block_of_blocks b m A =
      elim (cases_lt c.depth 32) [
        | inl h ↦
            let e : 32 - c.depth ≡ suc (32 - (c.depth + 1)) = omega arith in
            ap (λ (k : ℕ). level_mean set handle k c b m A) e
            ∙ ap (λ (call : ℕ → Runner). blocks_mean set handle call c 0 set.blocks b m A)
            (fun_ext (λ r. fun_ext (λ m'. fun_ext (λ A'. calls_left (32 - (c.depth + 1)) h refl r m' A'))))
        | inr h ↦
            let e : 32 - c.depth ≡ 0 = omega arith in
            ap (λ (k : ℕ). level_mean set handle k c b m A) e
            ∙ ap (λ (call : ℕ → Runner). blocks_mean set handle call c 0 set.blocks b m A)
            (fun_ext (λ r. fun_ext (λ m'. fun_ext (λ A'. no_call h r m' A'))))
      ]

  pub block_equation : (b : ℕ) (m : Message) (A : List Reply) →
      block_mean set handle c b m A ≡ steps_mean set handle (nested_in set handle c b) (call_in set handle c) c (steps_of set b) m A
  unfolding seen
  block_equation b m A =
      block_of_blocks b m A
      ∙ (top set handle (call_in set handle c) c set.blocks b m A
      ∙ ap (λ (n : ℕ → Runner). steps_mean set handle n (call_in set handle c) c (steps_of set b) m A)
      (fun_ext (λ i. fun_ext (λ m'. fun_ext (λ A'. ap (λ (o : Outcome). cond (ltb b i) o (Goes m' A')) (sym (block_of_blocks i m' A')))))))

-- the equation of a step with its tries
abbrev pub next_of : RouteSet → Handle → Runner → Context → ℕ → Option Runner
next_of set handle try c zero = None
next_of set handle try c (suc left) = Some (λ m A. tries set handle try c left m A)

pub tries_equation : (set : RouteSet) (handle : Handle) (try : Runner) (c : Context) (left : ℕ) (m : Message) (A : List Reply) →
    tries set handle try c left m A
    ≡ caught (try (redelivered m (number_of_try left)) A) (λ f again A'. faulted set handle c (number_of_try left) (next_of set handle try c left) m f again A')
unfolding tries
tries_equation set handle try c zero m A = refl
tries_equation set handle try c (suc left) m A = refl

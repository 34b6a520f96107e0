-- Steps that fit are good: each step of their numbered blocks passes its test.
use Rattle.std.proofs.Common.{ℕ, ◌+◌, Bool, true, false, cond, sym, subst, List, [], ◌∷◌, ◌++◌, Option, Some, None, length, ◌≡◌, refl, All, arith, le-leb}
use Rattle.std.proofs.lemmas.Bool.{and_from, or_left, or_right}
use Rattle.std.proofs.lemmas.Slice.Eq.{bytes_eq-Decides}
use Rattle.std.proofs.lemmas.List.Elements.{All-nil, All-cons, All-append, All-head, All-tail}
use Rattle.eip_exchange.specs.declared.setting.Clause.{Clause}
use Rattle.eip_route.specs.Nest.{Gathering, Frame, chooses, filters, splits, multicasts, aggregates, runs_once, tries, Catching, NestedStep, NestedSteps, NestedGroups, NestedLast, NestedClause, NestedRoute, leaf, holds, none, more, no_group, group, no_last, last, first_of, rest_of, cases_with, catches_with, IsNamed, FrameNamed, fill, held, FlatSteps, headed, with_block, own_repository, repository_of, flat_steps, flat_step, flat_groups, flat_last, flat_block, flat_clauses, flat_routes, number_of}
use Rattle.eip_route.specs.Valid.{is_filled, is_aggregate, is_batching, is_batch_strategy, is_given_name, is_repository, are_cases, is_given_check, are_catches, is_step, are_steps, is_route, is_clause}
use Rattle.eip_route.specs.declared.route.Block.{Block}
use Rattle.eip_route.specs.declared.route.Names.{Names}
use Rattle.eip_route.specs.declared.route.Route.{Route}
use Rattle.eip_route.specs.declared.step.Check.{Check}
use Rattle.eip_route.specs.declared.step.Step.{Step}
use Rattle.eip_route.specs.declared.step.Step.TheVariants as step
use Rattle.eip_route_validity.proofs.GoodParts.{good_target, good_source, good_expr, good_check}
use Rattle.eip_route_validity.specs.Fit.{GatheringFits, BatchingFits, AnyGatheringFits, ChecksFit, MayCheckFit, CatchesFit, LeafFits, FrameFits, HasGroup, GroupsSuit, StepsFit, StepFits, GroupsFit, LastFits, ClauseFits, RouteFits}

abbrev Good : Names → Block → Type 0
Good n b = are_steps n b.steps ≡ true

abbrev pub AreGood : Names → List Block → Type 0
AreGood n bs = All (λ b. are_steps n b.steps ≡ true) bs

no_blocks : (n : Names) → AreGood n []
no_blocks n = All-nil (Good n)

pub both_blocks : (n : Names) (xs ys : List Block) → AreGood n xs → AreGood n ys → AreGood n (xs ++ ys)
both_blocks n xs ys h t = All-append (Good n) xs ys h t

-- steps and the blocks nested in them
abbrev GoodSteps : Names → FlatSteps → Type 0
GoodSteps n r = (are_steps n r.steps ≡ true) × AreGood n r.blocks

good_headed : (n : Names) (r : FlatSteps) → GoodSteps n r → AreGood n (headed r)
good_headed n r h = All-cons (Good n) (record { steps = r.steps }) r.blocks h.0 h.1

-- ---- single steps

good_gathering : (g : Gathering) (k : ℕ) → GatheringFits g → is_aggregate (with_block g k) ≡ true
good_gathering g k h = and_from _ _ (and_from _ _ (and_from _ _ (good_expr g.key h.key) h.strategy) (and_from _ _ h.size h.timeout)) h.completed

good_batching : (g : Gathering) (k : ℕ) → BatchingFits g → is_batching (with_block g k) ≡ true
good_batching g k h =
    subst (λ (x : Gathering). is_batching (with_block x k) ≡ true) (sym h.is) (and_from _ _ refl (and_from _ _ (and_from _ _ h.small h.soon) refl))

good_any_gathering : (b : Bool) (g : Gathering) (k : ℕ) → AnyGatheringFits b g → cond b (is_batching (with_block g k)) (is_aggregate (with_block g k)) ≡ true
good_any_gathering true g k h = good_batching g k h
good_any_gathering false g k h = good_gathering g k h

good_repository : (k : ℕ) (o : Option (List ℕ)) → is_given_name o ≡ true → is_repository k (repository_of k o) ≡ true
good_repository k None h = or_right _ _ ((bytes_eq-Decides (own_repository k) (own_repository k)).1 refl)
good_repository k (Some name) h = or_left _ _ h

filled_cases : (cs : List Check) (ns : List ℕ) → is_filled cs ≡ true → is_filled (cases_with cs ns) ≡ true
filled_cases [] ns h = h
filled_cases (c ∷ cs) ns h = le-leb 1 (length (cases_with (c ∷ cs) ns)) (omega arith)

good_cases : (n : Names) (cs : List Check) (ns : List ℕ) → ChecksFit n cs → are_cases n (cases_with cs ns) ≡ true
good_cases n [] ns h = refl
good_cases n (c ∷ cs) ns h = and_from _ _ (good_check n c h.0) (good_cases n cs (rest_of ns) h.1)

good_given : (n : Names) (o : Option Check) → MayCheckFit n o → is_given_check n o ≡ true
good_given n None h = refl
good_given n (Some c) h = good_check n c h

good_catches : (n : Names) (cs : List Catching) (ns : List ℕ) → CatchesFit n cs → are_catches n (catches_with cs ns) ≡ true
good_catches n [] ns h = refl
good_catches n (c ∷ cs) ns h = and_from _ _ (and_from _ _ h.0.0 (good_given n c.when h.0.1)) (good_catches n cs (rest_of ns) h.1)

filled_groups : (k : ℕ) (gs : NestedGroups) → HasGroup gs → is_filled (flat_groups k gs).numbers ≡ true
filled_groups k no_group h = absurd h
filled_groups k (group ss gs) h = le-leb 1 (length (flat_groups k (group ss gs)).numbers) (omega arith)

good_leaf : (n : Names) (s : Step) → LeafFits n s → is_step n s ≡ true
good_leaf n (step.SetBody e) h = good_expr e h
good_leaf n (step.SetHeader name e) h = and_from _ _ h.0 (good_expr e h.1)
good_leaf n (step.SetProperty name e) h = and_from _ _ h.0 (good_expr e h.1)
good_leaf n (step.RemoveHeader name) h = h
good_leaf n (step.To u) h = good_target n u h
good_leaf n (step.Log name message) h = h.0
good_leaf n (step.Throw kind message) h = h.0
good_leaf n (step.Process name) h = h.1
good_leaf n (step.Recipients e delimiter fan) h = and_from _ _ (and_from _ _ (good_expr e h.0) h.1.0) h.1.1
good_leaf n (step.Choice cases l) h = absurd h
good_leaf n (step.Filter c b) h = absurd h
good_leaf n (step.Split how fan b) h = absurd h
good_leaf n (step.Multicast fan bs) h = absurd h
good_leaf n (step.Aggregate a) h = absurd h
good_leaf n (step.Idempotent e repository skip eager remove b) h = absurd h
good_leaf n (step.Try b catches l) h = absurd h

good_frame : (n : Names) (k : ℕ) (f : Frame) (gs : NestedGroups) → FrameFits n f → GroupsSuit f gs → is_step n (fill f (flat_groups k gs).numbers) ≡ true
good_frame n k (chooses cs l) gs h s = and_from _ _ (filled_cases cs (flat_groups k gs).numbers h.0) (good_cases n cs (flat_groups k gs).numbers h.1)
good_frame n k (filters c) gs h s = good_check n c h
good_frame n k (splits how fan) gs h s = h
good_frame n k (multicasts fan) gs h s = and_from _ _ (filled_groups k gs s.0) h
good_frame n k (aggregates g) gs h s = good_any_gathering (is_batch_strategy g.strategy) g (first_of (flat_groups k gs).numbers) h
good_frame n k (runs_once e name skip eager remove) gs h s = and_from _ _ (good_expr e h.0) (good_repository (first_of (flat_groups k gs).numbers) name h.1)
good_frame n k (tries cs l) gs h s = good_catches n cs (rest_of (flat_groups k gs).numbers) h

-- a leaf holds no blocks, and a frame's repository has a name of the form
pub bare_leaf : (n : Names) (s : Step) → LeafFits n s → held s ≡ None
bare_leaf n (step.Choice cases l) h = absurd h
bare_leaf n (step.Filter c b) h = absurd h
bare_leaf n (step.Split how fan b) h = absurd h
bare_leaf n (step.Multicast fan bs) h = absurd h
bare_leaf n (step.Aggregate a) h = absurd h
bare_leaf n (step.Idempotent e repository skip eager remove b) h = absurd h
bare_leaf n (step.Try b catches l) h = absurd h
bare_leaf n _ h = refl

name_given : (o : Option (List ℕ)) → is_given_name o ≡ true → IsNamed o
name_given None h = tt
name_given (Some name) h = h

pub frame_named : (n : Names) (f : Frame) → FrameFits n f → FrameNamed f
frame_named n (runs_once e name skip eager remove) h = name_given name h.1
frame_named n _ h = tt

-- ---- steps

mutual
  pub good_steps : (n : Names) (d k : ℕ) (ss : NestedSteps) → StepsFit n d ss → (are_steps n (flat_steps k ss).steps ≡ true) × AreGood n (flat_steps k ss).blocks
  good_steps n d k none h = (refl, no_blocks n)
  good_steps n d k (more s ss) h =
      let first = good_step n d k s h.0 in
      let others = good_steps n d (k + length (flat_step k s).blocks) ss h.1 in
      (and_from _ _ first.0 others.0, both_blocks n (flat_step k s).blocks (flat_steps (k + length (flat_step k s).blocks) ss).blocks first.1 others.1)

  good_step : (n : Names) (d k : ℕ) (s : NestedStep) → StepFits n d s → (is_step n (flat_step k s).step ≡ true) × AreGood n (flat_step k s).blocks
  good_step n d k (leaf s) h = (good_leaf n s h, no_blocks n)
  good_step n d k (holds f gs) h = (good_frame n k f gs h.0.setting h.0.suit, good_groups n d k gs h.1)

  good_groups : (n : Names) (d k : ℕ) (gs : NestedGroups) → GroupsFit n d gs → AreGood n (flat_groups k gs).blocks
  good_groups n d k no_group h = no_blocks n
  good_groups n d k (group ss gs) h =
      let first = flat_block k ss in
      both_blocks n first (flat_groups (k + length first) gs).blocks (good_headed n (flat_steps (k + 1) ss) (good_steps n (d + 1) (k + 1) ss h.0.1)) (good_groups n d (k + length first) gs h.1)

pub good_last : (n : Names) (d k : ℕ) (l : NestedLast) → LastFits n d l → AreGood n (flat_last k l)
good_last n d k no_last h = no_blocks n
good_last n d k (last ss) h = good_headed n (flat_steps (k + 1) ss) (good_steps n (d + 1) (k + 1) ss h.1)

-- ---- what holds them

abbrev clause_at : ℕ → NestedClause → Clause
clause_at k c = record { names = c.names; policy = c.policy; handled = c.handled; continued = c.continued; block = number_of k (flat_last k c.steps) }

abbrev pub route_at : ℕ → NestedRoute → Route
route_at k r = record { id = r.id; from = r.from; block = k }

pub good_clauses : (n : Names) (k : ℕ) (cs : List NestedClause) → All (ClauseFits n) cs → All (λ c. is_clause c ≡ true) (flat_clauses k cs).clauses × AreGood n (flat_clauses k cs).blocks
good_clauses n k [] h = (All-nil (λ c. is_clause c ≡ true), no_blocks n)
good_clauses n k (c ∷ cs) h =
    let first = All-head (ClauseFits n) c cs h in
    let after = k + length (flat_last k c.steps) in
    let others = good_clauses n after cs (All-tail (ClauseFits n) c cs h) in (
      All-cons (λ x. is_clause x ≡ true) (clause_at k c) (flat_clauses after cs).clauses (and_from _ _ first.names first.policy) others.0,
      both_blocks n (flat_last k c.steps) (flat_clauses after cs).blocks (good_last n 0 k c.steps first.steps) others.1,
    )

pub good_routes : (n : Names) (k : ℕ) (rs : List NestedRoute) → All (RouteFits n) rs → All (λ r. is_route n r ≡ true) (flat_routes k rs).routes × AreGood n (flat_routes k rs).blocks
good_routes n k [] h = (All-nil (λ r. is_route n r ≡ true), no_blocks n)
good_routes n k (r ∷ rs) h =
    let first = All-head (RouteFits n) r rs h in
    let after = k + length (flat_block k r.steps) in
    let others = good_routes n after rs (All-tail (RouteFits n) r rs h) in (
      All-cons (λ x. is_route n x ≡ true) (route_at k r) (flat_routes after rs).routes (and_from _ _ first.id (good_source n r.from first.from)) others.0,
      both_blocks n (flat_block k r.steps) (flat_routes after rs).blocks (good_headed n (flat_steps (k + 1) r.steps) (good_steps n 1 (k + 1) r.steps first.steps.1)) others.1,
    )

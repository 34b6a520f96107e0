-- In a set that fits, the split of a batch stands alone in the block of the aggregator that gathers it, and nowhere else.
use Rattle.std.proofs.Common.{ℕ, ◌+◌, Bool, true, false, ◌||◌, List, [], ◌∷◌, ◌++◌, Option, length, ◌≡◌, refl, sym, ap, ◌∙◌, subst, All, append-nil}
use Rattle.std.specs.List.{list_any}
use Rattle.std.proofs.Math.Bool.{or-false}
use Rattle.std.proofs.lemmas.List.Elements.{All-nil, All-cons, All-append, All-head, All-tail}
use Rattle.std.proofs.lemmas.Option.{slice_get_read}
use Rattle.eip_exchange.specs.declared.setting.How.TheVariants as how
use Rattle.eip_route.proofs.Filled.{leaf_numbers}
use Rattle.eip_route.specs.Faults.{clauses_numbers, routes_numbers, outer_numbers, steps_of}
use Rattle.eip_route.specs.Nest.{Frame, splits, aggregates, NestedStep, NestedSteps, NestedGroups, NestedLast, NestedClause, NestedRoute, NestedSet, leaf, holds, none, more, no_group, group, no_last, last, fill, FlatStep, FlatSteps, FlatGroups, headed, number_of, flat_steps, flat_step, flat_groups, flat_last, flat_block, flat_clauses, flat_routes, flat_set, last_number, step_numbers}
use Rattle.eip_route.specs.Valid.{gathers_batch, splits_batch, is_batch_block, is_batch_at, HoldsBatches}
use Rattle.eip_route.specs.declared.route.Block.{Block}
use Rattle.eip_route.specs.declared.route.Names.{Names}
use Rattle.eip_route.specs.declared.step.Step.{Step}
use Rattle.eip_route.specs.declared.step.Step.TheVariants as step
use Rattle.eip_route_validity.proofs.Frames.{frame_numbers}
use Rattle.eip_route_validity.proofs.GoodSteps.{bare_leaf}
use Rattle.eip_route_validity.proofs.NotTooDeep.{At, left, right, got, within}
use Rattle.eip_route_validity.specs.Fit.{LeafFits, StepsFit, StepFits, GroupsFit, LastFits, ClauseFits, RouteFits, SetFits, is_parts, gathers, AreBatched, IsBatched, GroupsBatched, LastBatched}

-- ---- one step

leaf_splits : (n : Names) (s : Step) → LeafFits n s → splits_batch s ≡ false
leaf_splits n (step.Split h fan b) f = absurd f
leaf_splits n _ f = refl

filled_splits : (f : Frame) (ns : List ℕ) → splits_batch (fill f ns) ≡ is_parts f
filled_splits (splits (how.Token token) fan) ns = refl
filled_splits (splits how.JsonArray fan) ns = refl
filled_splits (splits (how.Batch k) fan) ns = refl
filled_splits _ ns = refl

filled_gathers : (f : Frame) (ns : List ℕ) → gathers_batch (fill f ns) ≡ gathers f
filled_gathers (aggregates g) ns = refl
filled_gathers _ ns = refl

parts_gather : (f : Frame) → is_parts f ≡ true → gathers f ≡ false
parts_gather (splits h fan) e = refl
parts_gather _ e = absurd (cc)

no_batch_block : (ss : List Step) → list_any splits_batch ss ≡ false → is_batch_block ss ≡ false
no_batch_block [] h = refl
no_batch_block (s ∷ []) h = sym (or-false (splits_batch s)) ∙ h
no_batch_block (s ∷ t ∷ ss) h = refl

neither : (a b : Bool) → a ≡ false → b ≡ false → (a || b) ≡ false
neither a b e f = ap (λ (x : Bool). x || b) e ∙ f

-- ---- blocks

abbrev Alone : Block → Type 0
Alone b = list_any splits_batch b.steps ≡ is_batch_block b.steps

abbrev Gathered : List Block → Block → Type 0
Gathered all b = All (HoldsBatches all) b.steps

-- whether blocks of these numbers are batches'
abbrev Numbered : List Block → Bool → List ℕ → Type 0
Numbered all b ns = All (λ n. is_batch_at all n ≡ b) ns

record Batches (all bs : List Block) : Type 0 where
  gathered : All (Gathered all) bs
  alone : All Alone bs

no_blocks : (all : List Block) → Batches all []
no_blocks all = record { gathered = All-nil (Gathered all); alone = All-nil Alone }

both_blocks : (all xs ys : List Block) → Batches all xs → Batches all ys → Batches all (xs ++ ys)
both_blocks all xs ys h t = record { gathered = All-append (Gathered all) xs ys h.gathered t.gathered; alone = All-append Alone xs ys h.alone t.alone }

first_block : (all : List Block) (b : Block) (bs : List Block) → Gathered all b → Alone b → Batches all bs → Batches all (b ∷ bs)
first_block all b bs g a h = record { gathered = All-cons (Gathered all) b bs g h.gathered; alone = All-cons Alone b bs a h.alone }

both_numbered : (all : List Block) (b : Bool) (ms ns : List ℕ) → Numbered all b ms → Numbered all b ns → Numbered all b (ms ++ ns)
both_numbered all b ms ns h t = All-append (λ n. is_batch_at all n ≡ b) ms ns h t

one_numbered : (all : List Block) (b : Bool) (k : ℕ) → is_batch_at all k ≡ b → Numbered all b (k ∷ [])
one_numbered all b k e = All-cons (λ n. is_batch_at all n ≡ b) k [] e (All-nil (λ n. is_batch_at all n ≡ b))

block_at : (all : List Block) (k : ℕ) (b : Block) (bs : List Block) → At all k (b ∷ bs) → is_batch_at all k ≡ is_batch_block b.steps
block_at all k b bs a =
    ap (λ (o : Option Block). is_batch_block (steps_of o)) (slice_get_read all (length all) k b refl (within all k b bs a) (sym (got all k b bs a)))

-- ---- steps

-- steps outside the block of a batch, and the blocks nested in them
record Steps (all : List Block) (r : FlatSteps) : Type 0 where
  held : All (HoldsBatches all) r.steps
  others : list_any splits_batch r.steps ≡ false
  blocks : Batches all r.blocks

record OneStep (all : List Block) (r : FlatStep) : Type 0 where
  held : HoldsBatches all r.step
  other : splits_batch r.step ≡ false
  blocks : Batches all r.blocks

record Groups (all : List Block) (b : Bool) (r : FlatGroups) : Type 0 where
  numbered : Numbered all b r.numbers
  blocks : Batches all r.blocks

record OneBlock (all : List Block) (b : Bool) (k : ℕ) (bs : List Block) : Type 0 where
  numbered : is_batch_at all k ≡ b
  blocks : Batches all bs

plain_block : (all : List Block) (k : ℕ) (r : FlatSteps) → At all k (headed r) → Steps all r → OneBlock all false k (headed r)
plain_block all k r a s = record {
  numbered = block_at all k (record { steps = r.steps }) r.blocks a ∙ no_batch_block r.steps s.others;
  blocks = first_block all (record { steps = r.steps }) r.blocks s.held (s.others ∙ sym (no_batch_block r.steps s.others)) s.blocks;
}

-- the step of a frame whose groups are as they are to be
filled_holds : (all : List Block) (f : Frame) (ns : List ℕ) → step_numbers (fill f ns) ≡ ns → Numbered all (gathers f) ns → HoldsBatches all (fill f ns)
filled_holds all f ns e h =
    subst (λ (b : Bool). Numbered all b (step_numbers (fill f ns))) (sym (filled_gathers f ns)) (subst (Numbered all (gathers f)) (sym e) h)

-- the block of a batch: its split alone
parts_block : (all : List Block) (k : ℕ) (s : Step) (bs : List Block) → At all k (record { steps = s ∷ [] } ∷ bs) → splits_batch s ≡ true → HoldsBatches all s → Batches all bs
    → OneBlock all true k (record { steps = s ∷ [] } ∷ bs)
parts_block all k s bs a e h i =
    let b : Block = record { steps = s ∷ [] } in
    record {
      numbered = block_at all k b bs a ∙ e;
      blocks = first_block all b bs (All-cons (HoldsBatches all) s [] h (All-nil (HoldsBatches all))) (or-false (splits_batch s)) i;
    }

module _ (all : List Block) (n : Names) where
  mutual
    steps_held : (d k : ℕ) (ss : NestedSteps) → StepsFit n d ss → AreBatched ss → At all k (flat_steps k ss).blocks → Steps all (flat_steps k ss)
    steps_held d k none f g a = record { held = All-nil (HoldsBatches all); others = refl; blocks = no_blocks all }
    steps_held d k (more s ss) f g a =
        let one = flat_step k s in
        let after = k + length one.blocks in
        let rest = flat_steps after ss in
        let first = step_held d k s f.0 g.0 (left one.blocks rest.blocks a) in
        let others = steps_held d after ss f.1 g.1 (right one.blocks rest.blocks a) in
        record {
          held = All-cons (HoldsBatches all) one.step rest.steps first.held others.held;
          others = neither (splits_batch one.step) (list_any splits_batch rest.steps) first.other others.others;
          blocks = both_blocks all one.blocks rest.blocks first.blocks others.blocks;
        }

    step_held : (d k : ℕ) (s : NestedStep) → StepFits n d s → IsBatched s → At all k (flat_step k s).blocks → OneStep all (flat_step k s)
    step_held d k (leaf s) f g a = record {
      held = subst (Numbered all (gathers_batch s)) (sym (leaf_numbers s (bare_leaf n s f))) (All-nil (λ m. is_batch_at all m ≡ gathers_batch s));
      other = leaf_splits n s f;
      blocks = no_blocks all;
    }
    step_held d k (holds f gs) h g a =
        let r = groups_held d k (gathers f) gs h.1 g.1 a in
        record {
          held = filled_holds all f (flat_groups k gs).numbers (frame_numbers n k f gs h.0) r.numbered;
          other = filled_splits f (flat_groups k gs).numbers ∙ g.0;
          blocks = r.blocks;
        }

    groups_held : (d k : ℕ) (b : Bool) (gs : NestedGroups) → GroupsFit n d gs → GroupsBatched b gs → At all k (flat_groups k gs).blocks → Groups all b (flat_groups k gs)
    groups_held d k false no_group f g a = record { numbered = All-nil (λ m. is_batch_at all m ≡ false); blocks = no_blocks all }
    groups_held d k false (group ss gs) f g a =
        let r = flat_steps (k + 1) ss in
        let first = flat_block k ss in
        let after = k + length first in
        let rest = flat_groups after gs in
        let here = left first rest.blocks a in
        let one = plain_block all k r here (steps_held (d + 1) (k + 1) ss f.0.1 g.0 (right (record { steps = r.steps } ∷ []) r.blocks here)) in
        let others = groups_held d after false gs f.1 g.1 (right first rest.blocks a) in
        record {
          numbered = All-cons (λ m. is_batch_at all m ≡ false) k rest.numbers one.numbered others.numbered;
          blocks = both_blocks all first rest.blocks one.blocks others.blocks;
        }
    groups_held d k true (group (more (holds q (group ss no_group)) none) no_group) f g a =
        let inner = flat_groups (k + 1) (group ss no_group) in
        let s = fill q inner.numbers in
        let here = left (record { steps = s ∷ [] } ∷ (inner.blocks ++ [])) [] a in
        let nested = left inner.blocks [] (right (record { steps = s ∷ [] } ∷ []) (inner.blocks ++ []) here) in
        let r = groups_held (d + 1) (k + 1) false (group ss no_group) f.0.1.0.1 (g.1, tt) nested in
        let numbered = subst (λ (b : Bool). Numbered all b inner.numbers) (sym (parts_gather q g.0)) r.numbered in
        let one =
        parts_block all k s (inner.blocks ++ []) here (filled_splits q inner.numbers ∙ g.0)
        (filled_holds all q inner.numbers (frame_numbers n (k + 1) q (group ss no_group) f.0.1.0.0) numbered) (both_blocks all inner.blocks [] r.blocks (no_blocks all)) in
        record {
          numbered = one_numbered all true k one.numbered;
          blocks = both_blocks all (record { steps = s ∷ [] } ∷ (inner.blocks ++ [])) [] one.blocks (no_blocks all);
        }
    groups_held d k true _ f g a = absurd g

  block_held : (d k : ℕ) (ss : NestedSteps) → StepsFit n (d + 1) ss → AreBatched ss → At all k (flat_block k ss) → OneBlock all false k (flat_block k ss)
  block_held d k ss f g a =
      let r = flat_steps (k + 1) ss in
      plain_block all k r a (steps_held (d + 1) (k + 1) ss f g (right (record { steps = r.steps } ∷ []) r.blocks a))

  last_held : (k : ℕ) (l : NestedLast) → LastFits n 0 l → LastBatched l → At all k (flat_last k l) → Numbered all false (last_number (number_of k (flat_last k l))) × Batches all (flat_last k l)
  last_held k no_last f g a = (All-nil (λ m. is_batch_at all m ≡ false), no_blocks all)
  last_held k (last ss) f g a = let one = block_held 0 k ss f.1 g a in (one_numbered all false k one.numbered, one.blocks)

  -- ---- the set

  clauses_held : (k : ℕ) (cs : List NestedClause) → All (ClauseFits n) cs → At all k (flat_clauses k cs).blocks
      → Numbered all false (clauses_numbers (flat_clauses k cs).clauses) × Batches all (flat_clauses k cs).blocks
  clauses_held k [] h a = (All-nil (λ m. is_batch_at all m ≡ false), no_blocks all)
  clauses_held k (x ∷ xs) h a =
      let first = flat_last k x.steps in
      let rest = flat_clauses (k + length first) xs in
      let fits = All-head (ClauseFits n) x xs h in
      let one = last_held k x.steps fits.steps fits.batched (left first rest.blocks a) in
      let others = clauses_held (k + length first) xs (All-tail (ClauseFits n) x xs h) (right first rest.blocks a) in
      (both_numbered all false (last_number (number_of k first)) (clauses_numbers rest.clauses) one.0 others.0, both_blocks all first rest.blocks one.1 others.1)

  routes_held : (k : ℕ) (rs : List NestedRoute) → All (RouteFits n) rs → At all k (flat_routes k rs).blocks
      → Numbered all false (routes_numbers (flat_routes k rs).routes) × Batches all (flat_routes k rs).blocks
  routes_held k [] h a = (All-nil (λ m. is_batch_at all m ≡ false), no_blocks all)
  routes_held k (x ∷ xs) h a =
      let first = flat_block k x.steps in
      let rest = flat_routes (k + length first) xs in
      let fits = All-head (RouteFits n) x xs h in
      let one = block_held 0 k x.steps fits.steps.1 fits.batched (left first rest.blocks a) in
      let others = routes_held (k + length first) xs (All-tail (RouteFits n) x xs h) (right first rest.blocks a) in
      (All-cons (λ m. is_batch_at all m ≡ false) k (routes_numbers rest.routes) one.numbered others.0, both_blocks all first rest.blocks one.blocks others.1)

pub record SetBatches (all : List Block) (ns : List ℕ) : Type 0 where
  pub gathered : All (λ b. All (λ t. HoldsBatches all t) b.steps) all
  pub alone : All (λ b. list_any splits_batch b.steps ≡ is_batch_block b.steps) all
  pub outside : All (λ n. is_batch_at all n ≡ false) ns

pub batches_gathered : (n : Names) (x : NestedSet) → SetFits n x → SetBatches (flat_set n x).blocks (outer_numbers (flat_set n x))
batches_gathered n x h =
    let cs = flat_clauses 0 x.clauses in
    let rs = flat_routes (length cs.blocks) x.routes in
    let all = cs.blocks ++ rs.blocks in
    let front : At all 0 cs.blocks = record { front = []; back = rs.blocks; cut = refl; place = refl } in
    let rear : At all (length cs.blocks) rs.blocks = record { front = cs.blocks; back = []; cut = ap (λ (bs : List Block). cs.blocks ++ bs) (sym (append-nil rs.blocks)); place = refl } in
    let clauses = clauses_held all n 0 x.clauses h.clauses front in
    let routes = routes_held all n (length cs.blocks) x.routes h.routes rear in
    let blocks = both_blocks all cs.blocks rs.blocks clauses.1 routes.1 in
    record {
      gathered = blocks.gathered;
      alone = blocks.alone;
      outside = both_numbered all false (clauses_numbers cs.clauses) (routes_numbers rs.routes) clauses.0 routes.0;
    }

-- What is built of the items of a list, one behind the other.
use Rattle.std.proofs.Common.{◌≡◌, ℕ, ◌+◌, ◌<◌, List, [], ◌∷◌, ◌++◌, length, get_or, drop, refl, sym, ap, ◌∙◌, subst, append_assoc, append-nil}
use Rattle.std.proofs.lemmas.List.{at_drop_more}
use Rattle.eip_text.specs.Json.{Json, Items, item, json, items_json}
use Rattle.eip_text.specs.declared.tree.Tree.{Tree}
use Rattle.eip_route.specs.Nest.{NestedStep, NestedSteps, NestedGroups, none, more, no_group, group, FlatStep, FlatSteps, FlatGroups, first_step, flat_block, flat_step, flat_steps, flat_groups}
use Rattle.eip_route.specs.declared.route.Block.{Block}
use Rattle.eip_route.specs.declared.step.Step.{Step}
use Rattle.eip_route_values.specs.Nesting.{nest_step, nest_steps, nest_inner, nest_branches, nest_each}
use Rattle.eip_route_blocks.proofs.Appended as appended
use Rattle.eip_route_blocks.proofs.Groups.{placed}

-- ---- steps

regrouped : (ss ts : List Step) (bs cs : List Block) (r : FlatSteps) → appended.with_steps ss bs (appended.with_steps ts cs r) ≡ appended.with_steps (ss ++ ts) (bs ++ cs) r
regrouped ss ts bs cs r = λ i. record { steps = sym (append_assoc ss ts r.steps) i; blocks = sym (append_assoc bs cs r.blocks) i }

stepped : (n m : ℕ) (ss all_ss : List Step) (s : Step) (bs cs all_bs : List Block) (f : FlatStep) (next : ℕ → FlatSteps) (all : FlatSteps) → all ≡ appended.with_steps ss bs (first_step n f next)
    → (s ≡ f.step) × (cs ≡ f.blocks) → m ≡ n + length cs → all_ss ≡ ss ++ (s ∷ []) → all_bs ≡ bs ++ cs → all ≡ appended.with_steps all_ss all_bs (next m)
stepped n m ss all_ss s bs cs all_bs f next all e p q r t =
    let at : n + length f.blocks ≡ m = sym (q ∙ ap (λ (x : List Block). n + length x) p.1) in
    let steps : ss ++ (f.step ∷ []) ≡ all_ss = sym (r ∙ ap (λ (x : Step). ss ++ (x ∷ [])) p.0) in
    let blocks : bs ++ f.blocks ≡ all_bs = sym (t ∙ ap (λ (x : List Block). bs ++ x) p.1) in
    e ∙ (regrouped ss (f.step ∷ []) bs f.blocks (next (n + length f.blocks)) ∙ (λ i. appended.with_steps (steps i) (blocks i) (next (at i))))

-- one more step behind those before
pub step_built : (ts : List Tree) (k : ℕ) (x : Tree) (n m : ℕ) (ss all_ss : List Step) (s : Step) (bs cs all_bs : List Block) (all : FlatSteps) → x ≡ get_or ts k x → k < length ts
    → all ≡ appended.with_steps ss bs (flat_steps n (nest_steps (items_json (drop k ts)))) → (s ≡ (flat_step n (nest_step (json x))).step) × (cs ≡ (flat_step n (nest_step (json x))).blocks)
    → m ≡ n + length cs → all_ss ≡ ss ++ (s ∷ []) → all_bs ≡ bs ++ cs → all ≡ appended.with_steps all_ss all_bs (flat_steps m (nest_steps (items_json (drop (k + 1) ts))))
step_built ts k x n m ss all_ss s bs cs all_bs all same l e p q r t =
    let next = λ (j : ℕ). flat_steps j (nest_steps (items_json (drop (k + 1) ts))) in
    stepped n m ss all_ss s bs cs all_bs (flat_step n (nest_step (json x))) next all
    (e
    ∙ (at_drop_more (λ y. appended.with_steps ss bs (flat_steps n (nest_steps (items_json y)))) ts k x l
    ∙ ap (λ (y : Tree). appended.with_steps ss bs (first_step n (flat_step n (nest_step (json y))) next)) (sym same)))
    p q r t

-- ---- groups

module _ (one : Json → NestedSteps) (groups : Items → NestedGroups) (cons : (t : Json) (ts : Items) → groups (item t ts) ≡ group (one t) (groups ts)) where
  group_built : (ts : List Tree) (k : ℕ) (x : Tree) (n m : ℕ) (ns all_ns : List ℕ) (bs cs all_bs : List Block) (all : FlatGroups) → x ≡ get_or ts k x → k < length ts
      → all ≡ appended.with_groups ns bs (flat_groups n (groups (items_json (drop k ts)))) → cs ≡ flat_block n (one (json x)) → m ≡ n + length cs → all_ns ≡ ns ++ (n ∷ []) → all_bs ≡ bs ++ cs
      → all ≡ appended.with_groups all_ns all_bs (flat_groups m (groups (items_json (drop (k + 1) ts))))
  group_built ts k x n m ns all_ns bs cs all_bs all same l e p q r t =
      let rest = groups (items_json (drop (k + 1) ts)) in
      let first : groups (items_json (drop k ts)) ≡ group (one (json x)) rest =
      at_drop_more (λ y. groups (items_json y)) ts k x l
      ∙ (cons (json (get_or ts k x)) (items_json (drop (k + 1) ts)) ∙ ap (λ (y : Tree). group (one (json y)) rest) (sym same)) in
      placed n m ns (n ∷ []) all_ns bs cs all_bs (group (one (json x)) no_group) rest all (e ∙ ap (λ (gs : NestedGroups). appended.with_groups ns bs (flat_groups n gs)) first)
      (refl, p ∙ sym (append-nil (flat_block n (one (json x))))) q r t

-- one more branch, and one more object's steps
pub branch_built : (ts : List Tree) (k : ℕ) (x : Tree) (n m : ℕ) (ns all_ns : List ℕ) (bs cs all_bs : List Block) (all : FlatGroups) → x ≡ get_or ts k x → k < length ts
    → all ≡ appended.with_groups ns bs (flat_groups n (nest_branches (items_json (drop k ts)))) → cs ≡ flat_block n (more (nest_step (json x)) none) → m ≡ n + length cs → all_ns ≡ ns ++ (n ∷ []) → all_bs ≡ bs ++ cs
    → all ≡ appended.with_groups all_ns all_bs (flat_groups m (nest_branches (items_json (drop (k + 1) ts))))
branch_built = group_built (λ t. more (nest_step t) none) nest_branches (λ t ts. refl)

pub inner_built : (ts : List Tree) (k : ℕ) (x : Tree) (n m : ℕ) (ns all_ns : List ℕ) (bs cs all_bs : List Block) (all : FlatGroups) → x ≡ get_or ts k x → k < length ts
    → all ≡ appended.with_groups ns bs (flat_groups n (nest_each (items_json (drop k ts)))) → cs ≡ flat_block n (nest_inner (json x)) → m ≡ n + length cs → all_ns ≡ ns ++ (n ∷ []) → all_bs ≡ bs ++ cs
    → all ≡ appended.with_groups all_ns all_bs (flat_groups m (nest_each (items_json (drop (k + 1) ts))))
inner_built = group_built nest_inner nest_each (λ t ts. refl)

-- the block of one step
pub branch_block : (n k : ℕ) (x : NestedStep) (s : Step) (ds cs : List Block) → cs ≡ record { steps = s ∷ [] } ∷ ds → k ≡ n + 1 → (s ≡ (flat_step k x).step) × (ds ≡ (flat_step k x).blocks) → cs ≡ flat_block n (more x none)
branch_block n k x s ds cs e at p =
    let h : (s ≡ (flat_step (n + 1) x).step) × (ds ≡ (flat_step (n + 1) x).blocks) = subst (λ (j : ℕ). (s ≡ (flat_step j x).step) × (ds ≡ (flat_step j x).blocks)) at p in
    let first : Block = record { steps = (flat_step (n + 1) x).step ∷ [] } in
    e
    ∙ ((λ i. record { steps = h.0 i ∷ [] } ∷ h.1 i) ∙ ap (λ (ys : List Block). first ∷ ys) (sym (append-nil (flat_step (n + 1) x).blocks)))

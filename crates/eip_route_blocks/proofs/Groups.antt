-- How groups of steps are numbered, for the code that builds their blocks.
use Rattle.std.proofs.Common.{◌≡◌, ℕ, ◌+◌, List, [], ◌∷◌, ◌++◌, Some, length, refl, ap, sym, ◌∙◌, arith, append_assoc, append-nil, length-append}
use Rattle.eip_text.specs.Json.{Members, object}
use Rattle.eip_route.specs.declared.route.Block.{Block}
use Rattle.eip_exchange.specs.declared.setting.How.TheVariants as how
use Rattle.eip_exchange.specs.declared.setting.Key as order
use Rattle.eip_route.specs.declared.step.Step.{Step}
use Rattle.eip_route.specs.declared.step.Step.TheVariants as step
use Rattle.eip_route.specs.Nest.{NestedSteps, NestedGroups, batch_groups, plain_fan, no_group, group, FlatStep, FlatGroups, flat_block, flat_step, flat_groups}
use Rattle.eip_route_grammar.specs.declared.keys.Key.{Key}
use Rattle.eip_route_grammar.specs.declared.keys.Key.TheVariants as key
use Rattle.eip_route_values.specs.Nesting.{said, with_groups, with_numbers, followed, places, at_places, nest_at, nest_value}
use Rattle.eip_route_values.specs.declared.places.Place.{Place}
use Rattle.eip_route_blocks.proofs.Appended as appended

-- groups that follow others have the numbers behind them
pub followed_flat : (n : ℕ) (gs hs : NestedGroups) → flat_groups n (followed gs hs) ≡ appended.with_groups (flat_groups n gs).numbers (flat_groups n gs).blocks (flat_groups (n + length (flat_groups n gs).blocks) hs)
followed_flat n no_group hs = let same : n ≡ n + length (flat_groups n no_group).blocks = omega arith in ap (λ m. flat_groups m hs) same
followed_flat n (group ss gs) hs =
    let first = flat_block n ss in
    let inner = flat_groups (n + length first) gs in
    let m = n + length (first ++ inner.blocks) in
    let at : n + length first + length inner.blocks ≡ m = omega (arith, length-append first inner.blocks) in
    ap (λ (r : FlatGroups). appended.with_groups (n ∷ []) first r) (followed_flat (n + length first) gs hs)
    ∙ (ap (λ x. appended.with_groups (n ∷ inner.numbers) first (appended.with_groups [] inner.blocks (flat_groups x hs))) at
    ∙ ap (λ bs. record { numbers = n ∷ (inner.numbers ++ (flat_groups m hs).numbers); blocks = bs }) (sym (append_assoc first inner.blocks (flat_groups m hs).blocks)))

-- the blocks of a batch: its split, and the steps in that
pub batch_flat : (n : ℕ) (k : order.Key) (ss : NestedSteps) → flat_groups n (batch_groups k ss) ≡ record { numbers = n ∷ []; blocks = record { steps = step.Split (how.Batch k) plain_fan (n + 1) ∷ [] } ∷ flat_block (n + 1) ss }
batch_flat n k ss =
    let inner = flat_block (n + 1) ss in
    ap (λ (bs : List Block). record { numbers = n ∷ []; blocks = record { steps = step.Split (how.Batch k) plain_fan (n + 1) ∷ [] } ∷ bs })
    (append-nil ((inner ++ []) ++ []) ∙ append-nil (inner ++ []) ∙ append-nil inner)

abbrev filled_by : ℕ → Key → Members → FlatStep
filled_by n k ms =
    let r = flat_groups n (at_places (nest_at ms) (places k)) in
    record { step = with_numbers (said k ms) r.numbers; blocks = r.blocks }

-- a step's frame is filled with the numbers of its groups, and one without a frame holds none
pub flat_said : (n : ℕ) (k : Key) (ms : Members) → flat_step n (with_groups (said k ms) (at_places (nest_at ms) (places k))) ≡ filled_by n k ms
flat_said n key.SetBody ms = refl
flat_said n _ ms = refl

pub value_said : (k : Key) (ms : Members) → nest_value (Some k) (object ms) ≡ with_groups (said k ms) (at_places (nest_at ms) (places k))
value_said k ms = refl

-- a step that is built of its groups
pub object_built : (n : ℕ) (k : Key) (ms : Members) (ps : List Place) (s : Step) (ns : List ℕ) (bs : List Block) → ps ≡ places k
    → (ns ≡ (flat_groups n (at_places (nest_at ms) ps)).numbers) × (bs ≡ (flat_groups n (at_places (nest_at ms) ps)).blocks) → s ≡ with_numbers (said k ms) ns
    → (s ≡ (flat_step n (with_groups (said k ms) (at_places (nest_at ms) (places k)))).step) × (bs ≡ (flat_step n (with_groups (said k ms) (at_places (nest_at ms) (places k)))).blocks)
object_built n k ms ps s ns bs e p q =
    let whole = flat_said n k ms in (
      q ∙ (ap (with_numbers (said k ms)) (p.0 ∙ ap (λ x. (flat_groups n (at_places (nest_at ms) x)).numbers) e) ∙ sym (ap (λ (x : FlatStep). x.step) whole)),
      p.1 ∙ (ap (λ x. (flat_groups n (at_places (nest_at ms) x)).blocks) e ∙ sym (ap (λ (x : FlatStep). x.blocks) whole)),
    )

regrouped : (ns ms : List ℕ) (bs cs : List Block) (r : FlatGroups) → appended.with_groups ns bs (appended.with_groups ms cs r) ≡ appended.with_groups (ns ++ ms) (bs ++ cs) r
regrouped ns ms bs cs r = λ i. record { numbers = sym (append_assoc ns ms r.numbers) i; blocks = sym (append_assoc bs cs r.blocks) i }

-- groups of one more place behind those of the places before
pub placed : (n m : ℕ) (ns ms all_ns : List ℕ) (bs cs all_bs : List Block) (gs hs : NestedGroups) (all : FlatGroups)
    → all ≡ appended.with_groups ns bs (flat_groups n (followed gs hs)) → (ms ≡ (flat_groups n gs).numbers) × (cs ≡ (flat_groups n gs).blocks) → m ≡ n + length cs
    → all_ns ≡ ns ++ ms → all_bs ≡ bs ++ cs → all ≡ appended.with_groups all_ns all_bs (flat_groups m hs)
placed n m ns ms all_ns bs cs all_bs gs hs all e p q r s =
    let inner = flat_groups n gs in
    let at : n + length inner.blocks ≡ m = sym (q ∙ ap (λ (x : List Block). n + length x) p.1) in
    let numbers : ns ++ inner.numbers ≡ all_ns = sym (r ∙ ap (λ (x : List ℕ). ns ++ x) p.0) in
    let blocks : bs ++ inner.blocks ≡ all_bs = sym (s ∙ ap (λ (x : List Block). bs ++ x) p.1) in
    e ∙ (ap (λ x. appended.with_groups ns bs x) (followed_flat n gs hs)
    ∙ (regrouped ns inner.numbers bs inner.blocks (flat_groups (n + length inner.blocks) hs)
    ∙ (λ i. appended.with_groups (numbers i) (blocks i) (flat_groups (at i) hs))))

-- The sets of the tests can be run.
use Rattle.std.proofs.Common.{◌≡◌, ◌<◌, ℕ, zero, suc, true, false, List, [], ◌∷◌, length, codes, refl, sym, subst, arith}
use Rattle.std.specs.Prelude.{All, count_by, nat_eq}
use Rattle.std.specs.List.{list_any}
use Rattle.std.proofs.lemmas.List.Elements.{All-nil}
use Rattle.eip_text.specs.Names.{is_name}
use Rattle.eip_uri.specs.Ranges.{is_uri}
use Rattle.eip_uri.specs.declared.uri.Uri.TheVariants as uri
use Rattle.eip_route.specs.Faults.{set_fault, outer_numbers, too_nested}
use Rattle.eip_route.specs.Nest.{step_numbers}
use Rattle.eip_route.specs.Valid.{IsValid, HoldsBatches, are_steps, gathers_batch, is_batch_at, is_batch_block, is_route, places, splits_batch}
use Rattle.eip_route.specs.declared.route.Block.{Block}
use Rattle.eip_route.specs.declared.step.Step.{Step}
use Rattle.eip_route.specs.declared.step.Step.TheVariants as step
use Rattle.eip_core.specs.Doors.{CanRun}
use Rattle.eip_engine_tests.specs.Rows.{logging, circling, stream_names}

-- a step without blocks holds none of a batch
alone-held : (bs : List Block) (s : Step) → step_numbers s ≡ [] → All (λ t. HoldsBatches bs t) (s ∷ [])
alone-held bs s none zero d within = subst (λ ns. All (λ n. is_batch_at bs n ≡ gathers_batch s) ns) (sym none) (All-nil _)
alone-held bs s none (suc k) d within = absurd (omega (arith, within))

-- ---- one route and one block

logging-routes : All (λ r. is_route logging.names r ≡ true) logging.routes
unfolding is_name is_uri
logging-routes zero d within = refl
logging-routes (suc k) d within = absurd (omega (arith, within))

logging-blocks : All (λ b. are_steps logging.names b.steps ≡ true) logging.blocks
unfolding is_name is_uri
logging-blocks zero d within = refl
logging-blocks (suc k) d within = absurd (omega (arith, within))

logging-placed : (n : ℕ) → n < length logging.blocks → count_by (nat_eq n) (places logging) ≡ 1
unfolding step_numbers
logging-placed zero within = refl
logging-placed (suc n) within = absurd (omega (arith, within))

logging-gathered : All (λ b. All (λ t. HoldsBatches logging.blocks t) b.steps) logging.blocks
unfolding step_numbers
logging-gathered zero d within = alone-held logging.blocks (step.To (uri.Log (codes "out"))) refl
logging-gathered (suc k) d within = absurd (omega (arith, within))

logging-alone : All (λ b. list_any splits_batch b.steps ≡ is_batch_block b.steps) logging.blocks
logging-alone zero d within = refl
logging-alone (suc k) d within = absurd (omega (arith, within))

logging-outside : All (λ n. is_batch_at logging.blocks n ≡ false) (outer_numbers logging)
logging-outside zero d within = refl
logging-outside (suc k) d within = absurd (omega (arith, within))

logging-valid : IsValid logging
unfolding set_fault is_name step_numbers too_nested
logging-valid = record {
  checked = refl;
  routes = logging-routes;
  handler = refl;
  clauses = All-nil _;
  blocks = logging-blocks;
  placed = logging-placed;
  gathered = logging-gathered;
  alone = logging-alone;
  outside = logging-outside;
}

pub logging-runs : CanRun logging stream_names
logging-runs = record { valid = logging-valid; named = refl }

-- ---- two of each

circling-routes : All (λ r. is_route circling.names r ≡ true) circling.routes
unfolding is_name is_uri
circling-routes zero d within = refl
circling-routes (suc zero) d within = refl
circling-routes (suc (suc k)) d within = absurd (omega (arith, within))

circling-blocks : All (λ b. are_steps circling.names b.steps ≡ true) circling.blocks
unfolding is_name is_uri
circling-blocks zero d within = refl
circling-blocks (suc zero) d within = refl
circling-blocks (suc (suc k)) d within = absurd (omega (arith, within))

circling-placed : (n : ℕ) → n < length circling.blocks → count_by (nat_eq n) (places circling) ≡ 1
unfolding step_numbers
circling-placed zero within = refl
circling-placed (suc zero) within = refl
circling-placed (suc (suc n)) within = absurd (omega (arith, within))

circling-gathered : All (λ b. All (λ t. HoldsBatches circling.blocks t) b.steps) circling.blocks
unfolding step_numbers
circling-gathered zero d within = alone-held circling.blocks (step.To (uri.Seda (codes "l") 1000 1 false)) refl
circling-gathered (suc zero) d within = alone-held circling.blocks (step.To (uri.Seda (codes "l") 1000 1 false)) refl
circling-gathered (suc (suc k)) d within = absurd (omega (arith, within))

circling-alone : All (λ b. list_any splits_batch b.steps ≡ is_batch_block b.steps) circling.blocks
circling-alone zero d within = refl
circling-alone (suc zero) d within = refl
circling-alone (suc (suc k)) d within = absurd (omega (arith, within))

circling-outside : All (λ n. is_batch_at circling.blocks n ≡ false) (outer_numbers circling)
circling-outside zero d within = refl
circling-outside (suc zero) d within = refl
circling-outside (suc (suc k)) d within = absurd (omega (arith, within))

circling-valid : IsValid circling
unfolding set_fault is_name step_numbers too_nested
circling-valid = record {
  checked = refl;
  routes = circling-routes;
  handler = refl;
  clauses = All-nil _;
  blocks = circling-blocks;
  placed = circling-placed;
  gathered = circling-gathered;
  alone = circling-alone;
  outside = circling-outside;
}

pub circling-runs : CanRun circling stream_names
circling-runs = record { valid = circling-valid; named = refl }

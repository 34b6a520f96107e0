use Rattle.std.proofs.Common.{◌≡◌, ◌++◌, map, drop}
use Rattle.eip_meaning.specs.Parts.{block_seed}
use Rattle.eip_parts.proofs.fans.branch_seeds.Given as goal

abbrev pub invariant-loop-block : goal.invariant-loop-block
invariant-loop-block l = l.seeds.items ++ map (λ b. block_seed l.care b l.message) (drop l.block-index l.blocks) ≡ map (λ b. block_seed l.care b l.message) l.blocks

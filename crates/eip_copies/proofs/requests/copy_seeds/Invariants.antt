use Rattle.std.proofs.Common.{◌≡◌, ◌++◌, drop}
use Rattle.eip_copies.proofs.requests.copy_seeds.Given as goal

abbrev pub invariant-loop-seed : goal.invariant-loop-seed
invariant-loop-seed l = l.copies.items ++ drop l.seed-index l.seeds ≡ l.seeds

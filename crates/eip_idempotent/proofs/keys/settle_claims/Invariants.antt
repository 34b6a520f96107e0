use Rattle.std.proofs.Common.{◌≡◌, take, option_map}
use Rattle.eip_idempotent.specs.Keys.{Key, row_at, settled_claims}
use Rattle.eip_idempotent.proofs.keys.settle_claims.Given as goal

abbrev pub invariant-loop-claim : goal.invariant-loop-claim
invariant-loop-claim l = (k : Key) → row_at l.keys.entries k ≡ option_map (settled_claims l.number l.ending k (take l.claim-index l.claims)) (row_at l.fn.keys.entries k)

use Rattle.std.proofs.Common.{◌≡◌}
use Rattle.eip_embedding.specs.Seals.{digest_behind}
use Rattle.eip_embedding.proofs.seal.digest_behind.Given as goal

abbrev pub invariant-loop-round : goal.invariant-loop-round
invariant-loop-round l = l.digest ≡ digest_behind l._round l.body

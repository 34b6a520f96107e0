use Rattle.std.proofs.Common.{◌≡◌, fold, drop}
use Rattle.eip_aggregator.specs.Keys.{writes}
use Rattle.eip_aggregator.proofs.key.GroupKeyHash.hash.Given as goal

abbrev pub invariant-loop-byte : goal.invariant-loop-byte
invariant-loop-byte g l =
    fold g.H.Hasher.write l.initial.state (writes l.byte-items) ≡ fold g.H.Hasher.write l.state (writes (drop l.byte-index l.byte-items))

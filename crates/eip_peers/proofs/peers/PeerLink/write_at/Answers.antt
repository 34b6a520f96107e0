use Rattle.std.proofs.Common.{ap}
use Rattle.eip_peers.proofs.PeerLaws.{keys-set}
use Rattle.eip_peers.proofs.peers.PeerLink.write_at.Goals as goal

pub returns-then-is_ok-clause-called : goal.returns-then-is_ok-clause-called
returns-then-is_ok-clause-called g c =
    keys-set c.index_mut-called.result.now.0 c.args.place c.args.self.now.called.items c.index_mut-called.result.now c.flush.new.self
    (ap (λ p. p.0) c.index_mut-called.ensures.value)

pub returns-else-is_ok-clause-called : goal.returns-else-is_ok-clause-called
returns-else-is_ok-clause-called g c =
    keys-set c.index_mut-called.result.now.0 c.args.place c.args.self.now.called.items c.index_mut-called.result.now c.write_all.new.self
    (ap (λ p. p.0) c.index_mut-called.ensures.value)

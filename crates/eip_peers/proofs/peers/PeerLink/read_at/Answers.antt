use Rattle.std.proofs.Common.{ap}
use Rattle.eip_peers.proofs.PeerLaws.{keys-set}
use Rattle.eip_peers.proofs.peers.PeerLink.read_at.Goals as goal

pub returns-in-Ok-clause-heard : goal.returns-in-Ok-clause-heard
returns-in-Ok-clause-heard g c =
    keys-set c.index_mut-heard.result.now.0 c.args.place c.args.self.now.heard.items c.index_mut-heard.result.now c.read.new.self
    (ap (λ p. p.0) c.index_mut-heard.ensures.value)

pub returns-in-Err-clause-heard : goal.returns-in-Err-clause-heard
returns-in-Err-clause-heard g c =
    rw c.fail.ensures.heard
    (keys-set c.index_mut-heard.result.now.0 c.args.place c.args.self.now.heard.items c.index_mut-heard.result.now c.read.new.self
    (ap (λ p. p.0) c.index_mut-heard.ensures.value))

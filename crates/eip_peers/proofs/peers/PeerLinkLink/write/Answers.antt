use Rattle.eip_peers.proofs.PeerLaws.{wrote-untold}
use Rattle.eip_peers.proofs.peers.PeerLinkLink.write.Goals as goal

pub returns-clause-content : goal.returns-clause-content
returns-clause-content g c = wrote-untold c.args.bytes.now c.write_to.result

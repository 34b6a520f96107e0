use Rattle.std.proofs.Common.{rules}
use Rattle.std.proofs.lemmas.Fn.{filter_same}
use Rattle.eip_peers.proofs.PeerLaws.{given-up}
use Rattle.eip_peers.proofs.peers.PeerLink.hang_up.Goals as goal

pub returns-clause-called : goal.returns-clause-called
returns-clause-called g c =
    given-up c.args.address.now c.args.self.now.called.items c.retain.new.self.items
    (filter_same _ _ _ (λ x b f' k. search rules) _ _ c.retain.ensures.filtered)

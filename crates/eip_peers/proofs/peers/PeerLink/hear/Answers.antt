use Rattle.std.proofs.Common.{◌≡◌, None}
use Rattle.eip_keyed.specs.Keyed.{found, StandsAt}
use Rattle.eip_peers.proofs.PeerLaws.{kept-there, put-there}
use Rattle.eip_peers.proofs.peers.PeerLink.hear.Goals as goal

pub returns-in-Some-clause-heard : goal.returns-in-Some-clause-heard
returns-in-Some-clause-heard g c =
    let first : StandsAt c.args.uri c.in-Some.place c.args.self.now.heard.items =
    rw (← c.bytes.ensures.value, ← c.as_slice.ensures.value) c.in-Some.ensures.first in
    kept-there c.args.uri c.in-Some.place c.args.self.now.heard.items first

pub returns-clause-heard : goal.returns-clause-heard
returns-clause-heard g c =
    let none : found c.args.uri c.args.self.now.heard.items ≡ None =
    rw (← c.bytes.ensures.value, ← c.as_slice.ensures.value) c.in_default.ensures.none in
    let pushed = rw (c.unwrap.ensures, c.reserve.ensures.items) at c.push.ensures.items in
    rw pushed (put-there c.args.uri c.args.self.now.heard.items c.in-Ok.stream none)

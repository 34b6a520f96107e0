use Rattle.std.proofs.Common.{◌≡◌, None}
use Rattle.eip_keyed.specs.Keyed.{found, StandsAt}
use Rattle.eip_peers.proofs.PeerLaws.{kept-there, put-there, none-open}
use Rattle.eip_peers.proofs.peers.PeerLink.call.Goals as goal

pub returns-in-Some-clause-called : goal.returns-in-Some-clause-called
returns-in-Some-clause-called g c =
    let first : StandsAt c.args.address.now c.in-Some.place c.args.self.now.called.items =
    rw (← c.bytes.ensures.value, ← c.as_slice.ensures.value) c.in-Some.ensures.first in
    kept-there c.args.address.now c.in-Some.place c.args.self.now.called.items first

pub returns-in_default-connect-clause-called : goal.returns-in_default-connect-clause-called
returns-in_default-connect-clause-called g c =
    let none : found c.args.address.now c.args.self.now.called.items ≡ None =
    rw (← c.bytes.ensures.value, ← c.as_slice.ensures.value) c.in_default.ensures.none in
    rw (c.fail.ensures.fault, c.fail.ensures.called, c.reserve.ensures.items) (none-open c.args.address.now c.args.self.now.called.items none)

pub returns-clause-called : goal.returns-clause-called
returns-clause-called g c =
    let none : found c.args.address.now c.args.self.now.called.items ≡ None =
    rw (← c.bytes.ensures.value, ← c.as_slice.ensures.value) c.in_default.ensures.none in
    let pushed = rw (c.unwrap.ensures, c.reserve.ensures.items, c.in-Ok.ensures) at c.push.ensures.items in
    rw pushed (put-there c.args.address.now c.args.self.now.called.items c.in-Ok-connect.stream none)

use Rattle.std.proofs.Common.{◌≡◌, Some, slice_get, length, arith}
use Rattle.eip_host.specs.Networks.{ports_of}
use Rattle.eip_host.proofs.PortLaws.{bound-there, stands-last}
use Rattle.eip_host.proofs.network.HostNetwork.listen.Goals as goal

pub returns-in-Some-clause-ports : goal.returns-in-Some-clause-ports
returns-in-Some-clause-ports g c =
    let there : slice_get (ports_of c.args.self.now.listeners.items) c.in-Some.place ≡ Some c.args.port =
    rw (← c.as_slice.ensures.value) c.in-Some.ensures.there in
    bound-there (ports_of c.args.self.now.listeners.items) c.in-Some.place c.args.port there

pub returns-clause-place : goal.returns-clause-place
returns-clause-place g c =
    let pushed = rw (c.unwrap.ensures, c.reserve.ensures.items) at c.push.ensures.items in
    let behind : c.len-place.result ≡ length c.args.self.now.listeners.items = omega (arith, c.len-place.ensures, c.reserve.ensures.len, c.args.self.now.listeners.ok.0) in
    rw (pushed, behind) (stands-last c.args.self.now.listeners.items c.args.port c.in_ok-listener.listener)

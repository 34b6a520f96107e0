use Rattle.std.proofs.Common.{◌≡◌, drop}
use Rattle.eip_host.specs.Networks.{ports_of, is_bound}
use Rattle.eip_host.proofs.network.place_of.Given as goal

abbrev pub invariant-loop-place : goal.invariant-loop-place
invariant-loop-place g l = is_bound l.port (ports_of l.listeners) ≡ is_bound l.port (ports_of (drop l.place l.listeners))

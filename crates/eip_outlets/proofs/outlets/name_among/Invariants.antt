use Rattle.std.proofs.Common.{◌≡◌, drop}
use Rattle.std.specs.Str.{bytes_eq}
use Rattle.std.specs.List.{position_from}
use Rattle.eip_endpoint.specs.Lanes.{first_named}
use Rattle.eip_outlets.proofs.outlets.name_among.Given as goal

abbrev pub invariant-loop-index : goal.invariant-loop-index
invariant-loop-index l = first_named (l.wanted) l.names ≡ position_from (λ m. bytes_eq m (l.wanted)) l.index (drop l.index l.names)

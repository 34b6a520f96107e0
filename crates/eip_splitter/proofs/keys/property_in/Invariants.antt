use Rattle.std.proofs.Common.{◌≡◌, drop}
use Rattle.eip_exchange.specs.Pairs.{get_property}
use Rattle.eip_splitter.proofs.keys.property_in.Given as goal

abbrev pub invariant-loop-pair : goal.invariant-loop-pair
invariant-loop-pair l = get_property l.name (drop l.pair-index l.properties) ≡ get_property l.name l.properties

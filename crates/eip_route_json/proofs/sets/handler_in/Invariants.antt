use Rattle.std.proofs.Common.{◌≡◌, drop}
use Rattle.eip_text.specs.Json.{items_json}
use Rattle.eip_route_values.specs.Sets.{handler_in}
use Rattle.eip_route_json.proofs.sets.handler_in.Given as goal

abbrev pub invariant-loop-item : goal.invariant-loop-item
invariant-loop-item l = handler_in (items_json l.items) ≡ handler_in (items_json (drop l.item-index l.items))

use Rattle.std.proofs.Common.{◌≡◌, ◌++◌, drop}
use Rattle.eip_text.specs.Json.{items_json}
use Rattle.eip_route_values.specs.Leaves.{texts_of}
use Rattle.eip_route_values.proofs.leaves.texts_of.Given as goal

abbrev pub invariant-loop-item : goal.invariant-loop-item
invariant-loop-item l = texts_of (items_json l.items) ≡ l.texts.items ++ texts_of (items_json (drop l.item-index l.items))

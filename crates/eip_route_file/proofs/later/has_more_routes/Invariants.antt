use Rattle.std.proofs.Common.{◌≡◌, drop}
use Rattle.eip_text.specs.Json.{items_json}
use Rattle.eip_route_file.specs.Later.{too_many}
use Rattle.eip_route_file.proofs.later.has_more_routes.Given as goal

abbrev pub invariant-loop-item : goal.invariant-loop-item
invariant-loop-item l = too_many l.fn.most (items_json l.items) ≡ too_many l.left (items_json (drop l.item-index l.items))

use Rattle.std.proofs.Common.{◌≡◌, true, ◌+◌, length, drop}
use Rattle.eip_text.specs.Json.{items_json}
use Rattle.eip_route.specs.Nest.{flat_routes}
use Rattle.eip_route_values.specs.Sets.{routes_of}
use Rattle.eip_route_values.specs.Taken.{stock, spent, holds, in_routes}
use Rattle.eip_route_blocks.proofs.Appended.{with_routes}
use Rattle.eip_route_json.proofs.sets.build_route_items.Given as goal

abbrev pub invariant-loop-item : goal.invariant-loop-item
invariant-loop-item l = record {
  routes : flat_routes l.fn.first (routes_of 1 (items_json l.items)) ≡ with_routes l.routes.items l.blocks.items (flat_routes l.n (routes_of (length l.routes.items + 1) (items_json (drop l.item-index l.items))));
  left : spent (in_routes (items_json l.items)) (stock l.fn.known) ≡ spent (in_routes (items_json (drop l.item-index l.items))) (stock l.known);
  held : holds (in_routes (items_json (drop l.item-index l.items))) (stock l.known) ≡ true;
}

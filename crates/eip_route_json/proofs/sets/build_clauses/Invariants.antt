use Rattle.std.proofs.Common.{◌≡◌, true, drop}
use Rattle.eip_text.specs.Json.{items_json}
use Rattle.eip_route.specs.Nest.{flat_clauses}
use Rattle.eip_route_values.specs.Sets.{clauses_of}
use Rattle.eip_route_values.specs.Taken.{stock, spent, holds, in_clauses}
use Rattle.eip_route_blocks.proofs.Appended.{with_clauses}
use Rattle.eip_route_json.proofs.sets.build_clauses.Given as goal

abbrev pub invariant-loop-item : goal.invariant-loop-item
invariant-loop-item l = record {
  clauses : flat_clauses 0 (clauses_of (items_json l.items)) ≡ with_clauses l.clauses.items l.blocks.items (flat_clauses l.n (clauses_of (items_json (drop l.item-index l.items))));
  left : spent (in_clauses (items_json l.items)) (stock l.fn.known) ≡ spent (in_clauses (items_json (drop l.item-index l.items))) (stock l.known);
  held : holds (in_clauses (items_json (drop l.item-index l.items))) (stock l.known) ≡ true;
}

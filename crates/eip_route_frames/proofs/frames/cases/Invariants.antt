use Rattle.std.proofs.Common.{◌≡◌, ◌++◌, true, drop}
use Rattle.eip_text.specs.Json.{items_json}
use Rattle.eip_route.specs.Nest.{cases_with, past}
use Rattle.eip_route_values.specs.Nesting.{checks_of}
use Rattle.eip_route_values.specs.Taken.{stock, spent, holds, by_check, by_each}
use Rattle.eip_route_frames.proofs.frames.cases.Given as goal

abbrev pub invariant-loop-item : goal.invariant-loop-item
invariant-loop-item l = record {
  cases : cases_with (checks_of (items_json l.items)) l.numbers ≡ l.cases.items ++ cases_with (checks_of (items_json (drop l.item-index l.items))) l.left;
  behind : past (checks_of (items_json l.items)) l.numbers ≡ past (checks_of (items_json (drop l.item-index l.items))) l.left;
  left : spent (by_each by_check (items_json l.items)) (stock l.fn.known) ≡ spent (by_each by_check (items_json (drop l.item-index l.items))) (stock l.known);
  held : holds (by_each by_check (items_json (drop l.item-index l.items))) (stock l.known) ≡ true;
}

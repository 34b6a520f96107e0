use Rattle.std.proofs.Common.{◌≡◌, ◌++◌, true, drop}
use Rattle.eip_text.specs.Json.{items_json}
use Rattle.eip_route.specs.Nest.{catches_with, past}
use Rattle.eip_route_values.specs.Nesting.{catchings_of}
use Rattle.eip_route_values.specs.Taken.{stock, spent, holds, by_catch, by_each}
use Rattle.eip_route_frames.proofs.frames.catches.Given as goal

abbrev pub invariant-loop-item : goal.invariant-loop-item
invariant-loop-item l = record {
  catches : catches_with (catchings_of (items_json l.items)) l.numbers ≡ l.catches.items ++ catches_with (catchings_of (items_json (drop l.item-index l.items))) l.left;
  behind : past (catchings_of (items_json l.items)) l.numbers ≡ past (catchings_of (items_json (drop l.item-index l.items))) l.left;
  left : spent (by_each by_catch (items_json l.items)) (stock l.fn.known) ≡ spent (by_each by_catch (items_json (drop l.item-index l.items))) (stock l.known);
  held : holds (by_each by_catch (items_json (drop l.item-index l.items))) (stock l.known) ≡ true;
}

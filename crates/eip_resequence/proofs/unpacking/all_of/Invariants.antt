use Rattle.std.proofs.Common.{◌≡◌, ◌++◌, Some, None, List, drop}
use Rattle.json.specs.Value.{items_view}
use Rattle.eip_resequence.specs.Unpacking.{all_in}
use Rattle.eip_resequence.specs.declared.packed.Packed.{Packed}
use Rattle.eip_resequence.proofs.unpacking.all_of.Given as goal

abbrev pub invariant-loop-item : goal.invariant-loop-item
invariant-loop-item l = record {
  some : (ms : List Packed) → all_in (items_view (drop l.item-index l.items)) ≡ Some ms → all_in (items_view l.items) ≡ Some (l.list.items ++ ms);
  none : all_in (items_view (drop l.item-index l.items)) ≡ None → all_in (items_view l.items) ≡ None;
}

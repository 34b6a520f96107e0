use Rattle.std.proofs.Common.{◌≡◌, ◌++◌, Some, None, length}
use Rattle.json.specs.Value.{items_view}
use Rattle.eip_resequence.specs.Packing.{Pairs}
use Rattle.eip_resequence.specs.Unpacking.{pairs_in}
use Rattle.eip_resequence.proofs.unpacking.pairs_of.Given as goal

abbrev pub invariant-loop-rest : goal.invariant-loop-rest
invariant-loop-rest l = record {
  some : (ps : Pairs) → pairs_in (items_view l.rest) ≡ Some ps → pairs_in (items_view l.items) ≡ Some (l.pairs.items ++ ps);
  none : pairs_in (items_view l.rest) ≡ None → pairs_in (items_view l.items) ≡ None;
}

abbrev pub decreases-loop-rest : goal.decreases-loop-rest
decreases-loop-rest l = length l.rest

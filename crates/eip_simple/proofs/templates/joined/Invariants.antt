use Rattle.std.proofs.Common.{◌≡◌, ◌≤◌, ◌++◌, length, drop, string_bytes}
use Rattle.std.specs.List.{flat_map}
use Rattle.eip_simple.specs.Views.{seen}
use Rattle.eip_simple.specs.Values.{part_value}
use Rattle.eip_simple.proofs.templates.joined.Given as goal

abbrev pub invariant-loop-part : goal.invariant-loop-part
invariant-loop-part l = record {
  so_far : string_bytes l.out ++ flat_map (part_value (seen l.view)) (drop l.part-index l.part-items) ≡ flat_map (part_value (seen l.view)) l.part-items;
  fits : length (string_bytes l.out) ≤ l.limit;
}

use Rattle.std.proofs.Common.{◌≡◌, ◌+◌, ◌++◌, drop, length}
use Rattle.eip_text.specs.Json.{items_json}
use Rattle.eip_route_file.specs.Later as spec
use Rattle.eip_route_file.proofs.head.heads_of.Given as goal

abbrev pub invariant-loop-i : goal.invariant-loop-i
invariant-loop-i l = spec.heads 0 1 (items_json l.items) ≡ l.heads.items ++ spec.heads l.i (length l.heads.items + 1) (items_json (drop l.i l.items))

use Rattle.std.proofs.Common.{◌≡◌, drop, false}
use Rattle.eip_text.specs.Json.{items_json}
use Rattle.eip_route_file.specs.Later.{second_handler}
use Rattle.eip_route_file.proofs.later.second_handler.Given as goal

abbrev pub invariant-loop-i : goal.invariant-loop-i
invariant-loop-i l = second_handler 0 false (items_json l.items) ≡ second_handler l.i l.met (items_json (drop l.i l.items))

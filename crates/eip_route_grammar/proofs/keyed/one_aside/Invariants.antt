use Rattle.std.proofs.Common.{◌≡◌, drop, false}
use Rattle.eip_text.specs.Json.{members_json}
use Rattle.eip_route_grammar.specs.Objects.{one_aside, keys_of}
use Rattle.eip_route_grammar.proofs.keyed.one_aside.Given as goal

abbrev pub invariant-loop-member : goal.invariant-loop-member
invariant-loop-member l = one_aside false (keys_of (members_json l.members)) ≡ one_aside l.met (keys_of (members_json (drop l.member-index l.members)))

use Rattle.std.proofs.Common.{◌≡◌, drop, []}
use Rattle.eip_text.specs.Json.{members_json}
use Rattle.eip_route_grammar.specs.Objects.{keyed, keys_of}
use Rattle.eip_route_grammar.specs.Table.{rows}
use Rattle.eip_route_grammar.proofs.keyed.keyed.Given as goal

abbrev pub invariant-loop-member : goal.invariant-loop-member
invariant-loop-member l = keyed (rows l.kind) [] (keys_of (members_json l.members)) ≡ keyed (rows l.kind) l.seen.items (keys_of (members_json (drop l.member-index l.members)))

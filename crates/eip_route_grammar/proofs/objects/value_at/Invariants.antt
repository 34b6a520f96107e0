use Rattle.std.proofs.Common.{◌≡◌, drop}
use Rattle.eip_text.specs.Json.{members_json}
use Rattle.eip_route_grammar.specs.Objects.{value_at}
use Rattle.eip_route_grammar.proofs.objects.value_at.Given as goal

abbrev pub invariant-loop-member : goal.invariant-loop-member
invariant-loop-member l = value_at l.key (members_json l.members) ≡ value_at l.key (members_json (drop l.member-index l.members))

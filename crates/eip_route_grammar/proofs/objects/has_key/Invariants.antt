use Rattle.std.proofs.Common.{◌≡◌, drop}
use Rattle.eip_text.specs.Json.{members_json}
use Rattle.eip_route_grammar.specs.Objects.{has_key}
use Rattle.eip_route_grammar.proofs.objects.has_key.Given as goal

abbrev pub invariant-loop-member : goal.invariant-loop-member
invariant-loop-member l = has_key l.key (members_json l.members) ≡ has_key l.key (members_json (drop l.member-index l.members))

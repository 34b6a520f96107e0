use Rattle.std.proofs.Common.{◌≡◌, ◌++◌, drop}
use Rattle.eip_text.specs.Json.{members_json}
use Rattle.eip_route_grammar.specs.Objects.{parameter_pairs}
use Rattle.eip_route_grammar.proofs.objects.parameter_pairs.Given as goal

abbrev pub invariant-loop-member : goal.invariant-loop-member
invariant-loop-member l = parameter_pairs (members_json l.members) ≡ l.pairs.items ++ parameter_pairs (members_json (drop l.member-index l.members))

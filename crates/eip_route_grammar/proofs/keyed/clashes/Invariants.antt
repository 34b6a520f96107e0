use Rattle.std.proofs.Common.{◌≡◌, drop}
use Rattle.eip_route_grammar.specs.Objects.{clashes}
use Rattle.eip_route_grammar.proofs.keyed.clashes.Given as goal

abbrev pub invariant-loop-other : goal.invariant-loop-other
invariant-loop-other l = clashes l.row l.seen ≡ clashes l.row (drop l.other-index l.seen)

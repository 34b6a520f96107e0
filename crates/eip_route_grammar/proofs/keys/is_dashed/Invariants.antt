use Rattle.std.proofs.Common.{◌≡◌, bytes_eq, drop}
use Rattle.eip_route_grammar.specs.Keys.{dashed}
use Rattle.eip_route_grammar.proofs.keys.is_dashed.Given as goal

abbrev pub invariant-loop-letter : goal.invariant-loop-letter
invariant-loop-letter l = bytes_eq l.text (dashed l.word) ≡ bytes_eq l.rest (dashed (drop l.letter-index l.letter-items))

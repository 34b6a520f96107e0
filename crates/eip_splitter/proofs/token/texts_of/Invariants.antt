use Rattle.std.proofs.Common.{◌≡◌, ◌++◌, drop, map}
use Rattle.eip_splitter.specs.Parts as spec
use Rattle.eip_splitter.proofs.token.texts_of.Given as goal

abbrev pub invariant-loop-piece : goal.invariant-loop-piece
invariant-loop-piece l = l.texts.items ++ spec.ended l.are_lines (map (λ x. x.now) (drop l.piece-index l.pieces)) ≡ spec.ended l.are_lines (map (λ x. x.now) l.pieces)

use Rattle.std.proofs.Common.{◌≡◌, ◌++◌, length, map}
use denote.Text.{Utf8}
use denote.Shadow.{shadow}
use Rattle.eip_pieces.specs.Pieces as spec
use Rattle.eip_pieces.proofs.token.pieces.Given as goal

abbrev pub invariant-loop-piece : goal.invariant-loop-piece
invariant-loop-piece l = record {
  is_text : shadow (Utf8 l.rest);
  so_far : map (λ x. x.now) l.found.items ++ spec.pieces l.token l.rest ≡ spec.pieces l.token l.text;
}

abbrev pub decreases-loop-piece : goal.decreases-loop-piece
decreases-loop-piece l = length l.rest

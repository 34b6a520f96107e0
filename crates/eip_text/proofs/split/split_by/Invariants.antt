use Rattle.std.proofs.Common.{List, ℕ, ◌∷◌, ◌++◌, length}
use denote.Text.{Utf8}
use denote.Shadow.{shadow}
use Rattle.eip_text.specs.Pieces.{Pieces}
use Rattle.eip_text.proofs.split.split_by.Given as goal

abbrev pub invariant-loop-front : goal.invariant-loop-front
invariant-loop-front l = shadow (Utf8 l.rest) × ((q : List ℕ) (ps : List (List ℕ)) → Pieces l.rest l.by (q ∷ ps) → Pieces l.text l.by (l.pieces.items ++ (q ∷ ps)))

abbrev pub decreases-loop-front : goal.decreases-loop-front
decreases-loop-front l = length l.rest

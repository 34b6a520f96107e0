-- Worked rows of the pieces of a text.
use Rattle.std.proofs.Common.{◌≡◌, [], ◌∷◌, refl}
use Rattle.std.specs.Prelude.{codes}
use Rattle.eip_pieces.specs.Pieces.{pieces}

row-commas : pieces (codes ",") (codes "a,b,,c,") ≡ codes "a" ∷ codes "b" ∷ [] ∷ codes "c" ∷ [] ∷ []
row-commas = refl

row-overlap : pieces (codes "--") (codes "a---b") ≡ codes "a" ∷ codes "-b" ∷ []
row-overlap = refl

row-whole : pieces (codes "--") (codes "--") ≡ [] ∷ [] ∷ []
row-whole = refl

row-none : pieces (codes "--") (codes "a-b") ≡ codes "a-b" ∷ []
row-none = refl

row-empty : pieces (codes ",") [] ≡ [] ∷ []
row-empty = refl

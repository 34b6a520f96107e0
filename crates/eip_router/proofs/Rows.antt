-- Worked rows of the items of a list.
use Rattle.std.proofs.Common.{◌≡◌, [], ◌∷◌, refl}
use Rattle.std.specs.Prelude.{codes}
use Rattle.eip_pieces.specs.Pieces.{pieces}
use Rattle.eip_router.specs.Recipients.{items_of}

row-items : items_of (pieces (codes ",") (codes "log:a, ,LOG:b")) ≡ codes "log:a" ∷ codes "LOG:b" ∷ []
row-items = refl

row-blanks : items_of (pieces (codes ";") (codes " \tlog:a b\t ;;x")) ≡ codes "log:a b" ∷ codes "x" ∷ []
row-blanks = refl

row-none : items_of (pieces (codes ",") (codes " ,")) ≡ []
row-none = refl

-- The parts of groups, one group behind the other.
use Rattle.std.proofs.Common.{◌≡◌, ◌∙◌, ◌++◌, List, [], ◌∷◌, filter, map, refl, sym, ap}
use Rattle.std.specs.List.{flat_map}
use Rattle.eip_history.specs.Groups.{Group}
use Rattle.eip_history.specs.Births.{groups}
use Rattle.eip_history.specs.Pieces.{is_of_key, piece_of}
use Rattle.eip_history.proofs.Pieces.{groups-are-pieces, pieces-whole, parts_of}
use Rattle.eip_history_laws.specs.Statements.{EachArrivalOnce}

parts-of-pieces : (gs : List Group) → flat_map parts_of (map piece_of gs) ≡ flat_map (λ (g : Group). g.parts) gs
parts-of-pieces [] = refl
parts-of-pieces (g ∷ gs) = ap (λ xs. g.parts ++ xs) (parts-of-pieces gs)

pub each-once : EachArrivalOnce
each-once s aggregator key past =
    sym (parts-of-pieces (filter (is_of_key aggregator key) (groups s past)))
    ∙ (ap (flat_map parts_of) (groups-are-pieces s aggregator key past) ∙ pieces-whole s aggregator key past)

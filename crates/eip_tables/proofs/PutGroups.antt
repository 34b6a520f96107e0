-- The rows of closed groups' exchanges, one by one.
use Rattle.std.proofs.Common.{◌≡◌, ◌+◌, List, [], ◌∷◌, ◌++◌, length, sym, ap, ◌∙◌, arith, append_assoc, length-append}
use Rattle.eip_aggregator.specs.declared.closed.Closed.{Closed}
use Rattle.eip_route.specs.declared.route.RouteSet.{RouteSet}
use Rattle.eip_tables.specs.Row.{Row}
use Rattle.eip_tables.specs.Groups.{group_row, group_rows}

pub one-more-group : (set : RouteSet) (x : Closed) (old rest : List Closed) (rows new all : List Row) (row : Row) → old ≡ x ∷ rest → row ≡ group_row set (length rows + 1) x → new ≡ rows ++ row ∷ []
    → rows ++ group_rows set (length rows + 1) old ≡ all → new ++ group_rows set (length new + 1) rest ≡ all
one-more-group set x old rest rows new all row split is grown so_far =
    let many : length (rows ++ row ∷ []) + 1 ≡ length rows + 1 + 1 = omega (arith, length-append rows (row ∷ [])) in
    rw (grown, many) (append_assoc rows (row ∷ []) (group_rows set (length rows + 1 + 1) rest)
    ∙ (ap (λ (r : Row). rows ++ r ∷ group_rows set (length rows + 1 + 1) rest) is
    ∙ (ap (λ (xs : List Closed). rows ++ group_rows set (length rows + 1) xs) (sym split) ∙ so_far)))

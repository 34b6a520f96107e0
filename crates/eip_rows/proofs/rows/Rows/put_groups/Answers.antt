use Rattle.std.proofs.Common.{◌≡◌, ℕ, suc, ◌+◌, List, [], ◌∷◌, length, refl, ap, ◌∙◌, arith, length-append}
use Rattle.eip_route.specs.declared.route.RouteSet.{RouteSet}
use Rattle.eip_aggregator.specs.declared.closed.Closed.{Closed}
use Rattle.eip_tables.specs.Groups.{group_rows}
use Rattle.eip_rows.proofs.rows.Rows.put_groups.Goals as goal

-- a row for each group
as-many : (set : RouteSet) (n : ℕ) (xs : List Closed) → length (group_rows set n xs) ≡ length xs
as-many set n [] = refl
as-many set n (x ∷ xs) = ap suc (as-many set (n + 1) xs)

pub returns-clause-spare : goal.returns-clause-spare
returns-clause-spare c =
    let many : length c.put_groups.new.rows.items ≡ length c.self.inside.rows.items + length c.args.closed.items =
    ap length c.put_groups.ensures.items
    ∙ (length-append c.self.inside.rows.items _ ∙ ap (λ n. length c.self.inside.rows.items + n) (as-many c.args.set.now (length c.self.inside.rows.items + 1) c.args.closed.items)) in
    rw (← c.self.view_is) (omega (arith, many, c.put_groups.ensures.room, c.put_groups.ensures.rooms))

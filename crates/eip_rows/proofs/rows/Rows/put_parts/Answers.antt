use Rattle.std.proofs.Common.{◌≡◌, ℕ, suc, ◌+◌, List, [], ◌∷◌, length, refl, ap, ◌∙◌, arith, length-append}
use Rattle.eip_frames.specs.declared.request.Seed.{Seed}
use Rattle.eip_tables.specs.declared.parts.Parent.{Parent}
use Rattle.eip_tables.specs.Parts.{seed_rows}
use Rattle.eip_rows.proofs.rows.Rows.put_parts.Goals as goal

-- a row for each part
as-many : (p : Parent) (n i : ℕ) (ds : List Seed) → length (seed_rows p n i ds) ≡ length ds
as-many p n i [] = refl
as-many p n i (d ∷ ds) = ap suc (as-many p (n + 1) (i + 1) ds)

pub returns-clause-spare : goal.returns-clause-spare
returns-clause-spare c =
    let many : length c.put_parts.new.rows.items ≡ length c.self.inside.rows.items + length c.args.seeds.items =
    ap length c.put_parts.ensures.items
    ∙ (length-append c.self.inside.rows.items _ ∙ ap (λ n. length c.self.inside.rows.items + n) (as-many c.args.parent (length c.self.inside.rows.items + 1) c.args.parent.at.index c.args.seeds.items)) in
    rw (← c.self.view_is) (omega (arith, many, c.put_parts.ensures.room, c.put_parts.ensures.rooms))

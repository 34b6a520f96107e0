use Rattle.std.proofs.Common.{◌≡◌, refl, subst}
use Rattle.eip_tables.specs.Row.{Row}
use Rattle.eip_tables.specs.Look.{LookedAt}
use Rattle.eip_rows.proofs.There.{row-there, on-ok}
use Rattle.eip_rows.proofs.rows.Rows.look.Goals as goal

pub look_at-requires : goal.look_at-requires
look_at-requires c =
    let within = rw (← c.self.view_is) at c.requires.within in
    c.requires.cursor c.index_mut.result.now (rw (← c.self.view_is) (row-there c.self.inside.rows.items c.args.number c.index_mut.result.now c.requires.above within c.index_mut.ensures.value))

pub returns-clause-ok : goal.returns-clause-ok
returns-clause-ok c =
    let within = rw (← c.self.view_is) at c.requires.within in
    let there = row-there c.self.inside.rows.items c.args.number c.index_mut.result.now c.requires.above within c.index_mut.ensures.value in
    on-ok c.look_at.result _ _
    (λ looked r at.
    let here = rw (← c.self.view_is) at at in
    let same : c.index_mut.result.now ≡ r = cc in
    (c.look_at.new.row, rw (← c.self.view_is) refl, subst (λ (x : Row). LookedAt c.args.set.now c.args.answer.now x c.look_at.new.row) same looked))
    c.look_at.ensures.ok

use Rattle.std.proofs.Common.{◌≡◌, refl, subst}
use Rattle.eip_tables.specs.Row.{Row}
use Rattle.eip_tables.specs.Look.{FirstSeen}
use Rattle.eip_rows.proofs.There.{row-there, on-ok}
use Rattle.eip_rows.proofs.rows.Rows.begin.Goals as goal

pub look_first-requires : goal.look_first-requires
look_first-requires c =
    let within = rw (← c.self.view_is) at c.requires.within in
    c.requires.birth c.index_mut.result.now (rw (← c.self.view_is) (row-there c.self.inside.rows.items c.args.number c.index_mut.result.now c.requires.above within c.index_mut.ensures.value))

pub returns-clause-ok : goal.returns-clause-ok
returns-clause-ok c =
    let within = rw (← c.self.view_is) at c.requires.within in
    let there = row-there c.self.inside.rows.items c.args.number c.index_mut.result.now c.requires.above within c.index_mut.ensures.value in
    on-ok c.look_first.result _ _
    (λ looked r at.
    let here = rw (← c.self.view_is) at at in
    let same : c.index_mut.result.now ≡ r = cc in
    (c.look_first.new.row, rw (← c.self.view_is) refl, subst (λ (x : Row). FirstSeen c.args.set.now c.args.entries.now c.args.number x c.look_first.new.row) same looked))
    c.look_first.ensures.ok

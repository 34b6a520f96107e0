use Rattle.eip_rows.proofs.There.{row-there}
use Rattle.eip_rows.proofs.rows.Rows.end_by.Goals as goal

pub end_by-requires : goal.end_by-requires
end_by-requires c =
    let within = rw (← c.self.view_is) at c.requires.within in
    c.requires.lives c.index_mut.result.now (rw (← c.self.view_is) (row-there c.self.inside.rows.items c.args.number c.index_mut.result.now c.requires.above within c.index_mut.ensures.value))

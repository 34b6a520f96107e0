use Rattle.std.proofs.Common.{arith, ◌∙◌}
use Rattle.eip_tables.proofs.PutIn.{insert-place, unless-full}
use Rattle.eip_tables.proofs.rising.RisingNumbers.put_in.Goals as goal

pub returns-clause-numbers : goal.returns-clause-numbers
returns-clause-numbers c =
    let room = rw (← c.self.view_is) at c.requires.room in
    let done = unless-full c.insert.result c.insert.ensures.items c.insert.ensures.full (λ full. omega (arith, room, full)) in
    rw (← c.self.view_is) (done ∙ rw (← c.place_of-at.ensures.place) (insert-place c.args.number c.self.inside.numbers.items))

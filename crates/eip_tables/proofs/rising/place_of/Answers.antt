use Rattle.std.proofs.lemmas.List.Sorted.{searched}
use Rattle.eip_tables.proofs.NumbersRise.{rising-order, place-behind, place-between}
use Rattle.eip_tables.proofs.rising.place_of.Goals as goal

pub returns-in-Ok-clause-place : goal.returns-in-Ok-clause-place
returns-in-Ok-clause-place c =
    let numbers = c.args.numbers.now.items in
    let found = rw c.in-Ok.is at (searched numbers c.args.number c.binary_search.result c.binary_search.ensures.position (rising-order 0 numbers c.requires)) in
    place-behind 0 c.args.number c.in-Ok.at numbers c.requires found.0 found.1

pub returns-in-Err-clause-place : goal.returns-in-Err-clause-place
returns-in-Err-clause-place c =
    let numbers = c.args.numbers.now.items in
    let found = rw c.in-Err.is at (searched numbers c.args.number c.binary_search.result c.binary_search.ensures.position (rising-order 0 numbers c.requires)) in
    place-between c.args.number c.in-Err.at numbers found.0 found.1 found.2

use Rattle.std.proofs.Common.{◌≡◌, rules, length}
use Rattle.eip_resequence.proofs.Parsing.{pairs_done, one_left}
use Rattle.eip_resequence.proofs.unpacking.pairs_of.Goals as goal

pub returns-then-is_empty : goal.returns-then-is_empty
returns-then-is_empty c =
    let none : length c.loop-rest.rest.now ≡ 0 = search rules in
    pairs_done c.loop-rest.rest.now c.loop-rest.pairs.items _ none c.loop-rest.invariant.some

pub returns-else-is_empty : goal.returns-else-is_empty
returns-else-is_empty c = λ _.
    let some : length c.loop-rest.rest.now ≡ 0 → ⊥ = search rules in
    one_left c.loop-rest.rest.now _ c.in_default.len_below some c.loop-rest.invariant.none

use Rattle.std.proofs.Common.{◌≡◌, length, None, vec_capacity, sym, arith}
use Rattle.std.proofs.lemmas.List.{length-replicate}
use Rattle.eip_join.specs.Parts.{no_ends}
use Rattle.eip_join.proofs.Ends.{all_left}
use Rattle.eip_join.proofs.open_join.OpenJoin.new.Goals as goal

pub invariant_of-result : goal.invariant_of-result
invariant_of-result c =
    let all : length (no_ends c.args.count) ≡ c.args.count = length-replicate c.args.count None in
    let room : vec_capacity c.in_ok-room.room ≡ c.args.count = c.in_ok-room.ensures.exact in
    rw c.in_ok-ends.ensures (sym (all_left c.args.count), c.in_ok-room.ensures.items, omega arith)

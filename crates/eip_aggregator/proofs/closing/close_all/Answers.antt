use Rattle.std.proofs.Common.{◌≡◌, suc, length, ap, arith}
use Rattle.eip_aggregator.proofs.Together.{closing_none, closing_more, open_still, spare_more}
use Rattle.eip_aggregator.proofs.closing.close_all.Goals as goal

pub loop-number-init : goal.loop-number-init
loop-number-init c = record {
  so_far = closing_none c.args.cause c.args.numbers c.args.places.now c.args.room.items c.requires.empty;
  spare = let none : length c.args.room.items ≡ 0 = ap length c.requires.empty in omega arith;
}

pub close_one-group-requires : goal.close_one-group-requires
close_one-group-requires c =
    open_still c.args.cause c.args.numbers c.loop-number.numbers c.args.places.now c.loop-number.places c.loop-number.closed.items c.in-Some.number
    c.loop-number.invariant.so_far c.requires.open c.in-Some.ensures.member

pub add-requires : goal.add-requires
add-requires c =
    let shorter : length c.loop-number.numbers.keys ≡ suc (length c.pop_first.new.self.keys) = ap length c.in-Some.ensures.removal in
    omega arith

pub loop-number-preserved : goal.loop-number-preserved
loop-number-preserved c = record {
  so_far =
      closing_more c.args.cause c.args.numbers c.loop-number.numbers c.pop_first.new.self c.args.places.now c.loop-number.places c.close_one-group.new.places
      c.loop-number.closed.items c.add.new.closed.items c.close_one-group.result c.in-Some.number
      c.loop-number.invariant.so_far c.in-Some.ensures.removal c.in-Some.ensures.member c.in-Some.ensures.updates.0
      c.close_one-group.ensures.group c.close_one-group.ensures.rest c.add.ensures.items;
  spare =
      spare_more c.loop-number.closed.items c.add.new.closed.items c.close_one-group.result c.loop-number.numbers.keys c.pop_first.new.self.keys c.in-Some.number _ _
      c.add.ensures.items c.in-Some.ensures.removal c.loop-number.invariant.spare c.add.ensures.spare;
}

use Rattle.std.proofs.Common.{rules, ◌≡◌, ◌+◌, ◌∷◌, [], suc, length, ap, arith, length-append}
use Rattle.eip_tables.proofs.PutGroups.{one-more-group}
use Rattle.eip_tables.specs.Groups.{group_row}
use Rattle.eip_tables.proofs.groups.put_groups.Goals as goal

pub loop-group-preserved : goal.loop-group-preserved
loop-group-preserved c =
    let split : c.loop-group.rest.items ≡ c.in-Some.group ∷ c.pop_front.new.self.items = c.in-Some.ensures.items in
    let many : length c.loop-group.rest.items ≡ suc (length c.pop_front.new.self.items) = ap length split in
    let number : c.len.result + 1 ≡ length c.loop-group.rows.items + 1 = search rules in
    let row : c.newborn_of.result ≡ group_row c.args.set.now (length c.loop-group.rows.items + 1) c.in-Some.group = rw number at c.newborn_of.ensures in
    record {
      so_far = one-more-group c.args.set.now c.in-Some.group c.loop-group.rest.items c.pop_front.new.self.items c.loop-group.rows.items c.put_newborn.new.rows.items _ c.newborn_of.result split row c.put_newborn.ensures.items c.loop-group.invariant.so_far;
      room = let grown = ap length c.put_newborn.ensures.items in let one = length-append c.loop-group.rows.items (c.newborn_of.result ∷ []) in omega (arith, grown, one, many, c.loop-group.invariant.room, c.put_newborn.ensures.room);
      grows = search rules;
      rooms = omega (arith, many, c.put_newborn.ensures.rooms, c.loop-group.invariant.rooms);
      fewer = omega (arith, many, c.put_newborn.ensures.rooms, c.loop-group.invariant.fewer);
    }

use Rattle.std.proofs.Common.{rules, ◌≡◌, ◌+◌, ◌++◌, ◌∷◌, [], suc, length, refl, ap, ◌∙◌, arith, length-append}
use Rattle.eip_tables.proofs.PutParts.{one-more, one-fault-fewer}
use Rattle.eip_tables.specs.Moves.{part_row}
use Rattle.eip_tables.specs.Parts.{seed_birth, starving_faults}
use Rattle.eip_tables.proofs.parts.put_parts.Goals as goal

pub loop-seed-preserved : goal.loop-seed-preserved
loop-seed-preserved c =
    let split : c.loop-seed.rest.items ≡ c.in-Some.seed ∷ c.pop_front.new.self.items = c.in-Some.ensures.items in
    let last : c.loop-seed.faults.items ≡ c.pop.new.self.items ++ c.in-Some-pop.fault ∷ [] = c.in-Some-pop.ensures.items in
    let many : length c.loop-seed.rest.items ≡ suc (length c.pop_front.new.self.items) = ap length split in
    let number : c.len.result + 1 ≡ length c.loop-seed.rows.items + 1 = search rules in
    let index : c.args.parent.at.index + (c.loop-seed.done + 1) ≡ c.args.parent.at.index + c.loop-seed.done + 1 = omega arith in
    let birth : c.birth_of-birth.result ≡ seed_birth c.args.parent (length c.loop-seed.rows.items + 1) (c.args.parent.at.index + c.loop-seed.done) c.in-Some.seed = rw number at c.birth_of-birth.ensures in
    let row : c.part-part.result ≡ part_row c.args.parent.number (c.args.parent.at.index + c.loop-seed.done) (seed_birth c.args.parent (length c.loop-seed.rows.items + 1) (c.args.parent.at.index + c.loop-seed.done) c.in-Some.seed) = rw birth at c.part-part.ensures in
    record {
      so_far = rw index (one-more c.args.parent (c.args.parent.at.index + c.loop-seed.done) c.in-Some.seed c.loop-seed.rest.items c.pop_front.new.self.items c.loop-seed.rows.items c.put_newborn.new.rows.items _ c.part-part.result split row c.put_newborn.ensures.items c.loop-seed.invariant.so_far);
      parent = refl;
      many = omega (arith, many, c.loop-seed.invariant.many);
      faults = (one-fault-fewer (length c.pop_front.new.self.items) c.loop-seed.faults.items c.pop.new.self.items c.in-Some-pop.fault last (c.loop-seed.invariant.faults ∙ ap starving_faults many)).1;
      room = let grown = ap length c.put_newborn.ensures.items in let one = length-append c.loop-seed.rows.items (c.part-part.result ∷ []) in omega (arith, grown, one, many, c.loop-seed.invariant.room, c.put_newborn.ensures.room);
      grows = search rules;
      rooms = omega (arith, many, c.put_newborn.ensures.rooms, c.loop-seed.invariant.rooms);
      fewer = omega (arith, many, c.put_newborn.ensures.rooms, c.loop-seed.invariant.fewer);
    }

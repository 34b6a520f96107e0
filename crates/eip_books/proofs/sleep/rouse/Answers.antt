use Rattle.std.proofs.Common.{arith, length, refl, sym, ap, ◌∙◌}
use Rattle.eip_tables.specs.Rows.{row_ready}
use Rattle.eip_tables.specs.Sleepers.{roused_rows}
use Rattle.eip_tables.proofs.NumbersRise.{numbers-rise}
use Rattle.eip_books.proofs.Rousing.{first-one, woken-rows, woken-numbers, woken-live, room-for, fewer-asleep, woken-roused, woken-told, all-roused}
use Rattle.eip_books.proofs.sleep.rouse.Goals as goal

pub wake-requires-in-Some-clause-above : goal.wake-requires-in-Some-clause-above
wake-requires-in-Some-clause-above c =
    let told = c.loop-number.invariant.told in
    let one = first-one c.loop-number.rows.items c.loop-number.sleepers told c.args.now c.in-Some.number (rw c.in-Some.is at c.wake.ensures.sleeper told.calls told.stands) in
    one.2.above

pub wake-requires-in-Some-clause-within : goal.wake-requires-in-Some-clause-within
wake-requires-in-Some-clause-within c =
    let told = c.loop-number.invariant.told in
    let one = first-one c.loop-number.rows.items c.loop-number.sleepers told c.args.now c.in-Some.number (rw c.in-Some.is at c.wake.ensures.sleeper told.calls told.stands) in
    one.2.within

pub put_in-requires-clause-rising : goal.put_in-requires-clause-rising
put_in-requires-clause-rising c = rw c.loop-number.invariant.numbers (numbers-rise row_ready c.loop-number.rows.items)

pub put_in-requires-clause-room : goal.put_in-requires-clause-room
put_in-requires-clause-room c =
    let told = c.loop-number.invariant.told in
    let one = first-one c.loop-number.rows.items c.loop-number.sleepers told c.args.now c.in-Some.number (rw c.in-Some.is at c.wake.ensures.sleeper told.calls told.stands) in
    let few = room-for c.loop-number.rows.items c.in-Some.number one.0 c.args.now one.2 one.1 in
    let many = ap length c.loop-number.invariant.numbers in
    omega (arith, few, many, c.loop-number.invariant.room)

pub loop-number-preserved : goal.loop-number-preserved
loop-number-preserved c =
    let told = c.loop-number.invariant.told in
    let one = first-one c.loop-number.rows.items c.loop-number.sleepers told c.args.now c.in-Some.number (rw c.in-Some.is at c.wake.ensures.sleeper told.calls told.stands) in
    let rows = c.loop-number.rows.items in
    let x = c.in-Some.number in
    let behind = c.wake-in-Some.ensures.items ∙ woken-rows rows x one.0 c.args.now one.2 one.1 in
    let stands = rw c.in-Some.is at c.wake.ensures.stands told.calls told.stands in
    record {
      so_far = ap (roused_rows c.args.now) behind ∙ (woken-roused rows x one.0 c.args.now one.2 one.1 ∙ c.loop-number.invariant.so_far);
      now = refl;
      told = rw behind (woken-told rows x one.0 c.args.now one.2 one.1 c.loop-number.sleepers c.wake.new.self told stands);
      numbers = c.put_in.ensures.numbers ∙ rw (behind, c.loop-number.invariant.numbers) (sym (woken-numbers rows x one.0 c.args.now one.2 one.1));
      room = rw behind (let same = woken-live rows x one.0 c.args.now one.2 one.1 in omega (arith, same, c.loop-number.invariant.room, c.put_in.ensures.capacity));
      spare = omega (arith, c.wake-in-Some.ensures.spare, c.loop-number.invariant.spare);
      holds = omega (arith, c.put_in.ensures.capacity, c.loop-number.invariant.holds);
    }

pub loop-number-smaller : goal.loop-number-smaller
loop-number-smaller c =
    let told = c.loop-number.invariant.told in
    let one = first-one c.loop-number.rows.items c.loop-number.sleepers told c.args.now c.in-Some.number (rw c.in-Some.is at c.wake.ensures.sleeper told.calls told.stands) in
    let behind = c.wake-in-Some.ensures.items ∙ woken-rows c.loop-number.rows.items c.in-Some.number one.0 c.args.now one.2 one.1 in
    rw behind (fewer-asleep c.loop-number.rows.items c.in-Some.number one.0 c.args.now one.2 one.1)

pub returns-clause-rows : goal.returns-clause-rows
returns-clause-rows c =
    let told = c.loop-number.invariant.told in
    sym (all-roused c.args.now c.loop-number.rows.items c.loop-number.sleepers told (rw c.in_default.is at c.wake.ensures.sleeper told.calls told.stands)) ∙ c.loop-number.invariant.so_far

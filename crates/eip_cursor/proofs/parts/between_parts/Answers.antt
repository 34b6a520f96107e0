use Rattle.eip_cursor.proofs.Staying.{stays_or}
use Rattle.eip_cursor.proofs.parts.between_parts.Goals as goal

pub returns-in-Trying-clause-ok : goal.returns-in-Trying-clause-ok
returns-in-Trying-clause-ok c =
    rw c.in-Trying.is
    (stays_or c.args.set.now c.in-Trying.context c.in-Trying.task c.in-Trying.left c.in-Trying.message c.in-Trying.asking c.next_asking.new.asking c.args.answer.now c.stop_of-stop.result c.args.place.now c.next_asking.new.place c.next_asking.result
    (rw c.in-Trying.is at c.requires) c.stop_of-stop.ensures (rw c.get_mut.ensures.value at c.next_asking.ensures.ok))

use Rattle.eip_meaning.specs.Meaning.{item_of}
use Rattle.eip_progress.specs.Rest.{rest}
use Rattle.eip_cursor.proofs.Fitting.{fits_wait}
use Rattle.eip_cursor.proofs.Following.{wait_moved}
use Rattle.eip_cursor.proofs.going.goes_to_next_part.Goals as goal

pub between_parts-requires : goal.between_parts-requires
unfolding rest
between_parts-requires c =
    let h = rw c.in-Runs.is at c.requires in
    fits_wait c.args.set.now c.args.cursor.now.commit (item_of c.args.cursor.now.origin) c.args.cursor.now.context c.args.cursor.now.whole c.args.cursor.now.stack.items c.in-Runs.wait c.args.answer.now h

pub returns-in-Runs-clause-ok : goal.returns-in-Runs-clause-ok
returns-in-Runs-clause-ok c =
    wait_moved c.args.set.now c.args.cursor.now c.in-Runs.wait c.between_parts.new.wait c.args.answer.now c.args.place.now c.between_parts.new.place c.between_parts.result c.in-Runs.is c.between_parts.ensures.ok

use Rattle.eip_dump.proofs.ReadLines.{dump_read}
use Rattle.eip_dump.proofs.dump_reader.read_dump.Goals as goal

pub returns : goal.returns
returns c =
    dump_read c.in_ok-first.first c.new-journal.result c.read_lines.new.journal c.args.bytes.now c.in_ok-first.rest.now c.in_ok-first.ensures.1 c.in_ok-first.ensures.0 c.new-journal.ensures.workers c.new-journal.ensures.turns
    c.in_ok-read_lines.ensures

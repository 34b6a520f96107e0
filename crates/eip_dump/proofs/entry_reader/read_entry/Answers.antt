use Rattle.std.proofs.Common.{refl}
use Rattle.eip_dump.proofs.AgainEntries.{is_line, is_longer, is_no_line, none_left, some_left}
use Rattle.eip_dump.proofs.entry_reader.read_entry.Goals as goal

pub returns-in-Err-Bad : goal.returns-in-Err-Bad
returns-in-Err-Bad c = (refl, is_no_line c.args.line.now (rw c.in-Err-Bad.field-0-is at c.in-Err-Bad.ensures.reads))

pub returns-then-not-is_empty : goal.returns-then-not-is_empty
returns-then-not-is_empty c =
    (refl, λ e i line. is_longer c.args.line.now c.in-Ok.read.1.now c.in-Ok.read.0 e c.in-Ok.ensures.reads (some_left c.is_empty.result c.in-Ok.read.1.now c.is_empty.ensures c.if-not-is_empty.true) i line)

pub returns : goal.returns
returns c = (is_line c.args.line.now c.in-Ok.read.1.now c.in-Ok.read.0 c.in-Ok.ensures.reads (none_left c.is_empty.result c.in-Ok.read.1.now c.is_empty.ensures c.if-not-is_empty.false), c.in-Ok.ensures.kept)

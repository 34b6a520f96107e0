use Rattle.std.proofs.Common.{refl}
use Rattle.eip_dump.proofs.AgainDumps.{first_is, is_no_first}
use Rattle.eip_dump.proofs.dump_reader.first_limits.Goals as goal

pub returns-in-Ok : goal.returns-in-Ok
returns-in-Ok c =
    let first = first_is c.in-Ok.read.0 c.args.bytes.now c.in-Ok.read.1.now c.in-Ok.ensures.reads in
    (c.in-Ok.ensures.is_first, first.0)

pub returns-in-Err-Bad : goal.returns-in-Err-Bad
returns-in-Err-Bad c = (refl, is_no_first c.args.bytes.now (rw c.in-Err-Bad.field-0-is at c.in-Err-Bad.ensures.reads))

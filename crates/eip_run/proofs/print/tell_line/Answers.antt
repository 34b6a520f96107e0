use Rattle.eip_run.proofs.Telling.{told-line, untold-line}
use Rattle.eip_run.proofs.print.tell_line.Goals as goal

pub returns-in-Ok : goal.returns-in-Ok
returns-in-Ok g c = told-line _ _ _ _ c.in-Ok.is c.as_str.ensures c.tell.ensures

pub returns-in-Err : goal.returns-in-Err
returns-in-Err g c = untold-line _ _ _ c.in-Err.is c.tell_memory.ensures

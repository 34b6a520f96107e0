use Rattle.eip_run.proofs.Telling.{told-verdict, told-unjudged}
use Rattle.eip_run.proofs.print.tell_verdict.Goals as goal

pub returns-in-Ok : goal.returns-in-Ok
returns-in-Ok g c = told-verdict _ _ _ _ c.in-Ok.is c.of_verdict.ensures c.verdict_line.ensures c.tell_line.ensures

pub returns-in-Err : goal.returns-in-Err
returns-in-Err g c = told-unjudged _ _ c.in-Err.is c.tell_no_journal.ensures

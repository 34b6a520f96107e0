use Rattle.eip_run.proofs.Telling.{told-migrated, told-unmoved}
use Rattle.eip_run.proofs.print.tell_migration.Goals as goal

pub returns-in-Ok : goal.returns-in-Ok
returns-in-Ok g c = told-migrated _ _ _ c.in-Ok.is c.number_line.ensures c.tell_line.ensures

pub returns-in-Err : goal.returns-in-Err
returns-in-Err g c = told-unmoved _ _ c.in-Err.is c.tell_no_journal.ensures

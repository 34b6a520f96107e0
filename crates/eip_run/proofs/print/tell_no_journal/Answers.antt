use Rattle.std.proofs.Common.{refl, codes}
use Rattle.eip_run.specs.Printed.{OfUnread, OfPoor}
use Rattle.eip_run.proofs.Telling.{told-no-journal, told-bad-line}
use Rattle.eip_run.proofs.print.tell_no_journal.Goals as goal

pub returns-in-BadDump : goal.returns-in-BadDump
returns-in-BadDump g c = told-bad-line _ _ _ c.in-BadDump.is c.number_line.ensures c.tell_line.ensures

pub returns-in-FilesFault : goal.returns-in-FilesFault
returns-in-FilesFault g c = told-no-journal _ _ _ (codes "error files\n") _ c.in-FilesFault.is OfUnread refl c.tell.ensures

pub returns-in-NoMemory : goal.returns-in-NoMemory
returns-in-NoMemory g c = told-no-journal _ _ _ (codes "error memory\n") _ c.in-NoMemory.is OfPoor refl c.tell_memory.ensures

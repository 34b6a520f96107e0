use Rattle.std.proofs.Common.{refl, ◌∙◌, codes}
use Rattle.eip_run.specs.Printed.{OfText, OfNone}
use Rattle.eip_run.proofs.Telling.{told-check}
use Rattle.eip_run.proofs.print.tell_check.Goals as goal

pub returns-in-Ok : goal.returns-in-Ok
returns-in-Ok g c = told-check _ _ _ _ OfText (c.as_str.ensures ∙ c.in-Ok.ensures) c.tell.ensures

pub returns-in-Err : goal.returns-in-Err
returns-in-Err g c = told-check _ _ (codes "error memory\n") _ OfNone refl c.tell_memory.ensures

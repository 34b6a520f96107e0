use Rattle.std.proofs.Common.{◌∙◌, inl, inr}
use Rattle.eip_run.proofs.Telling.{told-text}
use Rattle.eip_run.proofs.print.tell_account.Goals as goal

pub returns-in-Ok : goal.returns-in-Ok
returns-in-Ok g c = inl (told-text _ _ _ (c.as_str.ensures ∙ c.in-Ok.ensures) c.tell.ensures)

pub returns-in-Err : goal.returns-in-Err
returns-in-Err g c = inr c.tell_memory.ensures

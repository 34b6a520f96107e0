use Rattle.std.proofs.Common.{refl, codes}
use Rattle.eip_run.specs.Printed.{OfStarved, OfNoText}
use Rattle.eip_run.proofs.Telling.{told-run, told-account, told-failed, was-made}
use Rattle.eip_run.proofs.print.tell_run.Goals as goal

pub returns-in-NoMemory : goal.returns-in-NoMemory
returns-in-NoMemory g c = told-run _ _ _ _ _ _ _ (codes "error memory\n") _ c.in-NoMemory.is OfStarved refl c.tell_memory.ensures

pub returns-in-Ok : goal.returns-in-Ok
returns-in-Ok g c = told-account _ _ _ _ _ _ _ c.in_default.not-NoMemory c.in-Ok.is (was-made _ tt) refl c.tell_account.ensures

pub returns-in-Err-Failed : goal.returns-in-Err-Failed
returns-in-Err-Failed g c =
    told-failed _ _ _ _ _ _ _ c.in_default.not-NoMemory c.in-Err-Failed.is (rw c.in-Err-Failed.is at c.in-Err-Failed.field-0-is) c.unkept.ensures c.tell_account-in-Err-Failed.ensures

pub returns-in-Err-NoMemory : goal.returns-in-Err-NoMemory
returns-in-Err-NoMemory g c = told-run _ _ _ _ _ _ _ (codes "error memory\n") _ refl (OfNoText c.args.stop c.in_default.not-NoMemory) refl c.tell_memory-in-Err-NoMemory.ensures

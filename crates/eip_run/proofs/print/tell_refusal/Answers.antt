use Rattle.std.proofs.Common.{refl, ◌∙◌, codes}
use Rattle.eip_run.specs.Printed.{OfWords, OfFiles, OfRoutes, OfNoLine, OfMemory}
use Rattle.eip_run.proofs.Telling.{told-refusal}
use Rattle.eip_run.proofs.print.tell_refusal.Goals as goal

pub returns-in-Words : goal.returns-in-Words
returns-in-Words g c = told-refusal _ _ _ (codes "error words\n") _ c.in-Words.is OfWords refl c.tell.ensures

pub returns-in-FilesFault : goal.returns-in-FilesFault
returns-in-FilesFault g c = told-refusal _ _ _ (codes "error files\n") _ c.in-FilesFault.is OfFiles refl c.tell-in-FilesFault.ensures

pub returns-in-NoMemory : goal.returns-in-NoMemory
returns-in-NoMemory g c = told-refusal _ _ _ (codes "error memory\n") _ c.in-NoMemory.is OfMemory refl c.tell_memory.ensures

pub returns-in-Ok : goal.returns-in-Ok
returns-in-Ok g c = told-refusal _ _ _ _ _ c.in-Routes.is (OfRoutes c.in-Routes.fault) (c.as_str.ensures ∙ c.in-Ok.ensures) c.tell-in-Ok.ensures

pub returns-in-Err : goal.returns-in-Err
returns-in-Err g c = told-refusal _ _ _ (codes "error memory\n") _ c.in-Routes.is (OfNoLine c.in-Routes.fault) refl c.tell_memory-in-Err.ensures

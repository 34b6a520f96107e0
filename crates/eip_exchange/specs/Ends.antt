-- Ends and faults.
use Rattle.std.specs.Prelude.{ℕ, List, [], codes}
use Rattle.eip_exchange.specs.declared.end.End.{End}
use Rattle.eip_exchange.specs.declared.end.End.TheVariants as end
use Rattle.eip_exchange.specs.declared.end.Ending.{Ending}
use Rattle.eip_exchange.specs.declared.end.Ending.TheVariants as ending
use Rattle.eip_exchange.specs.declared.end.Fault.{Fault}

abbrev pub ending_of : End → Ending
ending_of end.Completed = ending.Completed
ending_of end.Handled = ending.Handled
ending_of (end.Failed f) = ending.Failed

-- a fault by its kind and text
abbrev pub fault : List ℕ → List ℕ → Fault
fault kind text = record { kind = kind; text = text }

-- the end of an exchange that was starved of memory
abbrev pub out_of_memory : End
out_of_memory = end.Failed (fault (codes "OutOfMemory") [])

-- the end of an exchange whose source did not take its commit of this item
abbrev pub commit_failed : List ℕ → End
commit_failed item = end.Failed (fault (codes "CommitFailed") item)

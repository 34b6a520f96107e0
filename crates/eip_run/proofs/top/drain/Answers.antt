use Rattle.std.proofs.Common.{refl, ap, sym, ◌∙◌}
use Rattle.eip_ledger.specs.View.{JournalView}
use Rattle.eip_run.specs.Drained.{RanTo, NotBegun}
use Rattle.eip_run.proofs.Ending.{kept-along, told-along}
use Rattle.eip_run.proofs.Running.{ran-along}
use Rattle.eip_run.proofs.top.drain.Goals as goal

pub returns-in_default : goal.returns-in_default
returns-in_default g c = record { drained = NotBegun _ c.unused_journal.ensures refl refl refl refl c.tell_memory-outcome.ensures }

pub returns : goal.returns
returns g c = record {
  drained = RanTo _ c.keep_journal-kept.result _
      (ran-along _ _ _ _ _ _ _ _ _ _ _ _ c.in-Ok.ensures.set c.in-Ok.ensures.turns c.into_journal.ensures c.drain_hub-hub.ensures.ran)
      (kept-along _ _ _ _ _ _ _ _ (c.journal.ensures.journal ∙ sym c.into_journal.ensures) c.keep_journal-kept.ensures)
      (told-along (c.drain_hub-hub.ensures.set ∙ c.in-Ok.ensures.set) (ap (λ (j : JournalView). j.past) (sym c.into_journal.ensures)) c.tell_run-outcome.ensures);
}

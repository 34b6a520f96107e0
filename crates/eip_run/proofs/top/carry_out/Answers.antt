use Rattle.std.proofs.Common.{Ok, refl, ap}
use Rattle.eip_run.proofs.Ending.{prepared-runs, prepared-terms, loaded-runs, loaded-terms, audited-runs, reports-drained, reports-loaded, reports-checked, reports-judged, reports-migrated, reports-refused}
use Rattle.eip_run.proofs.top.carry_out.Goals as goal

pub drain-requires-clause-few : goal.drain-requires-clause-few
drain-requires-clause-few g c κs within = (prepared-runs _ _ _ _ _ _ c.in-Ok-Drain.ensures.answer (ap Ok c.in-Ok-Drain.field-0-is)).few

pub drain-requires-clause-can_run : goal.drain-requires-clause-can_run
drain-requires-clause-can_run g c κs within = (prepared-runs _ _ _ _ _ _ c.in-Ok-Drain.ensures.answer (ap Ok c.in-Ok-Drain.field-0-is)).can_run

pub drain-requires-clause-some : goal.drain-requires-clause-some
drain-requires-clause-some g c κs within = (prepared-terms _ _ _ _ _ _ c.in-Ok-Drain.ensures.answer (ap Ok c.in-Ok-Drain.field-0-is)).1

pub drain-requires-clause-limit : goal.drain-requires-clause-limit
drain-requires-clause-limit g c κs within = (prepared-terms _ _ _ _ _ _ c.in-Ok-Drain.ensures.answer (ap Ok c.in-Ok-Drain.field-0-is)).2

pub drain-requires-clause-workers : goal.drain-requires-clause-workers
drain-requires-clause-workers g c κs within = (prepared-terms _ _ _ _ _ _ c.in-Ok-Drain.ensures.answer (ap Ok c.in-Ok-Drain.field-0-is)).0

pub returns-in-Ok-Drain : goal.returns-in-Ok-Drain
returns-in-Ok-Drain g c = record {
  report =
      reports-drained _ _ _ _ _ _ _ _ c.in-Ok-Drain.ensures.answer (ap Ok c.in-Ok-Drain.field-0-is) c.in-Ok-Drain.ensures.files c.drain.ensures.drained;
}

pub drain-requires-in-Ok-Load-clause-few : goal.drain-requires-in-Ok-Load-clause-few
drain-requires-in-Ok-Load-clause-few g c κs within = (loaded-runs _ _ _ _ c.in-Ok-Load.ensures.answer (ap Ok c.in-Ok-Load.field-0-is)).few

pub drain-requires-in-Ok-Load-clause-can_run : goal.drain-requires-in-Ok-Load-clause-can_run
drain-requires-in-Ok-Load-clause-can_run g c κs within = (loaded-runs _ _ _ _ c.in-Ok-Load.ensures.answer (ap Ok c.in-Ok-Load.field-0-is)).can_run

pub drain-requires-in-Ok-Load-clause-workers : goal.drain-requires-in-Ok-Load-clause-workers
drain-requires-in-Ok-Load-clause-workers g c κs within = loaded-terms _ _ _ _ c.in-Ok-Load.ensures.answer (ap Ok c.in-Ok-Load.field-0-is)

pub returns-in-Ok-Load : goal.returns-in-Ok-Load
returns-in-Ok-Load g c = record {
  report =
      reports-loaded _ _ _ _ _ _ c.in-Ok-Load.ensures.answer (ap Ok c.in-Ok-Load.field-0-is) c.in-Ok-Load.ensures.files c.drain-in-Ok-Load.ensures.drained;
}

pub returns-in-Ok-Check : goal.returns-in-Ok-Check
returns-in-Ok-Check g c = record {
  report =
      reports-checked _ _ _ c.in-Ok-Check.ensures.answer (ap Ok c.in-Ok-Check.field-0-is)
      (record { files = c.in-Ok-Check.ensures.files; idle = record { lanes = refl; inlets = refl; journal = c.unused_journal.ensures } }) c.tell_check.ensures;
}

pub judge-judged-requires : goal.judge-judged-requires
judge-judged-requires g c = record { few = (audited-runs _ _ _ _ c.in-Ok-Audit.ensures.answer (ap Ok c.in-Ok-Audit.field-0-is)).few }

pub returns-in-Ok-Audit : goal.returns-in-Ok-Audit
returns-in-Ok-Audit g c = record {
  report =
      reports-judged _ _ _ _ _ _ _ c.in-Ok-Audit.ensures.answer (ap Ok c.in-Ok-Audit.field-0-is) c.in-Ok-Audit.ensures.files c.judge-judged.ensures.same
      (record { lanes = refl; inlets = refl; journal = c.unused_journal-in-Ok-Audit.ensures }) c.judge-judged.ensures.judged c.tell_verdict.ensures;
}

pub returns-in-Ok-Migrate : goal.returns-in-Ok-Migrate
returns-in-Ok-Migrate g c = record {
  report =
      reports-migrated _ _ _ _ _ _ _ c.in-Ok-Migrate.ensures.answer (ap Ok c.in-Ok-Migrate.field-0-is) c.in-Ok-Migrate.ensures.files
      (record { lanes = refl; inlets = refl; journal = c.unused_journal-in-Ok-Migrate.ensures }) c.migrate-migrated.ensures c.tell_migration.ensures;
}

pub returns-in-Err : goal.returns-in-Err
returns-in-Err g c = record {
  report =
      reports-refused _ _ c.in-Err.ensures.answer
      (record { files = c.in-Err.ensures.files; idle = record { lanes = refl; inlets = refl; journal = c.unused_journal-in-Err.ensures } }) c.tell_refusal.ensures;
}

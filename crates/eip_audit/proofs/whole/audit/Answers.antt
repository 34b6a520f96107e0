use Rattle.std.proofs.Common.{◌∙◌}
use Rattle.eip_audit.proofs.Judged.{told-exactly}
use Rattle.eip_audit.proofs.whole.audit.Goals as goal

pub verdict_by-verdict-requires : goal.verdict_by-verdict-requires
verdict_by-verdict-requires c = record {
  holds = c.in_ok-auditor.ensures.holds;
  workers = c.in_ok-auditor.ensures.workers ∙ c.workers.ensures;
  turns = c.in_ok-auditor.ensures.turns ∙ c.turns.ensures;
  past = c.in_ok-auditor.ensures.past;
}

pub returns : goal.returns
returns c =
    let told = told-exactly c.in_ok-auditor.auditor.books.set c.args.set c.args.journal.now c.verdict_by-verdict.result c.in_ok-auditor.ensures.set c.verdict_by-verdict.ensures in
    record { verdict = told.0; legal = told.1 }

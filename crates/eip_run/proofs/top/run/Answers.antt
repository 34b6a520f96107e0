use Rattle.eip_run.proofs.Causes.{causes}
use Rattle.eip_run.proofs.Leaving.{leaves}
use Rattle.eip_run.proofs.top.run.Goals as goal

pub returns : goal.returns
returns g c = record {
  reports = c.carry_out-outcome.ensures.report;
  causes = causes _ _ c.carry_out-outcome.ensures.report;
  status = c.status.ensures;
  files = leaves _ _ c.carry_out-outcome.ensures.report;
}

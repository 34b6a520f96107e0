use Rattle.std.proofs.Common.{◌∙◌, ap, sym}
use Rattle.eip_history.specs.Own.{source_state}
use Rattle.eip_history.proofs.Steps.{source-none}
use Rattle.eip_worker_runs.proofs.handed.run_of.Goals as goal

pub returns-clause-pulls : goal.returns-clause-pulls
returns-clause-pulls g c t w out = absurd (let idle = sym (ap (source_state t) c.in-Ok.ensures.past ∙ source-none t) ∙ out in cc idle)

pub returns-clause-can_run : goal.returns-clause-can_run
returns-clause-can_run g c = rw c.in-Ok.ensures.set c.in_ok-set.ensures

use Rattle.std.proofs.Common.{arith}
use Rattle.eip_core.proofs.Turns.{none-out}
use Rattle.eip_run.proofs.Running.{owners-begin, ran-alone, ran-by-workers}
use Rattle.eip_run.proofs.top.drain_hub.Goals as goal

pub run_workers-requires-clause-pulls : goal.run_workers-requires-clause-pulls
run_workers-requires-clause-pulls g c κs within = owners-begin c.args.hub c.args.workers c.requires.begins

pub returns-then-workers-gt0-clause-ran : goal.returns-then-workers-gt0-clause-ran
returns-then-workers-gt0-clause-ran g c =
    ran-by-workers c.args.workers c.args.hub c.run_workers.result.0 c.run_workers.result.1 _ _ _ _ (omega (arith, c.if-workers-gt0.true)) c.requires.workers.1 c.requires.begins
    c.run_workers.ensures.stop c.run_workers.ensures.legal c.run_workers.ensures.works

pub drain_alone-stop-requires-clause-home : goal.drain_alone-stop-requires-clause-home
drain_alone-stop-requires-clause-home g c = none-out c.args.hub c.requires.begins

pub returns-clause-ran : goal.returns-clause-ran
returns-clause-ran g c =
    ran-alone c.args.workers c.args.hub c.drain_alone-stop.new.hub c.drain_alone-stop.result _ _ _ _ (omega (arith, c.if-workers-gt0.false)) c.requires.workers.1 c.requires.begins
    c.drain_alone-stop.ensures.stop c.drain_alone-stop.ensures.legal c.drain_alone-stop.ensures.drains

use Rattle.eip_cursor.proofs.Following.{asks_waiting}
use Rattle.eip_cursor.proofs.asked.ask.Goals as goal

pub returns-in-Runs-clause-ok : goal.returns-in-Runs-clause-ok
returns-in-Runs-clause-ok c = asks_waiting c.args.commit c.args.state.now c.in-Runs.wait c.ask_wait.new.place c.ask_wait.result c.in-Runs.is c.ask_wait.ensures.ok

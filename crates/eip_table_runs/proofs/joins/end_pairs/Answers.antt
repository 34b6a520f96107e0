use Rattle.eip_table_runs.proofs.joins.end_pairs.Goals as goal

pub returns : goal.returns
returns c = (c.loop-left.invariant.left.calls, c.loop-left.invariant.left.stands)

use Rattle.eip_table_runs.proofs.joins.first_wrong.Goals as goal

pub taken-requires : goal.taken-requires
taken-requires c = (c.in_ok-early.ensures.calls, c.in_ok-early.ensures.stands)

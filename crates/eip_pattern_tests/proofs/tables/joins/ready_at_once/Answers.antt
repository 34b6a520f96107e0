use Rattle.eip_pattern_tests.proofs.tables.joins.ready_at_once.Goals as goal

pub taken-requires : goal.taken-requires
taken-requires c = (c.in_ok-joins.ensures.calls, c.in_ok-joins.ensures.stands)

use Rattle.std.proofs.Common.{◌∷◌}
use Rattle.eip_join.specs.Parts.{Took}
use Rattle.eip_table_runs.proofs.joins.take_join.Goals as goal

pub returns : goal.returns
returns c = (Took c.args.parent ∷ c.requires.stands.0, c.take.ensures.stands c.requires.stands.0 c.requires.stands.1)

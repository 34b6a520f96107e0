use Rattle.eip_uri.specs.Printed.{printed}
use Rattle.eip_line.proofs.source.standing.Goals as goal

pub returns-in-StreamIn-clause-first : goal.returns-in-StreamIn-clause-first
unfolding printed
returns-in-StreamIn-clause-first c = rw c.in-StreamIn.is c.find.ensures.first

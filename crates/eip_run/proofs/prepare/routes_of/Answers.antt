use Rattle.eip_run.proofs.Sites.{missing-answers, long-answers}
use Rattle.eip_run.proofs.prepare.routes_of.Goals as goal

pub returns-in-Missing : goal.returns-in-Missing
returns-in-Missing g c = missing-answers _ _ _ _ c.in-Missing.is c.refused.ensures

pub returns-in-TooLong : goal.returns-in-TooLong
returns-in-TooLong g c = long-answers _ _ _ _ c.in-TooLong.is c.refused-in-TooLong.ensures

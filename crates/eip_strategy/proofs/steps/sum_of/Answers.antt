use Rattle.std.proofs.Common.{ap, sym}
use Rattle.eip_text.specs.Numbers.{whole_of}
use Rattle.eip_strategy.specs.Adding.{sum_of}
use Rattle.eip_strategy.proofs.steps.sum_of.Goals as goal

pub returns-in-None : goal.returns-in-None
returns-in-None c = λ _. ap (λ o. sum_of o (whole_of c.args.new.now)) (sym c.in-None.ensures)

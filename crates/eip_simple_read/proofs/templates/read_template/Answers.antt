use Rattle.eip_simple_read.proofs.Laws.{parts_stay}
use Rattle.eip_simple_read.proofs.templates.read_template.Goals as goal

pub returns-in-Ok-clause-again : goal.returns-in-Ok-clause-again
returns-in-Ok-clause-again c = parts_stay c.as_str-whole.result.now c.in-Ok.parts.items c.in-Ok.ensures c.of.result c.of.ensures

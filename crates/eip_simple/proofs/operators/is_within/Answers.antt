use Rattle.std.proofs.Common.{rules}
use Rattle.eip_simple.specs.Operators.{is_within}
use Rattle.eip_simple.proofs.Ranges.{within_law_at}
use Rattle.eip_simple.proofs.operators.is_within.Goals as goal

pub returns-clause-value : goal.returns-clause-value
unfolding is_within
returns-clause-value c = search rules

pub returns-clause-range : goal.returns-clause-range
returns-clause-range c = within_law_at c.args.text.now c.args.range.now c.is_some_and.result (returns-clause-value c)

use Rattle.std.proofs.Common.{◌≡◌, ◌-◌, ◌++◌, drop, length, vec_len}
use Rattle.eip_strategy.proofs.batch.properties_of.Given as goal

abbrev pub invariant-loop-name : goal.invariant-loop-name
invariant-loop-name l = l.pairs.items ++ drop (vec_len l.pairs) l.properties ≡ l.properties

abbrev pub decreases-loop-name : goal.decreases-loop-name
decreases-loop-name l = length l.properties - vec_len l.pairs

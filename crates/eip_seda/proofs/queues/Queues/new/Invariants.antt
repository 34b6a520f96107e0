use Rattle.std.proofs.Common.{◌≡◌, map, take}
use Rattle.eip_seda.specs.Consuming.{fresh}
use Rattle.eip_seda.proofs.queues.Queues.new.Given as goal

abbrev pub invariant-loop-limit : goal.invariant-loop-limit
invariant-loop-limit l = l.queues.items ≡ map fresh (take l.limit-index l.fn.limits.items)

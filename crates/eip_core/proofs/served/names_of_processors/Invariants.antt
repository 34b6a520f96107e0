use Rattle.std.proofs.Common.{◌≡◌, ◌-◌, length, take}
use Rattle.eip_core.proofs.served.names_of_processors.Given as goal

abbrev pub invariant-loop-name : goal.invariant-loop-name
invariant-loop-name g l = l.names.items ≡ take (length l.names.items) (g.R.Registered.view l.registry).processors

abbrev pub decreases-loop-name : goal.decreases-loop-name
decreases-loop-name g l = length (g.R.Registered.view l.registry).processors - length l.names.items

use Rattle.std.proofs.Common.{◌≡◌, ◌++◌, drop}
use Rattle.eip_route_canonical.specs.Canonical.{words}
use Rattle.eip_route_canonical.specs.Trees.{values_of}
use Rattle.eip_route_canonical.proofs.members.words.Given as goal

abbrev pub invariant-loop-text : goal.invariant-loop-text
invariant-loop-text l = values_of l.items.items ++ words (drop l.text-index l.texts) ≡ words l.texts

use Rattle.std.proofs.Common.{◌≡◌, drop}
use Rattle.eip_keyed.specs.Keyed.{found}
use Rattle.eip_keyed.proofs.keyed.value_of.Given as goal

abbrev pub invariant-loop-entry : goal.invariant-loop-entry
invariant-loop-entry g l = found l.key l.entries ≡ found l.key (drop l.entry-index l.entries)

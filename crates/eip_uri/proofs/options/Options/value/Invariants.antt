use Rattle.std.proofs.Common.{◌≡◌, drop}
use Rattle.eip_uri.specs.Options as spec
use Rattle.eip_uri.proofs.options.Options.value.Given as goal

abbrev pub invariant-loop-option : goal.invariant-loop-option
invariant-loop-option l = spec.value_of l.name (spec.now_entries (drop l.option-index l.self.given.items)) ≡ spec.value_of l.name (spec.now_entries l.self.given.items)

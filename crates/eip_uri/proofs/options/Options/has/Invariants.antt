use Rattle.std.proofs.Common.{◌≡◌, drop}
use Rattle.std.specs.List.{list_any}
use Rattle.std.specs.Str.{bytes_eq}
use Rattle.eip_uri.specs.Options as spec
use Rattle.eip_uri.proofs.options.Options.has.Given as goal

abbrev pub invariant-loop-option : goal.invariant-loop-option
invariant-loop-option l = list_any (λ e. bytes_eq e.0 l.name) (spec.now_entries (drop l.option-index l.self.given.items)) ≡ list_any (λ e. bytes_eq e.0 l.name) (spec.now_entries l.self.given.items)

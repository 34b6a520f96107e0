use Rattle.std.proofs.Common.{◌≡◌, ◌++◌, drop, map}
use Rattle.eip_uri.specs.Options as spec
use Rattle.eip_uri.proofs.options.Options.add_parameters.Given as goal

abbrev pub invariant-loop-parameter : goal.invariant-loop-parameter
invariant-loop-parameter l = record {
  faults : spec.first_fault l.scheme (spec.now_entries l.self.given.items) (map spec.pair_entry (drop l.parameter-index l.parameters)) ≡ spec.first_fault l.scheme (spec.now_entries l.fn.self.given.items) (map spec.pair_entry l.parameters);
  all : spec.now_entries l.self.given.items ++ map spec.pair_entry (drop l.parameter-index l.parameters) ≡ spec.now_entries l.fn.self.given.items ++ map spec.pair_entry l.parameters;
}

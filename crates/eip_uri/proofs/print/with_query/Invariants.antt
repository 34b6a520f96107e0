use Rattle.std.proofs.Common.{◌≡◌, ◌<◌, ◌++◌, drop}
use Rattle.std.specs.Prelude.{string_bytes}
use Rattle.eip_uri.specs.Printed as spec
use Rattle.eip_uri.specs.Showing as showing
use Rattle.eip_uri.proofs.print.with_query.Given as goal

abbrev pub invariant-loop-option : goal.invariant-loop-option
invariant-loop-option l = record {
  ascii : l.mark < 128;
  so_far : string_bytes l.out ++ spec.query l.mark (showing.shown (drop l.option-index l.options)) ≡ string_bytes l.fn.out ++ spec.query 63 (showing.shown l.options);
}

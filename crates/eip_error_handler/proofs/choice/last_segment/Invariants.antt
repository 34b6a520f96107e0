use Rattle.std.proofs.Common.{◌≡◌, length}
use denote.Text.{Utf8}
use denote.Shadow.{shadow}
use Rattle.eip_error_handler.specs.Clauses as spec
use Rattle.eip_error_handler.proofs.choice.last_segment.Given as goal

abbrev pub invariant-loop-more : goal.invariant-loop-more
invariant-loop-more l = record {
  is_text : shadow (Utf8 l.rest);
  same : spec.last_segment l.rest ≡ spec.last_segment l.name;
}

abbrev pub decreases-loop-more : goal.decreases-loop-more
decreases-loop-more l = length l.rest

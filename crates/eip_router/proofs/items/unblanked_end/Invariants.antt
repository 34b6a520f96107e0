use Rattle.std.proofs.Common.{◌≡◌, length}
use denote.Text.{Utf8}
use denote.Shadow.{shadow}
use Rattle.eip_router.specs.Blanks as spec
use Rattle.eip_router.proofs.items.unblanked_end.Given as goal

abbrev pub invariant-loop-more : goal.invariant-loop-more
invariant-loop-more l = record {
  is_text : shadow (Utf8 l.rest);
  same : spec.unblanked_end l.rest ≡ spec.unblanked_end l.text;
}

abbrev pub decreases-loop-more : goal.decreases-loop-more
decreases-loop-more l = length l.rest

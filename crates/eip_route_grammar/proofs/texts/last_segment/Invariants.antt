use Rattle.std.proofs.Common.{◌≡◌, length}
use denote.Text.{Utf8}
use denote.Shadow.{shadow}
use Rattle.eip_route_grammar.specs.Texts.{last_segment}
use Rattle.eip_route_grammar.proofs.texts.last_segment.Given as goal

abbrev pub invariant-loop-more : goal.invariant-loop-more
invariant-loop-more l = record {
  is_text : shadow (Utf8 l.rest);
  same : last_segment l.rest ≡ last_segment l.text;
}

abbrev pub decreases-loop-more : goal.decreases-loop-more
decreases-loop-more l = length l.rest

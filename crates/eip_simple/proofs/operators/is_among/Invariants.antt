use Rattle.std.proofs.Common.{◌≡◌, length}
use denote.Text.{Utf8}
use denote.Shadow.{shadow}
use Rattle.std.specs.List.{list_any}
use Rattle.eip_text.specs.Cuts.{pieces}
use Rattle.eip_simple.specs.Operators.{same}
use Rattle.eip_simple.proofs.operators.is_among.Given as goal

abbrev pub invariant-loop-piece : goal.invariant-loop-piece
invariant-loop-piece l = record {
  is_text : shadow (Utf8 l.rest);
  so_far : list_any (same l.text) (pieces 44 l.rest) ≡ list_any (same l.text) (pieces 44 l.list);
}

abbrev pub decreases-loop-piece : goal.decreases-loop-piece
decreases-loop-piece l = length l.rest

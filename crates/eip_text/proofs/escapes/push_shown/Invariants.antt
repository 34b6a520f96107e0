use Rattle.std.proofs.Common.{◌≡◌, ◌++◌, string_bytes, length}
use denote.Text.{Utf8}
use denote.Shadow.{shadow}
use Rattle.eip_text.specs.Escapes.{shown}
use Rattle.eip_text.proofs.escapes.push_shown.Given as goal

abbrev pub invariant-loop-plain : goal.invariant-loop-plain
invariant-loop-plain l = record {
  is_text : shadow (Utf8 l.rest);
  out : string_bytes l.out ++ shown l.quotes l.rest ≡ string_bytes l.fn.out ++ shown l.quotes l.text;
}

abbrev pub decreases-loop-plain : goal.decreases-loop-plain
decreases-loop-plain l = length l.rest

use Rattle.std.proofs.Common.{◌≡◌, ◌++◌, string_bytes, drop, take}
use Rattle.std.specs.List.{flat_map}
use Rattle.eip_dump.specs.Kept.{AreTexts}
use Rattle.eip_dump.specs.Lines.{pair_text}
use Rattle.eip_dump.proofs.message_printer.push_headers.Given as goal

abbrev pub invariant-loop-place : goal.invariant-loop-place
invariant-loop-place l = record {
  text : string_bytes l.out ++ flat_map pair_text (drop l.place l.headers) ≡ string_bytes l.fn.out ++ flat_map pair_text l.headers;
  kept : AreTexts (take l.place l.headers);
}

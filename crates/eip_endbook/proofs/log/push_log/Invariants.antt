use Rattle.std.proofs.Common.{◌≡◌, ◌++◌, take, string_bytes}
use Rattle.std.specs.List.{flat_map}
use Rattle.eip_history.specs.BookText.{note_line}
use Rattle.eip_endbook.proofs.log.push_log.Given as goal

abbrev pub invariant-loop-note : goal.invariant-loop-note
invariant-loop-note l = string_bytes l.out ≡ string_bytes l.initial.out ++ flat_map note_line (take l.note-index l.note-items)

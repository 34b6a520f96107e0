use Rattle.std.proofs.Common.{refl}
use Rattle.eip_dump.proofs.AgainEntries.{front_is, is_none, none_left, some_left}
use Rattle.eip_dump.proofs.ReadLines.{no_entry_in_nothing}
use Rattle.eip_dump.proofs.dump_reader.next_entry.Goals as goal

pub returns-then-is_missing : goal.returns-then-is_missing
returns-then-is_missing c =
    let missing = c.is_missing.ensures.0 c.if-is_missing.true in
    let empty = none_left c.is_empty.result c.args.bytes.now c.is_empty.ensures c.if-is_empty.true in
    (refl, λ _. missing, λ _. no_entry_in_nothing c.args.bytes.now empty)

pub returns-in-Ok : goal.returns-in-Ok
returns-in-Ok c = (
  c.has_room.ensures.0 c.if-not-has_room.false,
  c.in-Ok.ensures.kept,
  front_is c.args.bytes.now c.in-Ok.read.0 c.in-Ok.read.1.now c.in-Ok.ensures.reads,
)

pub returns-in-Err-Bad : goal.returns-in-Err-Bad
returns-in-Err-Bad c = (
  refl,
  λ empty. absurd (some_left c.is_empty.result c.args.bytes.now c.is_empty.ensures c.if-is_empty.false empty),
  λ _. is_none c.args.bytes.now (rw c.in-Err-Bad.field-0-is at c.in-Err-Bad.ensures.reads),
)

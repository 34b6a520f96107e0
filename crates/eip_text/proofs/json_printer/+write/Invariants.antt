use Rattle.std.proofs.Common.{◌≡◌, ◌++◌, drop, false}
use Rattle.eip_text.specs.Json.{items_json, members_json}
use Rattle.eip_text.specs.JsonText.{items_have_float, members_have_float, items_tokens, members_tokens}
use Rattle.eip_text.proofs.json_printer.+write.Given as goal

abbrev pub invariant-write_items-loop-item : goal.invariant-write_items-loop-item
invariant-write_items-loop-item l = record {
  no_float : items_have_float (items_json (drop l.item-index l.items)) ≡ false;
  before : l.writer.before ≡ l.fn.writer.before;
  tokens : l.writer.tokens ++ items_tokens (items_json (drop l.item-index l.items)) ≡ l.fn.writer.tokens ++ items_tokens (items_json l.items);
}

abbrev pub invariant-write_members-loop-key : goal.invariant-write_members-loop-key
invariant-write_members-loop-key l = record {
  no_float : members_have_float (members_json (drop l.key-index l.members)) ≡ false;
  before : l.writer.before ≡ l.fn.writer.before;
  tokens : l.writer.tokens ++ members_tokens (members_json (drop l.key-index l.members)) ≡ l.fn.writer.tokens ++ members_tokens (members_json l.members);
}

use Rattle.std.proofs.Common.{◌≡◌, ◌++◌, drop}
use Rattle.eip_text.specs.JsonText.{items_tokens, value_tokens}
use Rattle.eip_resequence.specs.Packing.{all_packed, list_json}
use Rattle.eip_resequence.proofs.packing.write_list.Given as goal

abbrev pub invariant-loop-packed : goal.invariant-loop-packed
invariant-loop-packed l = record {
  before : l.writer.before ≡ l.fn.writer.before;
  tokens : l.writer.tokens ++ items_tokens (all_packed (drop l.packed-index l.list)) ≡ l.fn.writer.tokens ++ value_tokens (list_json l.list);
}

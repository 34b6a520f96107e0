use Rattle.std.proofs.Common.{◌≡◌, ◌++◌, drop}
use Rattle.eip_text.specs.JsonText.{items_tokens, value_tokens}
use Rattle.eip_resequence.specs.Packing.{in_turn, pairs_json}
use Rattle.eip_resequence.proofs.packing.write_pairs.Given as goal

abbrev pub invariant-loop-name : goal.invariant-loop-name
invariant-loop-name l = record {
  before : l.writer.before ≡ l.fn.writer.before;
  tokens : l.writer.tokens ++ items_tokens (in_turn (drop l.name-index l.pairs)) ≡ l.fn.writer.tokens ++ value_tokens (pairs_json l.pairs);
}

use Rattle.std.proofs.Common.{◌≡◌, ◌++◌, List, ap, ◌∙◌}
use Rattle.json.specs.Print.{print}
use Rattle.json.specs.Token.{Token}
use Rattle.eip_text.specs.JsonText.{value_tokens}
use Rattle.eip_text.proofs.Again.{print-value_tokens}
use Rattle.eip_resequence.specs.Packing.{list_json, pack_text}
use Rattle.eip_resequence.proofs.packing.pack.Goals as goal

pub returns : goal.returns
unfolding pack_text
returns c =
    let j = list_json c.args.list.now in
    let tokens : c.write_list.new.writer.tokens ≡ value_tokens j = c.in_ok-write_list.ensures.tokens ∙ ap (λ (ts : List Token). ts ++ value_tokens j) c.new-writer.ensures.tokens in
    c.of.ensures ∙ c.written.ensures ∙ ap print tokens ∙ print-value_tokens j

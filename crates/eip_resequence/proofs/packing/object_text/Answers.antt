use Rattle.std.proofs.Common.{◌≡◌, ◌++◌, List, ap, ◌∙◌}
use Rattle.json.specs.Print.{print}
use Rattle.json.specs.Token.{Token}
use Rattle.eip_text.specs.JsonText.{value_tokens}
use Rattle.eip_text.proofs.Again.{print-value_tokens}
use Rattle.eip_resequence.specs.Packing.{packed_json}
use Rattle.eip_resequence.proofs.packing.object_text.Goals as goal

pub returns : goal.returns
returns c =
    let j = packed_json c.args.packed.now in
    let tokens : c.write_packed.new.writer.tokens ≡ value_tokens j = c.in_ok-write_packed.ensures.tokens ∙ ap (λ (ts : List Token). ts ++ value_tokens j) c.new-writer.ensures.tokens in
    c.written.ensures ∙ ap print tokens ∙ print-value_tokens j

use Rattle.std.proofs.Common.{◌++◌, [], ◌∷◌, List, ap, ◌∙◌}
use Rattle.json.specs.Print.{print}
use Rattle.json.specs.Token.{Token, string}
use Rattle.eip_text.specs.Json.{word}
use Rattle.eip_text.proofs.Again.{print-value_tokens}
use Rattle.eip_strategy.proofs.steps.quoted_word.Goals as goal

pub returns : goal.returns
returns c =
    let t = c.args.text.now in
    c.written.ensures ∙ ap print (c.in_ok-string.ensures.ok ∙ ap (λ (ts : List Token). ts ++ string t ∷ []) c.new-writer.ensures.tokens) ∙ print-value_tokens (word t)

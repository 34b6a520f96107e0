use Rattle.std.proofs.Common.{◌≡◌, [], ◌++◌, ap, ◌∙◌, subst, IfOk}
use Rattle.std.specs.String.{string_vec}
use Rattle.json.specs.Print.{print}
use Rattle.eip_text.specs.Json.{json}
use Rattle.eip_text.specs.JsonText.{value_tokens}
use Rattle.eip_text.proofs.Again.{print-value_tokens, json_read-written}
use Rattle.eip_text.proofs.json_printer.print_json.Goals as goal

pub returns-clause-text : goal.returns-clause-text
returns-clause-text c =
    let j = json c.args.tree.now in
    let writer = c.write_tree.new.writer in
    let wrote = c.in_ok-write_tree.ensures in
    let before : writer.before ≡ [] = wrote.before ∙ c.new-writer.ensures.before ∙ c.new.ensures.items in
    let written : writer.tokens ≡ value_tokens j = wrote.tokens ∙ ap (λ ts. ts ++ value_tokens j) c.new-writer.ensures.tokens in
    let kept : string_vec c.unwrap-text.result ≡ c.into_inner.result = subst (λ r. IfOk r (λ s. string_vec s ≡ c.into_inner.result)) c.unwrap-text.ensures c.from_utf8.ensures.ok in
    let printed : c.of.result ≡ print writer.tokens = c.of.ensures ∙ ap (λ v. v.items) kept ∙ c.into_inner.ensures.items ∙ ap (λ x. x ++ print writer.tokens) before in
    printed ∙ ap print written ∙ print-value_tokens j

pub returns-clause-read_again : goal.returns-clause-read_again
returns-clause-read_again c = λ canonical shallow.
    let j = json c.args.tree.now in
    let writer = c.write_tree.new.writer in
    let wrote = c.in_ok-write_tree.ensures in
    let before : writer.before ≡ [] = wrote.before ∙ c.new-writer.ensures.before ∙ c.new.ensures.items in
    let written : writer.tokens ≡ value_tokens j = wrote.tokens ∙ ap (λ ts. ts ++ value_tokens j) c.new-writer.ensures.tokens in
    let kept : string_vec c.unwrap-text.result ≡ c.into_inner.result = subst (λ r. IfOk r (λ s. string_vec s ≡ c.into_inner.result)) c.unwrap-text.ensures c.from_utf8.ensures.ok in
    let printed : c.of.result ≡ print writer.tokens = c.of.ensures ∙ ap (λ v. v.items) kept ∙ c.into_inner.ensures.items ∙ ap (λ x. x ++ print writer.tokens) before in
    json_read-written j c.of.result (print writer.tokens) printed c.into_inner.ensures.utf8 (c.into_inner.ensures.reads_back ∙ written) canonical c.requires shallow

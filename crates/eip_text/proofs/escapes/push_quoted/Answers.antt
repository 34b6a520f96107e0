use Rattle.std.proofs.Common.{List, ℕ, [], ◌∷◌, true, string_bytes, ◌++◌, sym, ap, ◌∙◌, append_assoc}
use Rattle.eip_text.specs.Escapes.{shown}
use Rattle.eip_text.proofs.Escaping.{shown-quoted}
use Rattle.eip_text.proofs.escapes.push_quoted.Goals as goal

pub returns : goal.returns
returns c =
    let out = string_bytes c.args.out.now in
    let inner = shown true c.args.text.now in
    let mark : List ℕ = 34 ∷ [] in
    c.in_ok-push_str-2.ensures.bytes ∙ ap (λ x. x ++ mark) (c.in_ok-push_shown.ensures ∙ ap (λ x. x ++ inner) c.in_ok-push_str.ensures.bytes)
    ∙ append_assoc (out ++ mark) inner mark ∙ append_assoc out mark (inner ++ mark) ∙ ap (λ x. out ++ x) (sym (shown-quoted c.args.text.now))

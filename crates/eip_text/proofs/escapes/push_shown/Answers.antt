use Rattle.std.proofs.Common.{true, string_bytes, ◌++◌, sym, ap, ◌∙◌, append_assoc, rules}
use Rattle.eip_text.specs.Escapes.{shown_byte, shown}
use Rattle.eip_text.proofs.Escaping.{shown-cut}
use Rattle.eip_text.proofs.escapes.push_shown.Goals as goal

pub loop-plain-preserved : goal.loop-plain-preserved
loop-plain-preserved c =
    let out = string_bytes c.loop-plain.out in
    let plain = c.in-Some.plain.now in
    let mark = shown_byte true c.in-Some.mark in
    let more = shown c.args.quotes c.in-Some.behind.now in
    record {
      is_text = search rules;
      out =
          ap (λ x. x ++ more) (c.in_ok-push_mark.ensures ∙ ap (λ x. x ++ mark) c.in_ok-push_str.ensures.bytes)
          ∙ ap (λ x. x ++ more) (append_assoc out plain mark) ∙ append_assoc out (plain ++ mark) more
          ∙ ap (λ x. out ++ x) (sym (shown-cut c.args.quotes c.loop-plain.rest.now plain c.in-Some.behind.now c.in-Some.mark c.in-Some.ensures))
          ∙ c.loop-plain.invariant.out;
    }

use Rattle.std.proofs.Common.{◌≡◌, List, ℕ, string_bytes, ◌++◌, subst, OnOk}
use Rattle.eip_text.proofs.Escaping.{shown-escaped}
use Rattle.eip_text.proofs.escapes.push_escaped.Goals as goal

pub returns : goal.returns
returns c =
    subst (λ (shown : List ℕ). OnOk c.push_shown.result (string_bytes c.push_shown.new.out ≡ string_bytes c.args.out.now ++ shown))
    (shown-escaped c.args.text.now) c.push_shown.ensures

use Rattle.std.proofs.Common.{◌≡◌, ◌<◌, ◌-◌, ◌++◌, ◌∷◌, [], ℕ, sym, ap, ◌∙◌, arith, get_or, take, length}
use Rattle.std.specs.Prelude.{string_bytes, string_len}
use Rattle.eip_resequence.proofs.Growing.{last_is}
use Rattle.eip_resequence.proofs.lists.reopen.Goals as goal

pub returns-clause-bytes : goal.returns-clause-bytes
returns-clause-bytes c =
    let text = string_bytes c.args.text.now in
    let p = last_is text c.requires.0 c.requires.1 in
    let len : string_len c.args.text.now ≡ length text = omega arith in
    let some : 0 < string_len c.args.text.now = omega (arith, p.0) in
    let last : get_or text (string_len c.args.text.now - 1) 0 ≡ 93 = ap (λ (n : ℕ). get_or text (n - 1) 0) len ∙ p.1 in
    let kept = c.pop.ensures.ascii_bytes some (omega (arith, last)) in
    c.requires.1 ∙ ap (λ xs. xs ++ 93 ∷ []) (sym (kept ∙ ap (λ (n : ℕ). take (n - 1) text) len ∙ p.2))

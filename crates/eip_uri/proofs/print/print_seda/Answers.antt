use Rattle.std.proofs.Common.{◌≡◌, List, ℕ, IfOk, subst}
use Rattle.std.specs.Prelude.{string_bytes, option_map}
use Rattle.eip_uri.proofs.Showings.{seda_text}
use Rattle.eip_uri.proofs.print.print_seda.Goals as goal

pub returns : goal.returns
returns c =
    let text = seda_text (string_bytes c.in_ok-front.field-0) c.args.name.now c.format-2.result.now c.format.result.now
    (option_map (λ x. x.now) c.unless.result) (option_map (λ x. x.now) c.unless-2.result) (option_map (λ x. x.now) c.unless-3.result)
    c.args.size c.args.consumers c.args.discard c.in_ok-front.ensures c.format.ensures.text c.format-2.ensures.text c.unless.ensures c.unless-2.ensures c.unless-3.ensures in
    subst (λ (x : List ℕ). IfOk c.with_query.result (λ t. t ≡ x)) text c.with_query.ensures

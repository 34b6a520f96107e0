use Rattle.std.proofs.Common.{◌≡◌, ℕ, List, true, is_none, sym, ap, ◌∙◌}
use Rattle.eip_exchange.specs.Headers.{same_name, get_header}
use Rattle.eip_splitter.proofs.Fitting.{none_copied, put_new}
use Rattle.eip_splitter.proofs.held.add_header.Goals as goal

pub returns-in-Ok-clause-added : goal.returns-in-Ok-clause-added
returns-in-Ok-clause-added c =
    let name = c.args.name in
    let hs = c.args.headers.now in
    let none : is_none (get_header name hs) ≡ true =
    none_copied c.get.result (get_header name hs) (sym c.is_some.ensures ∙ c.if-is_some.false) (c.get.ensures ∙ ap (λ (n : List ℕ). get_header n hs) c.bytes.ensures.value) in
    c.in-Ok.ensures.set ∙ put_new same_name name c.args.value hs none

use Rattle.std.proofs.Common.{◌≡◌, ℕ, List, true, is_none, sym, ap, ◌∙◌}
use Rattle.std.specs.Prelude.{bytes_eq}
use Rattle.eip_exchange.specs.Pairs.{get_property}
use Rattle.eip_splitter.proofs.Fitting.{none_copied, put_new}
use Rattle.eip_splitter.proofs.held.add_property.Goals as goal

pub returns-clause-added : goal.returns-clause-added
returns-clause-added c =
    let name = c.args.name in
    let ps = c.args.properties.now in
    let none : is_none (get_property name ps) ≡ true =
    none_copied c.get.result (get_property name ps) (sym c.is_some.ensures ∙ c.if-is_some.false) (c.get.ensures ∙ ap (λ (n : List ℕ). get_property n ps) c.bytes.ensures.value) in
    c.in_ok-set.ensures.set ∙ put_new bytes_eq name c.args.value ps none

use Rattle.std.proofs.Common.{ap, ◌∙◌}
use Rattle.std.specs.Prelude.{bytes_eq}
use Rattle.std.specs.Cmp.Lexicographic.{nat_list_eq_equiv}
use Rattle.std.proofs.lemmas.Result.{on_ok_weaker}
use Rattle.eip_exchange.specs.Pairs.{put_property}
use Rattle.eip_exchange.specs.Places.{place_of, put_at}
use Rattle.eip_exchange.proofs.Places.{put_at-place, distinct_after}
use Rattle.eip_exchange.proofs.properties.Properties.set.Goals as goal

pub invariant_of-self : goal.invariant_of-self
invariant_of-self c =
    let ps = c.self.inside.pairs in
    distinct_after bytes_eq nat_list_eq_equiv c.put.result c.args.name c.args.value ps c.put.new.self c.self.invariant
    (on_ok_weaker c.put.result
    (λ e. e ∙ ap (λ o. put_at o c.args.name c.args.value ps) (c.find-place.ensures.place ∙ ap (λ n. place_of bytes_eq n ps) c.bytes.ensures.value) ∙ put_at-place bytes_eq c.args.name c.args.value ps)
    c.put.ensures.set)
    c.put.ensures.err

pub returns-clause-set : goal.returns-clause-set
returns-clause-set c =
    let ps = c.self.inside.pairs in
    on_ok_weaker c.put.result
    (λ e. e ∙ ap (λ o. put_at o c.args.name c.args.value ps) (c.find-place.ensures.place ∙ ap (λ n. place_of bytes_eq n ps) c.bytes.ensures.value) ∙ put_at-place bytes_eq c.args.name c.args.value ps ∙ ap (put_property c.args.name c.args.value) c.self.view_is)
    c.put.ensures.set

use Rattle.std.proofs.Common.{ap, sym, set, ◌∙◌}
use Rattle.eip_exchange.specs.Places.{put_at}
use Rattle.eip_exchange.proofs.Places.{with_value-set}
use Rattle.eip_exchange.proofs.pairs.put_in.Goals as goal

pub returns-in-Some-clause-set : goal.returns-in-Some-clause-set
returns-in-Some-clause-set c =
    ap (set c.args.items.now.items c.in-Some.k) (c.set.ensures ∙ ap (λ p. (p.0, c.args.value)) c.index_mut.ensures.value)
    ∙ with_value-set c.in-Some.k c.args.value c.args.items.now.items c.index_mut.result.now
    ∙ sym (ap (λ o. put_at o c.args.name c.args.value c.args.items.now.items) c.in-Some.is)

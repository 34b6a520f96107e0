use Rattle.std.proofs.Common.{◌≡◌, ℕ, ◌<◌, Option, Some, is_some, is_eq, nat_cmp, sym, ap, subst, ◌∙◌}
use Rattle.eip_strategy.specs.Adding.{IsReady}
use Rattle.eip_aggregator.specs.Arrivals.{Group}
use Rattle.eip_aggregator.specs.Tables.{count_in, message_in}
use Rattle.eip_aggregator.proofs.Growing.{grows_at}
use Rattle.eip_ordered.proofs.Lookups.{found, puts, set_again}
use Rattle.eip_aggregator.proofs.Lookups.{err_then}
use Rattle.eip_aggregator.proofs.places.grow_group.Goals as goal

pub grow-requires-clause-ready : goal.grow-requires-clause-ready
grow-requires-clause-ready c = subst (λ (o : Option Group). IsReady c.args.setting.now.strategy (message_in o)) (sym (found c.args.groups.now c.args.number) ∙ sym c.in-Some.ensures.value) c.requires.ready

pub grow-requires-clause-fits : goal.grow-requires-clause-fits
grow-requires-clause-fits c = subst (λ (o : Option Group). count_in o < 18446744073709551615) (sym (found c.args.groups.now c.args.number) ∙ sym c.in-Some.ensures.value) c.requires.fits

pub returns-clause-err : goal.returns-clause-err
returns-clause-err c =
    err_then c.grow.result (c.grow.new.self ≡ c.in-Some.group.now) ((c.get_mut.follows.lender c.grow.new.self).entries ≡ c.args.groups.now.entries)
    (λ same.
    (c.get_mut.follows.holds c.grow.new.self).0
    ∙ set_again (λ (k : ℕ). is_eq (nat_cmp c.args.number k)) c.args.groups.now.entries c.grow.new.self (sym (ap (λ (g : Group). Some g) same ∙ c.in-Some.ensures.value)))
    c.grow.ensures.err

pub returns-clause-ok : goal.returns-clause-ok
returns-clause-ok c =
    grows_at c.args.setting.now (record { number = c.args.from; route = c.args.route.now; hops = c.args.hops; at = c.args.tick; message = c.args.part.now }) c.args.number
    c.args.groups.now.entries (c.get_mut.follows.lender c.grow.new.self).entries c.in-Some.group.now c.grow.new.self c.grow.result
    (sym (found c.args.groups.now c.args.number) ∙ sym c.in-Some.ensures.value)
    (puts c.args.groups.now (c.get_mut.follows.lender c.grow.new.self) c.args.number (Some c.grow.new.self) ((c.get_mut.follows.holds c.grow.new.self).3 (ap is_some (sym c.in-Some.ensures.value))).0)
    c.grow.ensures.ok c.grow.ensures.cause c.grow.ensures.ready

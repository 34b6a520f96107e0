use Rattle.std.proofs.Common.{sym, ap, ◌∙◌}
use Rattle.std.specs.Option.{option_map}
use Rattle.std.specs.List.{slice_get}
use Rattle.eip_core.proofs.Naming.{named-next, named-all}
use Rattle.eip_core.proofs.served.names_of_predicates.Goals as goal

pub loop-name-preserved : goal.loop-name-preserved
loop-name-preserved g c =
    let all = (g.R.Registered.view c.args.registry.now).predicates in
    named-next all c.loop-name.names.items c.push.new.self.items c.in-Some.name.now c.loop-name.invariant
    (sym (ap (option_map (λ name. name.now)) c.in-Some.is) ∙ (c.predicate_name.ensures ∙ ap (slice_get all) (c.len.ensures ∙ c.loop-name.names.ok.0)))
    (rw c.in_ok-copy.ensures at c.in_ok-push.ensures.items)

pub returns : goal.returns
returns g c =
    let all = (g.R.Registered.view c.args.registry.now).predicates in
    named-all all c.loop-name.names.items c.loop-name.invariant
    (sym (ap (option_map (λ name. name.now)) c.in_default.is) ∙ (c.predicate_name.ensures ∙ ap (slice_get all) (c.len.ensures ∙ c.loop-name.names.ok.0)))

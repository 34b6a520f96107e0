use Rattle.std.proofs.Common.{map, ap, option_map}
use Rattle.std.proofs.lemmas.Result.{err_from_is_err_and}
use Rattle.eip_uri.specs.Options as spec
use Rattle.eip_uri.proofs.Gathering.{query_faulty, parameters_faulty, both_sound}
use Rattle.eip_uri.proofs.options.Options.read.Goals as goal

pub returns-in_err-add_any_query-clause-fault : goal.returns-in_err-add_any_query-clause-fault
returns-in_err-add_any_query-clause-fault c =
    let p = err_from_is_err_and c.from_residual.result c.from_residual.ensures.1 in
    rw (p.1, p.2) (query_faulty c.in_err-add_any_query.field-0.0 c.args.scheme (spec.now_entries c.new.result.items) (spec.query_entries (option_map (λ x. x.now) c.args.query)) (map spec.pair_entry c.args.parameters.now)
    (ap spec.now_entries c.new.ensures.items) c.in_err-add_any_query.ensures)

pub returns-in_err-add_parameters-clause-fault : goal.returns-in_err-add_parameters-clause-fault
returns-in_err-add_parameters-clause-fault c =
    let p = err_from_is_err_and c.from_residual-in_err-add_parameters.result c.from_residual-in_err-add_parameters.ensures.1 in
    rw (p.1, p.2) (parameters_faulty c.in_err-add_parameters.field-0.0 c.args.scheme (spec.now_entries c.new.result.items) (spec.now_entries c.add_any_query.new.self.given.items) (spec.query_entries (option_map (λ x. x.now) c.args.query)) (map spec.pair_entry c.args.parameters.now)
    (ap spec.now_entries c.new.ensures.items) c.in_ok-add_any_query.ensures.0 c.in_ok-add_any_query.ensures.1 c.in_err-add_parameters.ensures)

pub returns-clause-sound : goal.returns-clause-sound
returns-clause-sound c =
    both_sound c.args.scheme (spec.now_entries c.new.result.items) (spec.now_entries c.add_any_query.new.self.given.items) (spec.query_entries (option_map (λ x. x.now) c.args.query)) (map spec.pair_entry c.args.parameters.now)
    (ap spec.now_entries c.new.ensures.items) c.in_ok-add_any_query.ensures.0 c.in_ok-add_any_query.ensures.1 c.in_ok-add_parameters.ensures.0

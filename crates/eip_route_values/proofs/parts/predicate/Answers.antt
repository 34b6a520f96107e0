use Rattle.std.proofs.Common.{sym, ◌∙◌}
use Rattle.eip_route_values.proofs.Taking.{is_read, spends_one}
use Rattle.eip_route_values.proofs.parts.predicate.Goals as goal

pub unreachable-requires : goal.unreachable-requires
unreachable-requires c = is_read c.args.text.now c.args.known.now c.requires.held (sym c.take.ensures.first ∙ c.in-None.is)

pub returns-clause-left : goal.returns-clause-left
returns-clause-left c = spends_one c.args.text.now c.args.known.now c.take.new.self c.in-Some.ensures.gone

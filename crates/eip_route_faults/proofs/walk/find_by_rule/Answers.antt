use Rattle.std.proofs.Common.{sym, ◌∙◌}
use Rattle.eip_route_faults.proofs.Sited.{word_plain}
use Rattle.eip_route_faults.proofs.Starved.{predicate_starves}
use Rattle.eip_route_faults.proofs.Walking.{still_ended, walk_ended}
use Rattle.eip_route_faults.proofs.walk.find_by_rule.Goals as goal

pub returns : goal.returns
returns g c = word_plain _ _ _ _ c.in_ok-cause.cause _ _ _ (sym c.is_predicate.ensures ∙ c.if-is_predicate.false) c.in_ok-cause.ensures c.in_ok-plain.ensures

pub returns-in_err-found : goal.returns-in_err-found
returns-in_err-found g c =
    walk_ended _ _ _ _ _ _ c.from_residual.ensures.0 (predicate_starves _ _ _ _ _ _ (sym c.is_predicate.ensures ∙ c.if-is_predicate.true) c.in_err-found.ensures)

pub returns-in_err-cause : goal.returns-in_err-cause
returns-in_err-cause g c = still_ended _ _ _ _ _ c.from_residual-in_err-cause.ensures.0

pub returns-in_err-plain : goal.returns-in_err-plain
returns-in_err-plain g c = still_ended _ _ _ _ _ c.from_residual-in_err-plain.ensures.0

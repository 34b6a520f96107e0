use Rattle.eip_route_faults.proofs.Sited.{word_none, word_some}
use Rattle.eip_route_faults.proofs.Starved.{rule_starves}
use Rattle.eip_route_faults.proofs.Walking.{still_ended, walk_ended}
use Rattle.eip_route_faults.proofs.walk.find_in_word.Goals as goal

pub returns-in_ok-found-in-None : goal.returns-in_ok-found-in-None
returns-in_ok-found-in-None g c = word_none _ _ _ _ _ _ _ c.in-None.is c.in_ok-found-in-None.ensures

pub returns-in_ok-found-in-Some : goal.returns-in_ok-found-in-Some
returns-in_ok-found-in-Some g c = word_some _ _ _ c.in-Some.rule _ _ _ _ _ _ c.in-Some.is c.in_ok-found-in-Some.ensures

pub returns-in_err-found-in-None : goal.returns-in_err-found-in-None
returns-in_err-found-in-None g c = still_ended _ _ _ _ _ c.from_residual.ensures.0

pub returns-in_err-found-in-Some : goal.returns-in_err-found-in-Some
returns-in_err-found-in-Some g c =
    walk_ended _ _ _ _ _ _ c.from_residual-in_err-found-in-Some.ensures.0 (rule_starves _ _ _ c.in-Some.rule _ _ _ c.in-Some.is c.in_err-found-in-Some.ensures)

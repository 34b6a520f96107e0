use Rattle.eip_route_file.proofs.Filed.{file_item, file_later, list_starves}
use Rattle.eip_route_faults.proofs.Walking.{starves_walked, walk_ended}
use Rattle.eip_route_file.proofs.file.find_in_list.Goals as goal

pub returns-in-Some : goal.returns-in-Some
returns-in-Some g c = file_item _ _ c.in_ok-found.found c.in-Some.fault _ _ _ _ c.in_ok-found.ensures c.in-Some.is

pub returns-in_ok-later-in-None : goal.returns-in_ok-later-in-None
returns-in_ok-later-in-None g c = file_later _ _ c.in_ok-found.found _ _ _ _ _ c.in_ok-found.ensures c.in-None.is c.in_ok-later-in-None.ensures

pub returns-in_err-found : goal.returns-in_err-found
returns-in_err-found g c =
    walk_ended _ _ _ _ _ _ c.from_residual.ensures.0
    (list_starves _ _ _ _ c.in_err-found.ensures)

pub returns-in_err-later-in-None : goal.returns-in_err-later-in-None
returns-in_err-later-in-None g c =
    walk_ended _ _ _ _ _ _ c.from_residual-in_err-later-in-None.ensures.0
    (list_starves _ _ _ _ (starves_walked _ c.in_ok-found.found _ _ _ _ c.in_ok-found.ensures))

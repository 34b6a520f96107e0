use Rattle.eip_text.specs.Json.{items_json}
use Rattle.eip_route_file.proofs.Filed.{file_many, file_list, items_starve}
use Rattle.eip_route_faults.proofs.Walking.{still_ended, walk_ended}
use Rattle.eip_route_faults.specs.Sites.{builder}
use Rattle.eip_route_file.proofs.file.find_in_file.Goals as goal

pub returns-in_ok-fault-in-Some : goal.returns-in_ok-fault-in-Some
returns-in_ok-fault-in-Some g c =
    file_many c.args.names.now (items_json c.args.items.now) c.many_routes-many.result c.in-Some.cause c.in_ok-fault-in-Some.fault (builder g.P.Patterns c.args.patterns.now) c.args.known.now
    c.many_routes-many.ensures c.in-Some.is c.in_ok-fault-in-Some.ensures

pub returns-in_ok-found-in-None : goal.returns-in_ok-found-in-None
returns-in_ok-found-in-None g c =
    file_list c.args.names.now (items_json c.args.items.now) c.many_routes-many.result _ _ _ _ _ c.many_routes-many.ensures c.in-None.is c.in_ok-found-in-None.ensures

pub returns-in_err-found-in-None : goal.returns-in_err-found-in-None
returns-in_err-found-in-None g c =
    walk_ended _ _ _ _ _ _ c.from_residual-in_err-found-in-None.ensures.0
    (items_starve c.args.names.now (items_json c.args.items.now) c.many_routes-many.result _ _ c.many_routes-many.ensures c.in-None.is c.in_err-found-in-None.ensures)

pub returns-in_err-fault-in-Some : goal.returns-in_err-fault-in-Some
returns-in_err-fault-in-Some g c = still_ended _ _ _ _ _ c.from_residual.ensures.0

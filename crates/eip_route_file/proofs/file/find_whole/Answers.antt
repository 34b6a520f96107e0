use Rattle.std.proofs.Common.{None, Some, refl}
use Rattle.eip_text.specs.Json.{json, items_json}
use Rattle.eip_route_file.proofs.Filed.{whole_wrong, whole_walks, whole_starves}
use Rattle.eip_route_faults.proofs.Walking.{still_ended, walk_ended}
use Rattle.eip_route_faults.specs.Sites.{builder}
use Rattle.eip_route_file.proofs.file.find_whole.Goals as goal

pub returns-in_ok-fault-in-None : goal.returns-in_ok-fault-in-None
returns-in_ok-fault-in-None g c =
    whole_wrong c.args.names.now (json c.args.tree.now) None c.in_ok-fault-in-None.fault (builder g.P.Patterns c.args.patterns.now) c.args.known.now c.in-None.ensures refl c.in_ok-fault-in-None.ensures

pub returns-in_ok-found-in-Some : goal.returns-in_ok-found-in-Some
returns-in_ok-found-in-Some g c =
    whole_walks c.args.names.now (json c.args.tree.now) (Some (items_json c.in-Some.items.now)) (items_json c.in-Some.items.now) _ _ _ _ _ c.in-Some.ensures refl c.in_ok-found-in-Some.ensures

pub returns-in_err-found-in-Some : goal.returns-in_err-found-in-Some
returns-in_err-found-in-Some g c =
    walk_ended _ _ _ _ _ _ c.from_residual-in_err-found-in-Some.ensures.0
    (whole_starves c.args.names.now (json c.args.tree.now) (Some (items_json c.in-Some.items.now)) (items_json c.in-Some.items.now) _ _ c.in-Some.ensures refl c.in_err-found-in-Some.ensures)

pub returns-in_err-fault-in-None : goal.returns-in_err-fault-in-None
returns-in_err-fault-in-None g c = still_ended _ _ _ _ _ c.from_residual.ensures.0

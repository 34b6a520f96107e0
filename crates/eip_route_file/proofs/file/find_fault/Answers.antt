use Rattle.std.proofs.Common.{None, Some}
use Rattle.eip_text.specs.Json.{json}
use Rattle.eip_route_file.proofs.Filed.{file_walks, file_wrong, file_rises, file_starves}
use Rattle.eip_route_faults.proofs.Walking.{starves_walked, walk_ended}
use Rattle.eip_route_faults.specs.Sites.{builder}
use Rattle.eip_route_file.proofs.file.find_fault.Goals as goal

pub returns-in-None : goal.returns-in-None
returns-in-None g c =
    let w = file_walks c.args.names.now (json c.args.tree.now) c.in_ok-found.found (builder g.P.Patterns c.args.patterns.now) (builder g.P.Patterns c.find_whole.new.patterns) c.args.known.now c.find_whole.new.known c.in_ok-found.ensures c.in-None.is in
    record {
      finds = w;
      cause = file_rises c.args.names.now (json c.args.tree.now) None (builder g.P.Patterns c.args.patterns.now) (builder g.P.Patterns c.find_whole.new.patterns) c.args.known.now c.find_whole.new.known w;
    }

pub returns-in_ok-placed-in-Some : goal.returns-in_ok-placed-in-Some
returns-in_ok-placed-in-Some g c =
    let w =
    file_wrong c.args.names.now (json c.args.tree.now) c.in_ok-found.found c.in-Some.fault c.in_ok-placed-in-Some.placed (builder g.P.Patterns c.args.patterns.now) (builder g.P.Patterns c.find_whole.new.patterns) c.args.known.now c.find_whole.new.known
    c.in_ok-found.ensures c.in-Some.is c.in_ok-placed-in-Some.ensures in
    record {
      finds = w;
      cause = file_rises c.args.names.now (json c.args.tree.now) (Some c.in_ok-placed-in-Some.placed) (builder g.P.Patterns c.args.patterns.now) (builder g.P.Patterns c.find_whole.new.patterns) c.args.known.now c.find_whole.new.known w;
    }

pub returns-in_err-found-clause-finds : goal.returns-in_err-found-clause-finds
returns-in_err-found-clause-finds g c =
    walk_ended _ _ _ _ _ _ c.from_residual.ensures.0
    (file_starves c.args.names.now (json c.args.tree.now) _ _ c.in_err-found.ensures)

pub returns-in_err-placed-in-Some-clause-finds : goal.returns-in_err-placed-in-Some-clause-finds
returns-in_err-placed-in-Some-clause-finds g c =
    walk_ended _ _ _ _ _ _ c.from_residual-in_err-placed-in-Some.ensures.0
    (file_starves c.args.names.now (json c.args.tree.now) _ _ (starves_walked _ c.in_ok-found.found _ _ _ _ c.in_ok-found.ensures))

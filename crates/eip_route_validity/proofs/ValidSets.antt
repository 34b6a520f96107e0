-- The set of nested routes and clauses that fit is valid.
use Rattle.std.proofs.Common.{ℕ, Option, None, length, option_map, ◌≡◌, ap}
use Rattle.eip_route.specs.Faults.{set_fault}
use Rattle.eip_route.specs.Nest.{NestedSet, flat_clauses, flat_routes, flat_set}
use Rattle.eip_route.specs.Valid.{IsValid}
use Rattle.eip_route.specs.declared.fault.SetFault.{SetFault}
use Rattle.eip_route.specs.declared.fault.SetFault.TheVariants.{BadBlock, TooNested, SecondConsumer, DoubleRouteId, BothHandledAndContinued}
use Rattle.eip_route.specs.declared.route.Names.{Names}
use Rattle.eip_route_validity.proofs.ConsumersApart.{none_second, none_double, none_handled_and_continued, not_too_many}
use Rattle.eip_route_validity.proofs.GatheredBatches.{batches_gathered}
use Rattle.eip_route_validity.proofs.GoodSteps.{both_blocks, good_clauses, good_routes}
use Rattle.eip_route_validity.proofs.NotTooDeep.{none_too_deep}
use Rattle.eip_route_validity.proofs.NothingFound.{none_from}
use Rattle.eip_route_validity.proofs.NumbersInRange.{no_bad_block}
use Rattle.eip_route_validity.proofs.PlacedOnce.{placed_once}
use Rattle.eip_route_validity.proofs.GoodParts.{good_handler}
use Rattle.eip_route_validity.specs.Fit.{SetFits}

nothing_mapped : (f : ℕ → SetFault) (o : Option ℕ) → o ≡ None → option_map f o ≡ None
nothing_mapped f o e = ap (option_map f) e

no_fault : (n : Names) (x : NestedSet) → SetFits n x → set_fault (flat_set n x) ≡ None
unfolding set_fault
no_fault n x h =
    none_from _ _ (not_too_many n x h)
    (none_from _ _ (nothing_mapped BadBlock _ (no_bad_block n x h))
    (none_from _ _ (nothing_mapped TooNested _ (none_too_deep n x h))
    (none_from _ _ (nothing_mapped SecondConsumer _ (none_second n x h))
    (none_from _ _ (nothing_mapped DoubleRouteId _ (none_double n x h))
    (nothing_mapped BothHandledAndContinued _ (none_handled_and_continued n x h))))))

pub fits_valid : (n : Names) (x : NestedSet) → SetFits n x → IsValid (flat_set n x)
fits_valid n x h =
    let cs = flat_clauses 0 x.clauses in
    let rs = flat_routes (length cs.blocks) x.routes in
    let clauses = good_clauses n 0 x.clauses h.clauses in
    let routes = good_routes n (length cs.blocks) x.routes h.routes in
    let batches = batches_gathered n x h in
    record {
      checked = no_fault n x h;
      routes = routes.0;
      handler = good_handler n x.handler h.handler;
      clauses = clauses.0;
      blocks = both_blocks n cs.blocks rs.blocks clauses.1 routes.1;
      placed = placed_once n x h;
      gathered = batches.gathered;
      alone = batches.alone;
      outside = batches.outside;
    }

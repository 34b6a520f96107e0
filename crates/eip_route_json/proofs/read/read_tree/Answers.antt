use Rattle.std.proofs.Common.{Err, ap, ◌∙◌}
use Rattle.std.proofs.lemmas.Result.{err_from_is_err_and}
use Rattle.eip_route_faults.proofs.Walking.{starves_walked}
use Rattle.eip_route_validity.proofs.filed.Whole.{file_fits}
use Rattle.eip_route_validity.proofs.ValidSets.{fits_valid}
use Rattle.eip_route_json.proofs.Walked.{walk_tells, walk_holds, walk_asks_until, walk_reads, walk_asks_all, reading_ended, asking_ended}
use Rattle.eip_route_json.proofs.read.read_tree.Goals as goal

pub built-requires : goal.built-requires
built-requires g c = record { held = walk_holds _ _ c.in_ok-found.found _ _ _ _ c.in_ok-found.ensures.finds c.in-None.is c.new-known.ensures }

pub returns-in-Some : goal.returns-in-Some
returns-in-Some g c = record {
  reads = walk_tells _ c.in-Some.fault c.in_ok-found.found _ _ _ _ c.in_ok-found.ensures.finds c.in-Some.is;
  asks = walk_asks_until _ c.in-Some.fault c.in_ok-found.found _ _ _ _ c.in_ok-found.ensures.finds c.in-Some.is;
}

pub returns : goal.returns
returns g c = record {
  reads = walk_reads _ _ c.in_ok-set-in-None.set _ _ _ _ _ c.in_ok-found.ensures.finds c.in-None.is c.in_ok-set-in-None.ensures (λ none. fits_valid _ _ (file_fits _ _ none));
  asks = walk_asks_all _ c.in_ok-set-in-None.set _ _ _ _ _ c.in_ok-found.ensures.finds c.in-None.is;
}

pub returns-in_err-found : goal.returns-in_err-found
returns-in_err-found g c =
    let p = err_from_is_err_and c.from_residual.result c.from_residual.ensures.1 in
    record {
      reads = reading_ended _ _ _ _ _ (p.1 ∙ ap Err p.2) c.in_err-found.ensures.finds.faults;
      asks = asking_ended _ _ _ _ (p.1 ∙ ap Err p.2) c.in_err-found.ensures.finds.builds;
    }

pub returns-in_err-set-in-None : goal.returns-in_err-set-in-None
returns-in_err-set-in-None g c =
    let p = err_from_is_err_and c.from_residual-in_err-set-in-None.result c.from_residual-in_err-set-in-None.ensures.1 in
    let s = starves_walked _ c.in_ok-found.found _ _ _ _ c.in_ok-found.ensures.finds in
    record {
      reads = reading_ended _ _ _ _ _ (p.1 ∙ ap Err p.2) s.faults;
      asks = asking_ended _ _ _ _ (p.1 ∙ ap Err p.2) s.builds;
    }

use Rattle.std.proofs.Common.{List, ℕ, [], ◌∷◌, ◌++◌, ap, ◌∙◌}
use Rattle.eip_route_grammar.specs.declared.known.Entry.{Entry}
use Rattle.eip_route_faults.proofs.Walking.{walk_read, walk_refused, starves_read, starves_refused, walk_ended}
use Rattle.eip_route_faults.proofs.walk.find_in_predicate.Goals as goal

pub returns-in_ok-add-in-Ok : goal.returns-in_ok-add-in-Ok
returns-in_ok-add-in-Ok g c =
    let entry : List ℕ → Entry = λ w. record { text = w; predicate = c.in-Ok.predicate } in
    walk_read c.args.text.now c.in-Ok.predicate _ _ _ _ c.in-Ok.ensures.exact c.in-Ok.ensures.cause c.in-Ok.ensures.asks
    (c.in_ok-add-in-Ok.ensures.added ∙ ap (λ (w : List ℕ). c.args.known.now ++ entry w ∷ []) c.in_ok-copy-in-Ok.ensures)

pub returns-in_ok-here-in-Err : goal.returns-in_ok-here-in-Err
returns-in_ok-here-in-Err g c =
    walk_refused c.args.text.now c.in-Err.fault c.in_ok-cause-in-Err.cause c.in_ok-here-in-Err.field-0 _ _ _ _ c.in-Err.ensures.exact c.in_ok-cause-in-Err.ensures c.in-Err.ensures.cause c.in-Err.ensures.asks c.in_ok-here-in-Err.ensures

pub returns-in_err-cause-in-Err : goal.returns-in_err-cause-in-Err
returns-in_err-cause-in-Err g c =
    walk_ended _ _ _ _ _ _ c.from_residual-in_err-cause-in-Err.ensures.0 (starves_refused c.args.text.now c.in-Err.fault _ _ c.in-Err.ensures.exact c.in-Err.ensures.cause c.in-Err.ensures.asks)

pub returns-in_err-here-in-Err : goal.returns-in_err-here-in-Err
returns-in_err-here-in-Err g c =
    walk_ended _ _ _ _ _ _ c.from_residual-in_err-here-in-Err.ensures.0 (starves_refused c.args.text.now c.in-Err.fault _ _ c.in-Err.ensures.exact c.in-Err.ensures.cause c.in-Err.ensures.asks)

pub returns-in_err-copy-in-Ok : goal.returns-in_err-copy-in-Ok
returns-in_err-copy-in-Ok g c = walk_ended _ _ _ _ _ _ c.from_residual.ensures.0 (starves_read c.args.text.now c.in-Ok.predicate _ _ c.in-Ok.ensures.cause c.in-Ok.ensures.asks)

pub returns-in_err-add-in-Ok : goal.returns-in_err-add-in-Ok
returns-in_err-add-in-Ok g c =
    walk_ended _ _ _ _ _ _ c.from_residual-in_err-add-in-Ok.ensures.0 (starves_read c.args.text.now c.in-Ok.predicate _ _ c.in-Ok.ensures.cause c.in-Ok.ensures.asks)

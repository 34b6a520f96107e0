use Rattle.std.proofs.Common.{Ok, Err}
use Rattle.std.specs.Prelude.{string_bytes}
use Rattle.std.proofs.lemmas.Result.{err_from_is_err_and}
use Rattle.eip_strategy.specs.Adding.{next_body}
use Rattle.eip_strategy.specs.Growing.{grown}
use Rattle.eip_strategy.proofs.Bounded.{grown_as}
use Rattle.eip_strategy.proofs.steps.grown.Goals as goal

pub returns-in_err-grow : goal.returns-in_err-grow
returns-in_err-grow c =
    let p = err_from_is_err_and c.from_residual.result c.from_residual.ensures.1 in
    rw (p.1, p.2) (λ h.
    grown_as (grown c.args.so_far) (next_body c.args.strategy.now (string_bytes c.args.so_far.body) c.args.new.now.body) (Err c.in_err-grow.field-0.0) (c.in_err-grow.ensures.says h))

pub returns : goal.returns
returns c = grown_as (grown c.args.so_far) (next_body c.args.strategy.now (string_bytes c.args.so_far.body) c.args.new.now.body) (Ok (string_bytes c.grow.new.body)) c.in_ok-grow.ensures.says

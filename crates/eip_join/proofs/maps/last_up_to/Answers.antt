use Rattle.eip_join.proofs.Lookups.{last_entry, no_entry}
use Rattle.eip_join.proofs.maps.last_up_to.Goals as goal

pub returns-in_err-first : goal.returns-in_err-first
returns-in_err-first c = rw c.from_residual.ensures (no_entry c.args.parents.now c.args.number c.range.result (c.range.ensures.in_range tt) c.in_err-first.ensures.steps.0)

pub returns : goal.returns
returns c = last_entry c.args.parents.now c.args.number c.range.result (c.in_ok-first.first.now, c.in_ok-first.parent.now) _ (c.range.ensures.in_range tt) c.in_ok-first.ensures.steps

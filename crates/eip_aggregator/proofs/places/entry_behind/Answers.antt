use Rattle.eip_aggregator.proofs.Lookups.{next_entry, no_entry}
use Rattle.eip_aggregator.proofs.places.entry_behind.Goals as goal

pub returns-in_err-next : goal.returns-in_err-next
returns-in_err-next c = rw c.from_residual.ensures (no_entry c.args.groups.now c.args.number c.range.result (c.range.ensures.in_range tt) c.in_err-next.ensures.steps.0)

pub returns : goal.returns
returns c = next_entry c.args.groups.now c.args.number c.range.result _ (c.in_ok-next.next.now, c.in_ok-next.group.now) (c.range.ensures.in_range tt) c.in_ok-next.ensures.steps

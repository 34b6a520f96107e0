use Rattle.eip_core.proofs.Serving.{askable, asked-from, asks-for}
use Rattle.eip_core.proofs.drain.answer_of.Goals as goal

pub unreachable-requires : goal.unreachable-requires
unreachable-requires g c = asked-from c.args.hub.now _ _ c.requires.asked c.in_default.ensures

pub ask-requires : goal.ask-requires
ask-requires g c = rw c.set.ensures (askable c.args.hub.now _ _ _ _ c.requires.asked c.requires.of_outside c.requires.can_run c.in-Some.ensures)

pub returns : goal.returns
returns g c = asks-for c.args.hub.now _ _ _ _ _ _ _ _ _ c.set.ensures c.in-Some.ensures c.ask.ensures

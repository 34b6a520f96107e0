use Rattle.eip_cursor.proofs.Ending.{ends_follow}
use Rattle.eip_cursor.proofs.going.goes_to_end.Goals as goal

pub ask_to_end-requires : goal.ask_to_end-requires
ask_to_end-requires c = (rw c.in-Some.is at c.in_ok-message.ensures).0

pub returns-in-Some-clause-ok : goal.returns-in-Some-clause-ok
returns-in-Some-clause-ok c = (
  _,
  c.ask_to_end.ensures.place,
  rw c.ask_to_end.ensures.cursor (ends_follow c.args.set.now c.args.cursor.now c.args.answer.now c.in-Some.message (rw c.in-Some.is at c.in_ok-message.ensures)),
)

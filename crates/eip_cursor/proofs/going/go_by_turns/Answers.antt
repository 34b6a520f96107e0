use Rattle.std.proofs.Common.{[]}
use Rattle.eip_meaning.specs.Meaning.{item_of}
use Rattle.eip_progress.specs.Rest.{rest}
use Rattle.eip_cursor.proofs.Following.{not_over}
use Rattle.eip_cursor.proofs.going.go_by_turns.Goals as goal

pub ask-requires-clause-lives : goal.ask-requires-clause-lives
unfolding rest
ask-requires-clause-lives c =
    not_over c.args.set.now c.args.cursor.now.commit (item_of c.args.cursor.now.origin) c.args.cursor.now.context c.in_ok-reached.reached.whole c.in_ok-reached.reached.stack.items c.in_ok-reached.reached.state _
    (c.in_ok-reached.ensures.rest []) c.requires.lives

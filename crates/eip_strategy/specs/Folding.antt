-- Messages taken in one behind the other.
use Rattle.std.specs.Prelude.{List, Option, Some, None, Ok, Err, fold}
use Rattle.eip_exchange.specs.declared.message.Message.{Message}
use Rattle.eip_exchange.specs.declared.setting.Strategy.{Strategy}
use Rattle.eip_strategy.specs.Adding.{added}
use Rattle.eip_strategy.specs.Answers.{Answer}

abbrev pub as_some : Answer Message → Answer (Option Message)
as_some (Ok m) = Ok (Some m)
as_some (Err f) = Err f

-- the first fault stays
abbrev pub added_to : Strategy → Answer (Option Message) → Message → Answer (Option Message)
added_to s (Ok so_far) new = as_some (added s so_far new)
added_to s (Err f) new = Err f

-- the messages in one, taken in from the first to the last: none of no messages
unfoldable pub folded : Strategy → List Message → Answer (Option Message)
folded s ms = fold (added_to s) (Ok None) ms

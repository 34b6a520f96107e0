-- How an exchange comes to its end.
use Rattle.std.specs.Prelude.{◌≡◌, ◌⊎◌, true, List}
use Rattle.eip_exchange.specs.Ends.{commit_failed}
use Rattle.eip_exchange.specs.declared.message.Message.{Message}
use Rattle.eip_exchange.specs.declared.end.End.{End}
use Rattle.eip_exchange.specs.declared.birth.Birth.{Birth}
use Rattle.eip_route.specs.declared.route.RouteSet.{RouteSet}
use Rattle.eip_frames.specs.Fate.{AsksNext}
use Rattle.eip_frames.specs.declared.request.Request.TheVariants as request
use Rattle.eip_frames.specs.declared.answer.Answer.{Answer as Reply}
use Rattle.eip_frames.specs.declared.answer.Answer.TheVariants as reply
use Rattle.eip_meaning.specs.Contexts.{place_of}
use Rattle.eip_meaning.specs.Meaning.{mean, is_committed, item_of}

-- an end with this message stands behind a last request: it is the end asked for, or the source did not take its commit
pub record IsBehindFinish (set : RouteSet) (b : Birth) (given : List Reply) (a : Reply) (e : End) (m : Message) : Type 0 where
  pub asked_end : End
  pub asked : mean set b given ≡ AsksNext (request.Finish asked_end m (is_committed set b)) (place_of b)
  pub answered : ((a ≡ reply.Finished) × (e ≡ asked_end)) ⊎ ((a ≡ reply.CommitFailed) × (is_committed set b ≡ true) × (e ≡ commit_failed (item_of b.origin)))

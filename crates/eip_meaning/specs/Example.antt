-- A worked run: the body is set, a line is logged, and a lane fails. Each row is what is asked on one more answer.
use Rattle.std.specs.Prelude.{◌≡◌, false, [], ◌∷◌, codes, refl}
use Rattle.eip_exchange.specs.declared.end.End.TheVariants.{Completed}
use Rattle.eip_uri.specs.declared.uri.Uri.TheVariants as uri
use Rattle.eip_route.specs.Goals.{goal_of}
use Rattle.eip_route.specs.declared.step.Expr.TheVariants as expr
use Rattle.eip_route.specs.declared.step.Step.TheVariants as step
use Rattle.eip_route.specs.declared.route.RouteSet.{RouteSet}
use Rattle.eip_frames.specs.Fate.{AsksNext, Ends, Strays}
use Rattle.eip_frames.specs.declared.request.Target.TheVariants as target
use Rattle.eip_frames.specs.declared.request.Request.TheVariants as request
use Rattle.eip_frames.specs.declared.answer.Answer.TheVariants as reply
use Rattle.eip_error_handler.specs.Clauses.{chosen}
use Rattle.eip_meaning.specs.RowForms.{plain, caught_with, failed, block, one_route, line, here}
use Rattle.eip_meaning.specs.Attempts.{tries}
use Rattle.eip_meaning.specs.Meaning.{mean, blocks_mean, level_mean, block_mean}

abbrev pub greeting : RouteSet
greeting = one_route (block (step.SetBody (expr.Constant (codes "hi")) ∷ step.To (uri.Log (codes "out")) ∷ step.To (uri.Lane (codes "x")) ∷ []) ∷ [])

pub logs : mean greeting (line 0 (codes "1")) [] ≡ AsksNext (request.Log (codes "out") (codes "hi")) here
unfolding mean tries blocks_mean level_mean block_mean goal_of
logs = refl

pub sends : mean greeting (line 0 (codes "1")) (reply.Noted ∷ []) ≡ AsksNext (request.Send (target.Lane (codes "x")) (plain (codes "hi"))) here
unfolding mean tries blocks_mean level_mean block_mean goal_of
sends = refl

pub fails : mean greeting (line 0 (codes "1")) (reply.Noted ∷ reply.SendFailed ∷ [])
    ≡ AsksNext (request.Finish (failed (codes "SendFailed") (codes "lane:x")) (caught_with (codes "hi") (codes "lane:x")) false) here
unfolding mean tries blocks_mean level_mean block_mean goal_of chosen
fails = refl

pub ends : mean greeting (line 0 (codes "1")) (reply.Noted ∷ reply.SendFailed ∷ reply.Finished ∷ [])
    ≡ Ends (failed (codes "SendFailed") (codes "lane:x")) (caught_with (codes "hi") (codes "lane:x"))
unfolding mean tries blocks_mean level_mean block_mean goal_of chosen
ends = refl

pub completes : mean greeting (line 0 (codes "1")) (reply.Noted ∷ reply.Done ∷ reply.Finished ∷ []) ≡ Ends Completed (plain (codes "hi"))
unfolding mean tries blocks_mean level_mean block_mean goal_of
completes = refl

-- standard input is told nothing, so no commit can fail
pub no_commit : mean greeting (line 0 (codes "1")) (reply.Noted ∷ reply.Done ∷ reply.CommitFailed ∷ []) ≡ Strays
unfolding mean tries blocks_mean level_mean block_mean goal_of
no_commit = refl

pub strays : mean greeting (line 0 (codes "1")) (reply.Done ∷ []) ≡ Strays
unfolding mean tries blocks_mean level_mean block_mean goal_of
strays = refl

-- What lanes and inlets see of a small history, computed.
use Rattle.std.specs.Prelude.{◌≡◌, true, false, [], ◌∷◌, Some, map, codes, refl}
use Rattle.eip_exchange.specs.declared.birth.Origin.TheVariants as from
use Rattle.eip_exchange.specs.declared.end.End.TheVariants as end
use Rattle.eip_frames.specs.declared.request.Request.TheVariants as request
use Rattle.eip_frames.specs.declared.answer.Answer.{Answer as Reply}
use Rattle.eip_frames.specs.declared.answer.Answer.TheVariants as reply
use Rattle.eip_endpoint.specs.declared.endpoint.Outcome.TheVariants as outcome
use Rattle.eip_endpoint.specs.declared.source.CommitOutcome.TheVariants as commit
use Rattle.eip_endpoint.specs.declared.source.Pulled.TheVariants.{Item, Refused}
use Rattle.eip_endpoint.specs.declared.source.Refusal.TheVariants as refusal
use Rattle.eip_endpoint.specs.Lanes.{LaneCall}
use Rattle.eip_endpoint.specs.Inlets.{given_at, commits_at, faults_at}
use Rattle.eip_endpoint.specs.Outside.{Answered, Doors, calls, commits}
use Rattle.eip_history.specs.Own.{own}
use Rattle.eip_history.specs.Births.{story, fate}
use Rattle.eip_history.specs.Place.{ended}
use Rattle.eip_history.specs.Rules.{served}
use Rattle.eip_history.specs.Example.{plain}
use Rattle.eip_history.specs.Histories.{pair, pair_past}
use Rattle.eip_core.specs.Outside.{seen_answers, pulls, inlet_acts}

-- each source has its own inlet; all is sent on the first lane
abbrev pub pair_doors : Doors
pair_doors = record { inlet = λ t. Some t; uri = λ t. codes "u"; lane = λ t. Some 0 }

pub pair_calls : map (λ (c : LaneCall). c.call.outcome) (calls pair_doors (seen_answers (served pair pair_past))) ≡ outcome.Done ∷ outcome.Failed ∷ []
unfolding own story fate ended served
pair_calls = refl

pub second_gave : given_at 1 (codes "u") (inlet_acts pair_doors pair_past (seen_answers (served pair pair_past)))
    ≡ Item (codes "b1") (plain (codes "b")) ∷ Refused (codes "b2") refusal.TooLong ∷ []
unfolding own story fate ended served pulls
second_gave = refl

pub second_failed : faults_at 1 (inlet_acts pair_doors pair_past (seen_answers (served pair pair_past))) ≡ 1
unfolding own story fate ended served pulls
second_failed = refl

-- an exchange of the second source has completed, and its source is to be told, or not
abbrev pub finished : Reply → Answered
finished a = record { worker = 2; origin = from.Source 1 (codes "b1"); request = request.Finish end.Completed (plain (codes "b")) true; answer = a }

abbrev pub untold : Answered
untold = record { worker = 2; origin = from.Source 1 (codes "b1"); request = request.Finish end.Completed (plain (codes "b")) false; answer = reply.Finished }

-- only a Finish with commit tells the source
pub second_told : commits_at 1 (codes "u") (commits pair_doors (untold ∷ finished reply.CommitFailed ∷ finished reply.Finished ∷ []))
    ≡ (record { item = codes "b1"; end = end.Completed; outcome = commit.Failed })
    ∷ (record { item = codes "b1"; end = end.Completed; outcome = commit.Done }) ∷ []
second_told = refl

-- What a cursor gives on the answers that are still to come.
use Rattle.std.specs.Prelude.{◌≡◌, ℕ, zero, suc, Bool, true, cond, ◌&&◌, is_some, List, [], ◌∷◌, ◌++◌, drop, slice_get, Option, Some, None, unwrap_or}
use Rattle.std.specs.Borrow.{Bor}
use Rattle.eip_exchange.specs.declared.message.Message.{Message}
use Rattle.eip_exchange.specs.declared.end.Fault.{Fault}
use Rattle.eip_exchange.specs.declared.end.End.{End}
use Rattle.eip_exchange.specs.declared.end.End.TheVariants.{Handled, Failed}
use Rattle.eip_exchange.specs.declared.end.Ended.{Ended}
use Rattle.eip_exchange.specs.declared.setting.Strategy.{Strategy}
use Rattle.eip_exchange.specs.declared.setting.Strategy.TheVariants as strategy
use Rattle.eip_uri.specs.declared.uri.Uri.{Uri}
use Rattle.eip_route.specs.Goals.{goal_of}
use Rattle.eip_route.specs.Faults.{next_number}
use Rattle.eip_route.specs.declared.goal.Goal.{Goal}
use Rattle.eip_route.specs.declared.goal.Goal.TheVariants as goal
use Rattle.eip_route.specs.declared.route.RouteSet.{RouteSet}
use Rattle.eip_route.specs.declared.step.Catch.{Catch}
use Rattle.eip_route.specs.declared.step.Check.{Check}
use Rattle.eip_route.specs.declared.step.Step.{Step}
use Rattle.eip_route.specs.declared.step.Step.TheVariants as step
use Rattle.eip_frames.specs.Fate.{Fate, AsksNext, Ends, Strays}
use Rattle.eip_frames.specs.Fits.{fits}
use Rattle.eip_frames.specs.declared.request.At.{At}
use Rattle.eip_frames.specs.declared.request.Seed.{Seed}
use Rattle.eip_frames.specs.declared.request.Request.{Request}
use Rattle.eip_frames.specs.declared.request.Request.TheVariants as request
use Rattle.eip_frames.specs.declared.answer.Answer.{Answer as Reply}
use Rattle.eip_meaning.specs.declared.context.Context.{Context}
use Rattle.eip_meaning.specs.Outcomes.{Outcome, Goes, Stops, Faults, Runner, followed, caught, ask}
use Rattle.eip_meaning.specs.Contexts.{place_in}
use Rattle.eip_meaning.specs.Values.{redelivered}
use Rattle.eip_meaning.specs.Checks.{held, block_or_goes, choice_mean}
use Rattle.eip_meaning.specs.Sends.{to_mean}
use Rattle.eip_meaning.specs.Parts.{first_born, count_born, parts_in, first_fault, fault_of_end, or_fault, join_mean}
use Rattle.eip_meaning.specs.FanOuts.{in_turn}
use Rattle.eip_meaning.specs.Tries.{behind_part, behind_block, finally_mean, try_ends, catch_mean, catches_mean}
use Rattle.eip_meaning.specs.Steps.{became, is_fresh, by_key, one_try}
use Rattle.eip_meaning.specs.Attempts.{tries, number_of_try, faulted}
use Rattle.eip_meaning.specs.Meaning.{steps_mean, steps_of, nested_in, call_in, handle_in, finish_by, finished, item_of, work_mean}
use Rattle.eip_progress.specs.declared.tried.Progress.{Progress}
use Rattle.eip_progress.specs.declared.tried.Progress.TheVariants as progress
use Rattle.eip_progress.specs.declared.tried.Tried.{Tried}
use Rattle.eip_progress.specs.declared.tried.Tried.TheVariants as tried
use Rattle.eip_progress.specs.declared.frame.Task.{Task}
use Rattle.eip_progress.specs.declared.frame.Task.TheVariants as task
use Rattle.eip_progress.specs.declared.frame.Wait.{Wait}
use Rattle.eip_progress.specs.declared.frame.Wait.TheVariants as wait
use Rattle.eip_progress.specs.declared.frame.Frame.{Frame}
use Rattle.eip_progress.specs.declared.frame.Frame.TheVariants as frame
use Rattle.eip_progress.specs.declared.frame.Now.{Now}
use Rattle.eip_progress.specs.declared.frame.Now.TheVariants as now
use Rattle.eip_progress.specs.declared.cursor.State.{State}
use Rattle.eip_progress.specs.declared.cursor.State.TheVariants as state
use Rattle.eip_progress.specs.declared.cursor.Next.{Next}
use Rattle.eip_progress.specs.declared.cursor.Next.TheVariants as next
use Rattle.eip_progress.specs.declared.cursor.Cursor.{Cursor}

-- ---- tries

-- the blocks that a step of block b may run, and the routes that it may call
abbrev pub nested_at : RouteSet → Context → ℕ → ℕ → Runner
nested_at set c b = nested_in set (handle_in set c) c b

abbrev pub call_at : RouteSet → Context → ℕ → Runner
call_at set c = call_in set (handle_in set c) c

abbrev pub try_of_step : RouteSet → Context → ℕ → Option Step → Runner
try_of_step set c b None m A = Goes m A
try_of_step set c b (Some s) m A = one_try set (nested_at set c b) (call_at set c) c s m A

abbrev pub try_of_send : RouteSet → Context → Option Uri → Runner
try_of_send set c None m A = Goes m A
try_of_send set c (Some u) m A = to_mean set (call_at set c) c u m A

-- one try of a task; `whole` is the endpoint of a send that is the whole work
abbrev pub try_of : RouteSet → (whole : Option Uri) → Context → Task → Runner
try_of set whole c (task.Step b i) m A = try_of_step set c b (slice_get (steps_of set b) i) m A
try_of set whole c task.Dead m A = try_of_send set c set.handler.dead m A
try_of set whole c task.Whole m A = try_of_send set c whole m A

abbrev pub tries_of : RouteSet → Option Uri → Context → Task → ℕ → Runner
tries_of set whole c t left m A = tries set (handle_in set c) (try_of set whole c t) c left m A

-- the try that may follow
abbrev pub next_try : RouteSet → Option Uri → Context → Task → ℕ → Option Runner
next_try set whole c t zero = None
next_try set whole c t (suc left) = Some (λ m A. tries_of set whole c t left m A)

-- a fault of a task behind which so many tries may follow
abbrev pub fault_mean : RouteSet → Option Uri → Context → Task → ℕ → Message → Fault → Bool → List Reply → Outcome
fault_mean set whole c t left m f again A = faulted set (handle_in set c) c (number_of_try left) (next_try set whole c t left) m f again A

-- ---- what follows an answer that is no fault, at the message of the try

abbrev pub next_part : RouteSet → Context → Strategy → (stop : Bool) → List Ended → ℕ → List Seed → List Ended → Runner
next_part set c s stop ended k left parts m A =
    cond (stop && is_some (first_fault parts)) (join_mean s (ended ++ parts) m A) (in_turn set c s stop (ended ++ parts) (next_number k) left m A)

abbrev pub fan_cont : RouteSet → Context → Strategy → (stop : Bool) → Progress → Message → Reply → List Reply → Outcome
fan_cont set c s stop progress.SpawningAll m a A = ask set (request.Join (first_born a) (count_born a)) (place_in c 0) (λ b A'. join_mean s (parts_in b) m A') A
fan_cont set c s stop progress.JoiningAll m a A = join_mean s (parts_in a) m A
fan_cont set c s stop (progress.Spawning k ended left) m a A =
    ask set (request.Join (first_born a) (count_born a)) (place_in c k) (λ b A'. next_part set c s stop ended k left (parts_in b) m A') A
fan_cont set c s stop (progress.Joining k ended left) m a A = next_part set c s stop ended k left (parts_in a) m A
fan_cont set c s stop _ m a A = Goes m A

abbrev pub case_cont : RouteSet → Context → ℕ → List (Check × ℕ) → Option ℕ → Option (Check × ℕ) → Message → Reply → List Reply → Outcome
case_cont set c b later otherwise None m a A = Goes m A
case_cont set c b later otherwise (Some x) m a A = cond (held a) (nested_at set c b x.1 m A) (choice_mean set (nested_at set c b) c later otherwise m A)

abbrev pub choice_cont : RouteSet → Context → ℕ → List (Check × ℕ) → Option ℕ → Progress → Message → Reply → List Reply → Outcome
choice_cont set c b cases otherwise (progress.Choosing k) m a A = case_cont set c b (drop (suc k) cases) otherwise (slice_get cases k) m a A
choice_cont set c b cases otherwise _ m a A = Goes m A

abbrev pub goal_cont : RouteSet → Context → Goal → Runner
goal_cont set c (goal.Direct r) m A = call_at set c r m A
goal_cont set c (goal.Queue r) m A = Goes m A
goal_cont set c goal.Lane m A = Goes m A
goal_cont set c goal.Log m A = Goes m A
goal_cont set c goal.NoConsumer m A = Goes m A

abbrev pub to_cont : RouteSet → Context → Uri → Runner
to_cont set c u m A = goal_cont set c (goal_of set u) m A

-- a part of a doTry has ended
abbrev pub part_cont : RouteSet → Context → List Catch → Option ℕ → (index : ℕ) → Option Fault → Message → Ended → List Reply → Outcome
part_cont set c catches finish zero pending m e A = behind_block set c m catches (finally_mean set c finish m) (fault_of_end e.end) e.message A
part_cont set c catches finish (suc zero) pending m e A = finally_mean set c finish m (fault_of_end e.end) e.message A
part_cont set c catches finish (suc (suc k)) pending m e A = try_ends m (or_fault (fault_of_end e.end) pending) e.message A

abbrev pub only_cont : RouteSet → Context → List Catch → Option ℕ → (index : ℕ) → Option Fault → Message → List Ended → List Reply → Outcome
only_cont set c catches finish k pending m parts A = behind_part m parts (part_cont set c catches finish k pending m) A

abbrev pub catch_cont : RouteSet → Context → List Catch → Option ℕ → Option Catch → Fault → Message → Message → Reply → List Reply → Outcome
catch_cont set c later finish None f x m a A = Goes m A
catch_cont set c later finish (Some y) f x m a A =
    cond (held a) (catch_mean set c m y.block (finally_mean set c finish m) x A) (catches_mean set c m later (finally_mean set c finish m) f x A)

abbrev pub try_cont : RouteSet → Context → List Catch → Option ℕ → Progress → Message → Reply → List Reply → Outcome
try_cont set c catches finish (progress.Entering k pending) m a A =
    ask set (request.Join (first_born a) (count_born a)) (place_in c k) (λ b A'. only_cont set c catches finish k pending m (parts_in b) A') A
try_cont set c catches finish (progress.Leaving k pending) m a A = only_cont set c catches finish k pending m (parts_in a) A
try_cont set c catches finish (progress.Testing k f x) m a A = catch_cont set c (drop (suc k) catches) finish (slice_get catches k) f x m a A
try_cont set c catches finish _ m a A = Goes m A

abbrev pub cont_of_step : RouteSet → Context → ℕ → Step → Progress → Message → Reply → List Reply → Outcome
cont_of_step set c b (step.To u) p m a A = to_cont set c u m A
cont_of_step set c b (step.Process name) p m a A = Goes (became m a) A
cont_of_step set c b (step.Choice cases otherwise) p m a A = choice_cont set c b cases otherwise p m a A
cont_of_step set c b (step.Filter check j) p m a A = cond (held a) (nested_at set c b j m A) (Goes m A)
cont_of_step set c b (step.Split how fan j) p m a A = fan_cont set c (unwrap_or fan.strategy strategy.Original) fan.stop p m a A
cont_of_step set c b (step.Multicast fan bs) p m a A = fan_cont set c (unwrap_or fan.strategy strategy.Latest) fan.stop p m a A
cont_of_step set c b (step.Recipients list delimiter fan) p m a A = fan_cont set c (unwrap_or fan.strategy strategy.Latest) fan.stop p m a A
cont_of_step set c b (step.Idempotent key repository skip eager remove j) p m a A = by_key (nested_at set c b) skip j (is_fresh a) m A
cont_of_step set c b (step.Try j catches finish) p m a A = try_cont set c catches finish p m a A
cont_of_step set c b (step.SetBody e) p m a A = Goes m A
cont_of_step set c b (step.SetHeader name e) p m a A = Goes m A
cont_of_step set c b (step.SetProperty name e) p m a A = Goes m A
cont_of_step set c b (step.RemoveHeader name) p m a A = Goes m A
cont_of_step set c b (step.Log name template) p m a A = Goes m A
cont_of_step set c b (step.Throw kind template) p m a A = Goes m A
cont_of_step set c b (step.Aggregate g) p m a A = Goes m A

abbrev pub cont_of_found : RouteSet → Context → ℕ → Option Step → Progress → Message → Reply → List Reply → Outcome
cont_of_found set c b None p m a A = Goes m A
cont_of_found set c b (Some s) p m a A = cont_of_step set c b s p m a A

abbrev pub cont_of_send : RouteSet → Context → Option Uri → Runner
cont_of_send set c None m A = Goes m A
cont_of_send set c (Some u) m A = to_cont set c u m A

abbrev pub cont_of : RouteSet → Option Uri → Context → Task → Progress → Message → Reply → List Reply → Outcome
cont_of set whole c (task.Step b i) p m a A = cont_of_found set c b (slice_get (steps_of set b) i) p m a A
cont_of set whole c task.Dead p m a A = cont_of_send set c set.handler.dead m A
cont_of set whole c task.Whole p m a A = cont_of_send set c whole m A

-- ---- waits

abbrev pub asking_mean : RouteSet → Option Uri → Context → Task → Progress → Request → ℕ → Message → List Reply → Outcome
asking_mean set whole c t p q k m A = ask set q (place_in c k) (λ a A'. cont_of set whole c t p m a A') A

-- a part of a try, with what follows its faults
abbrev pub guarded_mean : RouteSet → Option Uri → Context → Task → ℕ → Message → Outcome → Outcome
guarded_mean set whole c t left m o = caught o (λ f again A'. fault_mean set whole c t left m f again A')

abbrev pub wait_mean : RouteSet → Option Uri → Wait → List Reply → Outcome
wait_mean set whole (wait.Trying c t left m x) A =
    guarded_mean set whole c t left m (asking_mean set whole c t x.progress x.request x.index (redelivered m (number_of_try left)) A)
wait_mean set whole (wait.Sleeping c t left ticks m) A = ask set (request.Wait ticks) (place_in c 0) (λ a A'. tries_of set whole c t left m A') A

abbrev pub block_at : Task → ℕ
block_at (task.Step b i) = b
block_at task.Dead = 0
block_at task.Whole = 0

-- what a try gives
abbrev pub tried_mean : RouteSet → Option Uri → Context → Task → Tried → List Reply → Outcome
tried_mean set whole c t (tried.Goes m) A = Goes m A
tried_mean set whole c t (tried.Faults f again m) A = Faults f again A
tried_mean set whole c t (tried.Asks x m) A = asking_mean set whole c t x.progress x.request x.index m A
tried_mean set whole c t (tried.Enters j m) A = nested_at set c (block_at t) j m A
tried_mean set whole c t (tried.Calls r m) A = call_at set c r m A

-- ---- frames

-- the steps of a block from an index on
abbrev pub rest_of_block : RouteSet → Context → ℕ → ℕ → Runner
rest_of_block set c b i m A = steps_mean set (handle_in set c) (nested_at set c b) (call_at set c) c (drop i (steps_of set b)) m A

abbrev pub after_steps : (handled continued : Bool) → Fault → Runner
after_steps handled continued f m A = cond handled (Stops Handled m A) (cond continued (Goes m A) (Stops (Failed f) m A))

abbrev pub frame_mean : RouteSet → Frame → Runner
frame_mean set (frame.Rest c b i) m A = rest_of_block set c b i m A
frame_mean set (frame.Clause handled continued f) m A = after_steps handled continued f m A
frame_mean set frame.Letter m A = Stops Handled m A

-- an outcome with the frames behind it, the last one first
abbrev pub behind_all : RouteSet → List Frame → Outcome → Outcome
behind_all set [] o = o
behind_all set (f ∷ fs) o = followed (behind_all set fs o) (λ m A. frame_mean set f m A)

abbrev pub now_mean : RouteSet → Option Uri → Now → List Reply → Outcome
now_mean set whole (now.Goes m) A = Goes m A
now_mean set whole (now.Stops e m) A = Stops e m A
now_mean set whole (now.Waits w) A = wait_mean set whole w A
now_mean set whole (now.Enters c b m) A = rest_of_block set c b 0 m A
now_mean set whole (now.Handles handled continued f c b m) A =
    followed (block_or_goes (λ j m' A'. rest_of_block set c j 0 m' A') b m A) (λ m' A'. after_steps handled continued f m' A')
now_mean set whole (now.Letters c m) A = followed (tries_of set whole c task.Dead 1000 m A) (λ m' A'. Stops Handled m' A')

-- ---- the cursor

-- behind the end no answer comes
abbrev pub over_mean : End → Message → List Reply → Fate
over_mean e m [] = Ends e m
over_mean e m (a ∷ A) = Strays

abbrev pub rest_of : RouteSet → (commit : Bool) (item : List ℕ) → Context → Option Uri → List Frame → State → List Reply → Fate
rest_of set commit item c whole fs (state.Starting w m) A = finished commit item (place_in c 0) (behind_all set fs (work_mean set c w m A))
rest_of set commit item c whole fs (state.Runs w) A = finished commit item (place_in c 0) (behind_all set fs (wait_mean set whole w A))
rest_of set commit item c whole fs (state.Finishing e m) A = finish_by commit item (place_in c 0) e m A
rest_of set commit item c whole fs (state.Over e m) A = over_mean e m A

-- what a cursor gives on these answers
unfoldable pub rest : RouteSet → Cursor → List Reply → Fate
rest set k A = rest_of set k.commit (item_of k.origin) k.context k.whole k.stack.items k.state A

abbrev pub wait_place : Wait → At
wait_place (wait.Trying c t left m x) = place_in c x.index
wait_place (wait.Sleeping c t left ticks m) = (place_in c 0)

abbrev pub state_place : Context → State → At
state_place c (state.Starting w m) = (place_in c 0)
state_place c (state.Runs w) = wait_place w
state_place c (state.Finishing e m) = (place_in c 0)
state_place c (state.Over e m) = (place_in c 0)

-- the place of a cursor's last request
unfoldable pub asked_at : Cursor → At
asked_at k = state_place k.context k.state

abbrev pub IsStarting : State → Type 0
IsStarting (state.Starting w m) = Unit {0}
IsStarting (state.Runs w) = ⊥
IsStarting (state.Finishing e m) = ⊥
IsStarting (state.Over e m) = ⊥

-- nothing has been asked
unfoldable pub IsFirst : Cursor → Type 0
IsFirst k = IsStarting k.state

-- what is waited for
abbrev pub request_of : Wait → Request
request_of (wait.Trying c t left m x) = x.request
request_of (wait.Sleeping c t left ticks m) = request.Wait ticks

-- what comes next, at a place
abbrev pub next_fate : At → Next → Fate
next_fate p (next.Asks q) = AsksNext q p
next_fate p (next.Ended e m) = Ends e m

-- the answer that was handed in, if any
abbrev pub answers_of : Option (Bor Reply) → List Reply
answers_of None = []
answers_of (Some a) = a.now ∷ []

-- the answer fits what is asked
abbrev pub AnswerFits : Fate → Reply → Type 0
AnswerFits (AsksNext q p) a = fits q a ≡ true
AnswerFits (Ends e m) a = ⊥
AnswerFits Strays a = ⊥

-- What a route means: a function of a birth and the list of answers.
use Rattle.std.specs.Prelude.{ℕ, zero, suc, ◌-◌, Bool, true, false, cond, eqb, ltb, ◌||◌, is_some, List, [], ◌∷◌, Option, Some, None, slice_get, Result, Ok, Err}
use Rattle.eip_exchange.specs.Ends.{commit_failed}
use Rattle.eip_exchange.specs.declared.message.Message.{Message}
use Rattle.eip_exchange.specs.declared.end.Fault.{Fault}
use Rattle.eip_exchange.specs.declared.end.End.{End}
use Rattle.eip_exchange.specs.declared.end.End.TheVariants.{Completed, Handled, Failed}
use Rattle.eip_exchange.specs.declared.birth.Birth.{Birth}
use Rattle.eip_exchange.specs.declared.birth.Origin.{Origin}
use Rattle.eip_exchange.specs.declared.birth.Origin.TheVariants as origin
use Rattle.eip_exchange.specs.declared.birth.Work.{Work}
use Rattle.eip_exchange.specs.declared.birth.Work.TheVariants as work
use Rattle.eip_exchange.specs.declared.setting.Clause.{Clause}
use Rattle.eip_uri.specs.Reading.{read}
use Rattle.eip_uri.specs.declared.fault.UriFault.{UriFault}
use Rattle.eip_uri.specs.declared.uri.Uri.{Uri}
use Rattle.eip_uri.specs.declared.uri.Uri.TheVariants as uri
use Rattle.eip_uri.specs.declared.uri.After.{After}
use Rattle.eip_uri.specs.declared.uri.After.TheVariants as after
use Rattle.eip_route.specs.declared.step.Step.{Step}
use Rattle.eip_route.specs.declared.route.Block.{Block}
use Rattle.eip_route.specs.declared.route.Route.{Route}
use Rattle.eip_route.specs.declared.route.RouteSet.{RouteSet}
use Rattle.eip_frames.specs.Fate.{Fate, AsksNext, Ends, Strays}
use Rattle.eip_frames.specs.declared.request.At.{At}
use Rattle.eip_frames.specs.declared.request.Request.TheVariants as request
use Rattle.eip_frames.specs.declared.answer.Answer.{Answer as Reply}
use Rattle.eip_frames.specs.declared.answer.Answer.TheVariants as reply
use Rattle.eip_meaning.specs.declared.context.Context.{Context}
use Rattle.eip_meaning.specs.Contexts.{place_of, context_of, called, in_handler, has_handlers}
use Rattle.eip_meaning.specs.Values.{caught_message}
use Rattle.eip_meaning.specs.Checks.{block_or_goes}
use Rattle.eip_meaning.specs.Sends.{to_mean}
use Rattle.eip_meaning.specs.Steps.{one_try}
use Rattle.eip_meaning.specs.Attempts.{Handle, clause_for, tries}
use Rattle.eip_meaning.specs.Outcomes.{Outcome, Asks, Goes, Stops, Faults, Stray, Runner, followed}

-- ---- steps and blocks

abbrev pub step_mean : RouteSet → Handle → (nested call : ℕ → Runner) → Context → Step → Runner
step_mean set handle nested call c s m A = tries set handle (one_try set nested call c s) c 1000 m A

-- steps in order
abbrev pub steps_mean : RouteSet → Handle → (nested call : ℕ → Runner) → Context → List Step → Runner
steps_mean set handle nested call c [] m A = Goes m A
steps_mean set handle nested call c (s ∷ ss) m A =
    followed (step_mean set handle nested call c s m A) (λ m' A'. steps_mean set handle nested call c ss m' A')

-- the block with the number j among these, the first of which has the number `here`; the steps of a block reach those behind it alone
unfoldable pub blocks_mean : RouteSet → Handle → (call : ℕ → Runner) → Context → (here : ℕ) → List Block → ℕ → Runner
blocks_mean set handle call c here [] j m A = Goes m A
blocks_mean set handle call c here (b ∷ bs) j m A =
    cond (eqb j here)
    (steps_mean set handle (λ i m' A'. blocks_mean set handle call c (suc here) bs i m' A') call c b.steps m A)
    (blocks_mean set handle call c (suc here) bs j m A)

abbrev pub block_in : Option Route → ℕ
block_in None = 4294967295
block_in (Some r) = r.block

-- the number of a route's block; a route that isn't there has none
abbrev pub block_of_route : RouteSet → ℕ → ℕ
block_of_route set r = block_in (slice_get set.routes r)

-- a block, with room for k direct calls
unfoldable pub level_mean : RouteSet → Handle → (k : ℕ) → Context → ℕ → Runner
level_mean set handle zero c b m A = blocks_mean set handle (λ r m' A'. Goes m' A') c 0 set.blocks b m A
level_mean set handle (suc k) c b m A =
    blocks_mean set handle (λ r m' A'. level_mean set handle k (called c r) (block_of_route set r) m' A') c 0 set.blocks b m A

-- a block; one that isn't there has no steps
unfoldable pub block_mean : RouteSet → Handle → Context → ℕ → Runner
block_mean set handle c b m A = level_mean set handle (32 - c.depth) c b m A

-- ---- what a block's steps run: its equation says that a block is its steps, with these

abbrev pub steps_in : Option Block → List Step
steps_in None = []
steps_in (Some b) = b.steps

-- the steps of the block with this number; a block that isn't there has none
abbrev pub steps_of : RouteSet → ℕ → List Step
steps_of set b = steps_in (slice_get set.blocks b)

-- the blocks that block b may run: those with greater numbers
abbrev pub nested_in : RouteSet → Handle → Context → ℕ → ℕ → Runner
nested_in set handle c b j m A = cond (ltb b j) (block_mean set handle c j m A) (Goes m A)

-- the routes that a direct call may run
abbrev pub call_in : RouteSet → Handle → Context → ℕ → Runner
call_in set handle c r m A = cond (ltb c.depth 32) (block_mean set handle (called c r) (block_of_route set r) m A) (Goes m A)

-- one send with its attempts
abbrev pub send_mean : RouteSet → Handle → Context → Uri → Runner
send_mean set handle c u m A = tries set handle (to_mean set (call_in set handle c) c u) c 1000 m A

-- ---- faults that have no attempt left

-- where nobody handles them: a bare or shared exchange, or a fault while one is handled
abbrev pub ends_failed : Handle
ends_failed c f m A = Stops (Failed f) (caught_message m f) A

-- a clause's steps are through: the exchange ends as handled, or goes on behind the failed step, or fails with the first fault
abbrev pub behind_clause : Clause → Fault → Runner
behind_clause k f m A = cond k.handled (Stops Handled m A) (cond k.continued (Goes m A) (Stops (Failed f) m A))

-- one send to the dead letter endpoint, where there is one, and the exchange is handled
abbrev pub dead_letter : RouteSet → Option Uri → Context → Fault → Runner
dead_letter set None c f m A = Stops (Failed f) m A
dead_letter set (Some u) c f m A = followed (send_mean set ends_failed c u m A) (λ m' A'. Stops Handled m' A')

-- a clause says what is done about a fault where it has steps, is handled or is continued
abbrev pub decides : Clause → Bool
decides k = is_some k.block || (k.handled || k.continued)

abbrev pub by_clause : RouteSet → Option Clause → Context → Fault → Runner
by_clause set None c f m A = dead_letter set set.handler.dead c f m A
by_clause set (Some k) c f m A =
    cond (decides k)
    (followed (block_or_goes (block_mean set ends_failed c) k.block m A) (behind_clause k f))
    (dead_letter set set.handler.dead c f m A)

-- the clause of the fault, else the dead letter endpoint, else the exchange fails
abbrev pub handles : RouteSet → Handle
handles set c f m A = by_clause set (clause_for set f) (in_handler c) f (caught_message m f) A

abbrev pub handle_with : RouteSet → (handlers : Bool) → Handle
handle_with set true = handles set
handle_with set false = ends_failed

-- the handling in a context
abbrev pub handle_in : RouteSet → Context → Handle
handle_in set c = handle_with set (has_handlers c)

-- ---- the end

abbrev pub moves_files : After → Bool
moves_files after.Noop = false
moves_files after.Delete = true
moves_files (after.Move folder) = true

-- an endpoint whose items are told of the end: files that are deleted or moved
abbrev pub is_told : Uri → Bool
is_told (uri.File folder after failed exist) = moves_files after
is_told _ = false

abbrev pub is_told_route : Option Route → Bool
is_told_route None = false
is_told_route (Some r) = is_told r.from

abbrev pub is_told_origin : RouteSet → Origin → Bool
is_told_origin set (origin.Source route item) = is_told_route (slice_get set.routes route)
is_told_origin set _ = false

-- whether the exchange's source is told of its end first
abbrev pub is_committed : RouteSet → Birth → Bool
is_committed set b = is_told_origin set b.origin

-- the item that a source gave
abbrev pub item_of : Origin → List ℕ
item_of (origin.Source route item) = item
item_of _ = []

-- the end that an answer to the last request makes, where it fits
abbrev pub end_by : (commit : Bool) (item : List ℕ) → End → Reply → Option End
end_by commit item e reply.Finished = Some e
end_by true item e reply.CommitFailed = Some (commit_failed item)
end_by _ item e _ = None

abbrev pub ends_or_strays : Option End → Message → Fate
ends_or_strays None m = Strays
ends_or_strays (Some e) m = Ends e m

-- the last request of an exchange, and its end
abbrev pub finish_by : (commit : Bool) (item : List ℕ) → At → End → Message → List Reply → Fate
finish_by commit item p e m [] = AsksNext (request.Finish e m commit) p
finish_by commit item p e m (a ∷ []) = ends_or_strays (end_by commit item e a) m
finish_by commit item p e m (a ∷ a' ∷ A) = Strays

-- what becomes of an exchange whose work gives this; no work faults
abbrev pub finished : (commit : Bool) (item : List ℕ) → At → Outcome → Fate
finished commit item p (Asks q at) = AsksNext q at
finished commit item p (Goes m A) = finish_by commit item p Completed m A
finished commit item p (Stops e m A) = finish_by commit item p e m A
finished commit item p (Faults f again A) = Strays
finished commit item p Stray = Strays

-- ---- a birth

-- a send to the endpoint that a text names; a text that names none is no send
abbrev pub send_to : RouteSet → Context → Result Uri UriFault → Runner
send_to set c (Ok u) m A = send_mean set (handle_in set c) c u m A
send_to set c (Err f) m A = Goes m A

-- a birth's work
abbrev pub work_mean : RouteSet → Context → Work → Runner
work_mean set c (work.Block b) m A = block_mean set (handle_in set c) c b m A
work_mean set c (work.To text) m A = send_to set c (read text []) m A

-- what a birth and its answers so far give
unfoldable pub mean : RouteSet → Birth → List Reply → Fate
mean set b A = finished (is_committed set b) (item_of b.origin) (place_of b) (work_mean set (context_of b) b.work b.message A)

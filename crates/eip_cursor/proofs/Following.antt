-- A cursor whose wait has moved on.
use Rattle.std.proofs.Common.{◌≡◌, ℕ, Bool, true, false, List, [], sym, ◌∙◌, ap}
use Rattle.std.specs.Prelude.{Option, Some, Result, Ok, Err, IfOk, OnOk}
use Rattle.eip_text.specs.declared.memory.NoMemory.{NoMemory}
use Rattle.eip_exchange.specs.declared.message.Message.{Message}
use Rattle.eip_exchange.specs.declared.end.End.{End}
use Rattle.eip_uri.specs.declared.uri.Uri.{Uri}
use Rattle.eip_route.specs.declared.route.RouteSet.{RouteSet}
use Rattle.eip_frames.specs.Fate.{Fate, AsksNext, Ends}
use Rattle.eip_frames.specs.declared.request.Request.{Request}
use Rattle.eip_frames.specs.declared.answer.Answer.{Answer as Reply}
use Rattle.eip_meaning.specs.Outcomes.{Outcome}
use Rattle.eip_meaning.specs.declared.context.Context.{Context}
use Rattle.eip_meaning.specs.Contexts.{place_in}
use Rattle.eip_meaning.specs.Meaning.{finished, item_of}
use Rattle.eip_progress.specs.declared.frame.Frame.{Frame}
use Rattle.eip_progress.specs.declared.frame.Wait.{Wait}
use Rattle.eip_progress.specs.declared.cursor.State.{State}
use Rattle.eip_progress.specs.declared.cursor.State.TheVariants as state
use Rattle.eip_progress.specs.declared.cursor.Cursor.{Cursor}
use Rattle.eip_progress.specs.Rest.{rest, rest_of, behind_all, request_of, wait_place, state_place, asked_at, IsFirst, IsStarting}
use Rattle.eip_turns.specs.declared.course.Course.{Course}
use Rattle.eip_turns.specs.declared.course.Course.TheVariants as course
use Rattle.eip_turns.specs.Courses.{state_of, IsLast}
use Rattle.eip_cursor.specs.Follows.{IsOver, MayGoOn}
use Rattle.eip_cursor.specs.InTurn.{WaitMoves}
use Rattle.eip_cursor.proofs.Fitting.{asks_wait}

pub wait_moved : (set : RouteSet) (k : Cursor) (w v : Wait) (a : Reply) (p p' : Option Request) (r : Result Bool NoMemory) → k.state ≡ state.Runs w →
    IfOk r (λ b. WaitMoves b set w a v p p') → IfOk r (λ b. MayGoOn b set k a (record k { state = state.Runs v }) p p')
unfolding rest asked_at IsFirst
wait_moved set k w v a p p' (Ok false) e h = (ap (λ (s : State). record k { state = s }) (ap (λ (x : Wait). state.Runs x) h.0 ∙ sym e), h.1)
wait_moved set k w v a p p' (Ok true) e h = (
  h.0,
  h.1,
  (
    λ A. rw e (ap (λ (o : Outcome). finished k.commit (item_of k.origin) (place_in k.context 0) (behind_all set k.stack.items o)) (h.2 k.whole A)),
    asks_wait set k.commit (item_of k.origin) k.context k.whole k.stack.items v ∙ ap (λ (r : Request). AsksNext r (wait_place v)) h.3,
    λ x. x,
  ),
)
wait_moved set k w v a p p' (Err n) e h = tt

-- a state whose fate is no end is not over
pub not_over : (set : RouteSet) (commit : Bool) (item : List ℕ) (c : Context) (whole : Option Uri) (fs : List Frame) (s : State) (f : Fate) →
    rest_of set commit item c whole fs s [] ≡ f → ((e : End) (m : Message) → f ≡ Ends e m → ⊥) → IsOver s → ⊥
not_over set commit item c whole fs (state.Starting w m) f h l o = o
not_over set commit item c whole fs (state.Runs w) f h l o = o
not_over set commit item c whole fs (state.Finishing e m) f h l o = o
not_over set commit item c whole fs (state.Over e m) f h l o = l e m (sym h)

-- what a waiting state asks
pub asks_waiting : (commit : Bool) (s : State) (w : Wait) (p : Option Request) (r : Result Unit NoMemory) → s ≡ state.Runs w → OnOk r (p ≡ Some (request_of w)) →
    OnOk r ((q : Request) × (p ≡ Some q) × ((set : RouteSet) (item : List ℕ) (c : Context) (whole : Option Uri) (fs : List Frame) → rest_of set commit item c whole fs s [] ≡ AsksNext q (state_place c s)))
asks_waiting commit s w p (Ok x) e h = (request_of w, h, λ set item c whole fs. rw e (asks_wait set commit item c whole fs w))
asks_waiting commit s w p (Err n) e h = tt

pub if-ok : {X E : Type 0} (r : Result X E) (P Q : X → Type 0) → ((x : X) → P x → Q x) → IfOk r P → IfOk r Q
if-ok (Ok x) P Q f h = f x h
if-ok (Err e) P Q f h = tt

-- an exchange whose turns are done has asked something
pub not_starting : (x : Course) (m : Message) → IsLast x → IsStarting (state_of x m) → ⊥
not_starting course.Goes m l s = l
not_starting (course.Stops e) m l s = s
not_starting (course.Asks c t left x) m l s = s
not_starting (course.Sleeps c t left ticks) m l s = s
not_starting (course.Enters c b) m l s = l
not_starting (course.Handles handled continued f c b) m l s = l
not_starting (course.Letters c) m l s = l

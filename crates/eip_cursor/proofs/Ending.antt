-- The end of an exchange behind the answer to its last step.
use Rattle.std.proofs.Common.{◌≡◌, ℕ, ◌≤◌, true, List, [], ◌∷◌, refl, sym, ◌∙◌, ap, arith}
use Rattle.std.specs.Prelude.{Option, None}
use Rattle.eip_exchange.specs.declared.message.Message.{Message}
use Rattle.eip_exchange.specs.declared.end.End.TheVariants.{Completed}
use Rattle.eip_uri.specs.declared.uri.Uri.{Uri}
use Rattle.eip_route.specs.declared.route.RouteSet.{RouteSet}
use Rattle.eip_frames.specs.Fits.{fits}
use Rattle.eip_frames.specs.declared.request.Request.TheVariants as request
use Rattle.eip_frames.specs.declared.answer.Answer.{Answer as Reply}
use Rattle.eip_meaning.specs.declared.context.Context.{Context}
use Rattle.eip_meaning.specs.Outcomes.{Goes, fault_in}
use Rattle.eip_meaning.specs.Contexts.{place_in}
use Rattle.eip_meaning.specs.Values.{redelivered}
use Rattle.eip_meaning.specs.Attempts.{number_of_try}
use Rattle.eip_meaning.specs.Meaning.{finished, item_of}
use Rattle.eip_progress.specs.declared.tried.Asking.{Asking}
use Rattle.eip_progress.specs.declared.tried.Progress.{Progress}
use Rattle.eip_progress.specs.declared.frame.Task.{Task}
use Rattle.eip_progress.specs.declared.frame.Wait.{Wait}
use Rattle.eip_progress.specs.declared.frame.Wait.TheVariants as wait
use Rattle.eip_progress.specs.declared.cursor.State.TheVariants as state
use Rattle.eip_progress.specs.declared.cursor.Cursor.{Cursor}
use Rattle.eip_progress.specs.Rest.{rest, asked_at, cont_of, guarded_mean, wait_mean, IsFirst}
use Rattle.eip_turns.proofs.Trying.{first_message}
use Rattle.eip_cursor.specs.Follows.{Follows}
use Rattle.eip_cursor.specs.Last.{message_of, EndsWith}
use Rattle.eip_cursor.proofs.Replying.{answered_none}

-- what was asked at the first try has been done, and the step is over: the message goes on as it stood
pub passes_as : (set : RouteSet) (whole : Option Uri) (c : Context) (t : Task) (left : ℕ) (m : Message) (x : Asking) (a : Reply) (A : List Reply) → 1000 ≤ left →
    fits x.request a ≡ true → fault_in set x.request a ≡ None → ((p : Progress) (n : Message) → cont_of set whole c t p n a A ≡ Goes n A) →
    wait_mean set whole (wait.Trying c t left m x) (a ∷ A) ≡ Goes m A
passes_as set whole c t left m x a A l f n g =
    let r : number_of_try left ≤ 1 = omega (arith, l) in
    let y : Message = redelivered m (number_of_try left) in
    ap (guarded_mean set whole c t left m) (sym (answered_none set whole c t x.progress x.request x.index y a A f n) ∙ g x.progress y)
    ∙ ap (λ (z : Message). Goes z A) (sym (first_message m (number_of_try left) r))

-- a wait whose message goes on, behind which nothing comes
pub ends_with : (set : RouteSet) (k : Cursor) (w : Wait) (a : Reply) → k.state ≡ state.Runs w → k.stack.items ≡ [] →
    ((whole : Option Uri) (A : List Reply) → wait_mean set whole w (a ∷ A) ≡ Goes (message_of w) A) → EndsWith set k a (message_of w)
unfolding rest
ends_with set k w a e s h = (
  rw e refl,
  λ A. rw (e, s) (ap (finished k.commit (item_of k.origin) (place_in k.context 0)) (h k.whole A)),
)

pub ends_follow : (set : RouteSet) (k : Cursor) (a : Reply) (m : Message) → EndsWith set k a m →
    Follows set k (a ∷ []) (record k { state = state.Finishing Completed m }) (request.Finish Completed m k.commit)
unfolding rest asked_at IsFirst
ends_follow set k a m h = (λ A. sym (h.1 A), refl, λ x. x)

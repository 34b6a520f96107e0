-- Where a cursor asks is told by the cursor.
use Rattle.std.proofs.Common.{◌≡◌, Bool, List, [], ◌∷◌, refl, sym, ap, ◌∙◌, ℕ}
use Rattle.std.specs.Prelude.{Option}
use Rattle.eip_uri.specs.declared.uri.Uri.{Uri}
use Rattle.eip_route.specs.declared.route.RouteSet.{RouteSet}
use Rattle.eip_frames.specs.Fate.{AsksNext}
use Rattle.eip_frames.specs.declared.request.At.{At}
use Rattle.eip_frames.specs.declared.request.Request.{Request}
use Rattle.eip_meaning.specs.declared.context.Context.{Context}
use Rattle.eip_meaning.specs.Contexts.{place_in}
use Rattle.eip_meaning.specs.Outcomes.{Outcome, Asks, followed}
use Rattle.eip_meaning.specs.Meaning.{finished, item_of}
use Rattle.eip_progress.specs.declared.frame.Wait.{Wait}
use Rattle.eip_progress.specs.declared.frame.Wait.TheVariants as wait
use Rattle.eip_progress.specs.declared.frame.Frame.{Frame}
use Rattle.eip_progress.specs.declared.cursor.State.{State}
use Rattle.eip_progress.specs.declared.cursor.State.TheVariants as state
use Rattle.eip_progress.specs.declared.cursor.Cursor.{Cursor}
use Rattle.eip_progress.specs.Rest.{rest, rest_of, behind_all, frame_mean, wait_mean, request_of, wait_place, state_place, asked_at, IsFirst, IsStarting}

behind-asks : (set : RouteSet) (fs : List Frame) (q : Request) (p : At) → behind_all set fs (Asks q p) ≡ Asks q p
behind-asks set [] q p = refl
behind-asks set (f ∷ fs) q p = ap (λ (o : Outcome). followed o (λ m A. frame_mean set f m A)) (behind-asks set fs q p)

waits-for : (set : RouteSet) (whole : Option Uri) (w : Wait) → wait_mean set whole w [] ≡ Asks (request_of w) (wait_place w)
waits-for set whole (wait.Trying c t left m x) = refl
waits-for set whole (wait.Sleeping c t left ticks m) = refl

same-place : {q r : Request} {p at : At} → AsksNext q p ≡ AsksNext r at → at ≡ p
same-place h = cc

by-state : (set : RouteSet) (commit : Bool) (item : List ℕ) (c : Context) (whole : Option Uri) (fs : List Frame) (s : State) (q : Request) (p : At) → (IsStarting s → ⊥) → rest_of set commit item c whole fs s [] ≡ AsksNext q p → p ≡ state_place c s
by-state set commit item c whole fs (state.Starting w m) q p later h = absurd (later tt)
by-state set commit item c whole fs (state.Runs w) q p later h =
    let is : finished commit item (place_in c 0) (behind_all set fs (wait_mean set whole w [])) ≡ AsksNext (request_of w) (wait_place w) =
    ap (λ (o : Outcome). finished commit item (place_in c 0) (behind_all set fs o)) (waits-for set whole w) ∙ ap (finished commit item (place_in c 0)) (behind-asks set fs (request_of w) (wait_place w)) in
    same-place (sym is ∙ h)
by-state set commit item c whole fs (state.Finishing e m) q p later h = same-place h
by-state set commit item c whole fs (state.Over e m) q p later h = absurd (cc h)

pub asked-place : (set : RouteSet) (k : Cursor) (q : Request) (p : At) → (IsFirst k → ⊥) → rest set k [] ≡ AsksNext q p → p ≡ asked_at k
unfolding rest asked_at IsFirst
asked-place set k q p later h = by-state set k.commit (item_of k.origin) k.context k.whole k.stack.items k.state q p later h

-- The answers that a state takes.
use Rattle.std.proofs.Common.{◌≡◌, ℕ, Bool, true, List, [], ◌∷◌, refl, ap}
use Rattle.std.specs.Prelude.{Option}
use Rattle.eip_uri.specs.declared.uri.Uri.{Uri}
use Rattle.eip_route.specs.declared.route.RouteSet.{RouteSet}
use Rattle.eip_frames.specs.Fits.{fits}
use Rattle.eip_frames.specs.Fate.{AsksNext}
use Rattle.eip_frames.specs.declared.request.At.{At}
use Rattle.eip_frames.specs.declared.request.Request.{Request}
use Rattle.eip_frames.specs.declared.request.Request.TheVariants as request
use Rattle.eip_frames.specs.declared.answer.Answer.{Answer as Reply}
use Rattle.eip_meaning.specs.declared.context.Context.{Context}
use Rattle.eip_meaning.specs.Outcomes.{Outcome, Asks, followed}
use Rattle.eip_meaning.specs.Contexts.{place_in}
use Rattle.eip_meaning.specs.Meaning.{finished}
use Rattle.eip_progress.specs.declared.frame.Frame.{Frame}
use Rattle.eip_progress.specs.declared.frame.Wait.{Wait}
use Rattle.eip_progress.specs.declared.frame.Wait.TheVariants as wait
use Rattle.eip_progress.specs.declared.cursor.State.TheVariants as state
use Rattle.eip_progress.specs.Rest.{frame_mean, behind_all, rest_of, request_of, wait_place, AnswerFits}

-- what asks asks behind all frames
behind_asks : (set : RouteSet) (fs : List Frame) (q : Request) (p : At) → behind_all set fs (Asks q p) ≡ Asks q p
behind_asks set [] q p = refl
behind_asks set (g ∷ fs) q p = ap (λ (x : Outcome). followed x (λ m' A'. frame_mean set g m' A')) (behind_asks set fs q p)

-- an answer that fits a waiting cursor fits what is waited for
pub fits_wait : (set : RouteSet) (commit : Bool) (item : List ℕ) (c : Context) (whole : Option Uri) (fs : List Frame) (w : Wait) (a : Reply) →
    AnswerFits (rest_of set commit item c whole fs (state.Runs w) []) a → fits (request_of w) a ≡ true
fits_wait set commit item c whole fs (wait.Trying d t left m x) a h = rw (behind_asks set fs x.request (place_in d x.index)) at h
fits_wait set commit item c whole fs (wait.Sleeping d t left ticks m) a h = rw (behind_asks set fs (request.Wait ticks) (place_in d 0)) at h

-- a waiting cursor asks what is waited for
pub asks_wait : (set : RouteSet) (commit : Bool) (item : List ℕ) (c : Context) (whole : Option Uri) (fs : List Frame) (w : Wait) → rest_of set commit item c whole fs (state.Runs w) [] ≡ AsksNext (request_of w) (wait_place w)
asks_wait set commit item c whole fs (wait.Trying d t left m x) = ap (finished commit item (place_in c 0)) (behind_asks set fs x.request (place_in d x.index))
asks_wait set commit item c whole fs (wait.Sleeping d t left ticks m) = ap (finished commit item (place_in c 0)) (behind_asks set fs (request.Wait ticks) (place_in d 0))

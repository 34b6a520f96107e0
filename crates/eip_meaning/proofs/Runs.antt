-- How an exchange behaves on its answers.
use Rattle.std.proofs.Common.{◌≡◌, ℕ, Bool, true, false, List, [], ◌∷◌, ◌++◌, refl}
use Rattle.std.specs.Prelude.{Option, Some, None, is_some}
use Rattle.eip_exchange.specs.declared.message.Message.{Message}
use Rattle.eip_exchange.specs.declared.end.End.{End}
use Rattle.eip_exchange.specs.declared.end.End.TheVariants.{Completed}
use Rattle.eip_exchange.specs.declared.birth.Birth.{Birth}
use Rattle.eip_route.specs.declared.route.RouteSet.{RouteSet}
use Rattle.eip_frames.specs.Fate.{Fate, AsksNext, Ends, Strays}
use Rattle.eip_frames.specs.Fits.{fits}
use Rattle.eip_frames.specs.declared.request.At.{At}
use Rattle.eip_frames.specs.declared.request.Seed.{Seed}
use Rattle.eip_frames.specs.declared.request.Request.{Request}
use Rattle.eip_frames.specs.declared.request.Request.TheVariants.{Spawn, Join, Finish}
use Rattle.eip_frames.specs.declared.answer.Answer.{Answer as Reply}
use Rattle.eip_frames.specs.declared.answer.Answer.TheVariants as reply
use Rattle.eip_meaning.specs.Contexts.{place_of, context_of}
use Rattle.eip_meaning.specs.Outcomes.{Outcome}
use Rattle.eip_meaning.specs.Meaning.{mean, finished, finish_by, end_by, ends_or_strays, is_committed, item_of}
use Rattle.eip_meaning.specs.Asked.{IsOfSet, IsOfSteps, last_answer}
use Rattle.eip_meaning.proofs.Scripts.{join_of, Script, asks as script_asks, spawns as script_spawns, goes as script_goes, stops as script_stops}
use Rattle.eip_meaning.proofs.BlockScripts.{work-script}

of_set-of_steps : (set : RouteSet) (last : Option Reply) (q : Request) → IsOfSet set q → IsOfSteps set last q
of_set-of_steps set last (Join first count) i = absurd i
of_set-of_steps set last (Spawn seeds) i = tt
of_set-of_steps set last _ i = i

born : (set : RouteSet) (seeds : List Seed) (a : Reply) → fits (Spawn seeds) a ≡ true → IsOfSteps set (Some a) (join_of a)
born set seeds (reply.Born first count) e = refl
born set seeds _ e = cc

module _ (set : RouteSet) (commit : Bool) (item : List ℕ) (p : At) where
  -- an exchange that hasn't ended, behind the last answer: it asks something for a step, or it asks its end
  pub data Run : (last : Option Reply) → (List Reply → Fate) → Type 0 where
    asks : {last : Option Reply} {F : List Reply → Fate} (q : Request) (at : At) → IsOfSteps set last q → F [] ≡ AsksNext q at
        → ((a : Reply) (A : List Reply) → fits q a ≡ false → F (a ∷ A) ≡ Strays)
        → ((a : Reply) → fits q a ≡ true → Run (Some a) (λ A. F (a ∷ A))) → Run last F
    finishes : {last : Option Reply} {F : List Reply → Fate} (e : End) (m : Message) → ((A : List Reply) → F A ≡ finish_by commit item p e m A) → Run last F

  -- where an exchange stands behind some answers
  pub data Standing : (last : Option Reply) → (List Reply → Fate) → Type 0 where
    runs : {last : Option Reply} {F : List Reply → Fate} → Run last F → Standing last F
    over : {last : Option Reply} {F : List Reply → Fate} (e : End) (m : Message) → F [] ≡ Ends e m → ((a : Reply) (A : List Reply) → F (a ∷ A) ≡ Strays) → Standing last F
    strayed : {last : Option Reply} {F : List Reply → Fate} → ((A : List Reply) → F A ≡ Strays) → Standing last F

  pub finished-run : {R : List Reply → Outcome} (last : Option Reply) → Script set false R → Run last (λ A. finished commit item p (R A))
  finished-run last (script_asks q at i h n k) = asks q at (of_set-of_steps set last q i) (rw h refl) (λ a A e. rw (n a A e) refl) (λ a e. finished-run (Some a) (k a e))
  finished-run last (script_spawns seeds at w h n j o k) =
      asks (Spawn seeds) at tt (rw h refl) (λ a A e. rw (n a A e) refl)
      (λ a e. asks (join_of a) at (born set seeds a e) (rw (j a e) refl) (λ b A f. rw (o a e b A f) refl) (λ b f. finished-run (Some b) (k a e b f)))
  finished-run last (script_goes m h) = finishes Completed m (λ A. rw (h A) refl)
  finished-run last (script_stops e m h) = finishes e m (λ A. rw (h A) refl)

  strays-all : (F : List Reply → Fate) → F [] ≡ Strays → ((a : Reply) (A : List Reply) → F (a ∷ A) ≡ Strays) → (A : List Reply) → F A ≡ Strays
  strays-all F h n [] = h
  strays-all F h n (a ∷ A) = n a A

  ended-standing : {last : Option Reply} (F : List Reply → Fate) (o : Option End) (m : Message) → F [] ≡ ends_or_strays o m → ((a : Reply) (A : List Reply) → F (a ∷ A) ≡ Strays) → Standing last F
  ended-standing F None m h n = strayed (strays-all F h n)
  ended-standing F (Some e) m h n = over e m h n

  asked-standing : (F : List Reply → Fate) (q : Request) (a : Reply) (b : Bool) → fits q a ≡ b → ((A : List Reply) → fits q a ≡ false → F (a ∷ A) ≡ Strays)
      → (fits q a ≡ true → Run (Some a) (λ A. F (a ∷ A))) → Standing (Some a) (λ A. F (a ∷ A))
  asked-standing F q a true e n k = runs (k e)
  asked-standing F q a false e n k = strayed (λ A. n A e)

  -- one more answer
  answered-standing : {last : Option Reply} {F : List Reply → Fate} (a : Reply) → Standing last F → Standing (Some a) (λ A. F (a ∷ A))
  answered-standing {F} a (runs (asks q at i h n k)) = asked-standing F q a (fits q a) refl (λ A e. n a A e) (λ e. k a e)
  answered-standing {F} a (runs (finishes e m h)) = ended-standing (λ A. F (a ∷ A)) (end_by commit item e a) m (h (a ∷ [])) (λ b A. h (a ∷ b ∷ A))
  answered-standing a (over e m h n) = strayed (λ A. n a A)
  answered-standing a (strayed h) = strayed (λ A. h (a ∷ A))

  -- behind these answers
  pub standing : {last : Option Reply} {F : List Reply → Fate} (given : List Reply) → Standing last F → Standing (last_answer last given) (λ A. F (given ++ A))
  standing [] s = s
  standing (a ∷ given) s = standing given (answered-standing a s)

-- the end that answers the last request is there exactly where the answer fits
pub end-fits : (commit : Bool) (item : List ℕ) (e : End) (m : Message) (a : Reply) → fits (Finish e m commit) a ≡ is_some (end_by commit item e a)
end-fits commit item e m reply.Finished = refl
end-fits true item e m reply.CommitFailed = refl
end-fits false item e m reply.CommitFailed = refl
end-fits commit item e m _ = refl

-- each birth is a run
pub mean-run : (set : RouteSet) (b : Birth) → Run set (is_committed set b) (item_of b.origin) (place_of b) None (mean set b)
unfolding mean
mean-run set b = finished-run set (is_committed set b) (item_of b.origin) (place_of b) None (work-script set (context_of b) b.work b.message)

-- where a birth stands behind some answers
pub mean-standing : (set : RouteSet) (b : Birth) (given : List Reply) → Standing set (is_committed set b) (item_of b.origin) (place_of b) (last_answer None given) (λ A. mean set b (given ++ A))
mean-standing set b given = standing set (is_committed set b) (item_of b.origin) (place_of b) given (runs (mean-run set b))

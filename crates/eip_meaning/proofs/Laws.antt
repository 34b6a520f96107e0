-- Laws of what a birth and its answers give, for every set, birth and list of answers.
use Rattle.std.proofs.Common.{◌≡◌, ℕ, Bool, true, false, List, [], ◌∷◌, ◌++◌, refl, sym, ◌∙◌, ap, subst, inl, inr, append-nil}
use Rattle.std.specs.Prelude.{Option, Some, None, is_some, ◌⊎◌}
use Rattle.eip_exchange.specs.Ends.{commit_failed}
use Rattle.eip_exchange.specs.declared.message.Message.{Message}
use Rattle.eip_exchange.specs.declared.end.End.{End}
use Rattle.eip_exchange.specs.declared.birth.Birth.{Birth}
use Rattle.eip_route.specs.declared.route.RouteSet.{RouteSet}
use Rattle.eip_frames.specs.Fate.{Fate, AsksNext, Ends, Strays}
use Rattle.eip_frames.specs.Fits.{fits}
use Rattle.eip_frames.specs.declared.request.At.{At}
use Rattle.eip_frames.specs.declared.request.Request.{Request}
use Rattle.eip_frames.specs.declared.request.Request.TheVariants.{Finish}
use Rattle.eip_frames.specs.declared.answer.Answer.{Answer as Reply}
use Rattle.eip_frames.specs.declared.answer.Answer.TheVariants as reply
use Rattle.eip_meaning.specs.Contexts.{place_of}
use Rattle.eip_meaning.specs.Asked.{IsOfSteps, IsOfExchange, IsAsked}
use Rattle.eip_meaning.specs.Ending.{IsBehindFinish}
use Rattle.eip_meaning.specs.Meaning.{mean, finish_by, end_by, ends_or_strays, is_committed, item_of}
use Rattle.eip_meaning.proofs.Runs.{Run, asks, finishes, Standing, runs, over, strayed, mean-run, mean-standing, end-fits}

not_ends : {q : Request} {at : At} {e : End} {m : Message} → AsksNext q at ≡ Ends e m → ⊥
not_ends h = cc

strays_not_ends : {e : End} {m : Message} → Strays ≡ Ends e m → ⊥
strays_not_ends h = cc

asks_not_strays : {q : Request} {at : At} → AsksNext q at ≡ Strays → ⊥
asks_not_strays h = cc

of_steps_not_finish : {e : End} {m : Message} {c : Bool} (set : RouteSet) (last : Option Reply) (q : Request) → IsOfSteps set last q → q ≡ Finish e m c → ⊥
of_steps_not_finish set last q i h = subst (λ (r : Request). IsOfSteps set last r) h i

same_request : {q r : Request} {at here : At} → AsksNext q at ≡ AsksNext r here → q ≡ r
same_request h = cc

same_place : {q r : Request} {at here : At} → AsksNext q at ≡ AsksNext r here → at ≡ here
same_place h = cc

same_end : {e e' : End} {m m' : Message} → Ends e m ≡ Ends e' m' → e ≡ e'
same_end h = cc

same_message : {e e' : End} {m m' : Message} → Ends e m ≡ Ends e' m' → m ≡ m'
same_message h = cc

finish_end : {e e' : End} {m m' : Message} {c c' : Bool} → Finish e m c ≡ Finish e' m' c' → e ≡ e'
finish_end h = cc

finish_message : {e e' : End} {m m' : Message} {c c' : Bool} → Finish e m c ≡ Finish e' m' c' → m ≡ m'
finish_message h = cc

finish_commit : {e e' : End} {m m' : Message} {c c' : Bool} → Finish e m c ≡ Finish e' m' c' → c ≡ c'
finish_commit h = cc

-- an answer to the last request that makes this end
abbrev Makes : (commit : Bool) (item : List ℕ) → End → Reply → End → Type 0
Makes commit item asked a e = ((a ≡ reply.Finished) × (e ≡ asked)) ⊎ ((a ≡ reply.CommitFailed) × (commit ≡ true) × (e ≡ commit_failed item))

made : (commit : Bool) (item : List ℕ) (asked : End) (a : Reply) (e : End) (m m' : Message) → ends_or_strays (end_by commit item asked a) m' ≡ Ends e m → (m' ≡ m) × Makes commit item asked a e
made commit item asked reply.Finished e m m' h = (same_message h, inl (refl, sym (same_end h)))
made true item asked reply.CommitFailed e m m' h = (same_message h, inr (refl, refl, sym (same_end h)))
made false item asked reply.CommitFailed e m m' h = absurd (strays_not_ends h)
made commit item asked _ e m m' h = absurd (strays_not_ends h)

unfit_end : (o : Option End) (m : Message) → false ≡ is_some o → ends_or_strays o m ≡ Strays
unfit_end None m h = refl
unfit_end (Some e) m h = cc

fit_end : (o : Option End) (m : Message) → true ≡ is_some o → ends_or_strays o m ≡ Strays → ⊥
fit_end None m h g = cc
fit_end (Some e) m h g = strays_not_ends (sym g)

finish-unfit : (commit : Bool) (item : List ℕ) (p : At) (e : End) (m : Message) (a : Reply) (A : List Reply) → fits (Finish e m commit) a ≡ false → finish_by commit item p e m (a ∷ A) ≡ Strays
finish-unfit commit item p e m a [] t = unfit_end (end_by commit item e a) m (sym t ∙ end-fits commit item e m a)
finish-unfit commit item p e m a (a' ∷ A) t = refl

module _ (set : RouteSet) (commit : Bool) (p : At) (last : Option Reply) where
  abbrev IsAskedNext : Fate → Type 0
  IsAskedNext (AsksNext q at) = IsOfExchange set commit p last q at
  IsAskedNext _ = Unit {0}

  of_steps-of_exchange : (q : Request) (at : At) → IsOfSteps set last q → IsOfExchange set commit p last q at
  of_steps-of_exchange (Finish e m c) at i = absurd i
  of_steps-of_exchange _ at i = i

module _ {set : RouteSet} {commit : Bool} {item : List ℕ} {p : At} where
  run-starts : {last : Option Reply} {F : List Reply → Fate} → Run set commit item p last F → (e : End) (m : Message) → F [] ≡ Ends e m → ⊥
  run-starts (asks q at i h n k) e m g = not_ends (sym h ∙ g)
  run-starts (finishes e' m' h) e m g = not_ends (sym (h []) ∙ g)

  asks-ends : (F : List Reply → Fate) (q : Request) (a : Reply) (fit : Bool) → fits q a ≡ fit → ((A : List Reply) → fits q a ≡ false → F (a ∷ A) ≡ Strays) → (fits q a ≡ true → Run set commit item p (Some a) (λ A. F (a ∷ A)))
      → (e : End) (m : Message) → F (a ∷ []) ≡ Ends e m → ⊥
  asks-ends F q a true t n k e m g = run-starts (k t) e m g
  asks-ends F q a false t n k e m g = strays_not_ends (sym (n [] t) ∙ g)

  standing-ends : {last : Option Reply} {F : List Reply → Fate} → Standing set commit item p last F → (a : Reply) (e : End) (m : Message) → F (a ∷ []) ≡ Ends e m → (asked : End) × (F [] ≡ AsksNext (Finish asked m commit) p) × Makes commit item asked a e
  standing-ends {F} (runs (asks q at i h n k)) a e m g = absurd (asks-ends F q a (fits q a) refl (λ A t. n a A t) (λ t. k a t) e m g)
  standing-ends (runs (finishes asked m' h)) a e m g =
      let y = made commit item asked a e m m' (sym (h (a ∷ [])) ∙ g) in
      (asked, h [] ∙ ap (λ (x : Message). AsksNext (Finish asked x commit) p) y.0, y.1)
  standing-ends (over e' m' h n) a e m g = absurd (strays_not_ends (sym (n a []) ∙ g))
  standing-ends (strayed h) a e m g = absurd (strays_not_ends (sym (h (a ∷ [])) ∙ g))

  -- where the last request is asked, each answer gives what `finish_by` says
  standing-finish : {last : Option Reply} {F : List Reply → Fate} → Standing set commit item p last F → (e : End) (m : Message) (c : Bool) (at : At) → F [] ≡ AsksNext (Finish e m c) at
      → (c ≡ commit) × (at ≡ p) × ((A : List Reply) → F A ≡ finish_by commit item p e m A)
  standing-finish {last} (runs (asks q here i h n k)) e m c at g = absurd (of_steps_not_finish set last q i (same_request (sym h ∙ g)))
  standing-finish (runs (finishes e' m' h)) e m c at g =
      let r = same_request (sym (h []) ∙ g) in
      (sym (finish_commit r), sym (same_place (sym (h []) ∙ g)), λ A. rw (sym (finish_end r), sym (finish_message r)) (h A))
  standing-finish (over e' m' h n) e m c at g = absurd (not_ends (sym g ∙ h))
  standing-finish (strayed h) e m c at g = absurd (asks_not_strays (sym g ∙ h []))

  standing-unfit : {last : Option Reply} {F : List Reply → Fate} → Standing set commit item p last F → (q : Request) (at : At) (a : Reply) (A : List Reply) → F [] ≡ AsksNext q at → fits q a ≡ false → F (a ∷ A) ≡ Strays
  standing-unfit (runs (asks r here i h n k)) q at a A g t = n a A (ap (λ (x : Request). fits x a) (same_request (sym h ∙ g)) ∙ t)
  standing-unfit (runs (finishes e m h)) q at a A g t = h (a ∷ A) ∙ finish-unfit commit item p e m a A (ap (λ (x : Request). fits x a) (same_request (sym (h []) ∙ g)) ∙ t)
  standing-unfit (over e m h n) q at a A g t = absurd (not_ends (sym g ∙ h))
  standing-unfit (strayed h) q at a A g t = h (a ∷ A)

  run-not-strays : {last : Option Reply} {F : List Reply → Fate} → Run set commit item p last F → F [] ≡ Strays → ⊥
  run-not-strays (asks q at i h n k) g = asks_not_strays (sym h ∙ g)
  run-not-strays (finishes e m h) g = asks_not_strays (sym (h []) ∙ g)

  standing-fit : {last : Option Reply} {F : List Reply → Fate} → Standing set commit item p last F → (q : Request) (at : At) (a : Reply) → F [] ≡ AsksNext q at → fits q a ≡ true → F (a ∷ []) ≡ Strays → ⊥
  standing-fit (runs (asks r here i h n k)) q at a g t x = run-not-strays (k a (ap (λ (y : Request). fits y a) (same_request (sym h ∙ g)) ∙ t)) x
  standing-fit (runs (finishes e m h)) q at a g t x =
      fit_end (end_by commit item e a) m (sym t ∙ (ap (λ (y : Request). fits y a) (same_request (sym g ∙ h [])) ∙ end-fits commit item e m a)) (sym (h (a ∷ [])) ∙ x)
  standing-fit (over e m h n) q at a g t x = not_ends (sym g ∙ h)
  standing-fit (strayed h) q at a g t x = asks_not_strays (sym g ∙ h [])

  standing-ended : {last : Option Reply} {F : List Reply → Fate} → Standing set commit item p last F → (e : End) (m : Message) (a : Reply) (A : List Reply) → F [] ≡ Ends e m → F (a ∷ A) ≡ Strays
  standing-ended (runs r) e m a A g = absurd (run-starts r e m g)
  standing-ended (over e' m' h n) e m a A g = n a A
  standing-ended (strayed h) e m a A g = h (a ∷ A)

  standing-strayed : {last : Option Reply} {F : List Reply → Fate} → Standing set commit item p last F → (A : List Reply) → F [] ≡ Strays → F A ≡ Strays
  standing-strayed (runs r) A g = absurd (run-not-strays r g)
  standing-strayed (over e m h n) A g = absurd (strays_not_ends (sym g ∙ h))
  standing-strayed (strayed h) A g = h A

  -- ---- what is asked

  standing-asked : {last : Option Reply} {F : List Reply → Fate} → Standing set commit item p last F → (q : Request) (at : At) → F [] ≡ AsksNext q at → IsOfExchange set commit p last q at
  standing-asked {last} (runs (asks r here i h n k)) q at g = subst (IsAskedNext set commit p last) (sym h ∙ g) (of_steps-of_exchange set commit p last r here i)
  standing-asked {last} (runs (finishes e m h)) q at g = subst (IsAskedNext set commit p last) (sym (h []) ∙ g) (refl, refl)
  standing-asked (over e m h n) q at g = absurd (not_ends (sym g ∙ h))
  standing-asked (strayed h) q at g = absurd (asks_not_strays (sym g ∙ h []))

module _ (set : RouteSet) (b : Birth) where
  -- no exchange has ended before its first answer
  pub starts : (e : End) (m : Message) → mean set b [] ≡ Ends e m → ⊥
  starts e m h = run-starts (mean-run set b) e m h

  module _ (given : List Reply) where
    spent : mean set b (given ++ []) ≡ mean set b given
    spent = ap (mean set b) (append-nil given)

    -- whatever is asked is of the set's steps, or the request for the end
    pub asked-of-set : (q : Request) (at : At) → mean set b given ≡ AsksNext q at → IsAsked set b given q at
    asked-of-set q at h = standing-asked (mean-standing set b given) q at (spent ∙ h)

    -- an end comes only behind an answered last request
    pub ends : (a : Reply) (e : End) (m : Message) → mean set b (given ++ a ∷ []) ≡ Ends e m → IsBehindFinish set b given a e m
    ends a e m h = let y = standing-ends (mean-standing set b given) a e m h in record { asked_end = y.0; asked = sym spent ∙ y.1; answered = y.2 }

    -- the last request is asked at the place of the birth, with a commit where its source is told
    pub asked-finish : (e : End) (m : Message) (c : Bool) (at : At) → mean set b given ≡ AsksNext (Finish e m c) at → (c ≡ is_committed set b) × (at ≡ place_of b)
    asked-finish e m c at h = let y = standing-finish (mean-standing set b given) e m c at (spent ∙ h) in (y.0, y.1)

    -- the last request answered by Finished is the end
    pub finished-ends : (e : End) (m : Message) (c : Bool) (at : At) → mean set b given ≡ AsksNext (Finish e m c) at → mean set b (given ++ reply.Finished ∷ []) ≡ Ends e m
    finished-ends e m c at h = let y = standing-finish (mean-standing set b given) e m c at (spent ∙ h) in y.2 (reply.Finished ∷ [])

    -- a source that did not take its commit makes the end a failure
    pub commit_failed-ends : (e : End) (m : Message) (at : At) → mean set b given ≡ AsksNext (Finish e m true) at → mean set b (given ++ reply.CommitFailed ∷ []) ≡ Ends (commit_failed (item_of b.origin)) m
    commit_failed-ends e m at h =
        let y = standing-finish (mean-standing set b given) e m true at (spent ∙ h) in
        y.2 (reply.CommitFailed ∷ []) ∙ rw (sym y.0) refl

    -- an answer that doesn't fit strays, whatever comes behind it
    pub unfit-strays : (q : Request) (at : At) (a : Reply) (A : List Reply) → mean set b given ≡ AsksNext q at → fits q a ≡ false → mean set b (given ++ a ∷ A) ≡ Strays
    unfit-strays q at a A h t = standing-unfit (mean-standing set b given) q at a A (spent ∙ h) t

    -- an answer that fits doesn't
    pub fit-goes_on : (q : Request) (at : At) (a : Reply) → mean set b given ≡ AsksNext q at → fits q a ≡ true → mean set b (given ++ a ∷ []) ≡ Strays → ⊥
    fit-goes_on q at a h t = standing-fit (mean-standing set b given) q at a (spent ∙ h) t

    -- an answer behind the end strays
    pub ended-strays : (e : End) (m : Message) (a : Reply) (A : List Reply) → mean set b given ≡ Ends e m → mean set b (given ++ a ∷ A) ≡ Strays
    ended-strays e m a A h = standing-ended (mean-standing set b given) e m a A (spent ∙ h)

    -- what has strayed stays so
    pub strayed-strays : (A : List Reply) → mean set b given ≡ Strays → mean set b (given ++ A) ≡ Strays
    strayed-strays A h = standing-strayed (mean-standing set b given) A (spent ∙ h)

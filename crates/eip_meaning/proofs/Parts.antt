-- Behind the birth of parts comes the wait for them, and only so many parts are asked for at once.
use Rattle.std.proofs.Common.{◌≡◌, ℕ, Bool, true, false, List, [], ◌∷◌, ◌++◌, Option, Some, None, refl, sym, subst}
use Rattle.eip_exchange.specs.declared.message.Message.{Message}
use Rattle.eip_exchange.specs.declared.end.End.{End}
use Rattle.eip_exchange.specs.declared.end.End.TheVariants.{Completed}
use Rattle.eip_exchange.specs.declared.birth.Birth.{Birth}
use Rattle.eip_route.specs.declared.route.RouteSet.{RouteSet}
use Rattle.eip_frames.specs.Fate.{AsksNext}
use Rattle.eip_frames.specs.Fits.{fits}
use Rattle.eip_frames.specs.declared.request.At.{At}
use Rattle.eip_frames.specs.declared.request.Seed.{Seed}
use Rattle.eip_frames.specs.declared.request.Request.{Request}
use Rattle.eip_frames.specs.declared.request.Request.TheVariants as request
use Rattle.eip_frames.specs.declared.answer.Answer.{Answer as Reply}
use Rattle.eip_frames.specs.declared.answer.Answer.TheVariants as reply
use Rattle.eip_meaning.specs.Asked.{IsOfSet}
use Rattle.eip_meaning.specs.Contexts.{place_of, context_of}
use Rattle.eip_meaning.specs.Outcomes.{Outcome, Stray}
use Rattle.eip_meaning.specs.Meaning.{mean, finished, finish_by, end_by, ends_or_strays, is_committed, item_of}
use Rattle.eip_meaning.proofs.Scripts.{join_of, AreFew, Script, asks, spawns, goes, stops}
use Rattle.eip_meaning.proofs.BlockScripts.{work-script}

same_request : {q r : Request} {at here : At} → AsksNext q at ≡ AsksNext r here → q ≡ r
same_request h = cc

same_place : {q r : Request} {at here : At} → AsksNext q at ≡ AsksNext r here → at ≡ here
same_place h = cc

same_seeds : {ds es : List Seed} → request.Spawn ds ≡ request.Spawn es → ds ≡ es
same_seeds h = cc

-- the birth of parts fits no request of a step
unborn : (set : RouteSet) (q : Request) (first count : ℕ) → IsOfSet set q → fits q (reply.Born first count) ≡ true → ⊥
unborn set (request.Spawn seeds) first count i h = i
unborn set (request.Send t m) first count i h = cc h
unborn set (request.Process n m) first count i h = cc h
unborn set (request.Test n m) first count i h = cc h
unborn set (request.Offer q discard m) first count i h = cc h
unborn set (request.Call r) first count i h = cc h
unborn set (request.Join f c) first count i h = i
unborn set (request.Arrive a k m) first count i h = cc h
unborn set (request.Idem r k eager remove) first count i h = cc h
unborn set (request.Wait t) first count i h = cc h
unborn set (request.Log n t) first count i h = cc h
unborn set (request.Finish e m c) first count i h = i

by_fit : {P : Type 0} (q : Request) (a : Reply) (v : Bool) → fits q a ≡ v → (fits q a ≡ true → P) → (fits q a ≡ false → P) → P
by_fit q a true e f g = f e
by_fit q a false e f g = g e

over-asks : (o : Option End) (m : Message) (q : Request) (at : At) → ends_or_strays o m ≡ AsksNext q at → ⊥
over-asks None m q at h = cc h
over-asks (Some e) m q at h = cc h

-- no birth of parts is asked for behind the steps
of_join : (a : Reply) (seeds : List Seed) → join_of a ≡ request.Spawn seeds → ⊥
of_join a seeds h = cc h

module _ (commit : Bool) (item : List ℕ) (p : At) where
  -- behind one more answer to the last request nothing is asked
  behind-end : (e : End) (m : Message) (A : List Reply) (a : Reply) (q : Request) (at : At) → finish_by commit item p e m (A ++ a ∷ []) ≡ AsksNext q at → ⊥
  behind-end e m [] a q at h = over-asks (end_by commit item e a) m q at h
  behind-end e m (b ∷ []) a q at h = cc h
  behind-end e m (b ∷ c ∷ A) a q at h = cc h

  last-spawn : (e : End) (m : Message) (A : List Reply) (seeds : List Seed) (at : At) → finish_by commit item p e m A ≡ AsksNext (request.Spawn seeds) at → ⊥
  last-spawn e m [] seeds at h = cc h
  last-spawn e m (a ∷ []) seeds at h = over-asks (end_by commit item e a) m (request.Spawn seeds) at h
  last-spawn e m (a ∷ b ∷ A) seeds at h = cc h

  stray-asks : (o : Outcome) (q : Request) (at : At) → o ≡ Stray → finished commit item p o ≡ AsksNext q at → ⊥
  stray-asks o q at e h = let g = rw e at h in cc g

  finished-born : {set : RouteSet} {R : List Reply → Outcome} → Script set false R → (A : List Reply) (first count : ℕ) (q : Request) (at : At)
      → finished commit item p (R (A ++ reply.Born first count ∷ [])) ≡ AsksNext q at → q ≡ request.Join first count
  finished-born {set} {R} (asks r here i h n k) [] first count q at g =
      by_fit r (reply.Born first count) (fits r (reply.Born first count)) refl
      (λ t. absurd (unborn set r first count i t))
      (λ t. absurd (stray-asks (R (reply.Born first count ∷ [])) q at (n (reply.Born first count) [] t) g))
  finished-born {set} {R} (asks r here i h n k) (a ∷ A) first count q at g =
      by_fit r a (fits r a) refl
      (λ t. finished-born (k a t) A first count q at g)
      (λ t. absurd (stray-asks (R (a ∷ (A ++ reply.Born first count ∷ []))) q at (n a (A ++ reply.Born first count ∷ []) t) g))
  finished-born {set} {R} (spawns seeds here few h n j o k) [] first count q at g =
      by_fit (request.Spawn seeds) (reply.Born first count) (fits (request.Spawn seeds) (reply.Born first count)) refl
      (λ t. let e = rw (j (reply.Born first count) t) at g in sym (same_request e))
      (λ t. absurd (stray-asks (R (reply.Born first count ∷ [])) q at (n (reply.Born first count) [] t) g))
  finished-born {set} {R} (spawns seeds here few h n j o k) (a ∷ []) first count q at g =
      by_fit (request.Spawn seeds) a (fits (request.Spawn seeds) a) refl
      (λ t. absurd (stray-asks (R (a ∷ reply.Born first count ∷ [])) q at (o a t (reply.Born first count) [] refl) g))
      (λ t. absurd (stray-asks (R (a ∷ reply.Born first count ∷ [])) q at (n a (reply.Born first count ∷ []) t) g))
  finished-born {set} {R} (spawns seeds here few h n j o k) (a ∷ b ∷ A) first count q at g =
      by_fit (request.Spawn seeds) a (fits (request.Spawn seeds) a) refl
      (λ t. by_fit (join_of a) b (fits (join_of a) b) refl
      (λ u. finished-born (k a t b u) A first count q at g)
      (λ u. absurd (stray-asks (R (a ∷ b ∷ (A ++ reply.Born first count ∷ []))) q at (o a t b (A ++ reply.Born first count ∷ []) u) g)))
      (λ t. absurd (stray-asks (R (a ∷ b ∷ (A ++ reply.Born first count ∷ []))) q at (n a (b ∷ (A ++ reply.Born first count ∷ [])) t) g))
  finished-born (goes m h) A first count q at g =
      let e = rw (h (A ++ reply.Born first count ∷ [])) at g in absurd (behind-end Completed m A (reply.Born first count) q at e)
  finished-born (stops x m h) A first count q at g =
      let e = rw (h (A ++ reply.Born first count ∷ [])) at g in absurd (behind-end x m A (reply.Born first count) q at e)

  finished-few : {set : RouteSet} {R : List Reply → Outcome} → Script set false R → (A : List Reply) (seeds : List Seed) (at : At)
      → finished commit item p (R A) ≡ AsksNext (request.Spawn seeds) at → AreFew at seeds
  finished-few {set} (asks r here i h n k) [] seeds at g =
      let e = rw h at g in absurd (subst (λ (x : Request). IsOfSet set x) (same_request e) i)
  finished-few {set} {R} (asks r here i h n k) (a ∷ A) seeds at g =
      by_fit r a (fits r a) refl
      (λ t. finished-few (k a t) A seeds at g)
      (λ t. absurd (stray-asks (R (a ∷ A)) (request.Spawn seeds) at (n a A t) g))
  finished-few (spawns ds here few h n j o k) [] seeds at g =
      let e = rw h at g in
      subst (λ (x : At). AreFew x seeds) (same_place e) (subst (λ (x : List Seed). AreFew here x) (same_seeds (same_request e)) few)
  finished-few {set} {R} (spawns ds here few h n j o k) (a ∷ []) seeds at g =
      by_fit (request.Spawn ds) a (fits (request.Spawn ds) a) refl
      (λ t. let e = rw (j a t) at g in absurd (of_join a seeds (same_request e)))
      (λ t. absurd (stray-asks (R (a ∷ [])) (request.Spawn seeds) at (n a [] t) g))
  finished-few {set} {R} (spawns ds here few h n j o k) (a ∷ b ∷ A) seeds at g =
      by_fit (request.Spawn ds) a (fits (request.Spawn ds) a) refl
      (λ t. by_fit (join_of a) b (fits (join_of a) b) refl
      (λ u. finished-few (k a t b u) A seeds at g)
      (λ u. absurd (stray-asks (R (a ∷ b ∷ A)) (request.Spawn seeds) at (o a t b A u) g)))
      (λ t. absurd (stray-asks (R (a ∷ b ∷ A)) (request.Spawn seeds) at (n a (b ∷ A) t) g))
  finished-few (goes m h) A seeds at g = let e = rw (h A) at g in absurd (last-spawn Completed m A seeds at e)
  finished-few (stops x m h) A seeds at g = let e = rw (h A) at g in absurd (last-spawn x m A seeds at e)

module _ (set : RouteSet) (b : Birth) (given : List Reply) where
  -- behind the birth of parts it is asked how they ended, and nothing else
  pub born-joins : (first count : ℕ) (q : Request) (at : At) → mean set b (given ++ reply.Born first count ∷ []) ≡ AsksNext q at → q ≡ request.Join first count
  unfolding mean
  born-joins first count q at h = finished-born (is_committed set b) (item_of b.origin) (place_of b) (work-script set (context_of b) b.work b.message) given first count q at h

  -- where parts are asked for, there are some, and no more than there may be
  pub spawned-few : (seeds : List Seed) (at : At) → mean set b given ≡ AsksNext (request.Spawn seeds) at → AreFew at seeds
  unfolding mean
  spawned-few seeds at h = finished-few (is_committed set b) (item_of b.origin) (place_of b) (work-script set (context_of b) b.work b.message) given seeds at h

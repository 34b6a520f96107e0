-- What a run answers itself: of each request the one answer that may come behind a past.
use Rattle.std.proofs.Common.{◌≡◌, ℕ, ◌+◌, ◌≤◌, Bool, true, false, nat_lt, cond, min, List, length, Option, Some, None, refl, sym, ap, ◌∙◌, arith, lt-ltb, ltb-true}
use Rattle.std.proofs.lemmas.Bool.{eqb-true, false_from_ne_true}
use Rattle.eip_exchange.specs.declared.end.Ended.{Ended as Finished}
use Rattle.eip_exchange.specs.declared.message.Message.{Message}
use Rattle.eip_frames.specs.declared.answer.Answer.{Answer as Reply}
use Rattle.eip_frames.specs.declared.answer.Answer.TheVariants as reply
use Rattle.eip_frames.specs.declared.answer.Completion.{Completion}
use Rattle.eip_frames.specs.declared.request.Request.{Request}
use Rattle.eip_frames.specs.declared.request.Request.TheVariants as request
use Rattle.eip_frames.specs.declared.request.Seed.{Seed}
use Rattle.eip_frames.specs.Fits.{fits, is_outside}
use Rattle.eip_history.specs.Plan.{Plan, Added, Gives, Faults}
use Rattle.eip_history.specs.Own.{Past, clock}
use Rattle.eip_history.specs.Births.{Asked, asked, arrival_of}
use Rattle.eip_history.specs.Groups.{cause_at}
use Rattle.eip_history.specs.Place.{waiting, joined}
use Rattle.eip_history.specs.Rules.{MayAnswer, Content, next, holder_of, added_at, group_at, is_fault}
use Rattle.eip_history.proofs.AnswerFacts.{answers-to}

-- ---- the answer of each request

abbrev offered : (n l size : ℕ) (discard : Bool) → Reply
offered n l size discard = cond (nat_lt l size) (reply.Queued n) (cond discard reply.Dropped (reply.Full l))

abbrev joining : Option (List Finished) → Reply
joining (Some parts) = reply.Joined parts
joining None = reply.Noted

abbrev arriving : Added → Option Completion → (g n : ℕ) → Reply
arriving (Faults f) o g n = reply.Unfit f
arriving (Gives m) None g n = reply.Arrived g
arriving (Gives m) (Some c) g n = reply.Closed g c n

abbrev offering : Option ℕ → Reply
offering None = reply.Fresh
offering (Some h) = reply.Duplicate h

not-below : (l size : ℕ) → size ≤ l → nat_lt l size ≡ false
not-below l size h = false_from_ne_true (nat_lt l size) (λ t. let k = ltb-true l size t in omega (arith, h, k))

module _ (s : Plan) (past : Past) (k : Asked) where
  abbrev the_one : Request → Reply
  the_one (request.Offer q discard m) = offered (next s past) (length (waiting s past q)) (s.queue q).size discard
  the_one (request.Call r) = reply.Entered
  the_one (request.Spawn seeds) = reply.Born (next s past) (length seeds)
  the_one (request.Join first count) = joining (joined s past first count)
  the_one (request.Arrive a key m) = arriving (added_at s past a key m) (cause_at s (group_at s past k a key m) (arrival_of past k m)) (group_at s past k a key m).number (next s past)
  the_one (request.Idem r key eager remove) = offering (holder_of s past r key)
  the_one (request.Wait t) = reply.Slept (min (clock past + t) 18446744073709551615)
  the_one (request.Log n t) = reply.Noted
  the_one _ = reply.Finished

  only-offer : (q : ℕ) (discard : Bool) (m : Message) (a : Reply) → fits (request.Offer q discard m) a ≡ true → Content s past k (request.Offer q discard m) a → a ≡ the_one (request.Offer q discard m)
  only-offer q discard m (reply.Queued n) f c = rw (c.0, lt-ltb (length (waiting s past q)) (s.queue q).size c.1) refl
  only-offer q true m (reply.Full l) f c = absurd (cc f)
  only-offer q false m (reply.Full l) f c =
      let few : (s.queue q).size ≤ length (waiting s past q) = omega (arith, c.0, c.1) in
      rw (c.0, not-below (length (waiting s past q)) (s.queue q).size few) refl
  only-offer q true m reply.Dropped f c = rw (not-below (length (waiting s past q)) (s.queue q).size c) refl
  only-offer q false m reply.Dropped f c = absurd (cc f)
  only-offer q discard m _ f c = absurd (cc f)

  only-spawn : (seeds : List Seed) (a : Reply) → fits (request.Spawn seeds) a ≡ true → Content s past k (request.Spawn seeds) a → a ≡ the_one (request.Spawn seeds)
  only-spawn seeds (reply.Born first count) f c = let n : count ≡ length seeds = eqb-true count (length seeds) f in cc
  only-spawn seeds _ f c = absurd (cc f)

  only-join : (first count : ℕ) (a : Reply) → fits (request.Join first count) a ≡ true → Content s past k (request.Join first count) a → a ≡ the_one (request.Join first count)
  only-join first count (reply.Joined parts) f c = sym (ap joining c)
  only-join first count _ f c = absurd (cc f)

  no-fault : (v : Added) → is_fault v ≡ false → (m : Message) × (v ≡ Gives m)
  no-fault (Gives m) h = (m, refl)
  no-fault (Faults f) h = absurd (cc h)

  only-arrive : (b : ℕ) (key : List ℕ) (m : Message) (a : Reply) → fits (request.Arrive b key m) a ≡ true → Content s past k (request.Arrive b key m) a → a ≡ the_one (request.Arrive b key m)
  only-arrive b key m (reply.Arrived n) f c = let g = no-fault (added_at s past b key m) c.0 in rw (g.1, c.2, c.1) refl
  only-arrive b key m (reply.Closed g o n) f c = let v = no-fault (added_at s past b key m) c.0 in rw (v.1, c.2, c.1, c.3) refl
  only-arrive b key m (reply.Unfit e) f c = rw c refl
  only-arrive b key m _ f c = absurd (cc f)

  only-idem : (r key : List ℕ) (eager remove : Bool) (a : Reply) → fits (request.Idem r key eager remove) a ≡ true → Content s past k (request.Idem r key eager remove) a → a ≡ the_one (request.Idem r key eager remove)
  only-idem r key eager remove reply.Fresh f c = sym (ap offering c)
  only-idem r key eager remove (reply.Duplicate h) f c = sym (ap offering c)
  only-idem r key eager remove _ f c = absurd (cc f)

  only-wait : (t : ℕ) (a : Reply) → fits (request.Wait t) a ≡ true → Content s past k (request.Wait t) a → a ≡ the_one (request.Wait t)
  only-wait t (reply.Slept d) f c = ap reply.Slept c
  only-wait t _ f c = absurd (cc f)

  only-call : (r : ℕ) (a : Reply) → fits (request.Call r) a ≡ true → a ≡ reply.Entered
  only-call r reply.Entered f = refl
  only-call r _ f = absurd (cc f)

  only-log : (n t : List ℕ) (a : Reply) → fits (request.Log n t) a ≡ true → a ≡ reply.Noted
  only-log n t reply.Noted f = refl
  only-log n t _ f = absurd (cc f)

  pub only : (q : Request) (a : Reply) → is_outside q ≡ false → fits q a ≡ true → Content s past k q a → a ≡ the_one q
  only (request.Offer q discard m) a o f c = only-offer q discard m a f c
  only (request.Call r) a o f c = only-call r a f
  only (request.Spawn seeds) a o f c = only-spawn seeds a f c
  only (request.Join first count) a o f c = only-join first count a f c
  only (request.Arrive b key m) a o f c = only-arrive b key m a f c
  only (request.Idem r key eager remove) a o f c = only-idem r key eager remove a f c
  only (request.Wait t) a o f c = only-wait t a f c
  only (request.Log n t) a o f c = only-log n t a f
  only (request.Finish e m commit) a o f c = finished a f
    where
      finished : (a : Reply) → fits (request.Finish e m commit) a ≡ true → a ≡ reply.Finished
      finished reply.Finished g = refl
      finished reply.CommitFailed g = absurd (let h : false ≡ true = sym o ∙ g in cc h)
      finished _ g = absurd (cc g)
  only (request.Send t m) a o f c = absurd (cc o)
  only (request.Process n m) a o f c = absurd (cc o)
  only (request.Test n m) a o f c = absurd (cc o)

-- two answers to one request of the run itself are one
pub one-answer : (s : Plan) (limit v w : ℕ) (past : Past) (x : ℕ) (k : Asked) (a b : Reply) → asked s past x ≡ Some k → is_outside k.request ≡ false
    → MayAnswer s limit past v x a → MayAnswer s limit past w x b → a ≡ b
one-answer s limit v w past x k a b at o m n =
    let f = answers-to s limit past v x a k m at in
    let g = answers-to s limit past w x b k n at in
    only s past k k.request a o f.fitting f.content ∙ sym (only s past k k.request b o g.fitting g.content)

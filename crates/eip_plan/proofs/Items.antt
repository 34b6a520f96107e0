-- The exchanges that an entry makes, where nothing but simple requests is answered.
use Rattle.std.proofs.Common.{◌≡◌, ℕ, Bool, true, false, List, [], ◌∷◌, ◌++◌, refl, ap, ◌∙◌}
use Rattle.eip_exchange.specs.declared.birth.Birth.{Birth}
use Rattle.eip_frames.specs.declared.request.Request.{Request}
use Rattle.eip_frames.specs.declared.request.Request.TheVariants as request
use Rattle.eip_frames.specs.declared.answer.Answer.{Answer as Reply}
use Rattle.eip_frames.specs.declared.answer.Answer.TheVariants as reply
use Rattle.eip_frames.specs.Fits.{fits, is_outside}
use Rattle.eip_ledger.specs.declared.entry.Entry.{Entry}
use Rattle.eip_ledger.specs.declared.entry.Kind.{Kind}
use Rattle.eip_ledger.specs.declared.entry.Kind.TheVariants.{Accept, Answer, Tick, Force}
use Rattle.eip_history.specs.Plan.{Plan}
use Rattle.eip_history.specs.Own.{Past}
use Rattle.eip_history.specs.Births.{Asked, Story, story, births, made_at, made_by, made_for}
use Rattle.eip_history.specs.Rules.{KeepsRules, May}
use Rattle.eip_history.specs.Kept.{is_fresh}
use Rattle.eip_history.specs.TableWords.{is_sleep, is_arrival}
use Rattle.eip_history.proofs.Told.{births-more}
use Rattle.eip_history.proofs.Unborn.{legal-tail, legal-may}
use Rattle.eip_plan.specs.Simple.{IsSimple, IsSimpleAnswer, IsSimpleEntry, AnswersSimply}

-- such an answer fits simple requests alone
pub simple-asked : (q : Request) (a : Reply) → IsSimpleAnswer a → fits q a ≡ true → IsSimple q
simple-asked (request.Send t m) a i h = tt
simple-asked (request.Process n m) a i h = tt
simple-asked (request.Test n m) a i h = tt
simple-asked (request.Offer q discard m) a i h = tt
simple-asked (request.Call r) a i h = tt
simple-asked (request.Spawn seeds) a i h = tt
simple-asked (request.Join first count) a i h = tt
simple-asked (request.Arrive b key m) a i h = tt
simple-asked (request.Idem r k eager remove) a i h = tt
simple-asked (request.Wait t) a i h = tt
simple-asked (request.Log n t) a i h = tt
simple-asked (request.Finish e m c) a i h = tt

-- and what fits a simple request is such an answer
pub fits-simple : (q : Request) (a : Reply) → IsSimple q → fits q a ≡ true → IsSimpleAnswer a
fits-simple (request.Send t m) reply.Done i h = tt
fits-simple (request.Send t m) reply.SendFailed i h = tt
fits-simple (request.Send t m) reply.Exists i h = tt
fits-simple (request.Process n m) (reply.Became b) i h = tt
fits-simple (request.Process n m) (reply.Raised f) i h = tt
fits-simple (request.Test n m) (reply.Holds b) i h = tt
fits-simple (request.Offer q discard m) (reply.Queued n) i h = tt
fits-simple (request.Offer q discard m) (reply.Full l) i h = tt
fits-simple (request.Offer q discard m) reply.Dropped i h = tt
fits-simple (request.Call r) reply.Entered i h = tt
fits-simple (request.Spawn seeds) (reply.Born first count) i h = tt
fits-simple (request.Join first count) (reply.Joined parts) i h = tt
fits-simple (request.Arrive b key m) (reply.Arrived g) i h = tt
fits-simple (request.Arrive b key m) (reply.Closed g c n) i h = tt
fits-simple (request.Arrive b key m) (reply.Unfit f) i h = tt
fits-simple (request.Idem r k eager remove) reply.Fresh i h = tt
fits-simple (request.Idem r k eager remove) (reply.Duplicate n) i h = tt
fits-simple (request.Wait t) (reply.Slept d) i h = tt
fits-simple (request.Log n t) reply.Noted i h = tt
fits-simple (request.Finish e m c) reply.Finished i h = tt
fits-simple (request.Finish e m c) reply.CommitFailed i h = tt
fits-simple (request.Send t m) _ i h = absurd (cc h)
fits-simple (request.Process n m) _ i h = absurd (cc h)
fits-simple (request.Test n m) _ i h = absurd (cc h)
fits-simple (request.Offer q discard m) _ i h = absurd (cc h)
fits-simple (request.Call r) _ i h = absurd (cc h)
fits-simple (request.Spawn seeds) _ i h = absurd (cc h)
fits-simple (request.Join first count) _ i h = absurd (cc h)
fits-simple (request.Arrive b key m) _ i h = absurd (cc h)
fits-simple (request.Idem r k eager remove) _ i h = absurd (cc h)
fits-simple (request.Wait t) _ i h = absurd (cc h)
fits-simple (request.Log n t) _ i h = absurd (cc h)
fits-simple (request.Finish e m c) _ i h = absurd (cc h)

-- what the outside is asked is simple
pub outside-simple : (q : Request) → is_outside q ≡ true → IsSimple q
outside-simple (request.Send t m) h = tt
outside-simple (request.Process n m) h = tt
outside-simple (request.Test n m) h = tt
outside-simple (request.Log n t) h = tt
outside-simple (request.Finish e m c) h = tt
outside-simple _ h = absurd (cc h)

-- an answer by which a copy comes into a queue
abbrev pub is_queued : Reply → Bool
is_queued (reply.Queued n) = true
is_queued _ = false

-- nobody outside puts a copy into a queue
pub outside-unqueued : (q : Request) (a : Reply) → is_outside q ≡ true → fits q a ≡ true → is_queued a ≡ false
outside-unqueued q (reply.Queued n) o h = by_request q o h
  where
    by_request : (q : Request) → is_outside q ≡ true → fits q (reply.Queued n) ≡ true → is_queued (reply.Queued n) ≡ false
    by_request (request.Offer u discard m) o h = absurd (cc o)
    by_request _ o h = absurd (cc h)
outside-unqueued q _ o h = refl

-- an answer by which exchanges are born
abbrev pub bears : Reply → Bool
bears (reply.Queued n) = true
bears (reply.Born first count) = true
bears (reply.Closed g c n) = true
bears _ = false

-- a copy in a queue is one
pub unborn-unqueued : (a : Reply) → bears a ≡ false → is_queued a ≡ false
unborn-unqueued (reply.Queued n) h = absurd (cc h)
unborn-unqueued _ h = refl

-- nobody outside lets an exchange be born
pub outside-unborn : (q : Request) (a : Reply) → is_outside q ≡ true → fits q a ≡ true → bears a ≡ false
outside-unborn q (reply.Queued n) o h = absurd (let g = outside-unqueued q (reply.Queued n) o h in cc g)
outside-unborn q (reply.Born first count) o h = by_request q o h
  where
    by_request : (q : Request) → is_outside q ≡ true → fits q (reply.Born first count) ≡ true → bears (reply.Born first count) ≡ false
    by_request (request.Spawn seeds) o h = absurd (cc o)
    by_request _ o h = absurd (cc h)
outside-unborn q (reply.Closed g c n) o h = by_request q o h
  where
    by_request : (q : Request) → is_outside q ≡ true → fits q (reply.Closed g c n) ≡ true → bears (reply.Closed g c n) ≡ false
    by_request (request.Arrive a key m) o h = absurd (cc o)
    by_request _ o h = absurd (cc h)
outside-unborn q _ o h = refl

-- nobody outside lets an arrival join a group
pub outside-ungrouped : (q : Request) (a : Reply) → is_outside q ≡ true → fits q a ≡ true → is_arrival a ≡ false
outside-ungrouped q (reply.Arrived g) o h = by_request q o h
  where
    by_request : (q : Request) → is_outside q ≡ true → fits q (reply.Arrived g) ≡ true → is_arrival (reply.Arrived g) ≡ false
    by_request (request.Arrive a key m) o h = absurd (cc o)
    by_request _ o h = absurd (cc h)
outside-ungrouped q (reply.Closed g c n) o h = absurd (let f = outside-unborn q (reply.Closed g c n) o h in cc f)
outside-ungrouped q _ o h = refl

-- nobody outside lets an exchange claim a key
pub outside-unclaimed : (q : Request) (a : Reply) → is_outside q ≡ true → fits q a ≡ true → is_fresh a ≡ false
outside-unclaimed q reply.Fresh o h = by_request q o h
  where
    by_request : (q : Request) → is_outside q ≡ true → fits q reply.Fresh ≡ true → is_fresh reply.Fresh ≡ false
    by_request (request.Idem r k eager remove) o h = absurd (cc o)
    by_request _ o h = absurd (cc h)
outside-unclaimed q _ o h = refl

-- nobody outside lets an exchange sleep
pub outside-wakeful : (q : Request) (a : Reply) → is_outside q ≡ true → fits q a ≡ true → is_sleep a ≡ false
outside-wakeful q (reply.Slept d) o h = by_request q o h
  where
    by_request : (q : Request) → is_outside q ≡ true → fits q (reply.Slept d) ≡ true → is_sleep (reply.Slept d) ≡ false
    by_request (request.Wait t) o h = absurd (cc o)
    by_request _ o h = absurd (cc h)
outside-wakeful q _ o h = refl

made-simple : (s : Plan) (t : Story) (past : Past) (k : Asked) (q : Request) (a : Reply) → IsSimple q → bears a ≡ false → made_for s t past k q a ≡ []
made-simple s t past k (request.Send g m) a i n = refl
made-simple s t past k (request.Process n m) a i none = refl
made-simple s t past k (request.Test n m) a i none = refl
made-simple s t past k (request.Offer q discard m) (reply.Queued n) i none = absurd (cc none)
made-simple s t past k (request.Offer q discard m) _ i none = refl
made-simple s t past k (request.Call r) a i n = refl
made-simple s t past k (request.Spawn seeds) (reply.Born first count) i none = absurd (cc none)
made-simple s t past k (request.Spawn seeds) _ i none = refl
made-simple s t past k (request.Join first count) a i n = refl
made-simple s t past k (request.Arrive b key m) (reply.Closed g c n) i none = absurd (cc none)
made-simple s t past k (request.Arrive b key m) _ i none = refl
made-simple s t past k (request.Idem r key eager remove) a i none = refl
made-simple s t past k (request.Wait x) a i none = refl
made-simple s t past k (request.Log n x) a i none = refl
made-simple s t past k (request.Finish e m c) a i n = refl

-- the births of an entry: one for an accepted item, one for a copy that came into a queue, the parts that were asked for, and one for
-- each group that closes
abbrev pub simple_births : Plan → Past → Kind → List Birth
simple_births s past (Accept source item m) = made_at s past (Accept source item m)
simple_births s past (Answer x (reply.Queued n)) = made_at s past (Answer x (reply.Queued n))
simple_births s past (Answer x (reply.Born first count)) = made_at s past (Answer x (reply.Born first count))
simple_births s past (Answer x (reply.Closed g c n)) = made_at s past (Answer x (reply.Closed g c n))
simple_births s past (Tick t) = made_at s past (Tick t)
simple_births s past Force = made_at s past Force
simple_births s past _ = []

pub unborn-births : (s : Plan) (past : Past) (x : ℕ) (a : Reply) → bears a ≡ false → simple_births s past (Answer x a) ≡ []
unborn-births s past x (reply.Queued n) h = absurd (cc h)
unborn-births s past x (reply.Born first count) h = absurd (cc h)
unborn-births s past x (reply.Closed g c n) h = absurd (cc h)
unborn-births s past x _ h = refl

made-answer : (s : Plan) (limit w : ℕ) (past : Past) (x : ℕ) (r : Reply) → IsSimpleAnswer r → bears r ≡ false → May s limit past w (Answer x r) → made_at s past (Answer x r) ≡ []
made-answer s limit w past x r i none m =
    ap (λ o. made_by s (story s past) past o r) m.asked_is ∙ made-simple s (story s past) past m.asks m.asks.request r (simple-asked m.asks.request r i m.fitting) none

made-simply : (s : Plan) (limit w : ℕ) (past : Past) (k : Kind) → IsSimpleEntry k → May s limit past w k → made_at s past k ≡ simple_births s past k
made-simply s limit w past (Accept source item m) i may = refl
made-simply s limit w past (Answer x (reply.Queued n)) i m = refl
made-simply s limit w past (Answer x (reply.Born first count)) i m = refl
made-simply s limit w past (Answer x (reply.Closed g c n)) i m = refl
made-simply s limit w past (Answer x (reply.Arrived g)) i m = made-answer s limit w past x (reply.Arrived g) i refl m
made-simply s limit w past (Answer x (reply.Unfit f)) i m = made-answer s limit w past x (reply.Unfit f) i refl m
made-simply s limit w past (Answer x (reply.Joined parts)) i m = made-answer s limit w past x (reply.Joined parts) i refl m
made-simply s limit w past (Answer x reply.Done) i m = made-answer s limit w past x reply.Done i refl m
made-simply s limit w past (Answer x reply.SendFailed) i m = made-answer s limit w past x reply.SendFailed i refl m
made-simply s limit w past (Answer x reply.Exists) i m = made-answer s limit w past x reply.Exists i refl m
made-simply s limit w past (Answer x (reply.Became b)) i m = made-answer s limit w past x (reply.Became b) i refl m
made-simply s limit w past (Answer x (reply.Raised f)) i m = made-answer s limit w past x (reply.Raised f) i refl m
made-simply s limit w past (Answer x (reply.Holds b)) i m = made-answer s limit w past x (reply.Holds b) i refl m
made-simply s limit w past (Answer x (reply.Full l)) i m = made-answer s limit w past x (reply.Full l) i refl m
made-simply s limit w past (Answer x reply.Dropped) i m = made-answer s limit w past x reply.Dropped i refl m
made-simply s limit w past (Answer x reply.Entered) i m = made-answer s limit w past x reply.Entered i refl m
made-simply s limit w past (Answer x reply.Fresh) i m = made-answer s limit w past x reply.Fresh i refl m
made-simply s limit w past (Answer x (reply.Duplicate h)) i m = made-answer s limit w past x (reply.Duplicate h) i refl m
made-simply s limit w past (Answer x (reply.Slept d)) i m = made-answer s limit w past x (reply.Slept d) i refl m
made-simply s limit w past (Answer x reply.Noted) i m = made-answer s limit w past x reply.Noted i refl m
made-simply s limit w past (Answer x reply.Finished) i m = made-answer s limit w past x reply.Finished i refl m
made-simply s limit w past (Answer x reply.CommitFailed) i m = made-answer s limit w past x reply.CommitFailed i refl m
made-simply s limit w past (Tick t) i m = refl
made-simply s limit w past Force i m = refl
made-simply s limit w past _ i m = refl

-- no other entry makes births
pub births-simply : (s : Plan) (w limit : ℕ) (e : Entry) (past : Past) → KeepsRules s w limit (e ∷ past) → AnswersSimply (e ∷ past) → births s (e ∷ past) ≡ births s past ++ simple_births s past e.kind
births-simply s w limit e past legal simple =
    births-more s e past ∙ ap (λ bs. births s past ++ bs) (made-simply s limit e.worker past e.kind simple.1 (legal-may s w limit e past legal))

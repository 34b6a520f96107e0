-- Who may act is allowed to: the rules of the entries, and an answer for each inner request.
use Rattle.std.proofs.Common.{◌≡◌, ◌≢◌, ℕ, zero, suc, ◌+◌, ◌≤◌, Bool, true, false, ◌==◌, ◌&&◌, List, [], ◌∷◌, ◌++◌, length, Option, Some, None, is_some, refl, sym, ap, subst, ◌∙◌, arith, eq-eqb, cond, inl, inr}
use Rattle.std.proofs.lemmas.Bool.{cases_Bool, cases_lt}
use Rattle.std.proofs.lemmas.List.{append-nil}
use Rattle.eip_exchange.specs.declared.message.Message.{Message}
use Rattle.eip_exchange.specs.declared.birth.Birth.{Birth}
use Rattle.eip_exchange.specs.declared.birth.Origin.{Origin}
use Rattle.eip_exchange.specs.declared.birth.Origin.TheVariants as from
use Rattle.eip_exchange.specs.declared.end.Ended.{Ended as Finished}
use Rattle.eip_exchange.specs.Ends.{out_of_memory}
use Rattle.eip_frames.specs.declared.answer.Answer.{Answer as Reply}
use Rattle.eip_frames.specs.declared.answer.Answer.TheVariants as reply
use Rattle.eip_frames.specs.declared.request.Request.{Request}
use Rattle.eip_frames.specs.declared.request.Request.TheVariants as request
use Rattle.eip_frames.specs.declared.answer.Completion.{Completion}
use Rattle.eip_frames.specs.Fate.{Fate, AsksNext, Ends, Strays}
use Rattle.eip_frames.specs.Fits.{is_outside, fits}
use Rattle.eip_ledger.specs.declared.entry.Kind.{Kind}
use Rattle.eip_ledger.specs.declared.entry.Kind.TheVariants.{Answer}
use Rattle.eip_ledger.specs.declared.place.Stop.TheVariants.{Spent}
use Rattle.eip_ledger.specs.declared.place.Place.TheVariants as place_is
use Rattle.eip_history.specs.Plan.{Plan, Added, Gives, Faults}
use Rattle.eip_history.specs.Own.{Past, own, last_answer, started, taker, answers, starved, clock, or_answer, answer_in, turns}
use Rattle.eip_history.specs.Births.{Asked, fate, asked_by, asked, arrival_of}
use Rattle.eip_history.specs.Place.{ended, joined, cons_option, all_ended, pause_of, paused, in_hand, queued, place_by, place_of, waiting, hands, place}
use Rattle.eip_history.specs.Rules.{KeepsRules, first, IsBelow, MayAnswer, MayAct, Content, next, holder_of, added_at, group_at, is_fault}
use Rattle.eip_history.specs.Stop.{is_over, stop_of, first_fault, with_fault, held_or_drained, open_groups}
use Rattle.eip_history.specs.Laws.{PlanLaws, last_of}
use Rattle.eip_history.specs.Groups.{cause_at}
use Rattle.eip_history.proofs.Unborn.{place-born, asked-born}
use Rattle.eip_history.proofs.Limit.{legal-within}

last-push : {A : Type 0} (xs : List A) (x : A) → last_of (xs ++ x ∷ []) ≡ Some x
last-push [] x = refl
last-push (y ∷ []) x = refl
last-push (y ∷ (z ∷ xs)) x = last-push (z ∷ xs) x

-- the last answer is the newest
pub last-answers : (o : Past) → last_answer o ≡ last_of (answers o)
last-answers [] = refl
last-answers (e ∷ o) = by_kind e.kind (last-answers o)
  where
    by_kind : (k : Kind) → last_answer o ≡ last_of (answers o) → or_answer k (last_answer o) ≡ last_of (answers o ++ answer_in k)
    by_kind (Answer n a) ih = sym (last-push (answers o) a)
    by_kind _ ih = ih ∙ sym (ap last_of (append-nil (answers o)))

-- an answer that the rule allows
pub record Allowed (s : Plan) (past : Past) (k : Asked) (q : Request) : Type 0 where
  pub answer : Reply
  pub fitting : fits q answer ≡ true
  pub content : Content s past k q answer

joined-length : (s : Plan) (past : Past) (first count : ℕ) (parts : List Finished) → joined s past first count ≡ Some parts → length parts ≡ count
joined-length s past first zero parts h = let e : [] ≡ parts = cc in sym (ap length e)
joined-length s past first (suc k) parts h = by_two (ended s past first) (joined s past (first + 1) k) refl h (λ ps g. joined-length s past (first + 1) k ps g)
  where
    by_two : (o : Option Finished) (r : Option (List Finished)) → joined s past (first + 1) k ≡ r → cons_option o r ≡ Some parts
        → ((ps : List Finished) → joined s past (first + 1) k ≡ Some ps → length ps ≡ k) → length parts ≡ suc k
    by_two (Some f) (Some fs) e g ih = let l = ih fs e in let same : f ∷ fs ≡ parts = cc in let m = ap length same in omega (arith, l, m)
    by_two None r e g ih = absurd (cc g)
    by_two (Some f) None e g ih = absurd (cc g)

allowed-join : (s : Plan) (past : Past) (k : Asked) (first count : ℕ) → all_ended s past first count ≡ true → Allowed s past k (request.Join first count)
allowed-join s past k first count h = by_parts (joined s past first count) refl h
  where
    by_parts : (o : Option (List Finished)) → joined s past first count ≡ o → is_some o ≡ true → Allowed s past k (request.Join first count)
    by_parts (Some ps) e g = record { answer = reply.Joined ps; fitting = eq-eqb (length ps) count (joined-length s past first count ps e); content = e }
    by_parts None e g = absurd (cc g)

allowed-offer : (s : Plan) (past : Past) (k : Asked) (q : ℕ) (discard : Bool) (m : Message) → Allowed s past k (request.Offer q discard m)
allowed-offer s past k q discard m = elim (cases_lt (length (waiting s past q)) (s.queue q).size) [
  | inl l ↦ record { answer = reply.Queued (next s past); fitting = refl; content = (refl, l) }
  | inr l ↦ by_discard discard l
]
  where
    by_discard : (d : Bool) → (s.queue q).size ≤ length (waiting s past q) → Allowed s past k (request.Offer q d m)
    by_discard true l = record { answer = reply.Dropped; fitting = refl; content = l }
    by_discard false l = record { answer = reply.Full (length (waiting s past q)); fitting = refl; content = (refl, l) }

allowed-arrive : (s : Plan) (past : Past) (k : Asked) (a : ℕ) (key : List ℕ) (m : Message) → Allowed s past k (request.Arrive a key m)
allowed-arrive s past k a key m = by_added (added_at s past a key m) refl
  where
    by_cause : is_fault (added_at s past a key m) ≡ false → (o : Option Completion) → cause_at s (group_at s past k a key m) (arrival_of past k m) ≡ o
        → Allowed s past k (request.Arrive a key m)
    by_cause f None e = record { answer = reply.Arrived _; fitting = refl; content = (f, refl, e) }
    by_cause f (Some c) e = record { answer = reply.Closed _ c _; fitting = refl; content = (f, refl, e, refl) }

    by_added : (v : Added) → added_at s past a key m ≡ v → Allowed s past k (request.Arrive a key m)
    by_added (Faults f) e = record { answer = reply.Unfit f; fitting = refl; content = e }
    by_added (Gives g) e = by_cause (ap is_fault e) (cause_at s (group_at s past k a key m) (arrival_of past k m)) refl

allowed-idem : (s : Plan) (past : Past) (k : Asked) (r key : List ℕ) (eager remove : Bool) → Allowed s past k (request.Idem r key eager remove)
allowed-idem s past k r key eager remove = by_holder (holder_of s past r key) refl
  where
    by_holder : (o : Option ℕ) → holder_of s past r key ≡ o → Allowed s past k (request.Idem r key eager remove)
    by_holder None e = record { answer = reply.Fresh; fitting = refl; content = e }
    by_holder (Some h) e = record { answer = reply.Duplicate h; fitting = refl; content = e }

-- each inner request whose parts have ended has an answer that fits it and says what it must
pub allowed : (s : Plan) (past : Past) (k : Asked) (q : Request) → is_outside q ≡ false
    → ((first count : ℕ) → q ≡ request.Join first count → all_ended s past first count ≡ true) → Allowed s past k q
allowed s past k (request.Offer q d m) i j = allowed-offer s past k q d m
allowed s past k (request.Call r) i j = record { answer = reply.Entered; fitting = refl; content = tt }
allowed s past k (request.Spawn seeds) i j =
    record { answer = reply.Born (next s past) (length seeds); fitting = eq-eqb (length seeds) (length seeds) refl; content = refl }
allowed s past k (request.Join f c) i j = allowed-join s past k f c (j f c refl)
allowed s past k (request.Arrive a key m) i j = allowed-arrive s past k a key m
allowed s past k (request.Idem r key eager remove) i j = allowed-idem s past k r key eager remove
allowed s past k (request.Wait t) i j = record { answer = reply.Slept _; fitting = refl; content = refl }
allowed s past k (request.Log n t) i j = record { answer = reply.Noted; fitting = refl; content = tt }
allowed s past k (request.Finish e m c) i j = record { answer = reply.Finished; fitting = refl; content = tt }
allowed s past k (request.Send t m) i j = absurd (cc i)
allowed s past k (request.Process n m) i j = absurd (cc i)
allowed s past k (request.Test n m) i j = absurd (cc i)

-- a Ready exchange that asks Join has all its parts ended
asks-given : (s : Plan) (past : Past) (b : Birth) (k : Asked) → asked_by b (fate s past b) ≡ Some k
    → s.mean b (answers (own b.number past)) ≡ AsksNext k.request k.at
unfolding fate
asks-given s past b k h = by_test (starved (own b.number past)) h
  where
    by_mean : (f : Fate) → s.mean b (answers (own b.number past)) ≡ f → asked_by b f ≡ Some k → s.mean b (answers (own b.number past)) ≡ AsksNext k.request k.at
    by_mean (AsksNext q p) e g = let a : q ≡ k.request = cc in let c : p ≡ k.at = cc in e ∙ (ap (λ x. AsksNext x p) a ∙ ap (AsksNext k.request) c)
    by_mean (Ends e' m) e g = absurd (cc g)
    by_mean Strays e g = absurd (cc g)

    by_test : (v : Bool) → asked_by b (cond v (Ends out_of_memory b.message) (s.mean b (answers (own b.number past)))) ≡ Some k
        → s.mean b (answers (own b.number past)) ≡ AsksNext k.request k.at
    by_test true g = absurd (cc g)
    by_test false g = by_mean (s.mean b (answers (own b.number past))) refl g

-- below the limit where no hand is out and the run is at no stop
pub waits-below : (s : Plan) (w limit : ℕ) (past : Past) → KeepsRules s w limit past → hands s past ≡ 0 → stop_of s limit past ≡ None
    → (is_over s past ≡ false) × IsBelow s limit past
unfolding stop_of
waits-below s w limit past legal home e = by_over (is_over s past) (turns past == limit) (hands s past == 0) refl refl (eq-eqb (hands s past) 0 home) e
  where
    by_over : (o t h : Bool) → is_over s past ≡ o → (turns past == limit) ≡ t → h ≡ true
        → cond o (Some (with_fault (first_fault past) (held_or_drained (length (open_groups s past)))))
        (cond (t && h) (Some (with_fault (first_fault past) Spent)) None)
        ≡ None
        → (is_over s past ≡ false) × IsBelow s limit past
    by_over true t h oe te he f = absurd (cc f)
    by_over false true true oe te he f = absurd (cc f)
    by_over false true false oe te he f = absurd (cc he)
    by_over false false h oe te he f =
        let ne : turns past ≢ limit = λ q. let k = eq-eqb (turns past) limit q in cc in
        let least = legal-within s w limit past legal in (oe, omega (arith, ne, least, home))

ready-parts : (s : Plan) (past : Past) (b : Birth) (first count : ℕ) → place_of s past b ≡ place_is.Ready
    → last_answer (own b.number past) ≡ Some (reply.Born first count) → all_ended s past first count ≡ true
unfolding place_of
ready-parts s past b first count h la = elim (cases_Bool (all_ended s past first count)) [ inl t ↦ t | inr n ↦ absurd (by_fate n (fate s past b) h) ]
  where
    by_hand : all_ended s past first count ≡ false → (w : Option ℕ)
        → in_hand w (paused (clock past) (all_ended s past) (pause_of (last_answer (own b.number past)))) ≡ place_is.Ready → ⊥
    by_hand n (Some w) g = cc g
    by_hand n None g = let k = rw (la, n) at g in cc k

    by_queue : all_ended s past first count ≡ false → (r : Origin) (v : Bool)
        → queued r v (in_hand (taker (own b.number past)) (paused (clock past) (all_ended s past) (pause_of (last_answer (own b.number past)))))
        ≡ place_is.Ready
        → ⊥
    by_queue n (from.Queue q) false g = cc g
    by_queue n (from.Queue q) true g = by_hand n (taker (own b.number past)) g
    by_queue n (from.Source r i) v g = by_hand n (taker (own b.number past)) g
    by_queue n (from.Part y i) v g = by_hand n (taker (own b.number past)) g
    by_queue n (from.Group y) v g = by_hand n (taker (own b.number past)) g

    by_fate : all_ended s past first count ≡ false → (f : Fate) → place_by (clock past) (all_ended s past) b (own b.number past) f ≡ place_is.Ready → ⊥
    by_fate n (Ends e m) g = cc g
    by_fate n (AsksNext q p) g = by_queue n b.origin (started (own b.number past)) g
    by_fate n Strays g = by_queue n b.origin (started (own b.number past)) g

-- each inner request of a Ready exchange has an answer that it may be given
pub may-answer : (s : Plan) (laws : PlanLaws s) (limit : ℕ) (past : Past) (x : ℕ) (k : Asked) → place s past x ≡ Some place_is.Ready
    → asked s past x ≡ Some k → is_outside k.request ≡ false → IsBelow s limit past
    → (a : Reply) × MayAnswer s limit past 0 x a
may-answer s laws limit past x k ready ask inner below =
    let b = asked-born s past x k ask in
    let p = place-born s past x _ ready in
    let same : p.0 ≡ b.0 = let u = p.1 in let v = b.1 in cc in
    let place_ready : place_of s past b.0 ≡ place_is.Ready = subst (λ d. place_of s past d ≡ place_is.Ready) same p.2 in
    let g = asks-given s past b.0 k b.2 in
    let ok = allowed s past k k.request inner (λ first count q.
    ready-parts s past b.0 first count place_ready
    (last-answers (own b.0.number past) ∙ laws.joins b.0 (answers (own b.0.number past)) first count k.at (g ∙ ap (λ r. AsksNext r k.at) q))) in (
      ok.answer,
      record {
        asks = k;
        asked_is = ask;
        fitting = ok.fitting;
        act = subst (λ v. MayAct s limit past 0 x v) (sym inner) (ready, below);
        content = ok.content;
      },
    )

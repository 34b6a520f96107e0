-- What the entries of a journal make of the table of queues.
use Rattle.std.proofs.Common.{◌≡◌, ◌≢◌, ℕ, zero, suc, ◌+◌, ◌-◌, ◌<◌, ◌≤◌, Bool, true, false, ◌&&◌, ◌==◌, cond, List, [], ◌∷◌, ◌++◌, length, drop, map, filter, Some, None, is_some, option_map, refl, sym, ap, subst, ◌∙◌, arith, eq-eqb, length-append}
use Rattle.std.specs.List.{slice_get}
use Rattle.std.proofs.lemmas.Bool.{and_right, eqb-true}
use Rattle.std.proofs.lemmas.List.{append-nil, drop-append-le, length-map}
use Rattle.std.proofs.lemmas.Option.{slice_get-map, get_or_from_slice_get}
use Rattle.eip_exchange.specs.declared.birth.Birth.{Birth}
use Rattle.eip_exchange.specs.declared.birth.Origin.{Origin}
use Rattle.eip_exchange.specs.declared.birth.Origin.TheVariants as from
use Rattle.eip_exchange.specs.declared.message.Message.{Message}
use Rattle.eip_route.specs.declared.route.Route.{Route}
use Rattle.eip_route.specs.declared.route.RouteSet.{RouteSet}
use Rattle.eip_frames.specs.declared.answer.Answer.{Answer as Reply}
use Rattle.eip_frames.specs.declared.answer.Answer.TheVariants as reply
use Rattle.eip_frames.specs.declared.request.Request.{Request}
use Rattle.eip_frames.specs.declared.request.Request.TheVariants as request
use Rattle.eip_ledger.specs.declared.entry.Entry.{Entry}
use Rattle.eip_ledger.specs.declared.entry.Kind.{Kind}
use Rattle.eip_ledger.specs.declared.entry.Kind.TheVariants.{Answer, Starve}
use Rattle.eip_seda.specs.Consuming as seda
use Rattle.eip_seda.specs.Consuming.{Call, Offered, Ended, QueueView, queue_after, busy_in, busy_at, size_of, consumers_of}
use Rattle.eip_history.specs.Plan.{Plan}
use Rattle.eip_history.specs.Own.{Past, concerns, is_start, numbered}
use Rattle.eip_history.specs.Births.{Asked, asked, births}
use Rattle.eip_history.specs.Place.{ended, place_of, is_born_into, is_busy, is_in, waiting, busy, number_of}
use Rattle.eip_history.specs.Rules.{KeepsRules, Content, next}
use Rattle.eip_history.specs.Laws.{IsQueue}
use Rattle.eip_history.specs.Tables.{bit}
use Rattle.eip_history.specs.TableWords.{moves_waiting, moves_busy}
use Rattle.eip_history.proofs.Told.{births-none}
use Rattle.eip_history.proofs.Unborn.{legal-may, asked-born}
use Rattle.eip_history.proofs.Lists.{slice_get-some}
use Rattle.eip_history.proofs.Limit.{not-same}
use Rattle.eip_history.proofs.Over.{Queued, each-at, queues-known}
use Rattle.eip_history.proofs.AnswerFacts.{answers-to}
use Rattle.eip_history.proofs.Numbers.{numbers-at-is}
use Rattle.eip_history.proofs.QueueTable.{waiting-stay, waiting-offer}
use Rattle.eip_history.proofs.BusyTable.{busy-stay, busy-own}
use Rattle.eip_plan.specs.Plan.{plan_of, queue_rule}
use Rattle.eip_plan.proofs.Items.{is_queued}
use Rattle.eip_plan.proofs.Laws.{plan-laws}
use Rattle.eip_tables.specs.Queues.{QueuesStand, limits, limit_of}
use Rattle.eip_table_laws.proofs.PartFacts.{answer-lives}

-- ---- the limits are those of the plan

pub limits-at : (set : RouteSet) (q : ℕ) → q < (plan_of set).routes → slice_get (limits set) q ≡ Some (limit_of ((plan_of set).queue q))
unfolding plan_of
limits-at set q l =
    let r = slice_get-some set.routes q l in
    slice_get-map (λ (r : Route). limit_of (queue_rule r.from)) set.routes q ∙ rw r.1 refl

pub size-at : (set : RouteSet) (q : ℕ) → q < (plan_of set).routes → size_of (limits set) q ≡ ((plan_of set).queue q).size
size-at set q l = ap (λ (t : ℕ × ℕ). t.0) (get_or_from_slice_get (limits set) q (limit_of ((plan_of set).queue q)) (0, 0) (limits-at set q l))

pub consumers-at : (set : RouteSet) (q : ℕ) → q < (plan_of set).routes → consumers_of (limits set) q ≡ ((plan_of set).queue q).consumers
consumers-at set q l = ap (λ (t : ℕ × ℕ). t.1) (get_or_from_slice_get (limits set) q (limit_of ((plan_of set).queue q)) (0, 0) (limits-at set q l))

-- a queue for each route
pub queues-many : {set : RouteSet} {past : Past} (queues : List QueueView) → QueuesStand set past queues → length queues ≡ (plan_of set).routes
unfolding plan_of
queues-many {set} {past} queues st = st.stands.as_many ∙ length-map set.routes (λ (r : Route). limit_of (queue_rule r.from))

-- as many of a queue are at work by the table as by the past
pub works-at : {set : RouteSet} {past : Past} (queues : List QueueView) (q : ℕ) → QueuesStand set past queues → q < (plan_of set).routes → busy_at queues q ≡ busy (plan_of set) past q
works-at {set} {past} queues q st l = ap busy_in (st.stands.each q ∙ ap (option_map (queue_after st.calls q)) (limits-at set q l)) ∙ st.works q

-- who is born into a queue, is born into one of the set's
pub birth-queue : (set : RouteSet) (past : Past) (x : ℕ) (b : Birth) (q : ℕ) → numbered (births (plan_of set) past) x ≡ Some b → b.origin ≡ from.Queue q → IsQueue (plan_of set) q
birth-queue set past zero b q at origin = absurd (cc at)
birth-queue set past (suc i) b q at origin =
    each-at (Queued (plan_of set)) (births (plan_of set) past) i b (queues-known (plan_of set) (plan-laws set) past) at q origin

-- ---- nothing has happened

none-wait : (s : Plan) (q : ℕ) → waiting s [] q ≡ []
none-wait s q = sym (numbers-at-is s [] (is_in q)) ∙ ap (λ bs. map number_of (filter (λ (b : Birth). is_in q (place_of s [] b)) bs)) (births-none s)

none-work : (s : Plan) (q : ℕ) → busy s [] q ≡ 0
unfolding busy
none-work s q = ap (λ bs. length (filter (λ (b : Birth). is_busy q b (place_of s [] b)) bs)) (births-none s)

pub queues-none : (set : RouteSet) (queues : List QueueView) → seda.Stands (limits set) [] queues → QueuesStand set [] queues
queues-none set queues st = record {
  calls = [];
  stands = st;
  waits = λ q. sym (none-wait (plan_of set) q);
  works = λ q. sym (none-work (plan_of set) q);
  room = λ q. rw (none-wait (plan_of set) q) (omega arith);
}

-- ---- entries by which nobody comes or starts

-- where the same wait and as many are at work, the table stands on
kept : {set : RouteSet} (past past' : Past) {queues : List QueueView} → QueuesStand set past queues
    → ((q : ℕ) → waiting (plan_of set) past' q ≡ waiting (plan_of set) past q) → ((q : ℕ) → busy (plan_of set) past' q ≡ busy (plan_of set) past q) → QueuesStand set past' queues
kept past past' st waits works = record {
  calls = st.calls;
  stands = st.stands;
  waits = λ q. st.waits q ∙ sym (waits q);
  works = λ q. st.works q ∙ sym (works q);
  room = λ q. rw (waits q) (st.room q);
}

pub queues-stay : (set : RouteSet) (workers limit w : ℕ) (k : Kind) (past : Past) (queues : List QueueView)
    → KeepsRules (plan_of set) workers limit ((record { worker = w; kind = k }) ∷ past) → moves_waiting k ≡ false → moves_busy k ≡ false
    → QueuesStand set past queues → QueuesStand set ((record { worker = w; kind = k }) ∷ past) queues
queues-stay set workers limit w k past queues legal waits works st =
    kept past ((record { worker = w; kind = k }) ∷ past) st
    (λ q. waiting-stay (plan_of set) (plan-laws set) workers limit w k past q legal waits)
    (λ q. busy-stay (plan_of set) (plan-laws set) workers limit w k past q legal works)

-- an entry of exchange x, who acts, by which nobody comes into a queue
pub record IsLeaving (x : ℕ) (k : Kind) : Type 0 where
  pub own : concerns x k ≡ true
  pub no_start : is_start k ≡ false
  pub only : (y : ℕ) → y ≢ x → concerns y k ≡ false
  pub unqueued : moves_waiting k ≡ false

unqueued-waits : (x : ℕ) (a : Reply) → is_queued a ≡ false → moves_waiting (Answer x a) ≡ false
unqueued-waits x (reply.Queued n) h = absurd (cc h)
unqueued-waits x _ h = refl

pub leaving-answer : (x : ℕ) (a : Reply) → is_queued a ≡ false → IsLeaving x (Answer x a)
leaving-answer x a h = record { own = eq-eqb x x refl; no_start = refl; only = λ y ne. not-same y x ne; unqueued = unqueued-waits x a h }

pub leaving-starve : (x : ℕ) → IsLeaving x (Starve x)
leaving-starve x = record { own = eq-eqb x x refl; no_start = refl; only = λ y ne. not-same y x ne; unqueued = refl }

module _ (set : RouteSet) (workers limit w x : ℕ) (k : Kind) (past : Past) (b : Birth) (of : IsLeaving x k)
    (legal : KeepsRules (plan_of set) workers limit ((record { worker = w; kind = k }) ∷ past)) (at : numbered (births (plan_of set) past) x ≡ Some b) where
  -- where it came through the queue, one fewer is at work if it ends
  works-own : (q : ℕ) → busy (plan_of set) ((record { worker = w; kind = k }) ∷ past) q + bit (is_born_into q b.origin && is_some (ended (plan_of set) ((record { worker = w; kind = k }) ∷ past) x)) ≡ busy (plan_of set) past q
  works-own q = busy-own (plan_of set) (plan-laws set) workers limit (record { worker = w; kind = k }) past q x b legal at of.own of.no_start of.only

  waits-own : (q : ℕ) → waiting (plan_of set) ((record { worker = w; kind = k }) ∷ past) q ≡ waiting (plan_of set) past q
  waits-own q = waiting-stay (plan_of set) (plan-laws set) workers limit w k past q legal of.unqueued

  own-kept : {queues : List QueueView} → ((q : ℕ) → (is_born_into q b.origin && is_some (ended (plan_of set) ((record { worker = w; kind = k }) ∷ past) x)) ≡ false)
      → QueuesStand set past queues → QueuesStand set ((record { worker = w; kind = k }) ∷ past) queues
  own-kept none st = kept past ((record { worker = w; kind = k }) ∷ past) st waits-own (λ q. let g = works-own q in let n = ap bit (none q) in omega (arith, g, n))

  -- where it came through a queue and ends, one fewer is at work on that queue
  fewer-work : (q : ℕ) → b.origin ≡ from.Queue q → is_some (ended (plan_of set) ((record { worker = w; kind = k }) ∷ past) x) ≡ true
      → (p : ℕ) → busy (plan_of set) ((record { worker = w; kind = k }) ∷ past) p + bit (q == p) ≡ busy (plan_of set) past p
  fewer-work q origin gone p =
      by_end (q == p) (is_some (ended (plan_of set) ((record { worker = w; kind = k }) ∷ past) x)) gone
      (subst (λ (o : Origin). busy (plan_of set) ((record { worker = w; kind = k }) ∷ past) p + bit (is_born_into p o && is_some (ended (plan_of set) ((record { worker = w; kind = k }) ∷ past) x)) ≡ busy (plan_of set) past p) origin (works-own p))
    where
      by_end : (r v : Bool) → v ≡ true → busy (plan_of set) ((record { worker = w; kind = k }) ∷ past) p + bit (r && v) ≡ busy (plan_of set) past p
          → busy (plan_of set) ((record { worker = w; kind = k }) ∷ past) p + bit r ≡ busy (plan_of set) past p
      by_end true v e h = rw e at h
      by_end false v e h = h

-- it goes on
pub queues-on : (set : RouteSet) (workers limit w x : ℕ) (a : Reply) (past : Past) (b : Birth) (queues : List QueueView)
    → KeepsRules (plan_of set) workers limit ((record { worker = w; kind = Answer x a }) ∷ past) → is_queued a ≡ false → numbered (births (plan_of set) past) x ≡ Some b
    → ended (plan_of set) ((record { worker = w; kind = Answer x a }) ∷ past) x ≡ None → QueuesStand set past queues → QueuesStand set ((record { worker = w; kind = Answer x a }) ∷ past) queues
queues-on set workers limit w x a past b queues legal unqueued at lives st =
    own-kept set workers limit w x (Answer x a) past b (leaving-answer x a unqueued) legal at (λ q. and_right (is_born_into q b.origin) _ (ap is_some lives)) st

-- it came through no queue, whether it ends or not
pub queues-apart : (set : RouteSet) (workers limit w x : ℕ) (k : Kind) (past : Past) (b : Birth) (queues : List QueueView) → IsLeaving x k
    → KeepsRules (plan_of set) workers limit ((record { worker = w; kind = k }) ∷ past) → numbered (births (plan_of set) past) x ≡ Some b
    → ((q : ℕ) → is_born_into q b.origin ≡ false) → QueuesStand set past queues → QueuesStand set ((record { worker = w; kind = k }) ∷ past) queues
queues-apart set workers limit w x k past b queues of legal at apart st = own-kept set workers limit w x k past b of legal at (λ q. rw (apart q) refl) st

-- it came through queue q and ends: it has been counted among those at work
pub queues-busy : (set : RouteSet) (workers limit w x q : ℕ) (k : Kind) (past : Past) (b : Birth) (queues : List QueueView) → IsLeaving x k
    → KeepsRules (plan_of set) workers limit ((record { worker = w; kind = k }) ∷ past) → numbered (births (plan_of set) past) x ≡ Some b
    → b.origin ≡ from.Queue q → is_some (ended (plan_of set) ((record { worker = w; kind = k }) ∷ past) x) ≡ true → QueuesStand set past queues
    → (q < length queues) × (0 < busy_at queues q)
queues-busy set workers limit w x q k past b queues of legal at origin gone st =
    let within = (birth-queue set past x b q at origin).0 in
    let was = works-at queues q st within in
    let fewer = fewer-work set workers limit w x k past b of legal at q origin gone q in
    let here = ap bit (eq-eqb q q refl) in
    (rw (queues-many queues st) within, omega (arith, was, fewer, here))

-- behind the call for its end
pub queues-left : (set : RouteSet) (workers limit w x q : ℕ) (k : Kind) (past : Past) (b : Birth) (queues new : List QueueView) → IsLeaving x k
    → KeepsRules (plan_of set) workers limit ((record { worker = w; kind = k }) ∷ past) → numbered (births (plan_of set) past) x ≡ Some b
    → b.origin ≡ from.Queue q → is_some (ended (plan_of set) ((record { worker = w; kind = k }) ∷ past) x) ≡ true
    → ((limits' : List (ℕ × ℕ)) (calls : List Call) → seda.Stands limits' calls queues → seda.Stands limits' (Ended q ∷ calls) new)
    → QueuesStand set past queues → QueuesStand set ((record { worker = w; kind = k }) ∷ past) new
queues-left set workers limit w x q k past b queues new of legal at origin gone call st = record {
  calls = Ended q ∷ st.calls;
  stands = call (limits set) st.calls st.stands;
  waits = λ p. st.waits p ∙ sym (same p);
  works = λ p. one_less (q == p) (seda.starts st.calls p) (seda.endings st.calls p) _ _ (st.works p) (fewer-work set workers limit w x k past b of legal at q origin gone p);
  room = λ p. rw (same p) (st.room p);
}
  where
    same : (p : ℕ) → waiting (plan_of set) ((record { worker = w; kind = k }) ∷ past) p ≡ waiting (plan_of set) past p
    same p = waits-own set workers limit w x k past b of legal at p

    one_less : (t : Bool) (begun over was now : ℕ) → begun - over ≡ was → now + bit t ≡ was → begun - cond t (over + 1) over ≡ now
    one_less true begun over was now e f = omega (arith, e, f)
    one_less false begun over was now e f = omega (arith, e, f)

-- ---- a copy comes into a queue

-- what the rule of a queued offer says
offer-content : (set : RouteSet) (workers limit w x n : ℕ) (past : Past) (a : Asked) (q : ℕ) (discard : Bool) (m : Message)
    → KeepsRules (plan_of set) workers limit ((record { worker = w; kind = Answer x (reply.Queued n) }) ∷ past) → asked (plan_of set) past x ≡ Some a → a.request ≡ request.Offer q discard m
    → (n ≡ next (plan_of set) past) × (length (waiting (plan_of set) past q) < ((plan_of set).queue q).size)
offer-content set workers limit w x n past a q discard m legal asks same =
    let may = legal-may (plan_of set) workers limit (record { worker = w; kind = Answer x (reply.Queued n) }) past legal in
    let facts = answers-to (plan_of set) limit past w x (reply.Queued n) a may asks in
    subst (λ (r : Request). Content (plan_of set) past a r (reply.Queued n)) same facts.content

pub queues-offered : (set : RouteSet) (workers limit w x n : ℕ) (past : Past) (a : Asked) (q : ℕ) (discard : Bool) (m : Message) (queues new : List QueueView)
    → KeepsRules (plan_of set) workers limit ((record { worker = w; kind = Answer x (reply.Queued n) }) ∷ past)
    → asked (plan_of set) past x ≡ Some a → a.request ≡ request.Offer q discard m
    → ((limits' : List (ℕ × ℕ)) (calls : List Call) → seda.Stands limits' calls queues → seda.Stands limits' (Offered q n ∷ calls) new)
    → QueuesStand set past queues → QueuesStand set ((record { worker = w; kind = Answer x (reply.Queued n) }) ∷ past) new
queues-offered set workers limit w x n past a q discard m queues new legal asks same call st = record {
  calls = Offered q n ∷ st.calls;
  stands = call (limits set) st.calls st.stands;
  waits = λ p.
      one_more (q == p) (seda.starts st.calls p) (seda.offered st.calls p) (st.stands.turns p).came
      ∙ (ap (λ xs. xs ++ cond (q == p) (n ∷ []) []) (st.waits p)
      ∙ (ap (λ (i : ℕ). waiting s past p ++ cond (q == p) (i ∷ []) []) content.0 ∙ sym (behind p)));
  works = λ p.
      let b = asked-born s past x a asks in
      let g = busy-own s (plan-laws set) workers limit e past p x b.0 legal b.1 (eq-eqb x x refl) refl (λ y ne. not-same y x ne) in
      let none : (is_born_into p b.0.origin && is_some (ended s (e ∷ past) x)) ≡ false = and_right (is_born_into p b.0.origin) _ (ap is_some (answer-lives set w x (reply.Queued n) past a asks (λ h. cc h) (λ h. cc h))) in
      let nobody = ap bit none in
      st.works p ∙ omega (arith, g, nobody);
  room = λ p. rw (behind p) (roomy p (q == p) refl);
}
  where
    s : Plan
    s = plan_of set

    e : Entry
    e = record { worker = w; kind = Answer x (reply.Queued n) }

    content : (n ≡ next s past) × (length (waiting s past q) < (s.queue q).size)
    content = offer-content set workers limit w x n past a q discard m legal asks same

    behind : (p : ℕ) → waiting s (e ∷ past) p ≡ waiting s past p ++ cond (q == p) (next s past ∷ []) []
    behind p = waiting-offer s (plan-laws set) workers limit w x n past a q discard m p legal asks same

    one_more : (t : Bool) (begun : ℕ) (came : List ℕ) → begun ≤ length came → drop begun (cond t (came ++ n ∷ []) came) ≡ drop begun came ++ cond t (n ∷ []) []
    one_more true begun came l = drop-append-le begun came (n ∷ []) l
    one_more false begun came l = sym (append-nil (drop begun came))

    roomy : (p : ℕ) (t : Bool) → (q == p) ≡ t → length (waiting s past p ++ cond t (next s past ∷ []) []) ≤ (s.queue p).size
    roomy p true h =
        let here : length (waiting s past p) < (s.queue p).size = subst (λ (r : ℕ). length (waiting s past r) < (s.queue r).size) (eqb-true q p h) content.1 in
        omega (arith, here, length-append (waiting s past p) (next s past ∷ []))
    roomy p false h = rw (append-nil (waiting s past p)) (st.room p)

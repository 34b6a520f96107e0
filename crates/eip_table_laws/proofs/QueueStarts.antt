-- Who may come into a queue and who starts from it, as the table of queues says.
use Rattle.std.proofs.Common.{◌≡◌, ◌≢◌, ℕ, ◌+◌, ◌-◌, ◌<◌, ◌≤◌, ◌↔◌, Bool, true, false, ◌&&◌, ◌==◌, nat_lt, cond, List, [], ◌∷◌, length, drop, Option, Some, None, refl, sym, ap, subst, ◌∙◌, arith}
use Rattle.std.specs.List.{slice_get}
use Rattle.std.proofs.lemmas.Bool.{and_right, lt-ltb, ltb-true}
use Rattle.std.proofs.lemmas.List.{drop-drop}
use Rattle.eip_text.proofs.Cutting.{guarded}
use Rattle.eip_route.specs.declared.route.RouteSet.{RouteSet}
use Rattle.eip_ledger.specs.declared.entry.Entry.{Entry}
use Rattle.eip_ledger.specs.declared.entry.Kind.TheVariants.{Start}
use Rattle.eip_seda.specs.Consuming as seda
use Rattle.eip_seda.specs.Consuming.{Call, Started, QueueView, IsFullAt, started_by, consumers_of}
use Rattle.eip_history.specs.Plan.{Plan}
use Rattle.eip_history.specs.Own.{Past}
use Rattle.eip_history.specs.Place.{waiting, busy, is_in, is_some_first, is_startable}
use Rattle.eip_history.specs.Rules.{KeepsRules, first, startable}
use Rattle.eip_history.specs.Laws.{IsQueue}
use Rattle.eip_history.specs.Tables.{bit}
use Rattle.eip_history.proofs.Unborn.{first-placed}
use Rattle.eip_history.proofs.Acting.{waiting-born}
use Rattle.eip_history.proofs.QueueTable.{waiting-start}
use Rattle.eip_history.proofs.BusyTable.{busy-start}
use Rattle.eip_history.proofs.NumbersBelow.{none-below, first-below}
use Rattle.eip_plan.specs.Plan.{plan_of}
use Rattle.eip_plan.proofs.Laws.{plan-laws}
use Rattle.eip_tables.specs.Queues.{QueuesStand, limits}
use Rattle.eip_table_laws.proofs.QueueCalls.{size-at, consumers-at, birth-queue}

-- ---- may one more wait

module _ (set : RouteSet) (past : Past) (q : ℕ) (queues : List QueueView) (R : ℕ → Type 0) (st : QueuesStand set past queues) (within : q < (plan_of set).routes)
    (full : (limits' : List (ℕ × ℕ)) (calls : List Call) → seda.Stands limits' calls queues → (size : ℕ) → R size ↔ IsFullAt limits' calls q size) where
  -- where the queue is full, this is how many wait, and no more may
  pub room-none : (size : ℕ) → R size → (size ≡ length (waiting (plan_of set) past q)) × (((plan_of set).queue q).size ≤ size)
  room-none size r =
      let f = (full (limits set) st.calls st.stands size).0 r in
      let many : length (seda.waiting st.calls q) ≡ length (waiting (plan_of set) past q) = ap length (st.waits q) in
      let most = size-at set q within in
      (f.1 ∙ (sym f.0 ∙ many), omega (arith, f.1, most))

  -- where it is not, one more may wait
  pub room-left : ((size : ℕ) → R size → ⊥) → length (waiting (plan_of set) past q) < ((plan_of set).queue q).size
  room-left not_full =
      let ne : length (waiting (plan_of set) past q) ≢ ((plan_of set).queue q).size = λ h.
      not_full ((plan_of set).queue q).size ((full (limits set) st.calls st.stands ((plan_of set).queue q).size).1
      (ap length (st.waits q) ∙ (h ∙ sym (size-at set q within)), sym (size-at set q within))) in
      omega (arith, ne, st.room q)

-- ---- who starts next

first-slice : (xs : List ℕ) → first xs ≡ slice_get xs 0
first-slice [] = refl
first-slice (x ∷ xs) = refl

-- the first one in the queue, where a consumer is free
next-is : (set : RouteSet) (past : Past) (q : ℕ) (queues : List QueueView) (st : QueuesStand set past queues) → q < (plan_of set).routes
    → seda.next (limits set) st.calls q ≡ cond (nat_lt (busy (plan_of set) past q) ((plan_of set).queue q).consumers) (slice_get (waiting (plan_of set) past q) 0) None
next-is set past q queues st l =
    ap (λ (n : ℕ). cond (nat_lt n (consumers_of (limits set) q)) (slice_get (seda.waiting st.calls q) 0) None) (st.works q)
    ∙ (ap (λ (n : ℕ). cond (nat_lt (busy (plan_of set) past q) n) (slice_get (seda.waiting st.calls q) 0) None) (consumers-at set q l)
    ∙ ap (λ (xs : List ℕ). cond (nat_lt (busy (plan_of set) past q) ((plan_of set).queue q).consumers) (slice_get xs 0) None) (st.waits q))

module _ (set : RouteSet) (past : Past) (q : ℕ) (queues : List QueueView) (o : Option ℕ) (st : QueuesStand set past queues) (within : q < (plan_of set).routes)
    (number : (limits' : List (ℕ × ℕ)) (calls : List Call) → seda.Stands limits' calls queues → o ≡ seda.next limits' calls q) where
  told : o ≡ cond (nat_lt (busy (plan_of set) past q) ((plan_of set).queue q).consumers) (slice_get (waiting (plan_of set) past q) 0) None
  told = number (limits set) st.calls st.stands ∙ next-is set past q queues st within

  -- who starts is the first who waits, and a consumer is free
  pub started-first : (x : ℕ) → o ≡ Some x → (first (waiting (plan_of set) past q) ≡ Some x) × (busy (plan_of set) past q < ((plan_of set).queue q).consumers)
  started-first x h =
      let both = guarded (nat_lt (busy (plan_of set) past q) ((plan_of set).queue q).consumers) (slice_get (waiting (plan_of set) past q) 0) x (sym told ∙ h) in
      (first-slice (waiting (plan_of set) past q) ∙ both.1, ltb-true (busy (plan_of set) past q) ((plan_of set).queue q).consumers both.0)

  -- where nobody starts, the queue may start nobody
  pub started-none : o ≡ None → is_startable (plan_of set) past q ≡ false
  started-none h = by_front (waiting (plan_of set) past q) (nat_lt (busy (plan_of set) past q) ((plan_of set).queue q).consumers) (sym told ∙ h)
    where
      by_front : (xs : List ℕ) (t : Bool) → cond t (slice_get xs 0) None ≡ None → (is_some_first xs && t) ≡ false
      by_front [] t g = refl
      by_front (x ∷ xs) true g = absurd (cc g)
      by_front (x ∷ xs) false g = refl

-- behind its call the table stands for the same past where nobody starts
pub queues-idle : (set : RouteSet) (past : Past) (q : ℕ) (queues new : List QueueView) (o : Option ℕ) → o ≡ None
    → ((limits' : List (ℕ × ℕ)) (calls : List Call) → seda.Stands limits' calls queues → seda.Stands limits' (started_by q o calls) new)
    → QueuesStand set past queues → QueuesStand set past new
queues-idle set past q queues new o none call st = record {
  calls = st.calls;
  stands = subst (λ (p : Option ℕ). seda.Stands (limits set) (started_by q p st.calls) new) none (call (limits set) st.calls st.stands);
  waits = st.waits;
  works = st.works;
  room = st.room;
}

-- and for a Start of who starts
pub queues-started : (set : RouteSet) (workers limit w q x : ℕ) (past : Past) (queues new : List QueueView) (o : Option ℕ) → o ≡ Some x
    → KeepsRules (plan_of set) workers limit ((record { worker = w; kind = Start q x }) ∷ past)
    → ((limits' : List (ℕ × ℕ)) (calls : List Call) → seda.Stands limits' calls queues → seda.Stands limits' (started_by q o calls) new)
    → QueuesStand set past queues → QueuesStand set ((record { worker = w; kind = Start q x }) ∷ past) new
queues-started set workers limit w q x past queues new o some legal call st = record {
  calls = Started q ∷ st.calls;
  stands = subst (λ (p : Option ℕ). seda.Stands (limits set) (started_by q p st.calls) new) some (call (limits set) st.calls st.stands);
  waits = λ p. one_fewer (q == p) (seda.starts st.calls p) (seda.offered st.calls p) (waiting s (e ∷ past) p) (st.waits p ∙ before p);
  works = λ p. one_more (q == p) (seda.starts st.calls p) (seda.endings st.calls p) (busy s past p) (st.stands.turns p).began (st.works p) ∙ sym (busy-start s (plan-laws set) workers limit w q x past p legal);
  room = λ p. roomy p (q == p) (before p);
}
  where
    s : Plan
    s = plan_of set

    e : Entry
    e = record { worker = w; kind = Start q x }

    before : (p : ℕ) → waiting s past p ≡ cond (q == p) (x ∷ waiting s (e ∷ past) p) (waiting s (e ∷ past) p)
    before p = waiting-start s (plan-laws set) workers limit w q x past p legal

    one_fewer : (t : Bool) (begun : ℕ) (came now : List ℕ) → drop begun came ≡ cond t (x ∷ now) now → drop (cond t (begun + 1) begun) came ≡ now
    one_fewer true begun came now h = sym (drop-drop 1 begun came) ∙ ap (drop 1) h
    one_fewer false begun came now h = h

    one_more : (t : Bool) (begun over was : ℕ) → over ≤ begun → begun - over ≡ was → cond t (begun + 1) begun - over ≡ was + bit t
    one_more true begun over was l h = omega (arith, l, h)
    one_more false begun over was l h = omega (arith, l, h)

    roomy : (p : ℕ) (t : Bool) → waiting s past p ≡ cond t (x ∷ waiting s (e ∷ past) p) (waiting s (e ∷ past) p) → length (waiting s (e ∷ past) p) ≤ (s.queue p).size
    roomy p true h = let many = ap length h in omega (arith, many, st.room p)
    roomy p false h = let many = ap length h in omega (arith, many, st.room p)

-- ---- the first queue that may start somebody

-- who waits in a queue waits in one of the set's
pub queue-of-waiting : (set : RouteSet) (past : Past) (q x : ℕ) → first (waiting (plan_of set) past q) ≡ Some x → IsQueue (plan_of set) q
queue-of-waiting set past q x h =
    let b = first-placed (plan_of set) past (is_in q) x h in
    birth-queue set past x b.0 q b.1 (waiting-born (plan_of set) past b.0 q b.2)

-- the first queue in which somebody waits and a consumer is free
pub first-startable : (set : RouteSet) (past : Past) (q x : ℕ) → first (waiting (plan_of set) past q) ≡ Some x → busy (plan_of set) past q < ((plan_of set).queue q).consumers
    → ((r : ℕ) → r < q → is_startable (plan_of set) past r ≡ false) → first (startable (plan_of set) past) ≡ Some q
unfolding startable
first-startable set past q x waits free none =
    let s = plan_of set in
    let queue = queue-of-waiting set past q x waits in
    let is = lt-ltb (busy s past q) (s.queue q).consumers free in
    first-below (λ r. s.is_queue r && is_startable s past r) s.routes q queue.0 (rw (queue.1, somebody (waiting s past q) waits, is) refl)
    (λ r l. and_right (s.is_queue r) (is_startable s past r) (none r l))
  where
    somebody : (xs : List ℕ) → first xs ≡ Some x → is_some_first xs ≡ true
    somebody [] h = absurd (cc h)
    somebody (y ∷ ys) h = refl

pub none-startable : (set : RouteSet) (past : Past) → ((r : ℕ) → r < (plan_of set).routes → is_startable (plan_of set) past r ≡ false) → startable (plan_of set) past ≡ []
unfolding startable
none-startable set past none =
    let s = plan_of set in
    none-below (λ r. s.is_queue r && is_startable s past r) s.routes (λ r l. and_right (s.is_queue r) (is_startable s past r) (none r l))

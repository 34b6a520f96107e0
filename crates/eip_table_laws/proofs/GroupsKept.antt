-- What the entries of a journal make of the table of groups.
use Rattle.std.proofs.Common.{◌≡◌, ℕ, ◌+◌, ◌≤◌, Bool, true, false, ◌==◌, cond, List, [], ◌∷◌, ◌++◌, Some, arith}
use Rattle.eip_exchange.specs.declared.message.Message.{Message}
use Rattle.eip_frames.specs.declared.answer.Answer.TheVariants as reply
use Rattle.eip_frames.specs.declared.answer.Completion.{Completion}
use Rattle.eip_frames.specs.declared.answer.Completion.TheVariants as by
use Rattle.eip_frames.specs.declared.request.Request.TheVariants as request
use Rattle.eip_ledger.specs.declared.entry.Entry.{Entry}
use Rattle.eip_ledger.specs.declared.entry.Kind.{Kind}
use Rattle.eip_ledger.specs.declared.entry.Kind.TheVariants.{Answer, Tick, Force}
use Rattle.eip_route.specs.declared.route.RouteSet.{RouteSet}
use Rattle.eip_aggregator.specs.Arrivals.{Came, Ticked, Forced}
use Rattle.eip_aggregator.specs.Tables as tables
use Rattle.eip_aggregator.specs.Tables.{Table}
use Rattle.eip_history.specs.Own.{Past, turns}
use Rattle.eip_history.specs.Groups.{Arrival, Group, is_for, arrived, put_group, closed_by, is_due, is_forced, greatest_hops}
use Rattle.eip_history.specs.Births.{Asked, story, groups, asked, arrival_of}
use Rattle.eip_history.specs.TableWords.{moves_groups}
use Rattle.eip_history.proofs.GroupTable.{groups-same, groups-own, groups-closed, groups-tick, groups-force}
use Rattle.eip_history.proofs.Limit.{turns-more}
use Rattle.eip_plan.specs.Plan.{plan_of}
use Rattle.eip_tables.specs.Groups.{told, group_calls, settings, HopsWithin, GroupsStand}
use Rattle.eip_table_laws.proofs.GroupLaws.{calls-more, calls-same, calls-arrived, calls-shut}

-- nothing has happened
pub groups-none : (set : RouteSet) (t : Table) → tables.Stands (settings set) [] t → GroupsStand set [] t
unfolding story group_calls
groups-none set t st = record { stands = st; hops = tt }

-- ---- hops

within-more : (n m : ℕ) (gs : List Group) → n ≤ m → HopsWithin n gs → HopsWithin m gs
within-more n m [] l h = tt
within-more n m (g ∷ gs) l h = (omega (arith, l, h.0), within-more n m gs l h.1)

within-put : (n : ℕ) (g : Group) (gs : List Group) → greatest_hops g.parts ≤ n → HopsWithin n gs → HopsWithin n (put_group g gs)
within-put n g [] l h = (l, tt)
within-put n g (d ∷ gs) l h = elim (d.number == g.number) as (λ v. HopsWithin n (cond v (g ∷ gs) (d ∷ put_group g gs))) [ true ↦ (l, h.1) | false ↦ (h.0, within-put n g gs l h.1) ]

within-closed : (n : ℕ) (c : Completion) (p : Group → Bool) (gs : List Group) → HopsWithin n gs → HopsWithin n (closed_by c p gs)
within-closed n c p [] h = tt
within-closed n c p (g ∷ gs) h = (elim (p g) as (λ v. greatest_hops (cond v (record g { closed = Some c }) g).parts ≤ n) [ true ↦ h.0 | false ↦ h.0 ], within-closed n c p gs h.1)

hops-push : (ps : List Arrival) (p : Arrival) (n : ℕ) → greatest_hops ps ≤ n → p.hops ≤ n → greatest_hops (ps ++ p ∷ []) ≤ n
hops-push [] p n l m = omega (arith, m)
hops-push (q ∷ ps) p n l m = let ih = hops-push ps p n (omega (arith, l)) m in omega (arith, l, ih)

within-arrived : (n m : ℕ) (gs : List Group) (a : ℕ) (key : List ℕ) (p : Arrival) → HopsWithin m gs → p.hops ≤ m → greatest_hops (arrived n gs a key p).parts ≤ m
within-arrived n m [] a key p h l = omega (arith, l)
within-arrived n m (g ∷ gs) a key p h l =
    let ih = within-arrived (n + 1) m gs a key p h.1 l in
    elim (is_for a key g) as (λ v. greatest_hops (cond v (record g { parts = g.parts ++ p ∷ [] }) (arrived (n + 1) gs a key p)).parts ≤ m) [ true ↦ hops-push g.parts p m h.0 l | false ↦ ih ]

pub later : (set : RouteSet) (e : Entry) (past : Past) (t : Table) → GroupsStand set past t → HopsWithin (turns (e ∷ past)) (groups (plan_of set) past)
later set e past t st = within-more (turns past) (turns (e ∷ past)) (groups (plan_of set) past) (omega (arith, turns-more e past)) st.hops

-- ---- entries

-- an entry by which no group grows or closes
pub groups-stay : (set : RouteSet) (w : ℕ) (k : Kind) (past : Past) (t : Table) → moves_groups k ≡ false → GroupsStand set past t → GroupsStand set ((record { worker = w; kind = k }) ∷ past) t
groups-stay set w k past t h st = record {
  stands = rw (calls-same set w k past h) st.stands;
  hops = rw (groups-same (plan_of set) w k past h) (later set (record { worker = w; kind = k }) past t st);
}

-- an exchange joins a group
module _ (set : RouteSet) (past : Past) (x : ℕ) (k : Asked) (a : ℕ) (key : List ℕ) (m : Message) (at : asked (plan_of set) past x ≡ Some k) (is : k.request ≡ request.Arrive a key m) (few : k.birth.hops ≤ turns past)
    (t new : Table) (came : tables.Stands (settings set) (Came (a, key) (told set (arrival_of past k m)) ∷ group_calls set past) new) (st : GroupsStand set past t) where
  pub its-hops : (e : Entry) → greatest_hops (arrived 1 (groups (plan_of set) past) a key (arrival_of past k m)).parts ≤ turns (e ∷ past)
  its-hops e = within-arrived 1 (turns (e ∷ past)) (groups (plan_of set) past) a key (arrival_of past k m) (later set e past t st) (omega (arith, few, turns-more e past))

  -- which stays open
  pub groups-grown : (w n : ℕ) → GroupsStand set ((record { worker = w; kind = Answer x (reply.Arrived n) }) ∷ past) new
  groups-grown w n = record {
    stands = rw (calls-arrived set past x k a key m at is w n) came;
    hops =
        let e : Entry = record { worker = w; kind = Answer x (reply.Arrived n) } in
        rw (groups-own (plan_of set) w x n past k a key m at is) (within-put (turns (e ∷ past)) (arrived 1 (groups (plan_of set) past) a key (arrival_of past k m)) (groups (plan_of set) past) (its-hops e) (later set e past t st));
  }

  -- which closes
  pub groups-shut : (w g n : ℕ) (c : Completion) → GroupsStand set ((record { worker = w; kind = Answer x (reply.Closed g c n) }) ∷ past) new
  groups-shut w g n c = record {
    stands = rw (calls-shut set past x k a key m at is w g n c) came;
    hops =
        let e : Entry = record { worker = w; kind = Answer x (reply.Closed g c n) } in
        rw (groups-closed (plan_of set) w x g n c past k a key m at is) (within-put (turns (e ∷ past)) (record (arrived 1 (groups (plan_of set) past) a key (arrival_of past k m)) { closed = Some c }) (groups (plan_of set) past) (its-hops e) (later set e past t st));
  }

-- the groups that are due close
pub groups-ticked : (set : RouteSet) (w now : ℕ) (past : Past) (t new : Table) → tables.Stands (settings set) (Ticked now ∷ group_calls set past) new → GroupsStand set past t → GroupsStand set ((record { worker = w; kind = Tick now }) ∷ past) new
groups-ticked set w now past t new ticked st =
    let e : Entry = record { worker = w; kind = Tick now } in
    record {
      stands = rw (calls-more set e past) ticked;
      hops = rw (groups-tick (plan_of set) w now past) (within-closed (turns (e ∷ past)) by.Timeout (is_due (plan_of set) now) (groups (plan_of set) past) (later set e past t st));
    }

-- those that may be forced close
pub groups-forced : (set : RouteSet) (w : ℕ) (past : Past) (t new : Table) → tables.Stands (settings set) (Forced ∷ group_calls set past) new → GroupsStand set past t → GroupsStand set ((record { worker = w; kind = Force }) ∷ past) new
groups-forced set w past t new forced st =
    let e : Entry = record { worker = w; kind = Force } in
    record {
      stands = rw (calls-more set e past) forced;
      hops = rw (groups-force (plan_of set) w past) (within-closed (turns (e ∷ past)) by.Force (is_forced (plan_of set)) (groups (plan_of set) past) (later set e past t st));
    }

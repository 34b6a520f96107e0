-- What an exchange that offers to a queue is known to offer, and how many exchanges there are.
use Rattle.std.proofs.Common.{◌≡◌, ℕ, suc, ◌+◌, ◌*◌, ◌-◌, ◌≤◌, ◌==◌, Bool, true, false, cond, List, [], ◌∷◌, length, map, filter, Option, Some, None, refl, sym, ap, ◌∙◌, arith, inl, inr, length-append}
use Rattle.std.proofs.lemmas.Bool.{and_parts, cases_Bool}
use Rattle.std.specs.List.{slice_get}
use Rattle.eip_frames.specs.declared.answer.Answer.TheVariants as reply
use Rattle.eip_frames.specs.declared.answer.Completion.{Completion}
use Rattle.eip_frames.specs.declared.answer.Completion.TheVariants as by
use Rattle.eip_frames.specs.Fate.{AsksNext}
use Rattle.eip_frames.specs.declared.request.Seed.{Seed}
use Rattle.eip_frames.specs.declared.request.Request.{Request}
use Rattle.eip_frames.specs.declared.request.Request.TheVariants as request
use Rattle.eip_route.specs.declared.route.RouteSet.{RouteSet}
use Rattle.eip_ledger.specs.declared.entry.Kind.{Kind}
use Rattle.eip_ledger.specs.declared.entry.Kind.TheVariants.{Accept, Answer, Tick, Force}
use Rattle.eip_history.specs.Plan.{Plan}
use Rattle.eip_history.specs.Own.{Past, own, answers, numbered, turns, turns_in}
use Rattle.eip_history.specs.Births.{Asked, Story, story, births, groups, asked, asked_of, made_at, made_by, made_for, part_births, group_births}
use Rattle.eip_history.specs.Groups.{Group, is_open, is_due, is_forced, put_group}
use Rattle.eip_history.specs.Rules.{KeepsRules, May, next, group_at}
use Rattle.eip_history.specs.TableWords.{moves_groups}
use Rattle.eip_history.proofs.Falls.{open-due, closed-count}
use Rattle.eip_history.proofs.GroupTable.{groups-same, groups-own, groups-closed, groups-tick, groups-force}
use Rattle.eip_history.proofs.Limit.{turns-more}
use Rattle.eip_history.proofs.Told.{births-none}
use Rattle.eip_history.proofs.Unborn.{legal-tail, legal-may, asked-born}
use Rattle.eip_history.proofs.Parts.{spawns}
use Rattle.eip_meaning.proofs.Scripts.{AreFew}
use Rattle.eip_meaning.proofs.Parts.{spawned-few}
use Rattle.eip_plan.specs.Plan.{plan_of}
use Rattle.eip_plan.specs.Simple.{AnswersSimply}
use Rattle.eip_plan.proofs.Items.{simple_births, births-simply}
use Rattle.eip_progress.specs.declared.cursor.Cursor.{Cursor}
use Rattle.eip_tables.specs.Row.{Row}
use Rattle.eip_tables.specs.Offers.{AsksOffer, offer_asked}
use Rattle.eip_tables.specs.State.{state_of, known_of}
use Rattle.eip_tables.specs.State as state
use Rattle.eip_table_laws.proofs.LookCalls.{known-state, known-request}
use Rattle.eip_table_laws.proofs.PartFacts.{asks-meaning}
use Rattle.eip_table_laws.proofs.GroupLaws.{arrives}

abbrev queue_of : Option (ℕ × Bool) → ℕ
queue_of (Some p) = p.0
queue_of None = 0

abbrev discard_of : Option (ℕ × Bool) → Bool
discard_of (Some p) = p.1
discard_of None = false

module _ (rows : List Row) (x : ℕ) (r : Row) (row : slice_get rows (x - 1) ≡ Some r) (a : AsksOffer (map known_of rows) x) where
  pub offer-request : r.request ≡ Some (request.Offer a.queue a.discard a.message)
  offer-request = known-request rows (x - 1) r (request.Offer a.queue a.discard a.message) row a.asks

  -- the queue that its row names, with the message that is known
  pub offer-known : (queue : ℕ) (discard : Bool) → offer_asked r.request ≡ Some (queue, discard) → (c : Cursor) × (state_of r ≡ state.Asks c (request.Offer queue discard a.message))
  offer-known queue discard is =
      let k = known-state rows (x - 1) r (request.Offer a.queue a.discard a.message) row a.asks in
      let both = sym (ap offer_asked offer-request) ∙ is in
      let q : a.queue ≡ queue = ap queue_of both in
      let d : a.discard ≡ discard = ap discard_of both in
      (k.0, k.1 ∙ (ap (λ (u : ℕ). state.Asks k.0 (request.Offer u a.discard a.message)) q ∙ ap (λ (v : Bool). state.Asks k.0 (request.Offer queue v a.message)) d))

-- no more exchanges are born in a turn than there may be parts

few-for : (s : Plan) (t : Story) (past : Past) (k : Asked) (q : Request) (n : ℕ) → length (made_for s t past k q (reply.Queued n)) ≤ 1
few-for s t past k (request.Offer u discard m) n = omega arith
few-for s t past k _ n = omega arith

few-by : (s : Plan) (t : Story) (past : Past) (o : Option Asked) (n : ℕ) → length (made_by s t past o (reply.Queued n)) ≤ 1
few-by s t past None n = omega arith
few-by s t past (Some k) n = few-for s t past k k.request n

-- each seed makes one part
parts-many : (n : ℕ) (k : Asked) (i : ℕ) (ds : List Seed) → length (part_births n k i ds) ≡ length ds
parts-many n k i [] = refl
parts-many n k i (d ∷ ds) = ap suc (parts-many (n + 1) k (i + 1) ds)

-- where parts are asked for, there are some, and so many only
pub few-asked : (set : RouteSet) (past : Past) (x : ℕ) (k : Asked) (ds : List Seed) → asked (plan_of set) past x ≡ Some k → k.request ≡ request.Spawn ds → AreFew k.at ds
few-asked set past x k ds asks is =
    let b = asked-born (plan_of set) past x k asks in
    let given = answers (own b.0.number past) in
    spawned-few set b.0 given ds k.at (asks-meaning set past b.0 k b.2 ∙ ap (λ (q : Request). AsksNext q k.at) is)

few-parts : (set : RouteSet) (limit w : ℕ) (past : Past) (x first count : ℕ) → May (plan_of set) limit past w (Answer x (reply.Born first count)) → length (made_at (plan_of set) past (Answer x (reply.Born first count))) ≤ 10000
few-parts set limit w past x first count may =
    let s = plan_of set in
    let k = may.asks in
    let sp = spawns k.request first count may.fitting in
    let made : made_at s past (Answer x (reply.Born first count)) ≡ part_births (next s past) k k.at.index sp.0 =
    ap (λ (o : Option Asked). made_by s (story s past) past o (reply.Born first count)) may.asked_is ∙ ap (λ (q : Request). made_for s (story s past) past k q (reply.Born first count)) sp.1 in
    let many : length (made_at s past (Answer x (reply.Born first count))) ≡ length sp.0 = ap length made ∙ parts-many (next s past) k k.at.index sp.0 in
    let few = few-asked set past x k sp.0 may.asked_is sp.1 in
    omega (arith, many, few.few)

-- and by one that closes a group one
shut-for : (s : Plan) (t : Story) (past : Past) (k : Asked) (q : Request) (g n : ℕ) (c : Completion) → length (made_for s t past k q (reply.Closed g c n)) ≤ 1
shut-for s t past k (request.Arrive a key m) g n c = omega arith
shut-for s t past k _ g n c = omega arith

shut-by : (s : Plan) (t : Story) (past : Past) (o : Option Asked) (g n : ℕ) (c : Completion) → length (made_by s t past o (reply.Closed g c n)) ≤ 1
shut-by s t past None g n c = omega arith
shut-by s t past (Some k) g n c = shut-for s t past k k.request g n c

few-still : (set : RouteSet) (limit w : ℕ) (past : Past) (k : Kind) → moves_groups k ≡ false → May (plan_of set) limit past w k → length (simple_births (plan_of set) past k) ≤ turns_in k * 10000
few-still set limit w past (Accept source item m) h may = omega arith
few-still set limit w past (Answer x (reply.Queued n)) h may = let l = few-by (plan_of set) (story (plan_of set) past) past (asked_of (plan_of set) past (numbered (births (plan_of set) past) x)) n in omega (arith, l)
few-still set limit w past (Answer x (reply.Born first count)) h may = let l = few-parts set limit w past x first count may in omega (arith, l)
few-still set limit w past (Answer x (reply.Closed g c n)) h may = absurd (cc h)
few-still set limit w past (Tick t) h may = absurd (cc h)
few-still set limit w past Force h may = absurd (cc h)
few-still set limit w past _ h may = omega arith

-- ---- open groups, each of which will be one exchange at most

abbrev pub opened : Plan → Past → ℕ
opened s past = length (filter is_open (groups s past))

opened-none : (s : Plan) → opened s [] ≡ 0
unfolding story
opened-none s = refl

open-put : (g : Group) (gs : List Group) → length (filter is_open (put_group g gs)) ≤ length (filter is_open gs) + 1
open-put g [] = elim (is_open g) as (λ v. length (cond v (g ∷ []) []) ≤ 1) [ true ↦ omega arith | false ↦ omega arith ]
open-put g (d ∷ gs) =
    let ih = open-put g gs in
    elim (d.number == g.number) as (λ v. length (filter is_open (cond v (g ∷ gs) (d ∷ put_group g gs))) ≤ length (filter is_open (d ∷ gs)) + 1) [
      | true ↦ elim (is_open g) as (λ v. length (cond v (g ∷ filter is_open gs) (filter is_open gs)) ≤ length (filter is_open (d ∷ gs)) + 1) [
        | true ↦ elim (is_open d) as (λ v. suc (length (filter is_open gs)) ≤ length (cond v (d ∷ filter is_open gs) (filter is_open gs)) + 1) [ true ↦ omega arith | false ↦ omega arith ]
        | false ↦ elim (is_open d) as (λ v. length (filter is_open gs) ≤ length (cond v (d ∷ filter is_open gs) (filter is_open gs)) + 1) [ true ↦ omega arith | false ↦ omega arith ]
      ]
      | false ↦ elim (is_open d) as (λ v. length (cond v (d ∷ filter is_open (put_group g gs)) (filter is_open (put_group g gs))) ≤ length (cond v (d ∷ filter is_open gs) (filter is_open gs)) + 1) [
        | true ↦ omega (arith, ih)
        | false ↦ omega (arith, ih)
      ]
    ]

births-many : (s : Plan) (n : ℕ) (c : Completion) (gs : List Group) → length (group_births s n c gs) ≡ length gs
births-many s n c [] = refl
births-many s n c (g ∷ gs) = ap suc (births-many s (n + 1) c gs)

forced-open : (s : Plan) (g : Group) → is_forced s g ≡ true → is_open g ≡ true
forced-open s g h = (and_parts (is_open g) (s.group g.aggregator).force h).0

few-moved : (set : RouteSet) (limit w : ℕ) (past : Past) (k : Kind) → moves_groups k ≡ true → May (plan_of set) limit past w k
    → length (simple_births (plan_of set) past k) + opened (plan_of set) ((record { worker = w; kind = k }) ∷ past) ≤ opened (plan_of set) past + turns_in k * 10000
few-moved set limit w past (Answer x (reply.Arrived n)) h may =
    let q = arrives may.asks.request (reply.Arrived n) refl may.fitting in
    let same = ap (λ (gs : List Group). length (filter is_open gs)) (groups-own (plan_of set) w x n past may.asks q.0 q.1 q.2 may.asked_is q.3) in
    let l = open-put (group_at (plan_of set) past may.asks q.0 q.1 q.2) (groups (plan_of set) past) in
    omega (arith, same, l)
few-moved set limit w past (Answer x (reply.Closed g c n)) h may =
    let q = arrives may.asks.request (reply.Closed g c n) refl may.fitting in
    let same = ap (λ (gs : List Group). length (filter is_open gs)) (groups-closed (plan_of set) w x g n c past may.asks q.0 q.1 q.2 may.asked_is q.3) in
    let l = open-put (record (group_at (plan_of set) past may.asks q.0 q.1 q.2) { closed = Some c }) (groups (plan_of set) past) in
    let m : length (simple_births (plan_of set) past (Answer x (reply.Closed g c n))) ≤ 1 = shut-by (plan_of set) (story (plan_of set) past) past (asked_of (plan_of set) past (numbered (births (plan_of set) past) x)) g n c in
    omega (arith, same, l, m)
few-moved set limit w past (Tick t) h may =
    let same = ap (λ (gs : List Group). length (filter is_open gs)) (groups-tick (plan_of set) w t past) in
    let l = closed-count by.Timeout (is_due (plan_of set) t) (groups (plan_of set) past) (λ g y. open-due (plan_of set) t g y) in
    let m : length (simple_births (plan_of set) past (Tick t)) ≡ length (filter (is_due (plan_of set) t) (groups (plan_of set) past)) = births-many (plan_of set) (length (births (plan_of set) past) + 1) by.Timeout (filter (is_due (plan_of set) t) (groups (plan_of set) past)) in
    omega (arith, same, l, m)
few-moved set limit w past Force h may =
    let same = ap (λ (gs : List Group). length (filter is_open gs)) (groups-force (plan_of set) w past) in
    let l = closed-count by.Force (is_forced (plan_of set)) (groups (plan_of set) past) (λ g y. forced-open (plan_of set) g y) in
    let m : length (simple_births (plan_of set) past Force) ≡ length (filter (is_forced (plan_of set)) (groups (plan_of set) past)) = births-many (plan_of set) (length (births (plan_of set) past) + 1) by.Force (filter (is_forced (plan_of set)) (groups (plan_of set) past)) in
    omega (arith, same, l, m)
few-moved set limit w past (Answer x _) h may = absurd (cc h)
few-moved set limit w past _ h may = absurd (cc h)

few-born : (set : RouteSet) (limit w : ℕ) (past : Past) (k : Kind) → May (plan_of set) limit past w k
    → length (simple_births (plan_of set) past k) + opened (plan_of set) ((record { worker = w; kind = k }) ∷ past) ≤ opened (plan_of set) past + turns_in k * 10000
few-born set limit w past k may = elim (cases_Bool (moves_groups k)) [
  | inl t ↦ few-moved set limit w past k t may
  | inr f ↦ (let same = ap (λ (gs : List Group). length (filter is_open gs)) (groups-same (plan_of set) w k past f) in let l = few-still set limit w past k f may in omega (arith, same, l))
]

-- exchanges and open groups together
pub few-all : (set : RouteSet) (w limit : ℕ) (past : Past) → KeepsRules (plan_of set) w limit past → AnswersSimply past → length (births (plan_of set) past) + opened (plan_of set) past ≤ turns past * 10000
few-all set w limit [] legal simple = let b = ap length (births-none (plan_of set)) in let n = opened-none (plan_of set) in omega (arith, b, n)
few-all set w limit (e ∷ past) legal simple =
    let s = plan_of set in
    let ih = few-all set w limit past (legal-tail s w limit e past legal) simple.0 in
    let many : length (births s (e ∷ past)) ≡ length (births s past) + length (simple_births s past e.kind) =
    ap length (births-simply s w limit e past legal simple) ∙ length-append (births s past) (simple_births s past e.kind) in
    omega (arith, ih, many, few-born set limit e.worker past e.kind (legal-may s w limit e past legal), turns-more e past)

pub births-few : (set : RouteSet) (w limit : ℕ) (past : Past) → KeepsRules (plan_of set) w limit past → AnswersSimply past → length (births (plan_of set) past) ≤ turns past * 10000
births-few set w limit past legal simple = let l = few-all set w limit past legal simple in omega (arith, l)

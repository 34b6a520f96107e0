-- Who waits for parts: behind their birth an exchange asks how they ended, and a part that lives is one of those that its parent waits for.
use Rattle.std.proofs.Common.{◌≡◌, ℕ, zero, suc, ◌+◌, ◌<◌, ◌≤◌, Bool, true, false, List, [], ◌∷◌, ◌++◌, length, filter, Option, Some, None, is_some, refl, sym, ap, subst, ◌∙◌, arith, cond, inl, inr, eq-eqb, ◌==◌, ◌-◌}
use Rattle.std.specs.List.{slice_get}
use Rattle.std.proofs.lemmas.Bool.{cases_Bool, eqb-true}
use Rattle.std.proofs.lemmas.List.{append-nil}
use Rattle.eip_exchange.specs.declared.birth.Birth.{Birth}
use Rattle.eip_exchange.specs.declared.birth.Origin.{Origin}
use Rattle.eip_exchange.specs.declared.birth.Origin.TheVariants as from
use Rattle.eip_exchange.specs.declared.end.Ended.{Ended as Finished}
use Rattle.eip_exchange.specs.Ends.{out_of_memory}
use Rattle.eip_route.specs.declared.route.RouteSet.{RouteSet}
use Rattle.eip_frames.specs.declared.request.Seed.{Seed}
use Rattle.eip_frames.specs.declared.request.Request.{Request}
use Rattle.eip_frames.specs.declared.request.Request.TheVariants as request
use Rattle.eip_frames.specs.declared.answer.Answer.{Answer as Reply}
use Rattle.eip_frames.specs.declared.answer.Answer.TheVariants as reply
use Rattle.eip_frames.specs.Fate.{Fate, AsksNext, Ends, Strays}
use Rattle.eip_frames.specs.Fits.{fits}
use Rattle.eip_ledger.specs.declared.entry.Entry.{Entry}
use Rattle.eip_ledger.specs.declared.entry.Kind.{Kind}
use Rattle.eip_ledger.specs.declared.entry.Kind.TheVariants.{Accept, Start, Answer, Tick, Force}
use Rattle.eip_ledger.specs.declared.place.Place.{Place}
use Rattle.eip_ledger.specs.declared.place.Place.TheVariants as place_is
use Rattle.eip_meaning.specs.Meaning.{mean}
use Rattle.eip_meaning.proofs.Laws.{ends}
use Rattle.eip_meaning.proofs.Parts.{born-joins}
use Rattle.eip_history.specs.Plan.{Plan}
use Rattle.eip_history.specs.Own.{Past, own, concerns, is_start, answers, answer_in, or_answer, starved, last_answer, numbered, clock}
use Rattle.eip_history.specs.Births.{Asked, Story, story, births, asked, asked_by, fate, fate_by, groups, made_at, made_by, made_for, part_births, group_births}
use Rattle.eip_frames.specs.declared.answer.Completion.{Completion}
use Rattle.eip_frames.specs.declared.answer.Completion.TheVariants as by
use Rattle.eip_history.specs.Groups.{Group, is_due, is_forced}
use Rattle.eip_history.specs.Place.{ended, end_of, is_ended, place_of, joined, all_ended, cons_option, pause_of, paused, is_in}
use Rattle.eip_history.specs.Rules.{KeepsRules, May, Content, next, first}
use Rattle.eip_history.specs.TableWords.{unless_ended, born_last, open_parts}
use Rattle.eip_history.proofs.Told.{births-none, own-here, own-other}
use Rattle.eip_history.proofs.Unborn.{legal-tail, legal-may, asked-born, birth-stays, entry-born, first-placed, slice-right, own-none}
use Rattle.eip_history.proofs.Parts.{numbered-number, asked-birth, spawns}
use Rattle.eip_history.proofs.Places.{ended-is}
use Rattle.eip_history.proofs.Stuck.{Standing, InEnd, InQueue, Held, Asleep, Waits, Able, standing}
use Rattle.eip_history.proofs.Final.{ended-keeps}
use Rattle.eip_history.proofs.Over.{Each, each-at}
use Rattle.eip_history.proofs.Acting.{is_acting, end-is, entry-actor, ended-beside, past-births, paused-place, taken-ready, waiting-silent}
use Rattle.eip_plan.specs.Plan.{plan_of}
use Rattle.eip_plan.specs.Simple.{AnswersSimply}
use Rattle.eip_plan.proofs.Items.{simple_births, births-simply}
use Rattle.eip_plan.proofs.Laws.{plan-laws}

-- ---- what is asked behind an answer

-- the answers end with the newest one
last-behind : (o : Past) (a : Reply) → last_answer o ≡ Some a → (given : List Reply) × (answers o ≡ given ++ a ∷ [])
last-behind [] a h = absurd (cc h)
last-behind (e ∷ o) a h = by_kind e.kind (λ g. last-behind o a g) h
  where
    by_kind : (k : Kind) → (last_answer o ≡ Some a → (given : List Reply) × (answers o ≡ given ++ a ∷ [])) → or_answer k (last_answer o) ≡ Some a → (given : List Reply) × (answers o ++ answer_in k ≡ given ++ a ∷ [])
    by_kind (Answer n b) ih g = let same : b ≡ a = cc in (answers o, ap (λ (r : Reply). answers o ++ r ∷ []) same)
    by_kind _ ih g = let r = ih g in (r.0, append-nil (answers o) ∙ r.1)

-- an exchange that asks this by its fate
asked-fate : (b : Birth) (f : Fate) (k : Asked) → asked_by b f ≡ Some k → f ≡ AsksNext k.request k.at
asked-fate b (AsksNext q p) k h =
    let r : q ≡ k.request = cc in
    let at : p ≡ k.at = cc in
    ap (λ (x : Request). AsksNext x p) r ∙ ap (AsksNext k.request) at
asked-fate b (Ends e m) k h = absurd (cc h)
asked-fate b Strays k h = absurd (cc h)

-- the fate of an exchange that asks is its meaning
pub asks-meaning : (set : RouteSet) (past : Past) (b : Birth) (k : Asked) → asked_by b (fate (plan_of set) past b) ≡ Some k → mean set b (answers (own b.number past)) ≡ AsksNext k.request k.at
unfolding fate plan_of
asks-meaning set past b k h = by_starved (starved (own b.number past)) h
  where
    by_starved : (v : Bool) → asked_by b (cond v (Ends out_of_memory b.message) (mean set b (answers (own b.number past)))) ≡ Some k → mean set b (answers (own b.number past)) ≡ AsksNext k.request k.at
    by_starved true g = absurd (cc g)
    by_starved false g = asked-fate b (mean set b (answers (own b.number past))) k g

-- behind the birth of its parts an exchange asks how they ended
pub asks-ends : (set : RouteSet) (past : Past) (x : ℕ) (k : Asked) (first count : ℕ) → asked (plan_of set) past x ≡ Some k → last_answer (own x past) ≡ Some (reply.Born first count) → k.request ≡ request.Join first count
asks-ends set past x k first count asks last =
    let b = asked-born (plan_of set) past x k asks in
    let number = numbered-number (plan_of set) past x b.0 b.1 in
    let given = last-behind (own b.0.number past) (reply.Born first count) (rw number last) in
    born-joins set b.0 given.0 first count k.request k.at (rw given.1 at (asks-meaning set past b.0 k b.2))

abbrev pub IsNoJoin : Request → Type 0
IsNoJoin (request.Join first count) = ⊥
IsNoJoin _ = Unit {0}

no-join : (q : Request) (first count : ℕ) → IsNoJoin q → q ≡ request.Join first count → ⊥
no-join q first count i h = rw h at i

pub unless-none : {A : Type 0} (o : Option Finished) → unless_ended {A = A} o None ≡ None
unless-none None = refl
unless-none (Some f) = refl

born-none : (o : Option Reply) → ((first count : ℕ) → o ≡ Some (reply.Born first count) → ⊥) → born_last o ≡ None
born-none None h = refl
born-none (Some (reply.Born first count)) h = absurd (h first count refl)
born-none (Some _) h = refl

-- who asks anything else has no open join
pub unopened : (set : RouteSet) (past : Past) (x : ℕ) (k : Asked) → asked (plan_of set) past x ≡ Some k → IsNoJoin k.request → open_parts (plan_of set) past x ≡ None
unfolding open_parts
unopened set past x k asks other =
    ap (unless_ended (ended (plan_of set) past x)) (born-none (last_answer (own x past)) (λ first count last. no-join k.request first count other (asks-ends set past x k first count asks last)))
    ∙ unless-none (ended (plan_of set) past x)

-- ---- who has not ended

-- nobody ends by another answer than that to its last request
pub answer-lives : (set : RouteSet) (w x : ℕ) (r : Reply) (past : Past) (k : Asked) → asked (plan_of set) past x ≡ Some k → (r ≡ reply.Finished → ⊥) → (r ≡ reply.CommitFailed → ⊥)
    → ended (plan_of set) ((record { worker = w; kind = Answer x r }) ∷ past) x ≡ None
unfolding fate plan_of
answer-lives set w x r past k asks no_finish no_commit =
    let b = asked-born s past x k asks in
    let number = numbered-number s past x b.0 b.1 in
    let same : (x == b.0.number) ≡ true = eq-eqb x b.0.number (sym number) in
    ended-is s (e ∷ past) x b.0 (birth-stays s e past x b.0 b.1)
    ∙ (ap (λ (o : Past). end_of (fate_by s b.0 o)) (own-here b.0.number e past same) ∙ by_starved b.0 (own b.0.number past) (starved (own b.0.number past)) b.2)
  where
    s : Plan
    s = plan_of set

    e : Entry
    e = record { worker = w; kind = Answer x r }

    lives : (b : Birth) (given : List Reply) (f : Fate) → mean set b (given ++ r ∷ []) ≡ f → end_of f ≡ None
    lives b given (AsksNext q p) h = refl
    lives b given (Ends f m) h = absurd (elim (ends set b given r f m h).answered [
      | inl l ↦ no_finish l.0
      | inr c ↦ no_commit c.0
    ])
    lives b given Strays h = refl

    by_starved : (b : Birth) (o : Past) (v : Bool) → asked_by b (cond v (Ends out_of_memory b.message) (mean set b (answers o))) ≡ Some k
        → end_of (cond v (Ends out_of_memory b.message) (mean set b (answers o ++ r ∷ []))) ≡ None
    by_starved b o true h = absurd (cc h)
    by_starved b o false h = lives b (answers o) _ refl

-- ---- parts that live

-- the part x, which lives, is one of those that its parent y waits for
pub record IsAwaited (s : Plan) (past : Past) (y x : ℕ) : Type 0 where
  pub first : ℕ
  pub count : ℕ
  pub last : last_answer (own y past) ≡ Some (reply.Born first count)
  pub from : first ≤ x
  pub to : x < first + count
  pub lives : ended s past y ≡ None

cons-none : {A : Type 0} (o : Option A) (l : Option (List A)) → o ≡ None → cons_option o l ≡ None
cons-none o l h = rw h refl

cons-rest : {A : Type 0} (o : Option A) (l : Option (List A)) → l ≡ None → cons_option o l ≡ None
cons-rest None l h = refl
cons-rest (Some x) l h = rw h refl

-- where one of them lives, not all have ended
pub joined-none : (s : Plan) (past : Past) (first count i : ℕ) → i < count → ended s past (first + i) ≡ None → joined s past first count ≡ None
joined-none s past first zero i l h = absurd (omega (arith, l))
joined-none s past first (suc k) zero l h =
    let e : first + 0 ≡ first = omega arith in
    cons-none (ended s past first) (joined s past (first + 1) k) (rw e at h)
joined-none s past first (suc k) (suc i) l h =
    let e : first + suc i ≡ first + 1 + i = omega arith in
    cons-rest (ended s past first) (joined s past (first + 1) k) (joined-none s past (first + 1) k i (omega (arith, l)) (rw e at h))

rest-many : (o : Option Finished) (l : Option (List Finished)) (parts : List Finished) (n : ℕ) → ((rest : List Finished) → l ≡ Some rest → length rest ≡ n) → cons_option o l ≡ Some parts → length parts ≡ suc n
rest-many (Some f) (Some rest) parts n many h = let same : f ∷ rest ≡ parts = cc in ap length (sym same) ∙ ap suc (many rest refl)
rest-many (Some f) None parts n many h = absurd (cc h)
rest-many None l parts n many h = absurd (cc h)

-- as many have ended as are awaited
pub joined-many : (s : Plan) (past : Past) (first count : ℕ) (parts : List Finished) → joined s past first count ≡ Some parts → length parts ≡ count
joined-many s past first zero parts h = let same : [] ≡ parts = cc in ap length (sym same)
joined-many s past first (suc k) parts h = rest-many (ended s past first) (joined s past (first + 1) k) parts k (λ rest g. joined-many s past (first + 1) k rest g) h

-- who stands elsewhere than at its end lives
pub stands-alive : (s : Plan) (past : Past) (b : Birth) (p : Place) → place_of s past b ≡ p → is_ended p ≡ false → end_of (fate s past b) ≡ None
stands-alive s past b p at live = by_end (end_of (fate s past b)) (sym (end-is s past b) ∙ (ap is_ended at ∙ live))
  where
    by_end : (o : Option Finished) → is_some o ≡ false → o ≡ None
    by_end None h = refl
    by_end (Some f) h = absurd (cc h)

pub awaited-unended : (s : Plan) (past : Past) (y x : ℕ) (a : IsAwaited s past y x) → ended s past x ≡ None → all_ended s past a.first a.count ≡ false
awaited-unended s past y x a h =
    let i : a.first + (x - a.first) ≡ x = omega (arith, a.from) in
    ap is_some (joined-none s past a.first a.count (x - a.first) (omega (arith, a.from, a.to)) (rw i h))

-- who waits for a part has no entry
module _ (set : RouteSet) (workers limit : ℕ) (e : Entry) (past : Past) (y x : ℕ) (legal : KeepsRules (plan_of set) workers limit (e ∷ past))
    (a : IsAwaited (plan_of set) past y x) (unended : ended (plan_of set) past x ≡ None) where
  pausing : (o : Option Reply) → o ≡ Some (reply.Born a.first a.count) → paused (clock past) (all_ended (plan_of set) past) (pause_of o) ≡ place_is.Joining
  pausing o h = let g = awaited-unended (plan_of set) past y x a unended in rw (h, g) refl

  not-paused : (p : Place) → p ≡ place_is.Joining → p ≡ place_is.Ready → ⊥
  not-paused p h g = let k = sym h ∙ g in cc k

  waits-on : concerns y e.kind ≡ false
  waits-on = elim (cases_Bool (concerns y e.kind)) [ inl c ↦ absurd (by_start c (is_start e.kind) refl) | inr f ↦ f ]
    where
      s : Plan
      s = plan_of set

      tail : KeepsRules s workers limit past
      tail = legal-tail s workers limit e past legal

      silent : own y past ≡ [] → ⊥
      silent h = let g = rw h at a.last in cc g

      acts : (b : Birth) → numbered (births s past) y ≡ Some b → b.number ≡ y → is_acting (place_of s past b) ≡ true → Standing s past b → ⊥
      acts b at n t (InEnd f p d) = let k = rw p at t in cc k
      acts b at n t (InQueue q o p) = let k = rw p at t in cc k
      acts b at n t (Held v h p) =
          not-paused _ (pausing (last_answer (own b.number past)) (rw n a.last))
          (taken-ready s workers limit past b v tail (λ d u. let v = rw n at u in let both : Some d ≡ Some b = sym v ∙ at in cc) h)
      acts b at n t (Asleep d l u p) = let k = rw p at t in cc k
      acts b at n t (Waits f c l u p) = let k = rw p at t in cc k
      acts b at n t (Able p) = not-paused _ (pausing (last_answer (own b.number past)) (rw n a.last)) (paused-place s past b p)

      starts : (k : Kind) → May s limit past e.worker k → concerns y k ≡ true → is_start k ≡ true → ⊥
      starts (Start q n) may c t =
          let same : n ≡ y = eqb-true n y c in
          let b = first-placed s past (is_in q) n may.0 in
          let number : b.0.number ≡ y = numbered-number s past n b.0 b.1 ∙ same in
          let none = waiting-silent s workers limit past b.0 q tail (λ d u. let n' = numbered-number s past n b.0 b.1 in let v = rw n' at u in let both : Some d ≡ Some b.0 = sym v ∙ b.1 in cc) b.2 in
          silent (rw number at none)
      starts _ may c t = cc t

      by_start : concerns y e.kind ≡ true → (v : Bool) → is_start e.kind ≡ v → ⊥
      by_start c true t = starts e.kind (legal-may s workers limit e past legal) c t
      by_start c false t =
          let r = entry-actor s limit past e.worker y e.kind (legal-may s workers limit e past legal) c t in
          acts r.birth r.born (numbered-number s past y r.birth r.born) r.acting (standing s past r.birth)

-- who has an answer is born
answered-born : (s : Plan) (workers limit : ℕ) (past : Past) (y : ℕ) (a : Reply) → KeepsRules s workers limit past → last_answer (own y past) ≡ Some a → (b : Birth) × (numbered (births s past) y ≡ Some b)
answered-born s workers limit [] y a legal h = absurd (let g = rw (own-none y) at h in cc g)
answered-born s workers limit (e ∷ past) y a legal h = elim (cases_Bool (concerns y e.kind)) [
  | inl c ↦ (let b = entry-born s limit past e.worker y e.kind (legal-may s workers limit e past legal) c in (b.0, birth-stays s e past y b.0 b.1))
  | inr f ↦ (let b = answered-born s workers limit past y a (legal-tail s workers limit e past legal) (rw (own-other y e past f) at h) in (b.0, birth-stays s e past y b.0 b.1))
]

-- a parent of a part that lives stands in its place Joining
module _ (set : RouteSet) (workers limit : ℕ) (past : Past) (y x : ℕ) (legal : KeepsRules (plan_of set) workers limit past) (a : IsAwaited (plan_of set) past y x) (unended : ended (plan_of set) past x ≡ None) where
  pub parent-born : (b : Birth) × (numbered (births (plan_of set) past) y ≡ Some b)
  parent-born = answered-born (plan_of set) workers limit past y (reply.Born a.first a.count) legal a.last

  pub parent-joins : (b : Birth) → numbered (births (plan_of set) past) y ≡ Some b → place_of (plan_of set) past b ≡ place_is.Joining
  parent-joins b at = by_standing (standing s past b)
    where
      s : Plan
      s = plan_of set

      n : b.number ≡ y
      n = numbered-number s past y b at

      joins : paused (clock past) (all_ended s past) (pause_of (last_answer (own b.number past))) ≡ place_is.Joining
      joins = let g = awaited-unended s past y x a unended in rw (n, a.last, g) refl

      one : (d : Birth) → numbered (births s past) b.number ≡ Some d → d ≡ b
      one d u = let v = rw n at u in let both : Some d ≡ Some b = sym v ∙ at in cc

      by_standing : Standing s past b → place_of s past b ≡ place_is.Joining
      by_standing (Waits f c l u p) = p
      by_standing (InEnd f p d) = absurd (let e = sym (ended-is s past y b at) ∙ a.lives in let k = rw e at d in cc k)
      by_standing (InQueue q o p) =
          let waits : is_in q (place_of s past b) ≡ true = ap (is_in q) p ∙ eq-eqb q q refl in
          absurd (let none = waiting-silent s workers limit past b q legal one waits in let k = rw (← n, none) at a.last in cc k)
      by_standing (Held v h p) = absurd (let k = sym joins ∙ taken-ready s workers limit past b v legal one h in cc k)
      by_standing (Asleep d l u p) = absurd (let k = rw n at l in let m = sym a.last ∙ k in cc m)
      by_standing (Able p) = absurd (let k = sym joins ∙ paused-place s past b p in cc k)

abbrev NoPart : Birth → Type 0
NoPart b = (p i : ℕ) → b.origin ≡ from.Part p i → ⊥

-- a copy is no part
copy-alone : (s : Plan) (t : Story) (past : Past) (k : Asked) (q : Request) (n : ℕ) → fits q (reply.Queued n) ≡ true → Each NoPart (made_for s t past k q (reply.Queued n))
copy-alone s t past k (request.Offer q discard m) n fit = (λ p i h. cc h, tt)
copy-alone s t past k _ n fit = absurd (cc fit)

-- nor is the exchange of a closed group
shut-alone : (s : Plan) (t : Story) (past : Past) (k : Asked) (q : Request) (g n : ℕ) (c : Completion) → fits q (reply.Closed g c n) ≡ true → Each NoPart (made_for s t past k q (reply.Closed g c n))
shut-alone s t past k (request.Arrive a key m) g n c fit = (λ p i h. cc h, tt)
shut-alone s t past k _ g n c fit = absurd (cc fit)

groups-alone : (s : Plan) (n : ℕ) (c : Completion) (gs : List Group) → Each NoPart (group_births s n c gs)
groups-alone s n c [] = tt
groups-alone s n c (g ∷ gs) = (λ p i h. cc h, groups-alone s (n + 1) c gs)

abbrev origin_of : Option Birth → Option Origin
origin_of (Some b) = Some b.origin
origin_of None = None

-- the parts of a birth by their place among them
part-there : (n : ℕ) (k : Asked) (j : ℕ) (ds : List Seed) (i : ℕ) (d : Birth) → slice_get (part_births n k j ds) i ≡ Some d → (i < length ds) × (d.origin ≡ from.Part k.birth.number (j + i))
part-there n k j [] i d h = absurd (cc h)
part-there n k j (x ∷ ds) zero d h =
    let e : j + 0 ≡ j = omega arith in
    let same : Some (from.Part k.birth.number j) ≡ Some d.origin = ap origin_of h in
    let is : from.Part k.birth.number j ≡ d.origin = cc in
    (omega arith, rw e (sym is))
part-there n k j (x ∷ ds) (suc i) d h =
    let r = part-there (n + 1) k (j + 1) ds i d h in
    let e : j + suc i ≡ j + 1 + i = omega arith in
    (omega (arith, r.0), rw e r.1)

same-parent : (p q i j : ℕ) → from.Part p i ≡ from.Part q j → p ≡ q
same-parent p q i j h = cc

no-item : (source : ℕ) (item : List ℕ) (p i : ℕ) → Some (from.Source source item) ≡ Some (from.Part p i) → ⊥
no-item source item p i h = cc h

-- a part that is born is awaited by its parent
part-awaited : (set : RouteSet) (workers limit w n first count : ℕ) (past : Past) (i : ℕ) (d : Birth) (y j : ℕ) → KeepsRules (plan_of set) workers limit ((record { worker = w; kind = Answer n (reply.Born first count) }) ∷ past)
    → length (births (plan_of set) past) ≤ i → slice_get (made_at (plan_of set) past (Answer n (reply.Born first count))) (i - length (births (plan_of set) past)) ≡ Some d → d.origin ≡ from.Part y j
    → IsAwaited (plan_of set) ((record { worker = w; kind = Answer n (reply.Born first count) }) ∷ past) y (suc i)
part-awaited set workers limit w n first count past i d y j rules l there origin =
    let s = plan_of set in
    let e : Entry = record { worker = w; kind = Answer n (reply.Born first count) } in
    let may = legal-may s workers limit e past rules in
    let k = may.asks in
    let sp = spawns k.request first count may.fitting in
    let content : first ≡ next s past = subst (λ (q : Request). Content s past k q (reply.Born first count)) sp.1 may.content in
    let made : made_at s past (Answer n (reply.Born first count)) ≡ part_births (next s past) k k.at.index sp.0 =
    ap (λ (o : Option Asked). made_by s (story s past) past o (reply.Born first count)) may.asked_is ∙ ap (λ (q : Request). made_for s (story s past) past k q (reply.Born first count)) sp.1 in
    let at : slice_get (part_births (next s past) k k.at.index sp.0) (i - length (births s past)) ≡ Some d = rw made at there in
    let p = part-there (next s past) k k.at.index sp.0 (i - length (births s past)) d at in
    let b = asked-born s past n k may.asked_is in
    let parent : k.birth.number ≡ n = ap (λ (c : Birth). c.number) (asked-birth b.0 (fate s past b.0) k b.2) ∙ numbered-number s past n b.0 b.1 in
    let same : n ≡ y = sym parent ∙ same-parent k.birth.number y (k.at.index + (i - length (births s past))) j (sym p.1 ∙ origin) in
    let lives = answer-lives set w n (reply.Born first count) past k may.asked_is (λ h. cc h) (λ h. cc h) in
    let last = own-here n e past (eq-eqb n n refl) in
    rw (← same)
    (record {
      first = first;
      count = count;
      last = rw last refl;
      from = omega (arith, content, l);
      to = let m = sp.2 in omega (arith, content, l, p.0, m);
      lives = lives;
    })

-- a part that lives is awaited by its parent
pub awaited : (set : RouteSet) (workers limit : ℕ) (past : Past) → KeepsRules (plan_of set) workers limit past → AnswersSimply past → (x : ℕ) (d : Birth) (y j : ℕ)
    → numbered (births (plan_of set) past) x ≡ Some d → d.origin ≡ from.Part y j → ended (plan_of set) past x ≡ None → IsAwaited (plan_of set) past y x
awaited set workers limit [] legal simple x d y j at origin lives = absurd (none x (rw (births-none (plan_of set)) at at))
  where
    none : (x : ℕ) → numbered [] x ≡ Some d → ⊥
    none zero h = cc h
    none (suc i) h = cc h
awaited set workers limit (e ∷ past) legal simple x d y j at origin lives =
    by_birth (numbered (births (plan_of set) past) x) refl (λ there was. awaited set workers limit past (legal-tail (plan_of set) workers limit e past legal) simple.0 x d y j there origin was)
  where
    s : Plan
    s = plan_of set

    tail : KeepsRules s workers limit past
    tail = legal-tail s workers limit e past legal

    -- it was there
    older : (c : Birth) → numbered (births s past) x ≡ Some c → (numbered (births s past) x ≡ Some d → ended s past x ≡ None → IsAwaited s past y x) → IsAwaited s (e ∷ past) y x
    older c there ih =
        let stays = birth-stays s e past x c there in
        let both : Some c ≡ Some d = sym stays ∙ at in
        let same : c ≡ d = cc in
        let was = lived (ended s past x) refl in
        let a = ih (there ∙ ap Some same) was in
        let still = waits-on set workers limit e past y x legal a was in
        record { first = a.first; count = a.count; last = rw (own-other y e past still) a.last; from = a.from; to = a.to; lives = ended-beside s (plan-laws set) workers limit e past y legal still ∙ a.lives }
      where
        lived : (o : Option Finished) → ended s past x ≡ o → ended s past x ≡ None
        lived None h = h
        lived (Some f) h = absurd (let g = ended-keeps s workers limit e past x legal (ap is_some h) in let k = rw lives at g in cc k)

    made-there : (i : ℕ) → x ≡ suc i → numbered (births s past) x ≡ None → slice_get (simple_births s past e.kind) (i - length (births s past)) ≡ Some d
    made-there i same none =
        let l = past-births s past i (rw same at none) in
        let split : length (births s past) + (i - length (births s past)) ≡ i = omega (arith, l) in
        let there : slice_get (births s past ++ simple_births s past e.kind) i ≡ Some d = rw (same, births-simply s workers limit e past legal simple) at at in
        sym (slice-right (births s past) (simple_births s past e.kind) (i - length (births s past))) ∙ rw split there

    newborn : (i : ℕ) → x ≡ suc i → length (births s past) ≤ i → (k : Kind) → KeepsRules s workers limit ((record { worker = e.worker; kind = k }) ∷ past)
        → slice_get (simple_births s past k) (i - length (births s past)) ≡ Some d → IsAwaited s ((record { worker = e.worker; kind = k }) ∷ past) y x
    newborn i same l (Accept source item m) rules there = absurd (alone (i - length (births s past)) there)
      where
        alone : (n : ℕ) → slice_get (simple_births s past (Accept source item m)) n ≡ Some d → ⊥
        alone zero h = no-item source item y j (ap origin_of h ∙ ap Some origin)
        alone (suc n) h = cc h
    newborn i same l (Answer n (reply.Queued m)) rules there =
        let may = legal-may s workers limit (record { worker = e.worker; kind = Answer n (reply.Queued m) }) past rules in
        absurd (each-at NoPart (made_at s past (Answer n (reply.Queued m))) (i - length (births s past)) d
        (subst (λ (o : Option Asked). Each NoPart (made_by s (story s past) past o (reply.Queued m))) (sym may.asked_is) (copy-alone s (story s past) past may.asks may.asks.request m may.fitting)) there y j origin)
    newborn i same l (Answer n (reply.Born first count)) rules there = rw same (part-awaited set workers limit e.worker n first count past i d y j rules l there origin)
    newborn i same l (Answer n (reply.Closed g c m)) rules there =
        let may = legal-may s workers limit (record { worker = e.worker; kind = Answer n (reply.Closed g c m) }) past rules in
        absurd (each-at NoPart (made_at s past (Answer n (reply.Closed g c m))) (i - length (births s past)) d
        (subst (λ (o : Option Asked). Each NoPart (made_by s (story s past) past o (reply.Closed g c m))) (sym may.asked_is) (shut-alone s (story s past) past may.asks may.asks.request g m c may.fitting)) there y j origin)
    newborn i same l (Tick t) rules there =
        absurd (each-at NoPart (made_at s past (Tick t)) (i - length (births s past)) d (groups-alone s (length (births s past) + 1) by.Timeout (filter (is_due s t) (groups s past))) there y j origin)
    newborn i same l Force rules there =
        absurd (each-at NoPart (made_at s past Force) (i - length (births s past)) d (groups-alone s (length (births s past) + 1) by.Force (filter (is_forced s) (groups s past))) there y j origin)
    newborn i same l _ rules there = absurd (cc there)

    by_number : (n : ℕ) → x ≡ n → numbered (births s past) x ≡ None → IsAwaited s (e ∷ past) y x
    by_number zero same none = absurd (let g = rw same at at in cc g)
    by_number (suc i) same none = newborn i same (past-births s past i (rw same at none)) e.kind legal (made-there i same none)

    by_birth : (o : Option Birth) → numbered (births s past) x ≡ o → (numbered (births s past) x ≡ Some d → ended s past x ≡ None → IsAwaited s past y x) → IsAwaited s (e ∷ past) y x
    by_birth (Some c) h ih = older c h ih
    by_birth None h ih = by_number x refl h

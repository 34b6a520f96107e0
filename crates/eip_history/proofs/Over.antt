-- Where nobody may act, nothing waits.
use Rattle.std.proofs.Common.{◌≡◌, ℕ, zero, suc, ◌+◌, ◌<◌, Bool, true, false, List, [], ◌∷◌, ◌++◌, length, Option, Some, None, is_some, refl, sym, ap, subst, ◌∙◌, arith, cond}
use Rattle.std.specs.List.{slice_get}
use Rattle.eip_exchange.specs.declared.message.Message.{Message}
use Rattle.eip_exchange.specs.declared.birth.Birth.{Birth}
use Rattle.eip_exchange.specs.Ends.{out_of_memory}
use Rattle.eip_exchange.specs.declared.birth.Origin.TheVariants as from
use Rattle.eip_frames.specs.declared.request.Seed.{Seed}
use Rattle.eip_frames.specs.declared.answer.Answer.{Answer as Reply}
use Rattle.eip_frames.specs.declared.answer.Answer.TheVariants as reply
use Rattle.eip_frames.specs.declared.request.Request.{Request}
use Rattle.eip_frames.specs.declared.request.Request.TheVariants as request
use Rattle.eip_frames.specs.declared.answer.Completion.{Completion}
use Rattle.eip_frames.specs.Fate.{Fate, AsksNext, Ends, Strays}
use Rattle.eip_ledger.specs.declared.entry.Kind.{Kind}
use Rattle.eip_ledger.specs.declared.entry.Kind.TheVariants.{Accept, Answer, Tick, Force}
use Rattle.eip_ledger.specs.declared.place.Place.TheVariants as place_is
use Rattle.eip_history.specs.Plan.{Plan}
use Rattle.eip_history.specs.Own.{Past, own, numbered, taker, answers, starved}
use Rattle.eip_history.specs.Groups.{Group}
use Rattle.eip_history.specs.Births.{Asked, Story, story, births, fate, asked_by, asked_of, made_at, made, made_by, made_for, part_births, group_births}
use Rattle.eip_history.specs.Place.{ended, end_of, joined, place_of}
use Rattle.eip_history.specs.Rules.{KeepsRules}
use Rattle.eip_history.specs.Laws.{PlanLaws, IsQueue}
use Rattle.eip_history.proofs.Unborn.{numbered-within}
use Rattle.eip_history.proofs.Parts.{parts-of, is_part_of, numbered-number}
use Rattle.eip_history.proofs.Places.{ended-is}
use Rattle.eip_history.proofs.Stuck.{Standing, InEnd, InQueue, Held, Asleep, Waits, Able, standing}

-- nobody is Ready, in hand or asleep
pub record AllRest (s : Plan) (past : Past) : Type 0 where
  pub no_ready : (x : ℕ) (b : Birth) → numbered (births s past) x ≡ Some b → place_of s past b ≡ place_is.Ready → ⊥
  pub no_hand : (x : ℕ) (b : Birth) (w : ℕ) → numbered (births s past) x ≡ Some b → taker (own b.number past) ≡ Some w → ⊥
  pub no_retry : (x : ℕ) (b : Birth) (d : ℕ) → numbered (births s past) x ≡ Some b → place_of s past b ≡ place_is.Retry d → ⊥

joined-none : (s : Plan) (past : Past) (first count : ℕ) → is_some (joined s past first count) ≡ false
    → (i : ℕ) × (i < count) × (is_some (ended s past (first + i)) ≡ false)
joined-none s past first zero h = absurd (cc h)
joined-none s past first (suc k) h = by_first (ended s past first) refl (λ g. joined-none s past (first + 1) k g)
  where
    behind : (r : (i : ℕ) × (i < k) × (is_some (ended s past (first + 1 + i)) ≡ false)) → (i : ℕ) × (i < suc k) × (is_some (ended s past (first + i)) ≡ false)
    behind r = let e : first + suc r.0 ≡ first + 1 + r.0 = omega arith in (suc r.0, omega (arith, r.1), rw e r.2)

    by_first : (o : Option _) → ended s past first ≡ o
        → (is_some (joined s past (first + 1) k) ≡ false → (i : ℕ) × (i < k) × (is_some (ended s past (first + 1 + i)) ≡ false))
        → (i : ℕ) × (i < suc k) × (is_some (ended s past (first + i)) ≡ false)
    by_first None t ih = let z : first + 0 ≡ first = omega arith in (0, omega arith, rw (z, t) refl)
    by_first (Some f) t ih = by_rest (joined s past (first + 1) k) refl
      where
        by_rest : (r : Option _) → joined s past (first + 1) k ≡ r → (i : ℕ) × (i < suc k) × (is_some (ended s past (first + i)) ≡ false)
        by_rest None u = behind (ih (ap is_some u))
        by_rest (Some l) u = absurd (let g = rw (t, u) at h in cc g)

-- the greatest exchange that hasn't ended isn't Joining
pub no-joining : (s : Plan) (w limit : ℕ) (past : Past) → KeepsRules s w limit past → AllRest s past → (k x : ℕ) (b : Birth)
    → numbered (births s past) x ≡ Some b → length (births s past) < x + k → place_of s past b ≡ place_is.Joining → ⊥
no-joining s w limit past legal rest zero x b at l h = let n = numbered-within (births s past) x b at in omega (arith, l, n)
no-joining s w limit past legal rest (suc k) x b at l h = by_standing (standing s past b) (λ y d g m j. no-joining s w limit past legal rest k y d g m j)
  where
    part_stands : (first i : ℕ) (d : Birth) → b.number < first → numbered (births s past) (first + i) ≡ Some d → is_part_of b.number d.origin ≡ true
        → is_some (end_of (fate s past d)) ≡ false
        → ((y : ℕ) (c : Birth) → numbered (births s past) y ≡ Some c → length (births s past) < y + k → place_of s past c ≡ place_is.Joining → ⊥)
        → Standing s past d → ⊥
    part_stands first i d lt g o u ih (InEnd e p t) = cc t
    part_stands first i d lt g o u ih (InQueue q r p) = let f = rw r at o in cc f
    part_stands first i d lt g o u ih (Held v y p) = rest.no_hand (first + i) d v g y
    part_stands first i d lt g o u ih (Asleep v sl lt_now p) = rest.no_retry (first + i) d v g p
    part_stands first i d lt g o u ih (Able p) = rest.no_ready (first + i) d g p
    part_stands first i d lt g o u ih (Waits f c la a p) = let n = numbered-number s past x b at in ih (first + i) d g (omega (arith, l, lt, n)) p

    by_standing : Standing s past b
        → ((y : ℕ) (d : Birth) → numbered (births s past) y ≡ Some d → length (births s past) < y + k → place_of s past d ≡ place_is.Joining → ⊥) → ⊥
    by_standing (InEnd e p t) ih = cc p
    by_standing (InQueue q r p) ih = cc p
    by_standing (Held v y p) ih = cc p
    by_standing (Asleep v sl lt_now p) ih = cc p
    by_standing (Able p) ih = cc p
    by_standing (Waits first count la a p) ih =
        let r = joined-none s past first count a in
        let ps = parts-of s w limit past b.number first count legal la in
        let d = ps.part r.0 r.1 in
        let u : is_some (end_of (fate s past d.0)) ≡ false = ap is_some (sym (ended-is s past (first + r.0) d.0 d.1)) ∙ r.2 in
        part_stands first r.0 d.0 ps.behind d.1 d.2 u ih (standing s past d.0)

-- every birth has the property
abbrev pub Each : (Birth → Type 0) → List Birth → Type 0
Each P [] = Unit {0}
Each P (b ∷ bs) = P b × Each P bs

pub each-append : (P : Birth → Type 0) (xs ys : List Birth) → Each P xs → Each P ys → Each P (xs ++ ys)
each-append P [] ys a b = b
each-append P (x ∷ xs) ys a b = (a.0, each-append P xs ys a.1 b)

pub each-at : (P : Birth → Type 0) (xs : List Birth) (i : ℕ) (x : Birth) → Each P xs → slice_get xs i ≡ Some x → P x
each-at P [] i x a h = absurd (cc h)
each-at P (y ∷ ys) zero x a h = let e : y ≡ x = cc in subst P e a.0
each-at P (y ∷ ys) (suc i) x a h = each-at P ys i x a.1 h

-- who is born into a queue, is born into one of the set's
abbrev pub Queued : Plan → Birth → Type 0
Queued s b = (q : ℕ) → b.origin ≡ from.Queue q → IsQueue s q

parts-each : (s : Plan) (n : ℕ) (k : Asked) (i : ℕ) (ds : List Seed) → Each (Queued s) (part_births n k i ds)
parts-each s n k i [] = tt
parts-each s n k i (d ∷ ds) = (λ q h. absurd (cc h), parts-each s (n + 1) k (i + 1) ds)

groups-each : (s : Plan) (n : ℕ) (c : Completion) (gs : List Group) → Each (Queued s) (group_births s n c gs)
groups-each s n c [] = tt
groups-each s n c (g ∷ gs) = (λ q h. absurd (cc h), groups-each s (n + 1) c gs)

each-for : (s : Plan) (t : Story) (past : Past) (k : Asked) (r : Request) (a : Reply)
    → ((q : ℕ) (d : Bool) (m : Message) → r ≡ request.Offer q d m → IsQueue s q) → Each (Queued s) (made_for s t past k r a)
each-for s t past k (request.Offer q discard m) (reply.Queued n) o = (λ v h. let same : q ≡ v = cc in subst (IsQueue s) same (o q discard m refl), tt)
each-for s t past k (request.Spawn seeds) (reply.Born first count) o = parts-each s _ k k.at.index seeds
each-for s t past k (request.Arrive b key m) (reply.Closed g c n) o = (λ v h. absurd (cc h), tt)
each-for s t past k _ _ o = tt

asks-mean : (s : Plan) (laws : PlanLaws s) (past : Past) (b : Birth) (k : Asked) (q : ℕ) (d : Bool) (m : Message)
    → asked_by b (fate s past b) ≡ Some k → k.request ≡ request.Offer q d m → IsQueue s q
unfolding fate
asks-mean s laws past b k q d m h r = by_test (starved (own b.number past)) refl h
  where
    by_mean : (f : Fate) → s.mean b (answers (own b.number past)) ≡ f → asked_by b f ≡ Some k → IsQueue s q
    by_mean (AsksNext u p) e g = let same : u ≡ k.request = cc in laws.offers b (answers (own b.number past)) q d m p (e ∙ ap (λ v. AsksNext v p) (same ∙ r))
    by_mean (Ends e' m') e g = absurd (cc g)
    by_mean Strays e g = absurd (cc g)

    by_test : (v : Bool) → starved (own b.number past) ≡ v
        → asked_by b (cond v (Ends out_of_memory b.message) (s.mean b (answers (own b.number past)))) ≡ Some k → IsQueue s q
    by_test true t g = absurd (cc g)
    by_test false t g = by_mean (s.mean b (answers (own b.number past))) refl g

each-by : (s : Plan) (laws : PlanLaws s) (t : Story) (past : Past) (o : Option Birth) (a : Reply) → Each (Queued s) (made_by s t past (asked_of s past o) a)
each-by s laws t past None a = tt
each-by s laws t past (Some b) a = by_asked (asked_by b (fate s past b)) refl
  where
    by_asked : (o : Option Asked) → asked_by b (fate s past b) ≡ o → Each (Queued s) (made_by s t past o a)
    by_asked None h = tt
    by_asked (Some k) h = each-for s t past k k.request a (λ q d m r. asks-mean s laws past b k q d m h r)

each-made : (s : Plan) (laws : PlanLaws s) (t : Story) (past : Past) (k : Kind) → Each (Queued s) (made s t past k)
each-made s laws t past (Accept source item m) = (λ q h. absurd (cc h), tt)
each-made s laws t past (Answer x a) = each-by s laws t past (numbered t.births x) a
each-made s laws t past (Tick now) = groups-each s _ _ _
each-made s laws t past Force = groups-each s _ _ _
each-made s laws t past _ = tt

pub queues-known : (s : Plan) (laws : PlanLaws s) (past : Past) → Each (Queued s) (births s past)
unfolding story
queues-known s laws [] = tt
queues-known s laws (e ∷ past) =
    each-append (Queued s) (births s past) (made_at s past e.kind) (queues-known s laws past) (each-made s laws (story s past) past e.kind)

-- The parts of a Born: born, of this parent, with greater numbers.
use Rattle.std.proofs.Common.{◌≡◌, ℕ, zero, suc, ◌+◌, ◌<◌, Bool, true, false, ◌==◌, List, [], ◌∷◌, ◌++◌, length, Some, refl, ap, subst, ◌∙◌, arith, eq-eqb}
use Rattle.std.specs.List.{slice_get}
use Rattle.std.proofs.lemmas.Bool.{eqb-true}
use Rattle.eip_exchange.specs.declared.birth.Birth.{Birth}
use Rattle.eip_exchange.specs.declared.birth.Origin.{Origin}
use Rattle.eip_exchange.specs.declared.birth.Origin.TheVariants as from
use Rattle.eip_frames.specs.declared.request.Seed.{Seed}
use Rattle.eip_frames.specs.declared.request.Request.{Request}
use Rattle.eip_frames.specs.declared.request.Request.TheVariants as request
use Rattle.eip_frames.specs.Fate.{Fate, AsksNext, Ends, Strays}
use Rattle.eip_frames.specs.Fits.{fits}
use Rattle.eip_frames.specs.declared.answer.Answer.TheVariants as reply
use Rattle.eip_ledger.specs.declared.entry.Entry.{Entry}
use Rattle.eip_ledger.specs.declared.entry.Kind.{Kind}
use Rattle.eip_ledger.specs.declared.entry.Kind.TheVariants.{Start, Take, Answer, Starve, Return}
use Rattle.eip_history.specs.Plan.{Plan}
use Rattle.eip_history.specs.Own.{Past, own, concerns, numbered, last_answer, or_answer}
use Rattle.eip_history.specs.Births.{Asked, story, births, made_for, made_by, asked, asked_by, fate, part_births}
use Rattle.eip_history.specs.Rules.{KeepsRules, May, MayAnswer, next, Content}
use Rattle.eip_history.proofs.Lists.{numbered-at}
use Rattle.eip_history.proofs.Told.{own-other, own-here, births-numbered}
use Rattle.eip_history.proofs.Unborn.{own-none, legal-tail, legal-may, asked-born, slice-right, birth-stays, numbered-within}

abbrev pub is_part_of : ℕ → Origin → Bool
is_part_of y (from.Part p i) = p == y
is_part_of y _ = false

-- the numbers from first on are parts of y, born behind it
pub record AreParts (s : Plan) (past : Past) (y first count : ℕ) : Type 0 where
  pub behind : y < first
  pub part : (i : ℕ) → i < count → (b : Birth) × (numbered (births s past) (first + i) ≡ Some b) × (is_part_of y b.origin ≡ true)

parts-stay : {s : Plan} {past : Past} {y first count : ℕ} (e : Entry) → AreParts s past y first count → AreParts s (e ∷ past) y first count
parts-stay {s} {past} {y} {first} {count} e p =
    record { behind = p.behind; part = λ i l. let r = p.part i l in (r.0, birth-stays s e past (first + i) r.0 r.1, r.2) }

pub numbered-number : (s : Plan) (past : Past) (x : ℕ) (b : Birth) → numbered (births s past) x ≡ Some b → b.number ≡ x
numbered-number s past zero b h = absurd (cc h)
numbered-number s past (suc i) b h = omega (arith, numbered-at 1 (births s past) i b (births-numbered s past) h)

part-at : (n : ℕ) (k : Asked) (j : ℕ) (ds : List Seed) (i : ℕ) → i < length ds
    → (b : Birth) × (slice_get (part_births n k j ds) i ≡ Some b) × (is_part_of k.birth.number b.origin ≡ true)
part-at n k j [] i l = absurd (omega arith)
part-at n k j (d ∷ ds) zero l = (_, refl, eq-eqb k.birth.number k.birth.number refl)
part-at n k j (d ∷ ds) (suc i) l = part-at (n + 1) k (j + 1) ds i (omega arith)

pub asked-birth : (b : Birth) (f : Fate) (k : Asked) → asked_by b f ≡ Some k → k.birth ≡ b
asked-birth b (AsksNext q p) k h = cc
asked-birth b (Ends e m) k h = absurd (cc h)
asked-birth b Strays k h = absurd (cc h)

-- the births that a Born makes
pub born-births : (s : Plan) (past : Past) (w x : ℕ) (k : Asked) (ds : List Seed) (first count : ℕ) → asked s past x ≡ Some k → k.request ≡ request.Spawn ds
    → births s ((record { worker = w; kind = Answer x (reply.Born first count) }) ∷ past) ≡ births s past ++ part_births (next s past) k k.at.index ds
unfolding story
born-births s past w x k ds first count h q =
    ap (λ xs. births s past ++ xs) (ap (λ o. made_by s (story s past) past o (reply.Born first count)) h
    ∙ ap (λ r. made_for s (story s past) past k r (reply.Born first count)) q)

-- who asks Spawn
pub spawns : (q : Request) (first count : ℕ) → fits q (reply.Born first count) ≡ true → (ds : List Seed) × (q ≡ request.Spawn ds) × (count ≡ length ds)
spawns (request.Spawn ds) first count h = (ds, refl, eqb-true count (length ds) h)
spawns (request.Send t m) first count h = absurd (cc h)
spawns (request.Process t m) first count h = absurd (cc h)
spawns (request.Test t m) first count h = absurd (cc h)
spawns (request.Offer q d m) first count h = absurd (cc h)
spawns (request.Call r) first count h = absurd (cc h)
spawns (request.Join f c) first count h = absurd (cc h)
spawns (request.Arrive a k m) first count h = absurd (cc h)
spawns (request.Idem r k eager remove) first count h = absurd (cc h)
spawns (request.Wait t) first count h = absurd (cc h)
spawns (request.Log n t) first count h = absurd (cc h)
spawns (request.Finish e m c) first count h = absurd (cc h)

parts-born : (s : Plan) (limit : ℕ) (past : Past) (w x : ℕ) (first count : ℕ) → MayAnswer s limit past w x (reply.Born first count)
    → AreParts s ((record { worker = w; kind = Answer x (reply.Born first count) }) ∷ past) x first count
parts-born s limit past w x first count may =
    let sp = spawns may.asks.request first count may.fitting in
    let content : first ≡ next s past = subst (λ q. Content s past may.asks q (reply.Born first count)) sp.1 may.content in
    let b = asked-born s past x may.asks may.asked_is in
    let n : b.0.number ≡ x = numbered-number s past x b.0 b.1 in
    let same : may.asks.birth ≡ b.0 = asked-birth b.0 (fate s past b.0) may.asks b.2 in
    let m : may.asks.birth.number ≡ x = ap (λ (d : Birth). d.number) same ∙ n in
    let within = numbered-within (births s past) x b.0 b.1 in
    record {
      behind = omega (arith, content, within);
      part = λ i l.
          let r = part-at (next s past) may.asks may.asks.at.index sp.0 i (omega (arith, sp.2, l)) in
          let e : first + i ≡ suc (length (births s past) + i) = omega (arith, content) in (
            r.0,
            rw (
              e,
              born-births s past w x may.asks sp.0 first count may.asked_is sp.1,
              slice-right (births s past)
                  (part_births (next s past) may.asks may.asks.at.index sp.0) i,
            ) r.1,
            rw
                (← m) r.2,
          );
    }

-- where the last answer is a Born, its parts are born
pub parts-of : (s : Plan) (w limit : ℕ) (past : Past) (y first count : ℕ) → KeepsRules s w limit past
    → last_answer (own y past) ≡ Some (reply.Born first count) → AreParts s past y first count
parts-of s w limit [] y first count legal h = let g = rw (own-none y) at h in absurd (cc g)
parts-of s w limit (e ∷ past) y first count legal h =
    by_test (concerns y e.kind) refl (λ g. parts-of s w limit past y first count (legal-tail s w limit e past legal) g)
  where
    by_kind : (k : Kind) → May s limit past e.worker k → concerns y k ≡ true
        → (last_answer (own y past) ≡ Some (reply.Born first count) → AreParts s past y first count)
        → or_answer k (last_answer (own y past)) ≡ Some (reply.Born first count) → AreParts s ((record { worker = e.worker; kind = k }) ∷ past) y first count
    by_kind (Answer n a) may c ih g =
        let same : n ≡ y = eqb-true n y c in
        let born : a ≡ reply.Born first count = cc in
        rw (← same, born) (parts-born s limit past e.worker n first count (subst (λ b. MayAnswer s limit past e.worker n b) born may))
    by_kind (Start q n) may c ih g = parts-stay _ (ih g)
    by_kind (Take n) may c ih g = parts-stay _ (ih g)
    by_kind (Starve n) may c ih g = parts-stay _ (ih g)
    by_kind (Return n) may c ih g = parts-stay _ (ih g)
    by_kind _ may c ih g = absurd (cc c)

    by_test : (v : Bool) → concerns y e.kind ≡ v → (last_answer (own y past) ≡ Some (reply.Born first count) → AreParts s past y first count)
        → AreParts s (e ∷ past) y first count
    by_test true c ih = by_kind e.kind (legal-may s w limit e past legal) c ih (rw (own-here y e past c) at h)
    by_test false c ih = parts-stay e (ih (rw (own-other y e past c) at h))

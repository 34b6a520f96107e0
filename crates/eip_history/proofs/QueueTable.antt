-- What an entry does to the queues: who waits in each and how many are at work on it.
use Rattle.std.proofs.Common.{◌≡◌, ◌≢◌, ℕ, zero, suc, ◌+◌, Bool, true, false, ◌==◌, cond, List, [], ◌∷◌, ◌++◌, filter, map, Option, Some, None, refl, sym, ap, subst, ◌∙◌, arith, inl, inr, eq-eqb}
use Rattle.std.proofs.lemmas.Bool.{cases_Bool, eqb-true}
use Rattle.std.proofs.lemmas.List.{append-nil}
use Rattle.eip_exchange.specs.declared.birth.Birth.{Birth}
use Rattle.eip_exchange.specs.declared.birth.Origin.{Origin}
use Rattle.eip_exchange.specs.declared.birth.Origin.TheVariants as from
use Rattle.eip_exchange.specs.declared.message.Message.{Message}
use Rattle.eip_frames.specs.declared.answer.Answer.{Answer as Reply}
use Rattle.eip_frames.specs.declared.answer.Answer.TheVariants as reply
use Rattle.eip_frames.specs.declared.answer.Completion.{Completion}
use Rattle.eip_frames.specs.declared.answer.Completion.TheVariants as by
use Rattle.eip_frames.specs.declared.request.Request.{Request}
use Rattle.eip_frames.specs.declared.request.Request.TheVariants as request
use Rattle.eip_frames.specs.declared.request.Seed.{Seed}
use Rattle.eip_ledger.specs.declared.entry.Entry.{Entry}
use Rattle.eip_ledger.specs.declared.entry.Kind.{Kind}
use Rattle.eip_ledger.specs.declared.entry.Kind.TheVariants.{Accept, Start, Take, Answer, Tick, Force, Starve, Return}
use Rattle.eip_ledger.specs.declared.place.Place.{Place}
use Rattle.eip_ledger.specs.declared.place.Place.TheVariants as place_is
use Rattle.eip_history.specs.Plan.{Plan}
use Rattle.eip_history.specs.Own.{Past, concerns, is_start, numbered}
use Rattle.eip_history.specs.Groups.{Group, is_due, is_forced}
use Rattle.eip_history.specs.Births.{Asked, Story, story, births, asked, asked_of, made, made_at, made_by, made_for, next_number, part_births, group_births, queue_birth}
use Rattle.eip_history.specs.Place.{place_of, queued, is_in, is_born_into, waiting, number_of}
use Rattle.eip_history.specs.Rules.{KeepsRules, first, next}
use Rattle.eip_history.specs.Laws.{PlanLaws}
use Rattle.eip_history.specs.Tables.{AreNumberedFrom}
use Rattle.eip_history.specs.TableWords.{born_into, moves_waiting}
use Rattle.eip_history.proofs.Told.{births-numbered}
use Rattle.eip_history.proofs.Unborn.{legal-may, first-at, first-placed}
use Rattle.eip_history.proofs.Parts.{numbered-number}
use Rattle.eip_history.proofs.Lists.{filter-same, same-at, same-above}
use Rattle.eip_history.proofs.Limit.{not-same}
use Rattle.eip_history.proofs.Numbers.{newborn_place, numbers-after, numbers-at-is}
use Rattle.eip_history.proofs.Acting.{is_acting, in-other, in-acting, in-started, entry-actor}

newborn-in : (q : ℕ) (b : Birth) → is_in q (newborn_place b) ≡ is_born_into q b.origin
newborn-in q b = by_origin b.origin
  where
    by_origin : (r : Origin) → is_in q (queued r false place_is.Ready) ≡ is_born_into q r
    by_origin (from.Queue n) = refl
    by_origin (from.Source n i) = refl
    by_origin (from.Part n i) = refl
    by_origin (from.Group n) = refl

-- behind an entry: those who wait by a test that tells it, and who is born into the queue
waiting-more : (s : Plan) (laws : PlanLaws s) (w limit : ℕ) (e : Entry) (past : Past) (q : ℕ) (p : Birth → Bool) → KeepsRules s w limit (e ∷ past)
    → filter (λ (b : Birth). is_in q (place_of s (e ∷ past) b)) (births s past) ≡ filter p (births s past)
    → waiting s (e ∷ past) q ≡ map number_of (filter p (births s past)) ++ born_into q (made_at s past e.kind)
waiting-more s laws w limit e past q p legal h =
    numbers-after s laws w limit e past legal (is_in q) p h
    ∙ ap (λ bs. map number_of (filter p (births s past)) ++ map number_of bs)
    (filter-same (λ (b : Birth). is_in q (newborn_place b)) (λ (b : Birth). is_born_into q b.origin) (made_at s past e.kind) (newborn-in q))

-- an entry of n alone, who acts
same-own : (s : Plan) (w limit v n : ℕ) (k : Kind) (past : Past) (q : ℕ) → KeepsRules s w limit ((record { worker = v; kind = k }) ∷ past)
    → concerns n k ≡ true → is_start k ≡ false → ((y : ℕ) → y ≢ n → concerns y k ≡ false)
    → filter (λ (b : Birth). is_in q (place_of s ((record { worker = v; kind = k }) ∷ past) b)) (births s past)
    ≡ filter (λ (b : Birth). is_in q (place_of s past b)) (births s past)
same-own s w limit v n k past q legal here f only =
    let r = entry-actor s limit past v n k (legal-may s w limit _ past legal) here f in
    at-number n r.birth r.born r.acting here only
  where
    e : Entry
    e = record { worker = v; kind = k }

    at-number : (x : ℕ) (b : Birth) → numbered (births s past) x ≡ Some b → is_acting (place_of s past b) ≡ true → concerns x k ≡ true
        → ((y : ℕ) → y ≢ x → concerns y k ≡ false)
        → filter (λ (d : Birth). is_in q (place_of s (e ∷ past) d)) (births s past) ≡ filter (λ (d : Birth). is_in q (place_of s past d)) (births s past)
    at-number zero b at act c o = absurd (cc at)
    at-number (suc i) b at act c o =
        same-at (λ (d : Birth). is_in q (place_of s (e ∷ past) d)) (λ (d : Birth). is_in q (place_of s past d)) 1 (births s past) i (births-numbered s past)
        (λ d ne. in-other s e past d q (o d.number (λ g. ne (omega (arith, g)))))
        (λ d u.
        let same : d ≡ b = cc in
        let m : b.number ≡ suc i = numbered-number s past (suc i) b at in
        let both = in-acting s e past b q act (rw m c) in
        rw same (both.1 ∙ sym both.0))

-- an entry that is no Start takes nobody out of a queue; who is born into the queue goes to its end
pub waiting-same : (s : Plan) (laws : PlanLaws s) (w limit v : ℕ) (k : Kind) (past : Past) (q : ℕ)
    → KeepsRules s w limit ((record { worker = v; kind = k }) ∷ past) → is_start k ≡ false
    → waiting s ((record { worker = v; kind = k }) ∷ past) q ≡ waiting s past q ++ born_into q (made_at s past k)
waiting-same s laws w limit v k past q legal f =
    waiting-more s laws w limit _ past q (λ (b : Birth). is_in q (place_of s past b)) legal (by_kind k legal f)
    ∙ ap (λ xs. xs ++ born_into q (made_at s past k)) (numbers-at-is s past (is_in q))
  where
    Same : Kind → Type 0
    Same k' = filter (λ (b : Birth). is_in q (place_of s ((record { worker = v; kind = k' }) ∷ past) b)) (births s past)
        ≡ filter (λ (b : Birth). is_in q (place_of s past b)) (births s past)

    nobody : (k' : Kind) → ((x : ℕ) → concerns x k' ≡ false) → Same k'
    nobody k' none = filter-same _ _ (births s past) (λ b. in-other s (record { worker = v; kind = k' }) past b q (none b.number))

    by_kind : (k' : Kind) → KeepsRules s w limit ((record { worker = v; kind = k' }) ∷ past) → is_start k' ≡ false → Same k'
    by_kind (Start r n) l g = absurd (cc g)
    by_kind (Take n) l g = same-own s w limit v n (Take n) past q l (eq-eqb n n refl) refl (λ y ne. not-same y n ne)
    by_kind (Answer n a) l g = same-own s w limit v n (Answer n a) past q l (eq-eqb n n refl) refl (λ y ne. not-same y n ne)
    by_kind (Starve n) l g = same-own s w limit v n (Starve n) past q l (eq-eqb n n refl) refl (λ y ne. not-same y n ne)
    by_kind (Return n) l g = same-own s w limit v n (Return n) past q l (eq-eqb n n refl) refl (λ y ne. not-same y n ne)
    by_kind _ l g = nobody _ (λ x. refl)

-- where the first who passes is the only one who passes no longer
first-leaves : (p q : Birth → Bool) (n : ℕ) (bs : List Birth) (x : ℕ) → AreNumberedFrom n bs → first (map number_of (filter p bs)) ≡ Some x
    → ((b : Birth) → b.number ≢ x → q b ≡ p b) → ((b : Birth) → b.number ≡ x → q b ≡ false)
    → map number_of (filter p bs) ≡ x ∷ map number_of (filter q bs)
first-leaves p q n [] x ns h other gone = absurd (cc h)
first-leaves p q n (b ∷ bs) x ns h other gone = by_test (p b) refl h (λ g. first-leaves p q (n + 1) bs x ns.1 g other gone)
  where
    by_test : (v : Bool) → p b ≡ v → first (map number_of (cond v (b ∷ filter p bs) (filter p bs))) ≡ Some x
        → (first (map number_of (filter p bs)) ≡ Some x → map number_of (filter p bs) ≡ x ∷ map number_of (filter q bs))
        → map number_of (cond (p b) (b ∷ filter p bs) (filter p bs)) ≡ x ∷ map number_of (cond (q b) (b ∷ filter q bs) (filter q bs))
    by_test true t g ih =
        let same : b.number ≡ x = cc in
        let rest = same-above q p n (n + 1) bs (omega arith) ns.1 (λ d ne. other d (λ u. ne (omega (arith, u, same, ns.0)))) in
        rw (t, gone b same, rest, same) refl
    by_test false t g ih =
        let r = first-at p (n + 1) bs x ns.1 g in
        let ne : b.number ≢ x = λ u. omega (arith, u, ns.0, r.3) in
        rw (t, other b ne, t) (ih g)

-- a Start takes the first out of its queue, and nobody out of another
pub waiting-start : (s : Plan) (laws : PlanLaws s) (w limit v r n : ℕ) (past : Past) (q : ℕ) → KeepsRules s w limit ((record { worker = v; kind = Start r n }) ∷ past)
    → waiting s past q ≡ cond (r == q) (n ∷ waiting s ((record { worker = v; kind = Start r n }) ∷ past) q) (waiting s ((record { worker = v; kind = Start r n }) ∷ past) q)
waiting-start s laws w limit v r n past q legal = elim (cases_Bool (r == q)) [ inl t ↦ rw t (in_queue t) | inr f ↦ rw f (in_other f) ]
  where
    e : Entry
    e = record { worker = v; kind = Start r n }

    behind : waiting s (e ∷ past) q ≡ map number_of (filter (λ (b : Birth). is_in q (place_of s (e ∷ past) b)) (births s past))
    behind = waiting-more s laws w limit e past q (λ (b : Birth). is_in q (place_of s (e ∷ past) b)) legal refl ∙ append-nil _

    first_is : first (waiting s past r) ≡ Some n
    first_is = (legal-may s w limit e past legal).0

    in_queue : (r == q) ≡ true → waiting s past q ≡ n ∷ waiting s (e ∷ past) q
    in_queue t =
        let same : r ≡ q = eqb-true r q t in
        let here : first (map number_of (filter (λ (b : Birth). is_in q (place_of s past b)) (births s past))) ≡ Some n =
        ap first (numbers-at-is s past (is_in q)) ∙ subst (λ (u : ℕ). first (waiting s past u) ≡ Some n) same first_is in
        sym (numbers-at-is s past (is_in q))
        ∙ (first-leaves (λ (b : Birth). is_in q (place_of s past b)) (λ (b : Birth). is_in q (place_of s (e ∷ past) b)) 1 (births s past) n (births-numbered s past) here
        (λ b ne. in-other s e past b q (not-same b.number n ne)) (λ b m. in-started s e past b q (eq-eqb n b.number (sym m)) refl)
        ∙ ap (λ xs. n ∷ xs) (sym behind))

    not_there : (b : Birth) → (r == q) ≡ false → is_in r (place_of s past b) ≡ true → is_in q (place_of s past b) ≡ false
    not_there b f h = by_place (place_of s past b) h
      where
        by_place : (p : Place) → is_in r p ≡ true → is_in q p ≡ false
        by_place (place_is.Queue u) g = let same : u ≡ r = eqb-true u r g in rw (same, f) refl
        by_place (place_is.Ended u) g = refl
        by_place (place_is.InHand u) g = refl
        by_place (place_is.Retry u) g = refl
        by_place place_is.Joining g = refl
        by_place place_is.Ready g = refl

    in_other : (r == q) ≡ false → waiting s past q ≡ waiting s (e ∷ past) q
    in_other f =
        let b = first-placed s past (is_in r) n first_is in
        let m = numbered-number s past n b.0 b.1 in
        at-number n b.0 b.1 (not_there b.0 f b.2) (in-started s e past b.0 q (eq-eqb n b.0.number (sym m)) refl) (λ y ne. not-same y n ne)
      where
        at-number : (x : ℕ) (b : Birth) → numbered (births s past) x ≡ Some b → is_in q (place_of s past b) ≡ false
            → is_in q (place_of s (e ∷ past) b) ≡ false → ((y : ℕ) → y ≢ x → concerns y (Start r n) ≡ false)
            → waiting s past q ≡ waiting s (e ∷ past) q
        at-number zero b at was now only = absurd (cc at)
        at-number (suc i) b at was now only =
            sym (numbers-at-is s past (is_in q))
            ∙ (ap (map number_of) (same-at (λ (d : Birth). is_in q (place_of s past d)) (λ (d : Birth). is_in q (place_of s (e ∷ past) d)) 1 (births s past) i (births-numbered s past)
            (λ d ne. sym (in-other s e past d q (only d.number (λ g. ne (omega (arith, g))))))
            (λ d u. let same : d ≡ b = cc in rw same (was ∙ sym now)))
            ∙ sym behind)

-- ---- who is born into a queue

parts-apart : (q n : ℕ) (k : Asked) (i : ℕ) (ds : List Seed) → born_into q (part_births n k i ds) ≡ []
parts-apart q n k i [] = refl
parts-apart q n k i (d ∷ ds) = parts-apart q (n + 1) k (i + 1) ds

groups-apart : (q : ℕ) (s : Plan) (n : ℕ) (c : Completion) (gs : List Group) → born_into q (group_births s n c gs) ≡ []
groups-apart q s n c [] = refl
groups-apart q s n c (g ∷ gs) = groups-apart q s (n + 1) c gs

none-for : (q : ℕ) (s : Plan) (t : Story) (past : Past) (k : Asked) (r : Request) (x : ℕ) (a : Reply) → moves_waiting (Answer x a) ≡ false
    → born_into q (made_for s t past k r a) ≡ []
none-for q s t past k (request.Offer u discard m) x (reply.Queued n) h = absurd (cc h)
none-for q s t past k (request.Spawn seeds) x (reply.Born n count) h = parts-apart q (next_number t) k k.at.index seeds
none-for q s t past k (request.Arrive a key m) x (reply.Closed g c n) h = refl
none-for q s t past k _ x _ h = refl

none-by : (q : ℕ) (s : Plan) (t : Story) (past : Past) (o : Option Asked) (x : ℕ) (a : Reply) → moves_waiting (Answer x a) ≡ false
    → born_into q (made_by s t past o a) ≡ []
none-by q s t past None x a h = refl
none-by q s t past (Some k) x a h = none-for q s t past k k.request x a h

none-made : (q : ℕ) (s : Plan) (t : Story) (past : Past) (k : Kind) → moves_waiting k ≡ false → born_into q (made s t past k) ≡ []
none-made q s t past (Accept source item m) h = refl
none-made q s t past (Answer x a) h = none-by q s t past (asked_of s past (numbered t.births x)) x a h
none-made q s t past (Tick now) h = groups-apart q s (next_number t) by.Timeout (filter (is_due s now) t.groups)
none-made q s t past Force h = groups-apart q s (next_number t) by.Force (filter (is_forced s) t.groups)
none-made q s t past _ h = refl

-- an entry by which nobody comes into a queue or leaves it
pub waiting-stay : (s : Plan) (laws : PlanLaws s) (w limit v : ℕ) (k : Kind) (past : Past) (q : ℕ)
    → KeepsRules s w limit ((record { worker = v; kind = k }) ∷ past) → moves_waiting k ≡ false
    → waiting s ((record { worker = v; kind = k }) ∷ past) q ≡ waiting s past q
waiting-stay s laws w limit v k past q legal h =
    waiting-same s laws w limit v k past q legal (no-start k h)
    ∙ (ap (λ xs. waiting s past q ++ xs) (none-made q s (story s past) past k h) ∙ append-nil (waiting s past q))
  where
    no-start : (k' : Kind) → moves_waiting k' ≡ false → is_start k' ≡ false
    no-start (Start r n) g = absurd (cc g)
    no-start _ g = refl

-- an offer that is queued puts the next number at the end of its queue, and leaves each other as it was
pub waiting-offer : (s : Plan) (laws : PlanLaws s) (w limit v x n : ℕ) (past : Past) (k : Asked) (r : ℕ) (discard : Bool) (m : Message) (q : ℕ)
    → KeepsRules s w limit ((record { worker = v; kind = Answer x (reply.Queued n) }) ∷ past) → asked s past x ≡ Some k → k.request ≡ request.Offer r discard m
    → waiting s ((record { worker = v; kind = Answer x (reply.Queued n) }) ∷ past) q ≡ waiting s past q ++ cond (r == q) (next s past ∷ []) []
waiting-offer s laws w limit v x n past k r discard m q legal at same =
    waiting-same s laws w limit v (Answer x (reply.Queued n)) past q legal refl
    ∙ (ap (λ o. waiting s past q ++ born_into q (made_by s (story s past) past o (reply.Queued n))) at
    ∙ (ap (λ u. waiting s past q ++ born_into q (made_for s (story s past) past k u (reply.Queued n))) same
    ∙ ap (λ xs. waiting s past q ++ xs) (elim (r == q) as (λ u. map number_of (cond u (queue_birth s (next s past) k r m ∷ []) []) ≡ cond u (next s past ∷ []) []) [
      | true ↦ refl
      | false ↦ refl
    ])))

-- Turns and hands stay within the limit.
use Rattle.std.proofs.Common.{◌≡◌, ◌≢◌, ℕ, zero, suc, ◌+◌, ◌<◌, ◌≤◌, Bool, true, false, ◌==◌, List, [], ◌∷◌, length, filter, Some, None, is_some, refl, sym, ap, subst, ◌∙◌, arith, eq-eqb, cond, length-append, inl, inr}
use Rattle.std.specs.List.{slice_get}
use Rattle.std.proofs.lemmas.Bool.{ne_eqb, cases_Bool, eqb-true}
use Rattle.std.proofs.lemmas.List.{append-nil}
use Rattle.std.proofs.lemmas.List.Elements.{filter-append}
use Rattle.eip_exchange.specs.declared.birth.Birth.{Birth}
use Rattle.eip_frames.specs.Fits.{is_outside}
use Rattle.eip_ledger.specs.declared.entry.Entry.{Entry}
use Rattle.eip_ledger.specs.declared.entry.Kind.{Kind}
use Rattle.eip_ledger.specs.declared.entry.Kind.TheVariants.{Pull, Accept, Refuse, SourceEnd, SourceFault, Start, Take, Answer, Tick, Force, Starve, Return}
use Rattle.eip_ledger.specs.declared.place.Place.TheVariants as place_is
use Rattle.eip_history.specs.Plan.{Plan}
use Rattle.eip_history.specs.Own.{Past, own, concerns, numbered, numbers_below, taker, SourceState, Out, source_state, is_out, turns, turns_in, moved, taken_by}
use Rattle.eip_history.specs.Births.{story, births, made_at}
use Rattle.eip_history.specs.Place.{place_of, hands, pulls_out, takes_out, is_taken}
use Rattle.eip_history.specs.Rules.{KeepsRules, MayAct, IsSource}
use Rattle.eip_history.specs.Tables.{AreNumberedFrom, bit}
use Rattle.eip_history.proofs.Told.{births-numbered, births-more, made-numbered, own-other, own-here}
use Rattle.eip_history.proofs.Parts.{numbered-number}
use Rattle.eip_history.proofs.Lists.{filter-same, count-at as count-change}
use Rattle.eip_history.proofs.Unborn.{newborn-own, place-born, entry-born}
use Rattle.eip_history.proofs.Stuck.{Standing, InEnd, InQueue, Held, Asleep, Waits, Able, standing}

-- the passing numbers below a bound, where one number's test changes
pub below-above : (p q : ℕ → Bool) (n t : ℕ) → n ≤ t → ((u : ℕ) → u ≢ t → p u ≡ q u) → numbers_below q n ≡ numbers_below p n
below-above p q zero t l h = refl
below-above p q (suc n) t l h = rw (h n (omega (arith, l)), below-above p q n t (omega (arith, l)) h) refl

below-change : (p q : ℕ → Bool) (n t : ℕ) → t < n → ((u : ℕ) → u ≢ t → p u ≡ q u)
    → length (numbers_below q n) + bit (p t) ≡ length (numbers_below p n) + bit (q t)
below-change p q zero t l h = absurd (omega (arith, l))
below-change p q (suc n) t l h =
    let lq = length-append (numbers_below q n) (cond (q n) (n ∷ []) []) in
    let lp = length-append (numbers_below p n) (cond (p n) (n ∷ []) []) in
    let bq = bit-length (q n) n in
    let bp = bit-length (p n) n in
    elim (cases_Bool (t == n)) [
      | inl y ↦ (let same = eqb-true t n y in let a = ap length (below-above p q n t (omega (arith, same)) h) in rw same (omega (arith, lq, lp, bq, bp, a)))
      | inr f ↦ (let ne : n ≢ t = λ same. let k = eq-eqb t n (sym same) in cc in
          let ih = below-change p q n t (omega (arith, l, ne)) h in let b = ap bit (h n ne) in omega (arith, lq, lp, bq, bp, ih, b))
    ]
  where
    bit-length : (v : Bool) (x : ℕ) → length (cond v (x ∷ []) []) ≡ bit v
    bit-length true x = refl
    bit-length false x = refl

below-same : (p q : ℕ → Bool) (n : ℕ) → ((u : ℕ) → p u ≡ q u) → numbers_below q n ≡ numbers_below p n
below-same p q zero h = refl
below-same p q (suc n) h = rw (h n, below-same p q n h) refl

-- an entry of no source
pub pulls-same : (s : Plan) (e : Entry) (past : Past) → ((u : ℕ) (was : SourceState) → moved e.worker u e.kind was ≡ was)
    → pulls_out s (e ∷ past) ≡ pulls_out s past
unfolding pulls_out source_state
pulls-same s e past h =
    ap length (below-same (λ t. is_out (source_state t past)) (λ t. is_out (source_state t (e ∷ past))) s.routes (λ u. ap is_out (sym (h u (source_state u past)))))

-- an entry of source t
pub pulls-change : (s : Plan) (e : Entry) (past : Past) (t : ℕ) → t < s.routes → ((u : ℕ) (was : SourceState) → u ≢ t → moved e.worker u e.kind was ≡ was)
    → pulls_out s (e ∷ past) + bit (is_out (source_state t past)) ≡ pulls_out s past + bit (is_out (source_state t (e ∷ past)))
unfolding pulls_out source_state
pulls-change s e past t l h =
    below-change (λ u. is_out (source_state u past)) (λ u. is_out (source_state u (e ∷ past))) s.routes t l (λ u ne. ap is_out (sym (h u (source_state u past) ne)))

-- the newborn are in nobody's hand
above-none : (past : Past) (n m : ℕ) (bs : List Birth) → n < m → ((x : ℕ) → n < x → own x past ≡ []) → AreNumberedFrom m bs → filter (is_taken past) bs ≡ []
above-none past n m [] l h ns = refl
above-none past n m (b ∷ bs) l h ns = let o = h b.number (omega (arith, ns.0, l)) in rw o (above-none past n (m + 1) bs (omega (arith, l)) h ns.1)

takes-old : (s : Plan) (w limit : ℕ) (e : Entry) (past : Past) → KeepsRules s w limit (e ∷ past)
    → takes_out s (e ∷ past) ≡ length (filter (is_taken (e ∷ past)) (births s past))
unfolding takes_out
takes-old s w limit e past legal =
    let none = above-none (e ∷ past) (length (births s past)) (length (births s past)
    + 1) (made_at s past e.kind) (omega arith) (λ x l. newborn-own s w limit e past x legal l) (made-numbered s past e.kind) in
    rw (
      (births-more s e past),
      filter-append (is_taken (e ∷ past)) (births s past) (made_at s past e.kind),
      none,
      append-nil
          (filter (is_taken (e ∷ past)) (births s past)),
    ) refl

-- an entry of no exchange
takes-same : (s : Plan) (w limit : ℕ) (e : Entry) (past : Past) → KeepsRules s w limit (e ∷ past) → ((x : ℕ) → concerns x e.kind ≡ false)
    → takes_out s (e ∷ past) ≡ takes_out s past
unfolding takes_out
takes-same s w limit e past legal h =
    takes-old s w limit e past legal
    ∙ ap length (filter-same (is_taken (e ∷ past)) (is_taken past) (births s past) (λ b. ap (λ o. is_some (taker o)) (own-other b.number e past (h b.number))))

-- an entry of exchange x
takes-change : (s : Plan) (w limit : ℕ) (e : Entry) (past : Past) (i : ℕ) (b : Birth) → KeepsRules s w limit (e ∷ past)
    → slice_get (births s past) i ≡ Some b → ((x : ℕ) → x ≢ suc i → concerns x e.kind ≡ false)
    → takes_out s (e ∷ past) + bit (is_taken past b) ≡ takes_out s past + bit (is_taken (e ∷ past) b)
unfolding takes_out
takes-change s w limit e past i b legal at h =
    let old = takes-old s w limit e past legal in
    let c = count-change (is_taken past) (is_taken (e ∷ past)) 1 (births s past) i b at (births-numbered s past)
    (λ d ne. ap (λ o. is_some (taker o)) (sym (own-other d.number e past (h d.number (λ y. ne (omega (arith, y))))))) in
    omega (arith, old, c)

bit-most : (v : Bool) → bit v ≤ 1
bit-most true = omega arith
bit-most false = omega arith

takes-of : (s : Plan) (w limit : ℕ) (e : Entry) (past : Past) (x : ℕ) (b : Birth) → KeepsRules s w limit (e ∷ past) → numbered (births s past) x ≡ Some b
    → ((y : ℕ) → y ≢ x → concerns y e.kind ≡ false)
    → takes_out s (e ∷ past) + bit (is_taken past b) ≡ takes_out s past + bit (is_taken (e ∷ past) b)
takes-of s w limit e past zero b legal at h = absurd (cc at)
takes-of s w limit e past (suc i) b legal at h = takes-change s w limit e past i b legal at h

-- who is in hand by its place has a Take as newest entry
pub in-hand-taken : (s : Plan) (past : Past) (b : Birth) (w : ℕ) → place_of s past b ≡ place_is.InHand w → is_taken past b ≡ true
in-hand-taken s past b w h = by_standing (standing s past b)
  where
    by_standing : Standing s past b → is_taken past b ≡ true
    by_standing (InEnd e p t) = absurd (cc p)
    by_standing (InQueue q o p) = absurd (cc p)
    by_standing (Held v t p) = ap is_some t
    by_standing (Asleep d sl lt_now p) = absurd (cc p)
    by_standing (Able p) = absurd (cc p)
    by_standing (Waits f c la a p) = absurd (cc p)

pub not-same : (x n : ℕ) → x ≢ n → (n == x) ≡ false
not-same x n ne = ne_eqb n x (λ e. ne (sym e))

taken-after : (s : Plan) (e : Entry) (past : Past) (x : ℕ) (b : Birth) → numbered (births s past) x ≡ Some b → concerns x e.kind ≡ true
    → taken_by e.worker e.kind ≡ None → is_taken (e ∷ past) b ≡ false
taken-after s e past x b at c t =
    let n = numbered-number s past x b at in
    ap (λ o. is_some (taker o)) (own-here b.number e past (rw n c)) ∙ ap is_some t

-- an entry of x that is no Take takes nobody in hand
takes-fall : (s : Plan) (w limit : ℕ) (e : Entry) (past : Past) (x : ℕ) (b : Birth) → KeepsRules s w limit (e ∷ past)
    → numbered (births s past) x ≡ Some b → ((y : ℕ) → y ≢ x → concerns y e.kind ≡ false)
    → concerns x e.kind ≡ true → taken_by e.worker e.kind ≡ None → takes_out s (e ∷ past) + bit (is_taken past b) ≡ takes_out s past
takes-fall s w limit e past x b legal at only c t =
    let h = takes-of s w limit e past x b legal at only in
    let z = ap bit (taken-after s e past x b at c t) in
    omega (arith, h, z)

pub turns-more : (e : Entry) (past : Past) → turns (e ∷ past) ≡ turns past + turns_in e.kind
unfolding turns
turns-more e past = refl

pub source-after : (w t : ℕ) (k : Kind) (past : Past) → source_state t ((record { worker = w; kind = k }) ∷ past) ≡ moved w t k (source_state t past)
unfolding source_state
source-after w t k past = refl

pub within-source : (s : Plan) (w limit v t : ℕ) (k : Kind) (past : Past) → KeepsRules s w limit ((record { worker = v; kind = k }) ∷ past) → IsSource s t
    → source_state t past ≡ Out v
    → ((x : ℕ) → concerns x k ≡ false) → ((u : ℕ) (was : SourceState) → u ≢ t → moved v u k was ≡ was) → is_out (moved v t k (source_state t past)) ≡ false
    → hands s ((record { worker = v; kind = k }) ∷ past) + 1 ≡ hands s past
within-source s w limit v t k past legal source out none other after =
    let e : Entry = record { worker = v; kind = k } in
    let ts = takes-same s w limit e past legal none in
    let ps = pulls-change s e past t source.0 other in
    let a = ap bit (ap is_out (source-after v t k past) ∙ after) in
    let b : bit (is_out (source_state t past)) ≡ 1 = ap (λ st. bit (is_out st)) out in
    omega (arith, ts, ps, a, b)

pub within-own : (s : Plan) (w limit v x : ℕ) (k : Kind) (past : Past) (b : Birth) → KeepsRules s w limit ((record { worker = v; kind = k }) ∷ past)
    → numbered (births s past) x ≡ Some b
    → ((y : ℕ) → y ≢ x → concerns y k ≡ false) → concerns x k ≡ true → taken_by v k ≡ None → ((u : ℕ) (was : SourceState) → moved v u k was ≡ was)
    → hands s ((record { worker = v; kind = k }) ∷ past) + bit (is_taken past b) ≡ hands s past
within-own s w limit v x k past b legal at only c t none =
    let e : Entry = record { worker = v; kind = k } in
    let ts = takes-fall s w limit e past x b legal at only c t in
    let ps = pulls-same s e past none in
    omega (arith, ts, ps)

pub within-take : (s : Plan) (w limit v x : ℕ) (past : Past) (b : Birth) → KeepsRules s w limit ((record { worker = v; kind = Take x }) ∷ past)
    → numbered (births s past) x ≡ Some b → hands s ((record { worker = v; kind = Take x }) ∷ past) ≤ hands s past + 1
within-take s w limit v x past b legal at =
    let e : Entry = record { worker = v; kind = Take x } in
    let ts = takes-of s w limit e past x b legal at (λ y ne. not-same y x ne) in
    let ps = pulls-same s e past (λ u was. refl) in
    omega (arith, ts, ps, bit-most (is_taken (e ∷ past) b))

pub within-pull : (s : Plan) (w limit v t : ℕ) (past : Past) → KeepsRules s w limit ((record { worker = v; kind = Pull t }) ∷ past) → t < s.routes
    → hands s ((record { worker = v; kind = Pull t }) ∷ past) ≤ hands s past + 1
within-pull s w limit v t past legal l =
    let e : Entry = record { worker = v; kind = Pull t } in
    let ts = takes-same s w limit e past legal (λ x. refl) in
    let ps = pulls-change s e past t l (λ u was ne. rw (not-same u t ne) refl) in
    omega (arith, ts, ps, bit-most (is_out (source_state t (e ∷ past))))

pub within-none : (s : Plan) (w limit v : ℕ) (k : Kind) (past : Past) → KeepsRules s w limit ((record { worker = v; kind = k }) ∷ past)
    → ((x : ℕ) → concerns x k ≡ false) → ((u : ℕ) (was : SourceState) → moved v u k was ≡ was)
    → hands s ((record { worker = v; kind = k }) ∷ past) ≡ hands s past
within-none s w limit v k past legal none same =
    let e : Entry = record { worker = v; kind = k } in
    let ts = takes-same s w limit e past legal none in
    let ps = pulls-same s e past same in
    omega (arith, ts, ps)

none-turns : turns [] ≡ 0
unfolding turns
none-turns = refl

below-nobody : (n : ℕ) → numbers_below (λ t. false) n ≡ []
below-nobody zero = refl
below-nobody (suc n) = rw (below-nobody n) refl

none-hands : (s : Plan) → hands s [] ≡ 0
unfolding pulls_out takes_out source_state story
none-hands s = rw (below-nobody s.routes) refl

-- turns and hands stay within the limit
pub legal-within : (s : Plan) (w limit : ℕ) (past : Past) → KeepsRules s w limit past → turns past + hands s past ≤ limit
unfolding KeepsRules
legal-within s w limit [] legal = omega (arith, none-turns, none-hands s)
legal-within s w limit (e ∷ past) legal = step e.kind legal (legal-within s w limit past legal.0)
  where
    step : (k : Kind) → KeepsRules s w limit ((record { worker = e.worker; kind = k }) ∷ past) → turns past + hands s past ≤ limit
        → turns ((record { worker = e.worker; kind = k }) ∷ past) + hands s ((record { worker = e.worker; kind = k }) ∷ past) ≤ limit
    step (Pull t) l ih = omega (arith, turns-more (record { worker = e.worker; kind = Pull t }) past, l.2.2, within-pull s w limit e.worker t past l l.2.0.0)
    step (Accept t item m) l ih =
        omega (
          arith,
          turns-more (record { worker = e.worker; kind = Accept t item m }) past,
          ih,
          within-source s w limit e.worker t
              (Accept t item m) past l l.2.0 l.2.1
              (λ x. refl) (λ u was ne. rw (not-same u t ne) refl) (rw (eq-eqb t t refl) refl),
        )
    step (Refuse t item c) l ih =
        omega (
          arith,
          turns-more (record { worker = e.worker; kind = Refuse t item c }) past,
          ih,
          within-source s w limit e.worker t
              (Refuse t item c) past l l.2.0 l.2.1
              (λ x. refl) (λ u was ne. rw (not-same u t ne) refl) (rw (eq-eqb t t refl) refl),
        )
    step (SourceEnd t) l ih =
        omega (
          arith,
          turns-more (record { worker = e.worker; kind = SourceEnd t }) past,
          ih,
          within-source s w limit e.worker t (SourceEnd t) past l l.2.0 l.2.1
              (λ x. refl) (λ u was ne. rw (not-same u t ne) refl) (rw (eq-eqb t t refl) refl),
        )
    step (SourceFault t) l ih =
        omega (
          arith,
          turns-more (record { worker = e.worker; kind = SourceFault t }) past,
          ih,
          within-source s w limit e.worker t (SourceFault t) past l l.2.0 l.2.1
              (λ x. refl) (λ u was ne. rw (not-same u t ne) refl) (rw (eq-eqb t t refl) refl),
        )
    step (Start q x) l ih =
        let r = entry-born s limit past e.worker x (Start q x) l.2 (eq-eqb x x refl) in
        omega (
          arith,
          turns-more (record { worker = e.worker; kind = Start q x }) past,
          ih,
          within-own s w limit e.worker x (Start q x) past r.0 l r.1
              (λ y ne. not-same y x ne) (eq-eqb x x refl) refl (λ u was. refl),
        )
    step (Take x) l ih =
        let r = entry-born s limit past e.worker x (Take x) l.2 (eq-eqb x x refl) in
        omega (arith, turns-more (record { worker = e.worker; kind = Take x }) past, l.2.2, within-take s w limit e.worker x past r.0 l r.1)
    step (Answer x a) l ih =
        let r = entry-born s limit past e.worker x (Answer x a) l.2 (eq-eqb x x refl) in
        let h = within-own s w limit e.worker x (Answer x a) past r.0 l r.1 (λ y ne. not-same y x ne) (eq-eqb x x refl) refl (λ u was. refl) in
        by_side (is_outside l.2.asks.request) l.2.act r.0 r.1 h
      where
        by_side : (v : Bool) → MayAct s limit past e.worker x v → (b : Birth) → numbered (births s past) x ≡ Some b
            → hands s ((record { worker = e.worker; kind = Answer x a }) ∷ past) + bit (is_taken past b) ≡ hands s past
            → turns ((record { worker = e.worker; kind = Answer x a }) ∷ past) + hands s ((record { worker = e.worker; kind = Answer x a }) ∷ past) ≤ limit
        by_side true act b at h =
            let p = place-born s past x _ act in
            let same : p.0 ≡ b = let u = p.1 in cc in
            let t = ap bit (in-hand-taken s past b e.worker (subst (λ d. place_of s past d ≡ place_is.InHand e.worker) same p.2)) in
            omega (arith, turns-more (record { worker = e.worker; kind = Answer x a }) past, ih, h, t)
        by_side false act b at h = omega (arith, turns-more (record { worker = e.worker; kind = Answer x a }) past, act.1, h)
    step (Tick t) l ih =
        omega (arith, turns-more (record { worker = e.worker; kind = Tick t }) past, ih, within-none s w limit e.worker (Tick t) past l (λ x. refl) (λ u was. refl))
    step Force l ih =
        omega (arith, turns-more (record { worker = e.worker; kind = Force }) past, ih, within-none s w limit e.worker Force past l (λ x. refl) (λ u was. refl))
    step (Starve x) l ih =
        let r = entry-born s limit past e.worker x (Starve x) l.2 (eq-eqb x x refl) in
        omega (
          arith,
          turns-more (record { worker = e.worker; kind = Starve x }) past,
          ih,
          within-own s w limit e.worker x (Starve x) past r.0 l r.1
              (λ y ne. not-same y x ne) (eq-eqb x x refl) refl (λ u was. refl),
        )
    step (Return x) l ih = absurd l.2

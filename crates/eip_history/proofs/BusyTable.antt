-- What an entry does to how many are at work on each queue.
use Rattle.std.proofs.Common.{◌≡◌, ◌≢◌, ℕ, zero, suc, ◌+◌, Bool, true, false, ◌&&◌, ◌==◌, not, cond, List, [], ◌∷◌, ◌++◌, length, filter, filter_map, Some, None, is_some, refl, sym, ap, subst, ◌∙◌, arith, inl, inr, ◌⊎◌, eq-eqb}
use Rattle.std.proofs.lemmas.Bool.{and_right, cases_Bool, eqb-true}
use Rattle.std.proofs.lemmas.List.{append-nil}
use Rattle.eip_exchange.specs.declared.birth.Birth.{Birth}
use Rattle.eip_exchange.specs.declared.birth.Origin.{Origin}
use Rattle.eip_exchange.specs.declared.birth.Origin.TheVariants as from
use Rattle.eip_ledger.specs.declared.entry.Entry.{Entry}
use Rattle.eip_ledger.specs.declared.entry.Kind.{Kind}
use Rattle.eip_ledger.specs.declared.entry.Kind.TheVariants.{Start, Take, Answer, Starve, Return}
use Rattle.eip_ledger.specs.declared.place.Place.{Place}
use Rattle.eip_ledger.specs.declared.place.Place.TheVariants as place_is
use Rattle.eip_history.specs.Plan.{Plan}
use Rattle.eip_history.specs.Own.{Past, concerns, answer_in, is_start, is_starve, numbered}
use Rattle.eip_history.specs.Births.{births, made_at}
use Rattle.eip_history.specs.Place.{place_of, ended, end_of, queued, is_in, is_ended, is_busy, is_born_into, busy}
use Rattle.eip_history.specs.Rules.{KeepsRules}
use Rattle.eip_history.specs.Laws.{PlanLaws}
use Rattle.eip_history.specs.Tables.{bit}
use Rattle.eip_history.specs.TableWords.{moves_busy}
use Rattle.eip_history.proofs.Told.{births-numbered}
use Rattle.eip_history.proofs.Unborn.{legal-may, birth-stays, first-placed}
use Rattle.eip_history.proofs.Parts.{numbered-number}
use Rattle.eip_history.proofs.Lists.{filter-same, count-at}
use Rattle.eip_history.proofs.Places.{fate-other, ended-is}
use Rattle.eip_history.proofs.Limit.{not-same}
use Rattle.eip_history.proofs.Moves.{ends-nobody}
use Rattle.eip_history.proofs.Numbers.{newborn_place}
use Rattle.eip_history.proofs.Picked.{picked-after}
use Rattle.eip_history.proofs.PickedEnds.{busy-picked, length-picked}
use Rattle.eip_history.proofs.Acting.{is_acting, in-other, in-acting, end-is, acting-lives, entry-actor, in-started, waiting-born, waiting-lives}

newborn-idle : (q : ℕ) (b : Birth) → is_busy q b (newborn_place b) ≡ false
newborn-idle q b = by_origin b.origin
  where
    by_origin : (r : Origin) → (is_born_into q r && (not (is_in q (queued r false place_is.Ready)) && not (is_ended (queued r false place_is.Ready)))) ≡ false
    by_origin (from.Queue n) = elim (n == q) as (λ v. (v && (not v && true)) ≡ false) [ true ↦ refl | false ↦ refl ]
    by_origin (from.Source n i) = refl
    by_origin (from.Part n i) = refl
    by_origin (from.Group n) = refl

none-picked : (q : ℕ) (bs : List Birth) → filter_map (λ (b : Birth). cond (is_busy q b (newborn_place b)) (Some b) None) bs ≡ []
none-picked q [] = refl
none-picked q (b ∷ bs) = rw (newborn-idle q b) (none-picked q bs)

-- nobody who is born by an entry is at work
pub busy-more : (s : Plan) (laws : PlanLaws s) (w limit : ℕ) (e : Entry) (past : Past) (q : ℕ) → KeepsRules s w limit (e ∷ past)
    → busy s (e ∷ past) q ≡ length (filter (λ (b : Birth). is_busy q b (place_of s (e ∷ past) b)) (births s past))
busy-more s laws w limit e past q legal =
    busy-picked s (e ∷ past) q
    ∙ (ap length (picked-after s laws w limit e past legal (λ b p. cond (is_busy q b p) (Some b) None)
    ∙ (ap (λ xs. filter_map (λ (b : Birth). cond (is_busy q b (place_of s (e ∷ past) b)) (Some b) None) (births s past) ++ xs) (none-picked q (made_at s past e.kind))
    ∙ append-nil _))
    ∙ sym (length-picked (λ (b : Birth). is_busy q b (place_of s (e ∷ past) b)) (births s past)))

busy-now : (s : Plan) (past : Past) (q : ℕ) → busy s past q ≡ length (filter (λ (b : Birth). is_busy q b (place_of s past b)) (births s past))
unfolding busy
busy-now s past q = refl

busy-other : (s : Plan) (e : Entry) (past : Past) (b : Birth) (q : ℕ) → concerns b.number e.kind ≡ false
    → is_busy q b (place_of s (e ∷ past) b) ≡ is_busy q b (place_of s past b)
busy-other s e past b q c =
    let i = in-other s e past b q c in
    let f = end-is s (e ∷ past) b ∙ (ap (λ g. is_some (end_of g)) (fate-other s e past b c) ∙ sym (end-is s past b)) in
    ap (λ v. is_born_into q b.origin && (not v && not (is_ended (place_of s (e ∷ past) b)))) i
    ∙ ap (λ v. is_born_into q b.origin && (not (is_in q (place_of s past b)) && not v)) f

-- an entry of nobody
pub busy-same : (s : Plan) (laws : PlanLaws s) (w limit : ℕ) (e : Entry) (past : Past) (q : ℕ) → KeepsRules s w limit (e ∷ past)
    → ((x : ℕ) → concerns x e.kind ≡ false) → busy s (e ∷ past) q ≡ busy s past q
busy-same s laws w limit e past q legal none =
    busy-more s laws w limit e past q legal
    ∙ (ap length (filter-same _ _ (births s past) (λ b. busy-other s e past b q (none b.number))) ∙ sym (busy-now s past q))

busy-change : (s : Plan) (laws : PlanLaws s) (w limit : ℕ) (e : Entry) (past : Past) (q x : ℕ) (b : Birth) → KeepsRules s w limit (e ∷ past)
    → numbered (births s past) x ≡ Some b → ((y : ℕ) → y ≢ x → concerns y e.kind ≡ false)
    → busy s (e ∷ past) q + bit (is_busy q b (place_of s past b)) ≡ busy s past q + bit (is_busy q b (place_of s (e ∷ past) b))
busy-change s laws w limit e past q zero b legal at only = absurd (cc at)
busy-change s laws w limit e past q (suc i) b legal at only =
    let m = busy-more s laws w limit e past q legal in
    let n = busy-now s past q in
    let c = count-at (λ (d : Birth). is_busy q d (place_of s past d)) (λ (d : Birth). is_busy q d (place_of s (e ∷ past) d)) 1 (births s past) i b at (births-numbered s past)
    (λ d ne. sym (busy-other s e past d q (only d.number (λ g. ne (omega (arith, g)))))) in
    omega (arith, m, n, c)

-- an entry of x, who acts: where x came through the queue, one fewer is at work if it ends
pub busy-own : (s : Plan) (laws : PlanLaws s) (w limit : ℕ) (e : Entry) (past : Past) (q x : ℕ) (b : Birth) → KeepsRules s w limit (e ∷ past)
    → numbered (births s past) x ≡ Some b → concerns x e.kind ≡ true → is_start e.kind ≡ false → ((y : ℕ) → y ≢ x → concerns y e.kind ≡ false)
    → busy s (e ∷ past) q + bit (is_born_into q b.origin && is_some (ended s (e ∷ past) x)) ≡ busy s past q
busy-own s laws w limit e past q x b legal at c f only =
    let r = entry-actor s limit past e.worker x e.kind (legal-may s w limit e past legal) c f in
    let same : r.birth ≡ b = let u = r.born in cc in
    let act : is_acting (place_of s past b) ≡ true = subst (λ d. is_acting (place_of s past d) ≡ true) same r.acting in
    let n = numbered-number s past x b at in
    let out = in-acting s e past b q act (rw n c) in
    let lives = acting-lives (place_of s past b) act in
    let end : is_ended (place_of s (e ∷ past) b) ≡ is_some (ended s (e ∷ past) x) =
    end-is s (e ∷ past) b ∙ ap is_some (sym (ended-is s (e ∷ past) x b (birth-stays s e past x b at))) in
    by_bits (is_born_into q b.origin) (is_some (ended s (e ∷ past) x)) _ _ _ _ out.0 lives out.1 end
    (busy-change s laws w limit e past q x b legal at only)
  where
    by_bits : (r v i d i' d' : Bool) → i ≡ false → d ≡ false → i' ≡ false → d' ≡ v
        → busy s (e ∷ past) q + bit (r && (not i && not d)) ≡ busy s past q + bit (r && (not i' && not d'))
        → busy s (e ∷ past) q + bit (r && v) ≡ busy s past q
    by_bits true true i d i' d' h1 h2 h3 h4 h = let g = rw (h1, h2, h3, h4) at h in omega (arith, g)
    by_bits true false i d i' d' h1 h2 h3 h4 h = let g = rw (h1, h2, h3, h4) at h in omega (arith, g)
    by_bits false v i d i' d' h1 h2 h3 h4 h = omega (arith, h)

-- a Start: one more is at work on its queue, and as many on each other
pub busy-start : (s : Plan) (laws : PlanLaws s) (w limit v r n : ℕ) (past : Past) (q : ℕ) → KeepsRules s w limit ((record { worker = v; kind = Start r n }) ∷ past)
    → busy s ((record { worker = v; kind = Start r n }) ∷ past) q ≡ busy s past q + bit (r == q)
busy-start s laws w limit v r n past q legal =
    let e : Entry = record { worker = v; kind = Start r n } in
    let p = first-placed s past (is_in r) n (legal-may s w limit e past legal).0 in
    let m = numbered-number s past n p.0 p.1 in
    let origin = waiting-born s past p.0 r p.2 in
    let was : is_busy q p.0 (place_of s past p.0) ≡ false = idle-before p.0 origin (place_of s past p.0) p.2 in
    let out : is_in q (place_of s (e ∷ past) p.0) ≡ false = in-started s e past p.0 q (eq-eqb n p.0.number (sym m)) refl in
    let same = ends-nobody s e past refl refl n p.0 p.1 in
    let now_end = end-is s (e ∷ past) p.0 ∙ ap is_some (sym (ended-is s (e ∷ past) n p.0 (birth-stays s e past n p.0 p.1))) in
    let was_end = end-is s past p.0 ∙ ap is_some (sym (ended-is s past n p.0 p.1)) in
    let lives : is_ended (place_of s (e ∷ past) p.0) ≡ false = now_end ∙ (ap is_some same ∙ (sym was_end ∙ waiting-lives r (place_of s past p.0) p.2)) in
    let now : is_busy q p.0 (place_of s (e ∷ past) p.0) ≡ (r == q) = busy-behind p.0 origin (place_of s (e ∷ past) p.0) out lives in
    let a = ap bit was in
    let b = ap bit now in
    let c = busy-change s laws w limit e past q n p.0 legal p.1 (λ y ne. not-same y n ne) in
    omega (arith, a, b, c)
  where
    idle-before : (b : Birth) → b.origin ≡ from.Queue r → (p : Place) → is_in r p ≡ true → is_busy q b p ≡ false
    idle-before b o p h = ap (λ u. is_born_into q u && (not (is_in q p) && not (is_ended p))) o ∙ by_queue (cases_Bool (r == q))
      where
        by_queue : ((r == q) ≡ true) ⊎ ((r == q) ≡ false) → ((r == q) && (not (is_in q p) && not (is_ended p))) ≡ false
        by_queue (inr f) = rw f refl
        by_queue (inl t) =
            let same : r ≡ q = eqb-true r q t in
            let i : is_in q p ≡ true = subst (λ (u : ℕ). is_in u p ≡ true) same h in
            rw (t, i) refl

    busy-behind : (b : Birth) → b.origin ≡ from.Queue r → (p : Place) → is_in q p ≡ false → is_ended p ≡ false → is_busy q b p ≡ (r == q)
    busy-behind b o p i d =
        ap (λ u. is_born_into q u && (not (is_in q p) && not (is_ended p))) o
        ∙ (ap (λ u. (r == q) && (not u && not (is_ended p))) i
        ∙ (ap (λ u. (r == q) && (true && not u)) d ∙ elim (r == q) as (λ v. (v && true) ≡ v) [ true ↦ refl | false ↦ refl ]))

-- an entry by which nobody starts or ends
pub busy-stay : (s : Plan) (laws : PlanLaws s) (w limit v : ℕ) (k : Kind) (past : Past) (q : ℕ) → KeepsRules s w limit ((record { worker = v; kind = k }) ∷ past)
    → moves_busy k ≡ false → busy s ((record { worker = v; kind = k }) ∷ past) q ≡ busy s past q
busy-stay s laws w limit v k past q legal h = by_kind k legal h
  where
    own : (n : ℕ) (k' : Kind) → KeepsRules s w limit ((record { worker = v; kind = k' }) ∷ past) → answer_in k' ≡ [] → is_starve k' ≡ false → is_start k' ≡ false
        → concerns n k' ≡ true → ((y : ℕ) → y ≢ n → concerns y k' ≡ false) → busy s ((record { worker = v; kind = k' }) ∷ past) q ≡ busy s past q
    own n k' l a u f c only =
        let e : Entry = record { worker = v; kind = k' } in
        let r = entry-actor s limit past v n k' (legal-may s w limit e past l) c f in
        let was : is_some (ended s past n) ≡ false =
        ap is_some (ended-is s past n r.birth r.born) ∙ (sym (end-is s past r.birth) ∙ acting-lives (place_of s past r.birth) r.acting) in
        let now : is_some (ended s (e ∷ past) n) ≡ false = ap is_some (ends-nobody s e past a u n r.birth r.born) ∙ was in
        let none : (is_born_into q r.birth.origin && is_some (ended s (e ∷ past) n)) ≡ false = and_right (is_born_into q r.birth.origin) _ now in
        let b = ap bit none in
        let g = busy-own s laws w limit e past q n r.birth l r.born c f only in
        omega (arith, b, g)

    by_kind : (k' : Kind) → KeepsRules s w limit ((record { worker = v; kind = k' }) ∷ past) → moves_busy k' ≡ false
        → busy s ((record { worker = v; kind = k' }) ∷ past) q ≡ busy s past q
    by_kind (Take n) l g = own n (Take n) l refl refl refl (eq-eqb n n refl) (λ y ne. not-same y n ne)
    by_kind (Return n) l g = own n (Return n) l refl refl refl (eq-eqb n n refl) (λ y ne. not-same y n ne)
    by_kind (Start r n) l g = absurd (cc g)
    by_kind (Answer n a) l g = absurd (cc g)
    by_kind (Starve n) l g = absurd (cc g)
    by_kind _ l g = busy-same s laws w limit _ past q l (λ x. refl)

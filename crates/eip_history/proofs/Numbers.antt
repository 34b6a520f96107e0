-- The numbers at a place behind one more entry.
use Rattle.std.proofs.Common.{◌≡◌, ◌≢◌, ℕ, suc, ◌+◌, ◌<◌, ◌≤◌, Bool, true, false, ◌==◌, List, [], ◌∷◌, ◌++◌, length, filter, map, Some, refl, sym, ap, subst, ◌∙◌, arith, eq-eqb, cond, inl, inr}
use Rattle.std.specs.List.{slice_get}
use Rattle.std.proofs.lemmas.Bool.{ne_eqb, cases_Bool, eqb-true}
use Rattle.std.proofs.lemmas.List.{map-append}
use Rattle.std.proofs.lemmas.List.Elements.{filter-append}
use Rattle.eip_exchange.specs.declared.birth.Birth.{Birth}
use Rattle.eip_frames.specs.Fate.{Fate, AsksNext, Ends, Strays}
use Rattle.eip_ledger.specs.declared.entry.Entry.{Entry}
use Rattle.eip_ledger.specs.declared.place.Place.{Place}
use Rattle.eip_ledger.specs.declared.place.Place.TheVariants as place_is
use Rattle.eip_ledger.specs.declared.entry.Kind.TheVariants.{Tick}
use Rattle.eip_history.specs.Plan.{Plan}
use Rattle.eip_history.specs.Own.{Past, own, concerns, numbered, clock, ticked}
use Rattle.eip_history.specs.Births.{births, fate, fate_by, made_at}
use Rattle.eip_history.specs.Place.{end_of, all_ended, queued, place_by, place_of, numbers_at, number_of}
use Rattle.eip_history.specs.Rules.{KeepsRules}
use Rattle.eip_history.specs.Laws.{PlanLaws}
use Rattle.eip_history.specs.Tables.{AreNumberedFrom, without, put_in}
use Rattle.eip_history.proofs.Told.{births-numbered, births-more, made-numbered}
use Rattle.eip_history.proofs.Parts.{is_part_of, numbered-number}
use Rattle.eip_history.proofs.Lists.{filter-same, numbers-leave, numbers-join}
use Rattle.eip_history.proofs.Unborn.{legal-tail, newborn-own}
use Rattle.eip_history.proofs.Places.{place-other, place-end-other, EndsNone, ended-other, ended-same, place-tick, woken}

-- where a newborn stands
abbrev pub newborn_place : Birth → Place
newborn_place b = queued b.origin false place_is.Ready

newborn-by : (s : Plan) (laws : PlanLaws s) (now : ℕ) (all : ℕ → ℕ → Bool) (b : Birth) (f : Fate) → s.mean b [] ≡ f → place_by now all b [] f ≡ newborn_place b
newborn-by s laws now all b (Ends e m) h = absurd (let n = laws.starts b in let g = rw h at n in cc g)
newborn-by s laws now all b (AsksNext q p) h = refl
newborn-by s laws now all b Strays h = refl

pub newborn-at : (s : Plan) (laws : PlanLaws s) (past : Past) (b : Birth) → own b.number past ≡ [] → place_of s past b ≡ newborn_place b
unfolding place_of fate
newborn-at s laws past b h =
    ap (λ o. place_by (clock past) (all_ended s past) b o (fate_by s b o)) h ∙ newborn-by s laws (clock past) (all_ended s past) b (s.mean b []) refl

newborn-filter : (s : Plan) (laws : PlanLaws s) (past : Past) (p : Place → Bool) (n m : ℕ) (bs : List Birth) → n < m
    → ((x : ℕ) → n < x → own x past ≡ []) → AreNumberedFrom m bs
    → filter (λ (b : Birth). p (place_of s past b)) bs ≡ filter (λ (b : Birth). p (newborn_place b)) bs
newborn-filter s laws past p n m [] l h ns = refl
newborn-filter s laws past p n m (b ∷ bs) l h ns =
    rw (newborn-at s laws past b (h b.number (omega (arith, ns.0, l))), newborn-filter s laws past p n (m + 1) bs (omega (arith, l)) h ns.1) refl

-- the numbers at a place: those of the births before, by any test that tells their place behind the entry, and the newborn's
pub numbers-after : (s : Plan) (laws : PlanLaws s) (w limit : ℕ) (e : Entry) (past : Past) → KeepsRules s w limit (e ∷ past)
    → (p : Place → Bool) (q : Birth → Bool)
    → filter (λ (b : Birth). p (place_of s (e ∷ past) b)) (births s past) ≡ filter q (births s past)
    → numbers_at s (e ∷ past) p ≡ map number_of (filter q (births s past)) ++ map number_of (filter (λ (b : Birth). p (newborn_place b)) (made_at s past e.kind))
unfolding numbers_at
numbers-after s laws w limit e past legal p q h =
    let r : Birth → Bool = λ b. p (place_of s (e ∷ past) b) in
    let new = newborn-filter s laws (e ∷ past) p (length (births s past)) (length (births s past)
    + 1) (made_at s past e.kind) (omega arith) (λ x l. newborn-own s w limit e past x legal l) (made-numbered s past e.kind) in
    ap (λ bs. map number_of (filter r bs)) (births-more s e past)
    ∙ (ap (map number_of) (filter-append r (births s past) (made_at s past e.kind))
    ∙ (map-append number_of (filter r (births s past)) (filter r (made_at s past e.kind))
    ∙ (ap (λ xs. map number_of xs ++ map number_of (filter r (made_at s past e.kind))) h
    ∙ ap (λ xs. map number_of (filter q (births s past)) ++ map number_of xs) new)))

pub numbers-at-is : (s : Plan) (past : Past) (p : Place → Bool)
    → map number_of (filter (λ (b : Birth). p (place_of s past b)) (births s past)) ≡ numbers_at s past p
unfolding numbers_at
numbers-at-is s past p = refl

-- family 1: an entry of nobody and without a Tick (Pull, Accept, Refuse, SourceEnd, SourceFault, Force)
pub numbers-quiet : (s : Plan) (laws : PlanLaws s) (w limit : ℕ) (e : Entry) (past : Past) → KeepsRules s w limit (e ∷ past)
    → ((x : ℕ) → concerns x e.kind ≡ false) → ((n : ℕ) → ticked e.kind n ≡ n) → (p : Place → Bool)
    → numbers_at s (e ∷ past) p ≡ numbers_at s past p ++ map number_of (filter (λ (b : Birth). p (newborn_place b)) (made_at s past e.kind))
numbers-quiet s laws w limit e past legal none t p =
    numbers-after s laws w limit e past legal p
    (λ b. p (place_of s past b)) (filter-same _ _ (births s past)
    (λ b. ap p (place-other s w limit e past b (legal-tail s w limit e past legal) (λ x d at. ended-other s e past x d at (none x)) (none b.number) t)))
    ∙ ap (λ xs. xs ++ map number_of (filter (λ (b : Birth). p (newborn_place b)) (made_at s past e.kind))) (numbers-at-is s past p)

-- family 2: a Tick
pub numbers-tick : (s : Plan) (laws : PlanLaws s) (w limit v t : ℕ) (past : Past) → KeepsRules s w limit ((record { worker = v; kind = Tick t }) ∷ past)
    → clock past ≤ t → (p : Place → Bool)
    → numbers_at s ((record { worker = v; kind = Tick t }) ∷ past) p
    ≡ map number_of (filter (λ (b : Birth). p (woken t (place_of s past b))) (births s past))
    ++ map number_of (filter (λ (b : Birth). p (newborn_place b)) (made_at s past (Tick t)))
numbers-tick s laws w limit v t past legal l p =
    let e : Entry = record { worker = v; kind = Tick t } in
    numbers-after s laws w limit e past legal p
    (λ b. p (woken t (place_of s past b))) (filter-same _ _ (births s past) (λ b. ap p (place-tick s w limit v t past b (legal-tail s w limit e past legal) l)))

-- the fate of x ends behind the entry as it ended before
ends-none-own : (s : Plan) (e : Entry) (past : Past) (x : ℕ) → ((y : ℕ) → y ≢ x → concerns y e.kind ≡ false)
    → ((b : Birth) → numbered (births s past) x ≡ Some b → end_of (fate s (e ∷ past) b) ≡ end_of (fate s past b)) → EndsNone s e past
ends-none-own s e past x only same y b at = elim (cases_Bool (y == x)) [
  | inl t ↦ (let g : y ≡ x = eqb-true y x t in ended-same s e past y b at (same b (rw g at at)))
  | inr f ↦ ended-other s e past y b at (only y (λ g. let k = eq-eqb y x g in cc))
]

-- family 3: an entry of x that ends nothing: only x's own place changes; x = i + 1 leaves the numbers, joins them, or stays
pub numbers-own-leave : (s : Plan) (laws : PlanLaws s) (w limit : ℕ) (e : Entry) (past : Past) (i : ℕ) → KeepsRules s w limit (e ∷ past)
    → ((y : ℕ) → y ≢ 1 + i → concerns y e.kind ≡ false) → ((n : ℕ) → ticked e.kind n ≡ n)
    → EndsNone s e past → (p : Place → Bool) → ((b : Birth) → slice_get (births s past) i ≡ Some b → p (place_of s (e ∷ past) b) ≡ false)
    → numbers_at s (e ∷ past) p ≡ without (1 + i) (numbers_at s past p) ++ map number_of (filter (λ (b : Birth). p (newborn_place b)) (made_at s past e.kind))
numbers-own-leave s laws w limit e past i legal only t none p here =
    numbers-after s laws w limit e past legal p (λ b. p (place_of s (e ∷ past) b)) refl
    ∙ ap (λ xs. xs ++ map number_of (filter (λ (b : Birth). p (newborn_place b)) (made_at s past e.kind)))
    (numbers-leave (λ b. p (place_of s past b)) (λ b. p (place_of s (e ∷ past) b)) 1 (births s past) i (births-numbered s past)
    (λ b ne. ap p (sym (place-other s w limit e past b (legal-tail s w limit e past legal) none (only b.number ne) t))) here
    ∙ ap (without (1 + i)) (numbers-at-is s past p))

-- family 4: an entry of x that ends it: x leaves, and its parent may join or leave besides. q is the test between
pub numbers-end : (s : Plan) (laws : PlanLaws s) (w limit : ℕ) (e : Entry) (past : Past) (i j : ℕ) (d c : Birth) → KeepsRules s w limit (e ∷ past)
    → ((y : ℕ) → y ≢ 1 + i → concerns y e.kind ≡ false) → ((n : ℕ) → ticked e.kind n ≡ n)
    → slice_get (births s past) i ≡ Some d → slice_get (births s past) j ≡ Some c → ((y : ℕ) → y ≢ 1 + j → is_part_of y d.origin ≡ false) → i ≢ j
    → (p : Place → Bool) → p (place_of s (e ∷ past) d) ≡ false → p (place_of s past c) ≡ false → p (place_of s (e ∷ past) c) ≡ true
    → numbers_at s (e ∷ past) p
    ≡ put_in (1 + j) (without (1 + i) (numbers_at s past p)) ++ map number_of (filter (λ (b : Birth). p (newborn_place b)) (made_at s past e.kind))
numbers-end s laws w limit e past i j d c legal only t at_d at_c parent apart p gone was now =
    let r : Birth → Bool = λ b. p (place_of s past b) in
    let r' : Birth → Bool = λ b. p (place_of s (e ∷ past) b) in
    let mid : Birth → Bool = λ b. cond (b.number == (1 + j)) (r b) (r' b) in
    let tail = legal-tail s w limit e past legal in
    let ns = births-numbered s past in
    let at_x : numbered (births s past) (1 + i) ≡ Some d = let e1 : 1 + i ≡ suc i = omega arith in
    subst (λ (n : ℕ). numbered (births s past) n ≡ Some d) (sym e1) at_d in
    let c_number : c.number ≡ 1 + j = let g : numbered (births s past) (suc j) ≡ Some c = at_c in omega (arith, numbered-number s past (suc j) c g) in
    let d_number : d.number ≡ 1 + i = let g : numbered (births s past) (suc i) ≡ Some d = at_d in omega (arith, numbered-number s past (suc i) d g) in
    let first_step : map number_of (filter mid (births s past)) ≡ without (1 + i) (map number_of (filter r (births s past))) =
    numbers-leave r mid 1 (births s past) i ns
    (λ b ne. elim (cases_Bool (b.number == (1 + j))) [
      | inl y ↦ rw y refl
      | inr f ↦ rw f (ap p (sym (place-end-other s w limit e past (1 + i) d b tail at_x only ne (parent b.number (λ g. let k = eq-eqb b.number (1 + j) g in cc)) t)))
    ])
    (λ b at. let same : b ≡ d = cc in
    let k : (d.number == (1 + j)) ≡ false = ne_eqb d.number (1 + j) (λ g. apart (omega (arith, d_number, g))) in
    rw (same, k) gone) in
    let second_step : map number_of (filter r' (births s past)) ≡ put_in (1 + j) (map number_of (filter mid (births s past))) =
    numbers-join mid r' 1 (births s past) j c at_c ns
    (λ b ne. rw (ne_eqb b.number (1 + j) ne) refl)
    (λ b at. let same : b ≡ c = cc in (rw (same, eq-eqb c.number (1 + j) c_number) was, rw same now)) in
    numbers-after s laws w limit e past legal p r' refl
    ∙ ap (λ xs. xs ++ map number_of (filter (λ (b : Birth). p (newborn_place b)) (made_at s past e.kind)))
    (second_step ∙ ap (put_in (1 + j)) (first_step ∙ ap (without (1 + i)) (numbers-at-is s past p)))

-- One form for all tables that are read from the places.
use Rattle.std.proofs.Common.{◌≡◌, ℕ, ◌+◌, ◌<◌, ◌≤◌, false, List, [], ◌∷◌, ◌++◌, length, filter_map, Option, refl, ap, ◌∙◌, arith}
use Rattle.std.specs.List.{cons_option as list_cons}
use Rattle.std.proofs.lemmas.List.Elements.{filter_map-append}
use Rattle.eip_exchange.specs.declared.birth.Birth.{Birth}
use Rattle.eip_ledger.specs.declared.entry.Entry.{Entry}
use Rattle.eip_ledger.specs.declared.place.Place.{Place}
use Rattle.eip_ledger.specs.declared.entry.Kind.TheVariants.{Tick}
use Rattle.eip_history.specs.Plan.{Plan}
use Rattle.eip_history.specs.Own.{Past, own, concerns, clock, ticked}
use Rattle.eip_history.specs.Births.{births, made_at}
use Rattle.eip_history.specs.Place.{place_of, picked}
use Rattle.eip_history.specs.Rules.{KeepsRules}
use Rattle.eip_history.specs.Laws.{PlanLaws}
use Rattle.eip_history.specs.Tables.{AreNumberedFrom}
use Rattle.eip_history.proofs.Told.{births-more, made-numbered}
use Rattle.eip_history.proofs.Unborn.{legal-tail, newborn-own}
use Rattle.eip_history.proofs.Places.{place-other, ended-other, place-tick, woken}
use Rattle.eip_history.proofs.Numbers.{newborn-at, newborn_place}

pub filter_map-same : {A B : Type 0} (f g : A → Option B) (xs : List A) → ((x : A) → f x ≡ g x) → filter_map f xs ≡ filter_map g xs
filter_map-same f g [] h = refl
filter_map-same f g (x ∷ xs) h = ap (λ o. list_cons o (filter_map f xs)) (h x) ∙ ap (list_cons (g x)) (filter_map-same f g xs h)

newborn-picked : {A : Type 0} (s : Plan) (laws : PlanLaws s) (past : Past) (pick : Birth → Place → Option A) (n m : ℕ) (bs : List Birth) → n < m
    → ((x : ℕ) → n < x → own x past ≡ []) → AreNumberedFrom m bs
    → filter_map (λ (b : Birth). pick b (place_of s past b)) bs ≡ filter_map (λ (b : Birth). pick b (newborn_place b)) bs
newborn-picked s laws past pick n m [] l h ns = refl
newborn-picked s laws past pick n m (b ∷ bs) l h ns =
    let e = newborn-at s laws past b (h b.number (omega (arith, ns.0, l))) in
    let ih = newborn-picked s laws past pick n (m + 1) bs (omega (arith, l)) h ns.1 in
    ap (λ p. list_cons (pick b p) (filter_map (λ (d : Birth). pick d (place_of s past d)) bs)) e ∙ ap (list_cons (pick b (newborn_place b))) ih

-- behind an entry: what the births before give by their places now, and what the newborn give
pub picked-after : {A : Type 0} (s : Plan) (laws : PlanLaws s) (w limit : ℕ) (e : Entry) (past : Past) → KeepsRules s w limit (e ∷ past)
    → (pick : Birth → Place → Option A)
    → picked s (e ∷ past) pick ≡ filter_map (λ (b : Birth). pick b (place_of s (e ∷ past) b)) (births s past)
    ++ filter_map (λ (b : Birth). pick b (newborn_place b)) (made_at s past e.kind)
unfolding picked
picked-after s laws w limit e past legal pick =
    let new = newborn-picked s laws (e ∷ past) pick (length (births s past)) (length (births s past)
    + 1) (made_at s past e.kind) (omega arith) (λ x l. newborn-own s w limit e past x legal l) (made-numbered s past e.kind) in
    ap (filter_map (λ (b : Birth). pick b (place_of s (e ∷ past) b))) (births-more s e past)
    ∙ (filter_map-append (λ (b : Birth). pick b (place_of s (e ∷ past) b)) (births s past) (made_at s past e.kind)
    ∙ ap (λ xs. filter_map (λ (b : Birth). pick b (place_of s (e ∷ past) b)) (births s past) ++ xs) new)

-- an entry of nobody, without a Tick
pub picked-quiet : {A : Type 0} (s : Plan) (laws : PlanLaws s) (w limit : ℕ) (e : Entry) (past : Past) → KeepsRules s w limit (e ∷ past)
    → ((x : ℕ) → concerns x e.kind ≡ false) → ((n : ℕ) → ticked e.kind n ≡ n) → (pick : Birth → Place → Option A)
    → picked s (e ∷ past) pick ≡ picked s past pick ++ filter_map (λ (b : Birth). pick b (newborn_place b)) (made_at s past e.kind)
unfolding picked
picked-quiet s laws w limit e past legal none t pick =
    picked-after s laws w limit e past legal pick
    ∙ ap (λ xs. xs ++ filter_map (λ (b : Birth). pick b (newborn_place b)) (made_at s past e.kind))
    (filter_map-same _ _ (births s past)
    (λ b. ap (pick b) (place-other s w limit e past b (legal-tail s w limit e past legal) (λ x d at. ended-other s e past x d at (none x)) (none b.number) t)))

-- a Tick
pub picked-tick : {A : Type 0} (s : Plan) (laws : PlanLaws s) (w limit v t : ℕ) (past : Past)
    → KeepsRules s w limit ((record { worker = v; kind = Tick t }) ∷ past) → clock past ≤ t → (pick : Birth → Place → Option A)
    → picked s ((record { worker = v; kind = Tick t }) ∷ past) pick
    ≡ picked s past (λ b p. pick b (woken t p)) ++ filter_map (λ (b : Birth). pick b (newborn_place b)) (made_at s past (Tick t))
unfolding picked
picked-tick s laws w limit v t past legal l pick =
    picked-after s laws w limit _ past legal pick
    ∙ ap (λ xs. xs ++ filter_map (λ (b : Birth). pick b (newborn_place b)) (made_at s past (Tick t)))
    (filter_map-same _ _ (births s past) (λ b. ap (pick b) (place-tick s w limit v t past b (legal-tail s w limit _ past legal) l)))

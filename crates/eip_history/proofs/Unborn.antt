-- Legal pasts are silent about numbers that aren't born.
use Rattle.std.proofs.Common.{◌≡◌, ℕ, zero, suc, ◌+◌, ◌<◌, ◌≤◌, Bool, true, false, List, [], ◌∷◌, ◌++◌, length, filter, map, Option, Some, None, refl, ap, subst, ◌∙◌, arith, cond, length-append, inl, inr}
use Rattle.std.specs.Prelude.{option_map}
use Rattle.std.specs.List.{slice_get}
use Rattle.std.proofs.lemmas.Option.{slice_get_within}
use Rattle.std.proofs.lemmas.Bool.{cases_Bool, eqb-true}
use Rattle.eip_exchange.specs.declared.birth.Birth.{Birth}
use Rattle.eip_ledger.specs.declared.entry.Entry.{Entry}
use Rattle.eip_ledger.specs.declared.place.Place.{Place}
use Rattle.eip_ledger.specs.declared.entry.Kind.{Kind}
use Rattle.eip_ledger.specs.declared.entry.Kind.TheVariants.{Start, Take, Answer, Starve, Return}
use Rattle.eip_history.specs.Plan.{Plan}
use Rattle.eip_history.specs.Own.{Past, own, concerns, numbered}
use Rattle.eip_history.specs.Births.{Asked, births, asked, asked_of, asked_by, fate, made_at}
use Rattle.eip_history.specs.Place.{place, place_of, numbers_at, is_in, number_of}
use Rattle.eip_history.specs.Rules.{KeepsRules, May, first}
use Rattle.eip_history.specs.Tables.{AreNumberedFrom}
use Rattle.eip_history.proofs.Told.{own-other, births-more, births-numbered}

pub legal-tail : (s : Plan) (w limit : ℕ) (e : Entry) (past : Past) → KeepsRules s w limit (e ∷ past) → KeepsRules s w limit past
unfolding KeepsRules
legal-tail s w limit e past l = l.0

pub legal-may : (s : Plan) (w limit : ℕ) (e : Entry) (past : Past) → KeepsRules s w limit (e ∷ past) → May s limit past e.worker e.kind
unfolding KeepsRules
legal-may s w limit e past l = l.2

pub option-some : {A B : Type 0} (f : A → B) (o : Option A) (y : B) → option_map f o ≡ Some y → (x : A) × (o ≡ Some x) × (f x ≡ y)
option-some f None y h = absurd (cc h)
option-some f (Some x) y h = (x, refl, cc)

-- a number with a place is that of a birth
pub place-born : (s : Plan) (past : Past) (x : ℕ) (p : Place) → place s past x ≡ Some p
    → (b : Birth) × (numbered (births s past) x ≡ Some b) × (place_of s past b ≡ p)
unfolding place
place-born s past x p h = option-some (place_of s past) (numbered (births s past) x) p h

pub asked-born : (s : Plan) (past : Past) (x : ℕ) (k : Asked) → asked s past x ≡ Some k
    → (b : Birth) × (numbered (births s past) x ≡ Some b) × (asked_by b (fate s past b) ≡ Some k)
asked-born s past x k h = from_option (numbered (births s past) x) refl h
  where
    from_option : (o : Option Birth) → numbered (births s past) x ≡ o → asked_of s past o ≡ Some k
        → (b : Birth) × (numbered (births s past) x ≡ Some b) × (asked_by b (fate s past b) ≡ Some k)
    from_option None e q = absurd (cc q)
    from_option (Some b) e q = (b, e, q)

pub first-at : (p : Birth → Bool) (n : ℕ) (bs : List Birth) (x : ℕ) → AreNumberedFrom n bs → first (map number_of (filter p bs)) ≡ Some x
    → (i : ℕ) × (b : Birth) × (slice_get bs i ≡ Some b) × (x ≡ n + i) × (p b ≡ true)
first-at p n [] x ns e = absurd (cc e)
first-at p n (b ∷ bs) x ns e = by_test (first-at p (n + 1) bs x ns.1) (p b) refl e
  where
    by_test : (first (map number_of (filter p bs)) ≡ Some x → (i : ℕ) × (c : Birth) × (slice_get bs i ≡ Some c) × (x ≡ n + 1 + i) × (p c ≡ true))
        → (v : Bool) → p b ≡ v → first (map number_of (cond v (b ∷ filter p bs) (filter p bs))) ≡ Some x
        → (i : ℕ) × (c : Birth) × (slice_get (b ∷ bs) i ≡ Some c) × (x ≡ n + i) × (p c ≡ true)
    by_test ih true t f = let same : b.number ≡ x = cc in (0, b, refl, omega (arith, same, ns.0), t)
    by_test ih false t f = let r = ih f in (suc r.0, r.1, r.2, omega (arith, r.3), r.4)

-- the first of the numbers at some place
pub first-placed : (s : Plan) (past : Past) (p : Place → Bool) (x : ℕ) → first (numbers_at s past p) ≡ Some x
    → (b : Birth) × (numbered (births s past) x ≡ Some b) × (p (place_of s past b) ≡ true)
unfolding numbers_at
first-placed s past p x e =
    let r = first-at (λ (b : Birth). p (place_of s past b)) 1 (births s past) x (births-numbered s past) e in
    let n : suc r.0 ≡ x = omega (arith, r.3) in
    (r.1, subst (λ (m : ℕ). numbered (births s past) m ≡ Some r.1) n r.2, r.4)

pub numbered-within : {A : Type 0} (xs : List A) (x : ℕ) (y : A) → numbered xs x ≡ Some y → x ≤ length xs
numbered-within xs zero y h = omega arith
numbered-within xs (suc i) y h = omega (arith, slice_get_within xs i y h)

-- who has an entry is born
pub entry-born : (s : Plan) (limit : ℕ) (past : Past) (w x : ℕ) (k : Kind) → May s limit past w k → concerns x k ≡ true
    → (b : Birth) × (numbered (births s past) x ≡ Some b)
entry-born s limit past w x (Start q n) may c = let e : n ≡ x = eqb-true n x c in let r = first-placed s past (is_in q) n may.0 in (r.0, rw (← e) r.1)
entry-born s limit past w x (Take n) may c = let e : n ≡ x = eqb-true n x c in let r = place-born s past n _ may.0 in (r.0, rw (← e) r.1)
entry-born s limit past w x (Answer n a) may c = let e : n ≡ x = eqb-true n x c in let r = asked-born s past n _ may.asked_is in (r.0, rw (← e) r.1)
entry-born s limit past w x (Starve n) (inl h) c = let e : n ≡ x = eqb-true n x c in let r = place-born s past n _ h in (r.0, rw (← e) r.1)
entry-born s limit past w x (Starve n) (inr h) c = let e : n ≡ x = eqb-true n x c in let r = place-born s past n _ h in (r.0, rw (← e) r.1)
entry-born s limit past w x (Return n) may c = absurd may
entry-born s limit past w x _ may c = absurd (cc c)

pub own-none : (x : ℕ) → own x [] ≡ []
unfolding own
own-none x = refl

pub births-grow : (s : Plan) (e : Entry) (past : Past) → length (births s past) ≤ length (births s (e ∷ past))
births-grow s e past = rw (births-more s e past) (omega (arith, length-append (births s past) (made_at s past e.kind)))

-- a number that wasn't born before an entry has none behind it either
silent-step : (s : Plan) (limit : ℕ) (e : Entry) (past : Past) (x : ℕ) → May s limit past e.worker e.kind → length (births s past) < x
    → concerns x e.kind ≡ false
silent-step s limit e past x may l = elim (cases_Bool (concerns x e.kind)) [
  | inl c ↦ (let r = entry-born s limit past e.worker x e.kind may c in let n = numbered-within (births s past) x r.0 r.1 in absurd (omega (arith, n, l)))
  | inr f ↦ f
]

pub unborn-own : (s : Plan) (w limit : ℕ) (past : Past) (x : ℕ) → KeepsRules s w limit past → length (births s past) < x → own x past ≡ []
unborn-own s w limit [] x legal l = own-none x
unborn-own s w limit (e ∷ past) x legal l =
    let l' : length (births s past) < x = omega (arith, l, births-grow s e past) in
    own-other x e past (silent-step s limit e past x (legal-may s w limit e past legal) l') ∙ unborn-own s w limit past x (legal-tail s w limit e past legal) l'

-- nor has the newborn
pub newborn-own : (s : Plan) (w limit : ℕ) (e : Entry) (past : Past) (x : ℕ) → KeepsRules s w limit (e ∷ past) → length (births s past) < x → own x (e ∷ past) ≡ []
newborn-own s w limit e past x legal l =
    own-other x e past (silent-step s limit e past x (legal-may s w limit e past legal) l) ∙ unborn-own s w limit past x (legal-tail s w limit e past legal) l

slice-left : {A : Type 0} (xs ys : List A) (i : ℕ) (x : A) → slice_get xs i ≡ Some x → slice_get (xs ++ ys) i ≡ Some x
slice-left [] ys i x h = absurd (cc h)
slice-left (z ∷ xs) ys zero x h = h
slice-left (z ∷ xs) ys (suc i) x h = slice-left xs ys i x h

pub slice-right : {A : Type 0} (xs ys : List A) (i : ℕ) → slice_get (xs ++ ys) (length xs + i) ≡ slice_get ys i
slice-right [] ys i = let e : 0 + i ≡ i = omega arith in ap (slice_get ys) e
slice-right (z ∷ xs) ys i = let e : suc (length xs) + i ≡ suc (length xs + i) = omega arith in rw e (slice-right xs ys i)

pub numbered-left : {A : Type 0} (xs ys : List A) (x : ℕ) (y : A) → numbered xs x ≡ Some y → numbered (xs ++ ys) x ≡ Some y
numbered-left xs ys zero y h = absurd (cc h)
numbered-left xs ys (suc i) y h = slice-left xs ys i y h

-- a birth stays
pub birth-stays : (s : Plan) (e : Entry) (past : Past) (x : ℕ) (b : Birth) → numbered (births s past) x ≡ Some b → numbered (births s (e ∷ past)) x ≡ Some b
birth-stays s e past x b h = rw (births-more s e past) (numbered-left (births s past) (made_at s past e.kind) x b h)

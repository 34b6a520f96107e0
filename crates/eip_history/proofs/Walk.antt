-- A walk over lists from the front, step by step.
use Rattle.std.proofs.Common.{◌≡◌, ℕ, zero, suc, ◌+◌, ◌<◌, List, [], ◌∷◌, ◌++◌, Some, length, take, reverse, get_or, ap, subst, ◌∙◌, arith}
use Rattle.std.specs.List.{flat_map, slice_get}
use Rattle.std.proofs.lemmas.List.{append-nil, take_more, take_all, reverse-append, reverse-reverse}
use Rattle.std.proofs.lemmas.Grind.{flat_map-append}
use Rattle.eip_exchange.specs.declared.birth.Birth.{Birth}
use Rattle.eip_ledger.specs.declared.entry.Entry.{Entry}
use Rattle.eip_ledger.specs.declared.place.Place.{Place}
use Rattle.eip_history.specs.Plan.{Plan}
use Rattle.eip_history.specs.Own.{Past, numbered}
use Rattle.eip_history.specs.Births.{births}
use Rattle.eip_history.specs.Place.{place, place_of}
use Rattle.eip_history.specs.Walk.{past_at}
use Rattle.eip_history.proofs.Unborn.{place-born}
use Rattle.eip_history.proofs.Parts.{numbered-number}

-- the first k + 1 elements, by the element at k
pub take-next : {A : Type 0} (xs : List A) (k : ℕ) (x : A) → slice_get xs k ≡ Some x → take (k + 1) xs ≡ take k xs ++ x ∷ []
take-next [] k x at = absurd (cc at)
take-next (y ∷ xs) zero x at = let e : y ≡ x = cc in ap (λ z. z ∷ []) e
take-next (y ∷ xs) (suc k) x at = let e : suc k + 1 ≡ suc (k + 1) = omega arith in rw e (ap (λ zs. y ∷ zs) (take-next xs k x at))

-- the pieces of the first k + 1 elements, by the element at k
pub flat_map-next : {A B : Type 0} (f : A → List B) (xs : List A) (k : ℕ) (x : A) → slice_get xs k ≡ Some x
    → flat_map f (take (k + 1) xs) ≡ flat_map f (take k xs) ++ f x
flat_map-next f xs k x at =
    ap (flat_map f) (take-next xs k x at) ∙ (flat_map-append f (take k xs) (x ∷ []) ∙ ap (λ ys. flat_map f (take k xs) ++ ys) (append-nil (f x)))

-- the same for a loop, whose element is read with a default
pub flat_map-more : {A B : Type 0} (f : A → List B) (xs : List A) (k : ℕ) (d : A) → k < length xs
    → flat_map f (take (k + 1) xs) ≡ flat_map f (take k xs) ++ f (get_or xs k d)
flat_map-more f xs k d l =
    ap (flat_map f) (take_more xs k d l)
    ∙ (flat_map-append f (take k xs) (get_or xs k d ∷ []) ∙ ap (λ ys. flat_map f (take k xs) ++ ys) (append-nil (f (get_or xs k d))))

-- the pieces of all elements
pub flat_map-all : {A B : Type 0} (f : A → List B) (xs : List A) → flat_map f (take (length xs) xs) ≡ flat_map f xs
flat_map-all f xs = ap (flat_map f) (take_all (length xs) xs (omega arith))

-- one more entry of a walk is the newest of its past
pub past-more : (es : List Entry) (k : ℕ) (d : Entry) → k < length es → past_at es (k + 1) ≡ get_or es k d ∷ past_at es k
past-more es k d l = ap reverse (take_more es k d l) ∙ reverse-append (take k es) (get_or es k d ∷ [])

pub past-next : (es : List Entry) (k : ℕ) (e : Entry) → slice_get es k ≡ Some e → past_at es (k + 1) ≡ e ∷ past_at es k
past-next es k e at = ap reverse (take-next es k e at) ∙ reverse-append (take k es) (e ∷ [])

-- the whole walk
pub past-all : (past : Past) → past_at (reverse past) (length (reverse past)) ≡ past
past-all past = ap reverse (take_all (length (reverse past)) (reverse past) (omega arith)) ∙ reverse-reverse past

-- who has a place is born: the birth at its number
pub placed-at : (s : Plan) (past : Past) (k : ℕ) (p : Place) → place s past (k + 1) ≡ Some p
    → (b : Birth) × (numbered (births s past) (k + 1) ≡ Some b) × (slice_get (births s past) k ≡ Some b) × (b.number ≡ k + 1) × (place_of s past b ≡ p)
placed-at s past k p at =
    let r = place-born s past (k + 1) p at in
    let e : k + 1 ≡ suc k = omega arith in
    (r.0, r.1, subst (λ (n : ℕ). numbered (births s past) n ≡ Some r.0) e r.1, numbered-number s past (k + 1) r.0 r.1, r.2)

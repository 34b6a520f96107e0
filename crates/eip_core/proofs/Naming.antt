-- Names that are copied one behind the other.
use Rattle.std.proofs.Common.{◌≡◌, ℕ, ◌+◌, ◌<◌, ◌≤◌, List, [], ◌∷◌, ◌++◌, get_or, length, take, take_all, Some, None, sym, ap, ◌∙◌, ◌⊎◌, inl, inr}
use Rattle.std.specs.List.{slice_get}
use Rattle.std.proofs.lemmas.List.{length-append}
use Rattle.std.proofs.lemmas.Option.{slice_get_cases}
use Rattle.eip_history.proofs.Walk.{take-next}

-- the next name behind those in front
pub named-next : (all front new : List (List ℕ)) (name : List ℕ) → front ≡ take (length front) all → Some name ≡ slice_get all (length front) → new ≡ front ++ name ∷ []
    → new ≡ take (length new) all
named-next all front new name is next added =
    let more : length new ≡ length front + 1 = ap length added ∙ length-append front (name ∷ []) in
    added ∙ (ap (λ names. names ++ name ∷ []) is ∙ (sym (take-next all (length front) name (sym next)) ∙ ap (λ n. take n all) (sym more)))

-- where there is no further one, they are all
pub named-all : (all front : List (List ℕ)) → front ≡ take (length front) all → None ≡ slice_get all (length front) → front ≡ all
named-all all front is none = by_place (slice_get_cases all (length front)).1
  where
    by_place : (((x : List ℕ) × (length front < length all) × (slice_get all (length front) ≡ Some x) × (get_or all (length front) x ≡ x))
        ⊎ ((length all ≤ length front) × (slice_get all (length front) ≡ None))) → front ≡ all
    by_place (inl h) = absurd (let both : None ≡ Some h.0 = none ∙ h.2 in cc both)
    by_place (inr h) = is ∙ take_all (length front) all h.0

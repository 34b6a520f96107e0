-- For callers whose turn makes one entry: what their seat knows then.
use Rattle.std.proofs.Common.{◌≡◌, ℕ, List, [], ◌∷◌, ◌++◌, cond, eq-eqb, refl, ap, ◌∙◌}
use Rattle.eip_turnstile.specs.Rule.{entries_by}
use Rattle.eip_turnstile.proofs.Lists.{by-append}

pub by-one-more : {E : Type 0} → (n : ℕ) (xs : List (ℕ × E)) (x : E) → entries_by n (xs ++ (n, x) ∷ []) ≡ entries_by n xs ++ x ∷ []
by-one-more n xs x = by-append n xs ((n, x) ∷ []) ∙ ap (λ b. entries_by n xs ++ cond b (x ∷ []) []) (eq-eqb n n refl)

-- n is the seat's number when it entered, held the number that it has in the turn, and wrote the one under which the entry was made
pub one-more : {E : Type 0} → (n held wrote : ℕ) (old new : List (ℕ × E)) (x : E) (mine after : List E)
    → after ≡ entries_by held new → held ≡ n → wrote ≡ held → new ≡ old ++ (wrote, x) ∷ [] → entries_by n old ≡ mine → after ≡ mine ++ x ∷ []
one-more n held wrote old new x mine after is own same grown before =
    is
    ∙ (ap (λ k. entries_by k new) own
    ∙ (ap (λ l. entries_by n l) (grown ∙ ap (λ k. old ++ (k, x) ∷ []) (same ∙ own)) ∙ (by-one-more n old x ∙ ap (λ l. l ++ x ∷ []) before)))

-- The ends of one join's parts: how many are left, and all of them where none is.
use Rattle.std.proofs.Common.{◌≡◌, ℕ, zero, suc, ◌+◌, ◌==◌, List, [], ◌∷◌, ◌++◌, length, set, slice_get, Option, Some, None, is_some, IsSome, option_to_list, refl, sym, ap, ◌∙◌, arith, ne_eqb, true≢false}
use Rattle.std.proofs.lemmas.Option.{none-some}
use Rattle.eip_exchange.specs.declared.end.Ended.{Ended}
use Rattle.eip_join.specs.Parts.{all_of, cons_option, no_ends, left_of}

pub all_left : (n : ℕ) → left_of (no_ends n) ≡ n
all_left zero = refl
all_left (suc n) = let e : left_of (no_ends n) ≡ n = all_left n in ap (λ (k : ℕ). k + 1) e ∙ (let one : n + 1 ≡ suc n = omega arith in one)

-- one more has ended
pub one_less : (ends : List (Option Ended)) (i : ℕ) (ended : Ended) → slice_get ends i ≡ Some None → left_of (set ends i (Some ended)) + 1 ≡ left_of ends
one_less [] i ended h = absurd (none-some None h)
one_less (None ∷ ends) zero ended h = refl
one_less (Some e ∷ ends) zero ended h = absurd cc
one_less (None ∷ ends) (suc i) ended h = ap (λ (k : ℕ). k + 1) (one_less ends i ended h)
one_less (Some e ∷ ends) (suc i) ended h = one_less ends i ended h

some_more : (ended : Ended) (o : Option (List Ended)) → is_some o ≡ is_some (cons_option (Some ended) o)
some_more ended None = refl
some_more ended (Some ends) = refl

-- all have ended where none is left
pub none_left : (ends : List (Option Ended)) → (left_of ends == 0) ≡ is_some (all_of ends)
none_left [] = refl
none_left (None ∷ ends) = ne_eqb (left_of ends + 1) 0 (λ e. omega arith)
none_left (Some ended ∷ ends) = none_left ends ∙ some_more ended (all_of ends)

-- ---- the ends that are there

abbrev pub told : List (Option Ended) → List Ended
told [] = []
told (None ∷ ends) = told ends
told (Some ended ∷ ends) = ended ∷ told ends

pub told_first : (end : Option Ended) (ends : List (Option Ended)) → option_to_list end ++ told ends ≡ told (end ∷ ends)
told_first None ends = refl
told_first (Some ended) ends = refl

told_by : (ended : Ended) (o : Option (List Ended)) (ends : List Ended) → IsSome (cons_option (Some ended) o) → (IsSome o → o ≡ Some ends) → cons_option (Some ended) o ≡ Some (ended ∷ ends)
told_by ended None ends h all = absurd (true≢false (sym h))
told_by ended (Some more) ends h all = ap (cons_option (Some ended)) (all refl)

pub all_told : (ends : List (Option Ended)) → IsSome (all_of ends) → all_of ends ≡ Some (told ends)
all_told [] h = refl
all_told (None ∷ ends) h = absurd (true≢false (sym h))
all_told (Some ended ∷ ends) h = told_by ended (all_of ends) (told ends) h (all_told ends)

pub no_more : {A : Type 0} (xs : List A) → length xs ≡ 0 → xs ≡ []
no_more [] h = refl
no_more (x ∷ xs) h = absurd (omega arith)

-- Looking at numbers one behind another, and at what is nested in a block.
use Rattle.std.proofs.Common.{ℕ, zero, suc, ◌+◌, ◌-◌, ◌<◌, ◌≤◌, List, [], ◌∷◌, ◌++◌, drop, length, ◌≡◌, refl, sym, ap, ◌∙◌, arith, slice_get, slice_index_or}
use Rattle.std.proofs.lemmas.Bool.{false≢true}
use Rattle.std.specs.Prelude.{Option, Some, None, is_some, true, false}
use Rattle.eip_route.specs.Faults.{or_else, first_some, steps_numbers, steps_of, too_nested}
use Rattle.eip_route.specs.Nest.{step_numbers}
use Rattle.eip_route.specs.declared.route.Block.{Block}
use Rattle.eip_route.specs.declared.step.Step.{Step}

or_else_assoc : (a b c : Option ℕ) → or_else (or_else a b) c ≡ or_else a (or_else b c)
or_else_assoc None b c = refl
or_else_assoc (Some n) b c = refl

taken : (o p : Option ℕ) → is_some o ≡ true → or_else o p ≡ o
taken None p h = absurd (false≢true h)
taken (Some n) p h = refl

passed : (o p : Option ℕ) → is_some o ≡ false → or_else o p ≡ p
passed None p h = refl
passed (Some n) p h = absurd (false≢true (sym h))

pub first_some_append : (f : ℕ → Option ℕ) (ms ns : List ℕ) → first_some f (ms ++ ns) ≡ or_else (first_some f ms) (first_some f ns)
first_some_append f [] ns = refl
first_some_append f (m ∷ ms) ns = rw (first_some_append f ms ns, or_else_assoc (f m) (first_some f ms) (first_some f ns)) refl

pub first_some_one : (f : ℕ → Option ℕ) (n : ℕ) → first_some f (n ∷ []) ≡ f n
first_some_one f n = elim (f n) as (λ o. or_else o None ≡ o) [ None ↦ refl | Some m ↦ refl ]

pub nested_none : (bs : List Block) (n : ℕ) → too_nested bs 0 n ≡ Some n
unfolding too_nested
nested_none bs n = refl

nested_more : (bs : List Block) (left n : ℕ) → 0 < left → too_nested bs left n ≡ first_some (too_nested bs (left - 1)) (steps_numbers (steps_of (slice_get bs n)))
unfolding too_nested
nested_more bs zero n h = absurd (omega arith)
nested_more bs (suc left) n h =
    let e : suc left - 1 ≡ left = omega arith in
    rw e refl

got : (bs : List Block) (n : ℕ) (d : Block) → n < length bs → slice_get bs n ≡ Some (slice_index_or bs n d)
got [] n d h = absurd (omega arith)
got (b ∷ bs) zero d h = refl
got (b ∷ bs) (suc n) d h = got bs n d (omega arith)

gone : (bs : List Block) (n : ℕ) → length bs ≤ n → slice_get bs n ≡ None
gone [] n h = refl
gone (b ∷ bs) zero h = absurd (omega arith)
gone (b ∷ bs) (suc n) h = gone bs n (omega arith)

-- what is nested in a block that is there, and in one that isn't
pub nested_in : (bs : List Block) (left n : ℕ) (d : Block) → 0 < left → n < length bs → too_nested bs left n ≡ first_some (too_nested bs (left - 1)) (steps_numbers (slice_index_or bs n d).steps)
nested_in bs left n d h i = nested_more bs left n h ∙ ap (λ o. first_some (too_nested bs (left - 1)) (steps_numbers (steps_of o))) (got bs n d i)

pub nested_nowhere : (bs : List Block) (left n : ℕ) → 0 < left → length bs ≤ n → too_nested bs left n ≡ None
nested_nowhere bs left n h i = nested_more bs left n h ∙ ap (λ o. first_some (too_nested bs (left - 1)) (steps_numbers (steps_of o))) (gone bs n i)

-- a step in which something was found, and one in which nothing was
pub found_here : (f : ℕ → Option ℕ) (ss : List Step) (k : ℕ) (s : Step) (o w : Option ℕ) →
    w ≡ first_some f (steps_numbers (drop k ss)) → drop k ss ≡ s ∷ drop (k + 1) ss → o ≡ first_some f (step_numbers s) → is_some o ≡ true → o ≡ w
found_here f ss k s o w e d r h = sym (e ∙ (ap (λ l. first_some f (steps_numbers l)) d ∙ (first_some_append f (step_numbers s) (steps_numbers (drop (k + 1) ss)) ∙ (ap (λ p. or_else p (first_some f (steps_numbers (drop (k + 1) ss)))) (sym r) ∙ taken o _ h))))

pub found_later : (f : ℕ → Option ℕ) (ss : List Step) (k : ℕ) (s : Step) (o w : Option ℕ) →
    w ≡ first_some f (steps_numbers (drop k ss)) → drop k ss ≡ s ∷ drop (k + 1) ss → o ≡ first_some f (step_numbers s) → is_some o ≡ false → w ≡ first_some f (steps_numbers (drop (k + 1) ss))
found_later f ss k s o w e d r h = e ∙ (ap (λ l. first_some f (steps_numbers l)) d ∙ (first_some_append f (step_numbers s) (steps_numbers (drop (k + 1) ss)) ∙ (ap (λ p. or_else p (first_some f (steps_numbers (drop (k + 1) ss)))) (sym r) ∙ passed o _ h)))

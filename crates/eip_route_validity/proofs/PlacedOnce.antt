-- Each block of a set that fits stands in exactly one place.
use Rattle.std.proofs.Common.{ℕ, ◌+◌, ◌<◌, ◌≤◌, cond, List, [], ◌∷◌, ◌++◌, length, nat_eq, count_by, ◌≡◌, refl, ap, ◌∙◌, inl, inr, arith, eq-eqb, ne_eqb}
use Rattle.std.proofs.lemmas.Bool.{cond-true, cond-false, cases_eq}
use Rattle.std.proofs.lemmas.List.Sums.{sum_by-cons, sum_by-append}
use Rattle.eip_route.specs.Faults.{steps_numbers, outer_numbers}
use Rattle.eip_route.specs.Nest.{NestedSet, flat_set}
use Rattle.eip_route.specs.Valid.{blocks_numbers, places}
use Rattle.eip_route.specs.declared.route.Block.{Block}
use Rattle.eip_route.specs.declared.route.Names.{Names}
use Rattle.eip_route.specs.declared.step.Step.{Step}
use Rattle.eip_route_validity.proofs.NumbersInOrder.{Closed, in_set}
use Rattle.eip_route_validity.specs.Fit.{SetFits}

-- 1 for the same number, else 0
one : ℕ → ℕ → ℕ
one j k = cond (nat_eq j k) 1 0

one-same : (j k : ℕ) → j ≡ k → one j k ≡ 1
unfolding one
one-same j k e = cond-true (nat_eq j k) 1 0 (eq-eqb j k e)

one-other : (j k : ℕ) → (j ≡ k → ⊥) → one j k ≡ 0
unfolding one
one-other j k e = cond-false (nat_eq j k) 1 0 (ne_eqb j k e)

-- how often a number stands among numbers, and in the steps of blocks
times : ℕ → List ℕ → ℕ
times j ns = count_by (nat_eq j) ns

times-none : (j : ℕ) → times j [] ≡ 0
unfolding times
times-none j = refl

times-more : (j n : ℕ) (ns : List ℕ) → times j (n ∷ ns) ≡ one j n + times j ns
unfolding times one
times-more j n ns = sum_by-cons (λ x. cond (nat_eq j x) 1 0) n ns

times-append : (j : ℕ) (ms ns : List ℕ) → times j (ms ++ ns) ≡ times j ms + times j ns
unfolding times
times-append j ms ns = sum_by-append (λ x. cond (nat_eq j x) 1 0) ms ns

inner : ℕ → List Block → ℕ
inner j bs = times j (blocks_numbers bs)

inner-none : (j : ℕ) → inner j [] ≡ 0
unfolding inner
inner-none j = times-none j

inner-more : (j : ℕ) (ss : List Step) (bs : List Block) → inner j (record { steps = ss } ∷ bs) ≡ times j (steps_numbers ss) + inner j bs
unfolding inner
inner-more j ss bs = times-append j (steps_numbers ss) (blocks_numbers bs)

inner-append : (j : ℕ) (xs ys : List Block) → inner j (xs ++ ys) ≡ inner j xs + inner j ys
unfolding inner
inner-append j [] ys = omega (arith, times-none j)
inner-append j (b ∷ xs) ys =
    omega (arith, times-append j (steps_numbers b.steps) (blocks_numbers (xs ++ ys)), times-append j (steps_numbers b.steps) (blocks_numbers xs), inner-append j xs ys)

-- how often a number is that of one of the blocks, which are numbered from k
numbered : ℕ → ℕ → List Block → ℕ
numbered j k [] = 0
numbered j k (b ∷ bs) = one j k + numbered j (k + 1) bs

numbered-none : (j k : ℕ) → numbered j k [] ≡ 0
unfolding numbered
numbered-none j k = refl

numbered-more : (j k : ℕ) (b : Block) (bs : List Block) → numbered j k (b ∷ bs) ≡ one j k + numbered j (k + 1) bs
unfolding numbered
numbered-more j k b bs = refl

numbered_from : (j k m : ℕ) (bs : List Block) → k ≡ m → numbered j k bs ≡ numbered j m bs
numbered_from j k m bs e = ap (λ x. numbered j x bs) e

numbered-append : (j k : ℕ) (xs ys : List Block) → numbered j k (xs ++ ys) ≡ numbered j k xs + numbered j (k + length xs) ys
numbered-append j k [] ys = omega (arith, numbered-none j k, numbered_from j k (k + length {A = Block} []) ys (omega arith))
numbered-append j k (b ∷ xs) ys =
    omega (
      arith,
      numbered-more j k b (xs ++ ys),
      numbered-more j k b xs,
      numbered-append j (k + 1) xs ys,
      numbered_from j (k + 1 + length xs) (k + length (b ∷ xs)) ys (omega arith),
    )

numbered_before : (j k : ℕ) (bs : List Block) → j < k → numbered j k bs ≡ 0
numbered_before j k [] h = numbered-none j k
numbered_before j k (b ∷ bs) h = omega (arith, numbered-more j k b bs, one-other j k (λ (e : j ≡ k). omega arith), numbered_before j (k + 1) bs (omega arith))

numbered_once : (j k : ℕ) (bs : List Block) → k ≤ j → j < k + length bs → numbered j k bs ≡ 1
numbered_once j k [] l h = absurd (omega arith)
numbered_once j k (b ∷ bs) l h = elim (cases_eq j k) [
  | inl e ↦ omega (arith, numbered-more j k b bs, one-same j k e, numbered_before j (k + 1) bs (omega arith))
  | inr e ↦ omega (arith, numbered-more j k b bs, one-other j k e, numbered_once j (k + 1) bs (omega arith) (omega arith))
]

-- each of the blocks stands once in the numbers or in one of the blocks, and no other block does
abbrev Placed : ℕ → ℕ → ℕ → List ℕ → List Block → Type 0
Placed j d k ns bs = times j ns + inner j bs ≡ numbered j k bs

placed_behind : (j d k : ℕ) (ms ns : List ℕ) (xs ys : List Block) → Placed j d k ms xs → Placed j d (k + length xs) ns ys → Placed j d k (ms ++ ns) (xs ++ ys)
placed_behind j d k ms ns xs ys h t = omega (arith, times-append j ms ns, inner-append j xs ys, numbered-append j k xs ys)

placed_block : (j d k : ℕ) (ss : List Step) (bs : List Block) → d < 16 → Placed j (d + 1) (k + 1) (steps_numbers ss) bs → Placed j d k (k ∷ []) (record { steps = ss } ∷ bs)
placed_block j d k ss bs l h = omega (arith, times-more j k [], times-none j, inner-more j ss bs, numbered-more j k (record { steps = ss }) bs)

placed_closed : (j : ℕ) → Closed (Placed j)
placed_closed j = record {
  nothing = λ d k. omega (arith, times-none j, inner-none j, numbered-none j k);
  behind = placed_behind j;
  block = placed_block j;
}

pub placed_once : (n : Names) (x : NestedSet) → SetFits n x → (j : ℕ) → j < length (flat_set n x).blocks → count_by (nat_eq j) (places (flat_set n x)) ≡ 1
unfolding times inner
placed_once n x h j l =
    let s = flat_set n x in
    let all : times j (outer_numbers s) + inner j s.blocks ≡ numbered j 0 s.blocks = in_set (Placed j) (placed_closed j) n x h in
    times-append j (outer_numbers s) (blocks_numbers s.blocks) ∙ (all ∙ numbered_once j 0 s.blocks (omega arith) (omega arith))

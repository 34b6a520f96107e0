-- The outermost block around a block, one block before those that were looked at.
use Rattle.std.proofs.Common.{◌≡◌, ℕ, suc, ◌+◌, ◌-◌, ◌<◌, ◌≤◌, cond, List, ◌∷◌, drop, length, ap, ◌∙◌, arith, get_or}
use Rattle.std.proofs.lemmas.List.{drop_more}
use Rattle.eip_route.specs.declared.route.Block.{Block}
use Rattle.eip_plan.specs.Plan.{outermost, stands_in}

pub one-more : (bs : List Block) (n a : ℕ) (b : Block) → 0 < n → n ≤ length bs → b ≡ get_or bs (n - 1) b
    → outermost (n - 1) (drop (n - 1) bs) a ≡ cond (stands_in (outermost n (drop n bs) a) b) (n - 1) (outermost n (drop n bs) a)
one-more bs n a b above within is =
    let next : (n - 1) + 1 ≡ n = omega (arith, above) in
    let after : suc (n - 1) ≡ n = omega (arith, above) in
    let before : n - 1 < length bs = omega (arith, above, within) in
    let more : drop (n - 1) bs ≡ b ∷ drop n bs = rw next at (rw (← is) at (drop_more bs (n - 1) b before)) in
    ap (λ (xs : List Block). outermost (n - 1) xs a) more ∙ ap (λ (k : ℕ). cond (stands_in (outermost k (drop n bs) a) b) (n - 1) (outermost k (drop n bs) a)) after

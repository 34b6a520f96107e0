-- The number of each block of a set that fits is that of a block, and greater than that of the block in which it stands.
use Rattle.std.proofs.Common.{ℕ, ◌+◌, ◌<◌, ◌≤◌, Bool, true, false, ◌&&◌, cond, List, [], ◌∷◌, ◌++◌, Some, None, length, nat_le, nat_lt, ◌≡◌, refl, ap, ◌∙◌, arith, length-append, le-leb, lt-ltb, leb-true, le_trans}
use Rattle.std.proofs.lemmas.Bool.{and_from, and_parts, cond-true}
use Rattle.eip_route.specs.Faults.{first_some, steps_numbers, outer_numbers, bad_number, bad_from, bad_block}
use Rattle.eip_route.specs.Nest.{NestedSet, flat_set}
use Rattle.eip_route.specs.declared.route.Block.{Block}
use Rattle.eip_route.specs.declared.route.Names.{Names}
use Rattle.eip_route.specs.declared.step.Step.{Step}
use Rattle.eip_route_validity.proofs.NothingFound.{none_parts, none_from, none_behind}
use Rattle.eip_route_validity.proofs.NumbersInOrder.{Closed, in_set}
use Rattle.eip_route_validity.specs.Fit.{SetFits}

in_range : (all : List Block) (least n : ℕ) → least ≤ n → n < length all → bad_number all least n ≡ None
in_range all least n l h = cond-true (nat_le least n && nat_lt n (length all)) None (Some n) (and_from _ _ (le-leb least n l) (lt-ltb n (length all) h))

no_number : (b : Bool) (n : ℕ) → cond b None (Some n) ≡ None → b ≡ true
no_number true n h = refl
no_number false n h = absurd (cc)

-- a number that is not below one is not below a lesser one
lesser_one : (all : List Block) (low high n : ℕ) → low ≤ high → bad_number all high n ≡ None → bad_number all low n ≡ None
lesser_one all low high n l h =
    let both : (nat_le high n && nat_lt n (length all)) ≡ true = no_number (nat_le high n && nat_lt n (length all)) n h in
    let parts = and_parts _ _ both in
    cond-true (nat_le low n && nat_lt n (length all)) None (Some n) (and_from _ _ (le-leb low n (le_trans l (leb-true high n parts.0))) parts.1)

lesser : (all : List Block) (low high : ℕ) (ns : List ℕ) → low ≤ high → first_some (bad_number all high) ns ≡ None → first_some (bad_number all low) ns ≡ None
lesser all low high [] l h = refl
lesser all low high (n ∷ ns) l h =
    let parts = none_parts (bad_number all high n) (first_some (bad_number all high) ns) h in
    none_from (bad_number all low n) (first_some (bad_number all low) ns) (lesser_one all low high n l parts.0) (lesser all low high ns l parts.1)

from_same : (all : List Block) (k m : ℕ) (bs : List Block) → k ≡ m → bad_from all m bs ≡ None → bad_from all k bs ≡ None
from_same all k m bs e h = ap (λ x. bad_from all x bs) e ∙ h

from_behind : (all : List Block) (k : ℕ) (xs ys : List Block) → bad_from all k xs ≡ None → bad_from all (k + length xs) ys ≡ None → bad_from all k (xs ++ ys) ≡ None
from_behind all k [] ys h t = from_same all k (k + length {A = Block} []) ys (omega arith) t
from_behind all k (b ∷ xs) ys h t =
    let parts = none_parts (first_some (bad_number all (k + 1)) (steps_numbers b.steps)) (bad_from all (k + 1) xs) h in
    none_from (first_some (bad_number all (k + 1)) (steps_numbers b.steps)) (bad_from all (k + 1) (xs ++ ys)) parts.0
    (from_behind all (k + 1) xs ys parts.1 (from_same all (k + 1 + length xs) (k + length (b ∷ xs)) ys (omega arith) t))

-- the blocks end before the last of all or with it, and then none of the numbers is bad
abbrev Ranged : List Block → ℕ → ℕ → List ℕ → List Block → Type 0
Ranged all d k ns bs = k + length bs ≤ length all → (first_some (bad_number all k) ns ≡ None) × (bad_from all k bs ≡ None)

ranged_behind : (all : List Block) (d k : ℕ) (ms ns : List ℕ) (xs ys : List Block) → Ranged all d k ms xs → Ranged all d (k + length xs) ns ys → Ranged all d k (ms ++ ns) (xs ++ ys)
ranged_behind all d k ms ns xs ys h t end =
    let first = h (omega (arith, length-append xs ys, end)) in
    let others = t (omega (arith, length-append xs ys, end)) in
    (none_behind (bad_number all k) ms ns first.0 (lesser all k (k + length xs) ns (omega arith) others.0), from_behind all k xs ys first.1 others.1)

ranged_block : (all : List Block) (d k : ℕ) (ss : List Step) (bs : List Block) → d < 16 → Ranged all (d + 1) (k + 1) (steps_numbers ss) bs → Ranged all d k (k ∷ []) (record { steps = ss } ∷ bs)
ranged_block all d k ss bs l h end =
    let inside = h (omega (arith, end)) in
    (none_from (bad_number all k k) None (in_range all k k (omega arith) (omega (arith, end))) refl, none_from (first_some (bad_number all (k + 1)) (steps_numbers ss)) (bad_from all (k + 1) bs) inside.0 inside.1)

ranged_closed : (all : List Block) → Closed (Ranged all)
ranged_closed all = record {
  nothing = λ d k end. (refl, refl);
  behind = ranged_behind all;
  block = ranged_block all;
}

pub no_bad_block : (n : Names) (x : NestedSet) → SetFits n x → bad_block (flat_set n x) ≡ None
no_bad_block n x h =
    let s = flat_set n x in
    let parts = in_set (Ranged s.blocks) (ranged_closed s.blocks) n x h (omega arith) in
    none_from (first_some (bad_number s.blocks 0) (outer_numbers s)) (bad_from s.blocks 0 s.blocks) parts.0 parts.1

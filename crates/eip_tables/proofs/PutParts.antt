-- The rows of parts, one by one.
use Rattle.std.proofs.Common.{◌≡◌, ℕ, zero, suc, ◌+◌, List, [], ◌∷◌, ◌++◌, length, refl, sym, ap, ◌∙◌, arith, append_assoc, length-append}
use Rattle.std.proofs.lemmas.List.{replicate-append-replicate}
use Rattle.eip_exchange.specs.declared.end.Fault.{Fault}
use Rattle.eip_frames.specs.declared.request.Seed.{Seed}
use Rattle.eip_tables.specs.declared.parts.Parent.{Parent}
use Rattle.eip_tables.specs.Row.{Row}
use Rattle.eip_tables.specs.Moves.{part_row, starving}
use Rattle.eip_tables.specs.Numbers.{numbers_from}
use Rattle.eip_tables.specs.Parts.{seed_birth, seed_rows, starving_faults}

-- one more row of a part
pub one-more : (p : Parent) (index : ℕ) (d : Seed) (old rest : List Seed) (rows new all : List Row) (row : Row) → old ≡ d ∷ rest → row ≡ part_row p.number index (seed_birth p (length rows + 1) index d) → new ≡ rows ++ row ∷ []
    → rows ++ seed_rows p (length rows + 1) index old ≡ all → new ++ seed_rows p (length new + 1) (index + 1) rest ≡ all
one-more p index d old rest rows new all row split is grown so_far =
    let many : length (rows ++ row ∷ []) + 1 ≡ length rows + 1 + 1 = omega (arith, length-append rows (row ∷ [])) in
    rw (grown, many) (append_assoc rows (row ∷ []) (seed_rows p (length rows + 1 + 1) (index + 1) rest) ∙ (ap (λ (r : Row). rows ++ r ∷ seed_rows p (length rows + 1 + 1) (index + 1) rest) is ∙ (ap (λ (ds : List Seed). rows ++ seed_rows p (length rows + 1) index ds) (sym split) ∙ so_far)))

pub numbers-one-more : (first index : ℕ) → numbers_from first index ++ (first + index) ∷ [] ≡ numbers_from first (index + 1)
numbers-one-more first zero = let e : first + 0 ≡ first = omega arith in rw e refl
numbers-one-more first (suc index) =
    let e : first + suc index ≡ first + 1 + index = omega arith in
    let f : suc index + 1 ≡ suc (index + 1) = omega arith in
    rw (e, f) (ap (λ (ns : List ℕ). first ∷ ns) (numbers-one-more (first + 1) index))

pub one-more-fault : (count : ℕ) (faults new : List Fault) (f : Fault) → new ≡ faults ++ f ∷ [] → f ≡ starving → faults ≡ starving_faults count → new ≡ starving_faults (count + 1)
one-more-fault count faults new f grown is so_far = grown ∙ (ap (λ (x : Fault). faults ++ x ∷ []) is ∙ (ap (λ (fs : List Fault). fs ++ starving ∷ []) so_far ∙ replicate-append-replicate count 1 starving))

-- and one fault fewer
pub one-fault-fewer : (count : ℕ) (faults rest : List Fault) (f : Fault) → faults ≡ rest ++ f ∷ [] → faults ≡ starving_faults (suc count) → (f ≡ starving) × (rest ≡ starving_faults count)
one-fault-fewer zero faults [] f split are = let g : f ∷ [] ≡ starving ∷ [] = sym split ∙ are in (cc, refl)
one-fault-fewer zero faults (x ∷ []) f split are = absurd (let g : x ∷ f ∷ [] ≡ starving ∷ [] = sym split ∙ are in cc)
one-fault-fewer zero faults (x ∷ y ∷ xs) f split are = absurd (let g : x ∷ y ∷ (xs ++ f ∷ []) ≡ starving ∷ [] = sym split ∙ are in cc)
one-fault-fewer (suc count) faults [] f split are = absurd (let g : f ∷ [] ≡ starving ∷ starving ∷ starving_faults count = sym split ∙ are in cc)
one-fault-fewer (suc count) faults (x ∷ xs) f split are =
    let g : x ∷ (xs ++ f ∷ []) ≡ starving ∷ starving_faults (suc count) = sym split ∙ are in
    let here : x ≡ starving = cc in
    let there : xs ++ f ∷ [] ≡ starving_faults (suc count) = cc in
    let r = one-fault-fewer count (xs ++ f ∷ []) xs f refl there in
    (r.0, rw (here, r.1) refl)

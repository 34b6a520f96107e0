-- A number put in its place among rising numbers.
use Rattle.std.proofs.Common.{◌≡◌, Result, Ok, Err, OnOk, OnErr, ℕ, ◌+◌, true, false, nat_lt, cond, List, [], ◌∷◌, refl, ap, add-one}
use Rattle.std.specs.List.{insert}
use Rattle.eip_history.specs.Tables.{put_in}
use Rattle.eip_tables.specs.Numbers.{place_in}

pub insert-place : (x : ℕ) (ys : List ℕ) → insert ys (place_in x ys) x ≡ put_in x ys
insert-place x [] = refl
insert-place x (y ∷ ys) =
    let ih = insert-place x ys in
    elim (nat_lt x y) as (λ v. insert (y ∷ ys) (cond v 0 (place_in x ys + 1)) x ≡ cond v (x ∷ (y ∷ ys)) (y ∷ put_in x ys)) [
      | true ↦ refl
      | false ↦ rw add-one (ap (λ zs. y ∷ zs) ih)
    ]

-- what a call that fails only where there is no room does where there is room
pub unless-full : {T E Done Full : Type 0} (r : Result T E) → OnOk r Done → OnErr r Full → (Full → ⊥) → Done
unless-full (Ok v) done full room = done
unless-full (Err e) done full room = absurd (room full)

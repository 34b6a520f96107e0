-- Worked rows of joins, by computing.
use Rattle.std.proofs.Common.{◌≡◌, false, List, [], ◌∷◌, Some, None, refl}
use Rattle.eip_exchange.specs.declared.end.Ended.{Ended}
use Rattle.eip_join.specs.Parts.{Call, Began, PartEnded, Took, parts_of, ends_at, is_ready}

-- exchange 1 was cut into 4, 5 and 6, of which 6 and then 4 have ended; exchange 2 into 7 alone
abbrev so_far : Ended → Ended → List Call
so_far a b = Began 2 7 1 ∷ PartEnded 4 b ∷ PartEnded 6 a ∷ Began 1 4 3 ∷ []

parts : (a b : Ended) → parts_of (so_far a b) 1 ∷ parts_of (so_far a b) 2 ∷ parts_of (so_far a b) 3 ∷ [] ≡ Some (4, 3) ∷ Some (7, 1) ∷ None ∷ []
parts a b = refl

waits : (a b : Ended) → is_ready (so_far a b) 1 ∷ is_ready (so_far a b) 2 ∷ is_ready (so_far a b) 3 ∷ [] ≡ false ∷ false ∷ false ∷ []
waits a b = refl

-- by index, and not by the order in which they ended
by_index : (a b c : Ended) → ends_at (PartEnded 5 c ∷ so_far a b) 1 ≡ Some (b ∷ c ∷ a ∷ [])
by_index a b c = refl

-- a parent that was cut twice
cut_again : (a b c : Ended) → ends_at (PartEnded 8 c ∷ Began 2 8 1 ∷ Took 2 ∷ PartEnded 7 b ∷ so_far a b) 2 ≡ Some (c ∷ [])
cut_again a b c = refl

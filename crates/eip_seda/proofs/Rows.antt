-- Worked rows of queues, by computing.
use Rattle.std.proofs.Common.{◌≡◌, ℕ, List, [], ◌∷◌, Some, None, refl}
use Rattle.eip_seda.specs.Consuming.{Call, Offered, Started, Ended, waiting, busy, next}

-- 2, 3 and 4 came into queue 1 and 7 into queue 0; 2 and 3 started, and one of them ended
abbrev so_far : List Call
so_far = Ended 1 ∷ Started 1 ∷ Started 1 ∷ Offered 1 4 ∷ Offered 0 7 ∷ Offered 1 3 ∷ Offered 1 2 ∷ []

abbrev limits : List (ℕ × ℕ)
limits = (5, 1) ∷ (3, 1) ∷ (2, 2) ∷ []

waits : waiting so_far 1 ∷ waiting so_far 0 ∷ waiting so_far 2 ∷ [] ≡ (4 ∷ []) ∷ (7 ∷ []) ∷ [] ∷ []
waits = refl

works : busy so_far 1 ∷ busy so_far 0 ∷ [] ≡ 1 ∷ 0 ∷ []
works = refl

-- queue 1 has no consumer that is free, and nobody waits in queue 2
starting : next limits so_far 1 ∷ next limits so_far 0 ∷ next limits so_far 2 ∷ next limits (Ended 1 ∷ so_far) 1 ∷ [] ≡ None ∷ Some 7 ∷ None ∷ Some 4 ∷ []
starting = refl

-- Worked rows of sleepers, by computing.
use Rattle.std.proofs.Common.{◌≡◌, List, [], ◌∷◌, Some, None, refl}
use Rattle.eip_redelivery.specs.Sleep.{Call, Slept, Woke, sleeps}

-- 4 fell asleep until 10, then 5 until 10, then 3 until 12; then 4 woke and fell asleep until 20
abbrev so_far : List Call
so_far = Slept 4 20 ∷ Woke 4 ∷ Slept 3 12 ∷ Slept 5 10 ∷ Slept 4 10 ∷ []

moments : sleeps so_far 4 ∷ sleeps so_far 5 ∷ sleeps so_far 3 ∷ sleeps so_far 6 ∷ [] ≡ Some 20 ∷ Some 10 ∷ Some 12 ∷ None ∷ []
moments = refl

woken_once : sleeps (Woke 5 ∷ so_far) 5 ∷ sleeps (Woke 5 ∷ so_far) 3 ∷ [] ≡ None ∷ Some 12 ∷ []
woken_once = refl

-- Worked rows of keys, by computing.
use Rattle.std.proofs.Common.{◌≡◌, Bool, true, false, List, [], ◌∷◌, codes, refl}
use Rattle.eip_exchange.specs.declared.end.Ending.TheVariants.{Completed, Handled, Failed}
use Rattle.eip_idempotent.specs.Keys.{Key, Call, Claimed, Settled, holds}

abbrev k : Key
k = (codes "in", codes "k")

-- whether 1, 2 and 3 hold the key
abbrev holders : List Call → List Bool
holders calls = holds calls k 1 ∷ holds calls k 2 ∷ holds calls k 3 ∷ []

-- not eager: 2 comes and completes while 1 waits for another try, and 3 meets 2; then 1 completes, and both hold the key
abbrev two_completed : List Call
two_completed = Settled 2 Completed ∷ Claimed k 2 false true ∷ Claimed k 1 false true ∷ []

not_eager : holders (Claimed k 1 false true ∷ []) ∷ holders two_completed ∷ holders (Settled 1 Completed ∷ Settled 3 Completed ∷ two_completed) ∷ []
    ≡ (false ∷ false ∷ false ∷ []) ∷ (false ∷ true ∷ false ∷ []) ∷ (true ∷ true ∷ false ∷ []) ∷ []
not_eager = refl

-- eager: 2 and 3 come while 1 waits, and meet it; it would give the key up if a handler took its fault
eager : holders (Claimed k 1 true true ∷ []) ∷ holders (Settled 3 Completed ∷ Settled 2 Completed ∷ Claimed k 1 true true ∷ []) ∷ holders (Settled 1 Handled ∷ Claimed k 1 true true ∷ []) ∷ []
    ≡ (true ∷ false ∷ false ∷ []) ∷ (true ∷ false ∷ false ∷ []) ∷ (false ∷ false ∷ false ∷ []) ∷ []
eager = refl

-- 1 failed, and its claim isn't to be removed
lasting : holders (Settled 1 Failed ∷ Claimed k 1 true false ∷ []) ∷ holders (Settled 1 Failed ∷ Claimed k 1 false false ∷ []) ∷ [] ≡ (true ∷ false ∷ false ∷ []) ∷ (true ∷ false ∷ false ∷ []) ∷ []
lasting = refl

-- another key of the repository has no holder
apart : holds (Settled 1 Completed ∷ Claimed k 1 false true ∷ []) (codes "in", codes "l") 1 ≡ false
apart = refl

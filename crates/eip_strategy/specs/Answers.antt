-- What a call answers.
use Rattle.std.specs.Prelude.{◌≡◌, ◌≢◌, ℕ, nat_le, List, length, Result, Ok, Err, if◌then◌else◌}
use Rattle.eip_exchange.specs.declared.message.Message.{Message}
use Rattle.eip_strategy.specs.declared.fault.StrategyFault.{StrategyFault}
use Rattle.eip_strategy.specs.declared.fault.StrategyFault.TheVariants.{NoMemory, TooLong}

abbrev pub Answer : Type 0 → Type 0
Answer A = Result A StrategyFault

-- a message, where its body has at most so many bytes
abbrev pub checked : ℕ → Message → Answer Message
checked limit m = if nat_le (length m.body) limit then Ok m else Err TooLong

-- a body of at most so many bytes
abbrev pub bounded : ℕ → Answer (List ℕ) → Answer (List ℕ)
bounded limit (Ok body) = if nat_le (length body) limit then Ok body else Err TooLong
bounded limit (Err f) = Err f

-- so many bytes, where they are few enough
abbrev pub fitting : ℕ → ℕ → Answer ℕ
fitting limit n = if nat_le n limit then Ok n else Err TooLong

-- the value that is wanted, seen so, or the fault that is wanted, unless memory ran out
abbrev pub Says : {A B : Type 0} → (A → B) → Result A StrategyFault → Result B StrategyFault → Type 0
Says see (Ok x) wanted = wanted ≡ Ok (see x)
Says see (Err f) wanted = f ≢ NoMemory → wanted ≡ Err f

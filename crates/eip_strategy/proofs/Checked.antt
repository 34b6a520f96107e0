-- A message within a limit.
use Rattle.std.proofs.Common.{◌≡◌, ℕ, Bool, true, false, length, Ok}
use Rattle.std.specs.Prelude.{nat_le}
use Rattle.eip_exchange.specs.declared.message.Message.{Message}
use Rattle.eip_strategy.specs.Answers.{Answer, checked}

pub checked_is : (b : Bool) (limit : ℕ) (m n : Message) → nat_le (length m.body) limit ≡ b → checked limit m ≡ Ok n → m ≡ n
checked_is true limit m n e h = let k : ◌≡◌ {A = Answer Message} (Ok m) (Ok n) = rw e at h in cc
checked_is false limit m n e h = absurd (let k = rw e at h in cc)

-- The message of a try beside the one that stood at the step, and who decides about a fault.
use Rattle.std.specs.Prelude.{◌≡◌, ℕ, cond, Option, Some, None, unwrap_or}
use Rattle.eip_exchange.specs.declared.message.Message.{Message}
use Rattle.eip_exchange.specs.declared.setting.Clause.{Clause}
use Rattle.eip_meaning.specs.Values.{redelivered}
use Rattle.eip_meaning.specs.Attempts.{number_of_try}
use Rattle.eip_meaning.specs.Meaning.{decides}
use Rattle.eip_progress.specs.declared.tried.Tried.{Tried}
use Rattle.eip_progress.specs.declared.tried.Tried.TheVariants as tried

-- the clause, where it says what is done
abbrev pub decider_of : Option Clause → Option Clause
decider_of None = None
decider_of (Some k) = cond (decides k) (Some k) None

-- what a try hands back where it asks or faults is its own message
abbrev pub Keeps : Tried → Message → Type 0
Keeps (tried.Goes x) m = Unit {0}
Keeps (tried.Faults f again x) m = x ≡ m
Keeps (tried.Asks y x) m = x ≡ m
Keeps (tried.Enters j x) m = Unit {0}
Keeps (tried.Calls r x) m = Unit {0}

-- the message m as it stood at the step is the one that was kept, else that of the try
abbrev pub HasKept : Option Message → (left : ℕ) → Tried → Message → Type 0
HasKept kept left (tried.Goes x) m = Unit {0}
HasKept kept left (tried.Faults f again x) m = (unwrap_or kept x ≡ m) × (x ≡ redelivered m (number_of_try left))
HasKept kept left (tried.Asks y x) m = (unwrap_or kept x ≡ m) × (x ≡ redelivered m (number_of_try left))
HasKept kept left (tried.Enters j x) m = Unit {0}
HasKept kept left (tried.Calls r x) m = Unit {0}

-- How a message is taken in with those before it, by the aggregation strategies.
use Rattle.std.specs.Prelude.{◌≢◌, ℕ, List, [], ◌∷◌, ◌++◌, ℤ, ◌+ℤ◌, Option, Some, None, Ok, Err, if◌then◌else◌}
use Rattle.std.specs.Fmt.{signed_decimal}
use Rattle.eip_text.specs.Numbers.{whole_of, is_small}
use Rattle.eip_exchange.specs.declared.message.Message.{Message}
use Rattle.eip_exchange.specs.declared.setting.Strategy.{Strategy}
use Rattle.eip_exchange.specs.declared.setting.Strategy.TheVariants.{Original, Latest, Joined, Grouped, Sum, Batch}
use Rattle.eip_resequence.specs.Packing.{IsPacked}
use Rattle.eip_strategy.specs.declared.fault.StrategyFault.TheVariants.{NotNumber, SumTooLarge}
use Rattle.eip_strategy.specs.Answers.{Answer, checked}
use Rattle.eip_strategy.specs.Batches.{added_packed}
use Rattle.eip_strategy.specs.Groups.{group_text, texts_read, IsGroup}

-- ---- sums

-- a body that is to be summed is a whole number of 64 bits
abbrev pub number_in : Option ℤ → Answer ℤ
number_in None = Err NotNumber
number_in (Some z) = Ok z

-- a sum has 64 bits
abbrev pub small_sum : ℤ → Answer ℤ
small_sum z = if is_small z then Ok z else Err SumTooLarge

abbrev pub sum_of : Option ℤ → Option ℤ → Answer ℤ
sum_of None y = Err NotNumber
sum_of (Some x) None = Err NotNumber
sum_of (Some x) (Some y) = small_sum (x +ℤ y)

abbrev pub in_decimal : Answer ℤ → Answer (List ℕ)
in_decimal (Ok z) = Ok (signed_decimal z)
in_decimal (Err f) = Err f

-- ---- bodies; a batch has its own rule

-- of the first message
abbrev pub first_body : Strategy → List ℕ → Answer (List ℕ)
first_body Original new = Ok new
first_body Latest new = Ok new
first_body (Joined delimiter) new = Ok new
first_body Grouped new = Ok (group_text (new ∷ []))
first_body Sum new = in_decimal (number_in (whole_of new))
first_body Batch new = Ok new

-- of the messages before and one more
abbrev pub next_body : Strategy → List ℕ → List ℕ → Answer (List ℕ)
next_body Original old new = Ok old
next_body Latest old new = Ok new
next_body (Joined delimiter) old new = Ok (old ++ (delimiter ++ new))
next_body Grouped old new = Ok (group_text (texts_read old ++ new ∷ []))
next_body Sum old new = in_decimal (sum_of (whole_of old) (whole_of new))
next_body Batch old new = Ok old

-- ---- messages

-- a message with another body of at most 65,536 bytes
abbrev pub with_body : Message → Answer (List ℕ) → Answer Message
with_body m (Ok body) = checked 65536 (record m { body = body })
with_body m (Err f) = Err f

-- whose headers and properties stay
abbrev pub kept : Strategy → Message → Message → Message
kept Original old new = old
kept Latest old new = new
kept (Joined delimiter) old new = old
kept Grouped old new = old
kept Sum old new = old
kept Batch old new = old

-- a message whose body is taken in with those before it, where there are any
abbrev pub taken_in : Strategy → Option Message → Message → Answer Message
taken_in s None new = with_body new (first_body s new.body)
taken_in s (Some old) new = with_body (kept s old new) (next_body s old.body new.body)

-- a message taken in with those before it: in a batch it is packed behind them
unfoldable pub added : Strategy → Option Message → Message → Answer Message
added Batch o new = added_packed o new
added s o new = taken_in s o new

-- by all strategies but these two, the messages before stay with another body
abbrev pub KeepsMessage : Strategy → Type 0
KeepsMessage s = (s ≢ Latest) × (s ≢ Batch)

-- ---- what the messages before are

-- where bodies are grouped or packed, that of the messages before is the list of theirs
abbrev pub IsReadyBody : Strategy → List ℕ → Type 0
IsReadyBody Original body = Unit {0}
IsReadyBody Latest body = Unit {0}
IsReadyBody (Joined delimiter) body = Unit {0}
IsReadyBody Grouped body = IsGroup body
IsReadyBody Sum body = Unit {0}
IsReadyBody Batch body = IsPacked body

abbrev pub IsReady : Strategy → Option Message → Type 0
IsReady s None = Unit {0}
IsReady s (Some old) = IsReadyBody s old.body

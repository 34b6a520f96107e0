-- Worked rows of the definitions.
use Rattle.std.proofs.Common.{◌≡◌, List, ℕ, [], ◌∷◌, Some, None, Ok, Err, pos, refl}
use Rattle.std.specs.Prelude.{codes}
use Rattle.json.specs.Print.{escape_byte}
use Rattle.eip_text.specs.Numbers.{whole_of}
use Rattle.eip_exchange.specs.declared.message.Message.{Message}
use Rattle.eip_exchange.specs.declared.setting.Strategy.{Strategy}
use Rattle.eip_exchange.specs.declared.setting.Strategy.TheVariants.{Original, Latest, Joined}
use Rattle.eip_strategy.specs.declared.fault.StrategyFault.TheVariants.{NotNumber, SumTooLarge}
use Rattle.eip_strategy.specs.Groups.{group_text}
use Rattle.eip_strategy.specs.Adding.{added, sum_of}
use Rattle.eip_strategy.specs.Folding.{folded}

-- a message of this body, whose one header tells its number
abbrev message : List ℕ → ℕ → Message
message body n = record { body = body; headers = (codes "n", n ∷ []) ∷ []; properties = [] }

row-none : (s : Strategy) → folded s [] ≡ Ok None
unfolding folded
row-none s = refl

row-joined : folded (Joined (codes "+")) (message (codes "<a>") 1 ∷ message (codes "<b>") 2 ∷ message (codes "<c>") 3 ∷ []) ≡ Ok (Some (message (codes "<a>+<b>+<c>") 1))
unfolding folded added
row-joined = refl

row-latest : folded Latest (message (codes "a") 1 ∷ message (codes "b") 2 ∷ []) ≡ Ok (Some (message (codes "b") 2))
unfolding folded added
row-latest = refl

row-original : folded Original (message (codes "a") 1 ∷ message (codes "b") 2 ∷ []) ≡ Ok (Some (message (codes "a") 1))
unfolding folded added
row-original = refl

row-group : group_text (codes "a" ∷ codes "\"" ∷ []) ≡ codes "[\"a\",\"\\\"\"]"
unfolding group_text escape_byte
row-group = refl

row-sum : sum_of (whole_of (codes "-0")) (whole_of (codes "007")) ≡ Ok (pos 7)
unfolding whole_of
row-sum = refl

row-sum_too_large : sum_of (whole_of (codes "9223372036854775807")) (whole_of (codes "1")) ≡ Err SumTooLarge
unfolding whole_of
row-sum_too_large = refl

row-no_number : sum_of (whole_of (codes "1")) (whole_of (codes "+2")) ≡ Err NotNumber
unfolding whole_of
row-no_number = refl

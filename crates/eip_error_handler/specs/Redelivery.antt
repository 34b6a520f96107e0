-- Redelivery: which attributes hold for a fault, how often a step is tried again, and after how many ticks.
use Rattle.std.specs.Prelude.{ℕ, ◌*◌, ◌-◌, ◌^◌, min, Bool, if◌then◌else◌, is_some, unwrap_or}
use Rattle.std.specs.Option.{option_or}
use Rattle.eip_exchange.specs.declared.setting.Policy.{Policy}

-- what the clause gives, and the rest as the handler gives it
unfoldable pub merged_policy : Policy → Policy → Policy
merged_policy clause handler = record {
  maximum = option_or clause.maximum handler.maximum;
  delay = option_or clause.delay handler.delay;
  multiplier = option_or clause.multiplier handler.multiplier;
  backing_off = option_or clause.backing_off handler.backing_off;
  greatest = option_or clause.greatest handler.greatest;
}

-- how often a step is tried again
abbrev pub maximum_of : Policy → ℕ
maximum_of p = unwrap_or p.maximum 0

-- the delay grows: where the policy says so, or says nothing of it and gives a multiplier
abbrev pub backs_off : Policy → Bool
backs_off p = unwrap_or p.backing_off (is_some p.multiplier)

-- by what the delay has grown before the n-th new try
abbrev pub growth_of : Policy → ℕ → ℕ
growth_of p n = if backs_off p then unwrap_or p.multiplier 2 ^ (n - 1) else 1

-- the ticks before the n-th new try
unfoldable pub delay_of : Policy → ℕ → ℕ
delay_of p n = min (unwrap_or p.delay 1000 * growth_of p n) (unwrap_or p.greatest 60000)

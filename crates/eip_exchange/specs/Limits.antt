-- How large a message may be.
use Rattle.std.specs.Prelude.{ℕ, ◌≤◌, ◌≡◌, List, [], ◌∷◌, length}
use Rattle.eip_exchange.specs.declared.message.Message.{Message}
use Rattle.eip_exchange.specs.Pairs.{Pairs}
use Rattle.eip_exchange.specs.Headers.{counted}

-- a body, or the value of a header or property, is at most 65,536 bytes long
abbrev pub IsShort : List ℕ → Type 0
IsShort text = length text ≤ 65536

-- each value is short
abbrev pub AreShort : Pairs → Type 0
AreShort [] = Unit {0}
AreShort (p ∷ ps) = IsShort p.1 × AreShort ps

-- the body and all values are short, and there are at most 64 headers beside the two of redelivery
pub record IsWithinLimits (m : Message) : Type 0 where
  pub body : IsShort m.body
  pub headers : AreShort m.headers
  pub properties : AreShort m.properties
  pub few : counted m.headers ≤ 64

-- what a source may give as a new message: within the limits, and without properties
pub record IsGivable (m : Message) : Type 0 where
  pub within : IsWithinLimits m
  pub no_properties : m.properties ≡ []

-- The items of a load test.
use Rattle.std.specs.Prelude.{ℕ, zero, suc, ◌≡◌, ◌+◌, ◌-◌, ◌/◌, ◌%◌, ◌==◌, ◌<◌, ◌≤◌, Bool, cond, List, [], ◌∷◌, codes, decimal}
use Rattle.eip_exchange.specs.declared.message.Message.{Message}
use Rattle.eip_endpoint.specs.declared.source.Pulled.{Pulled}
use Rattle.eip_endpoint.specs.declared.source.Pulled.TheVariants.{Item, Refused, End}
use Rattle.eip_load.specs.Draws.{drawn}

-- every fifth item repeats the one before it, save its name
abbrev pub is_repeat : ℕ → Bool
is_repeat i = i % 5 == 0

-- the item whose message item i has
abbrev pub original : ℕ → ℕ
original i = cond (is_repeat i) (i - 1) i

-- how many of the items 1 to i draw a number: all but the repeated ones
abbrev pub draws : ℕ → ℕ
draws i = i - i / 5

-- the message with this order, for which the number x was drawn
abbrev pub message_of : ℕ → ℕ → Message
message_of order x = record {
  body = decimal (x % 100);
  headers = (codes "order", decimal order) ∷ (codes "customer", decimal (x / 65536 % 4)) ∷ [];
  properties = [];
}

-- the message of item i, if it repeats none
abbrev pub own_message : ℕ → Message
own_message i = message_of i (drawn (draws i))

-- item i, from 1
abbrev pub item : ℕ → Pulled
item i = Item (decimal i) (own_message (original i))

-- so many items from item i on
abbrev pub items_from : ℕ → ℕ → List Pulled
items_from i zero = []
items_from i (suc k) = item i ∷ items_from (suc i) k

-- the items of load:N
abbrev pub items_of : ℕ → List Pulled
items_of n = items_from 1 n

-- behind the first `before` of n items the next one was given, or the end where there are no more
abbrev pub GaveItem : ℕ → ℕ → ℕ → Pulled → Type 0
GaveItem n before now (Item name m) = (before < n) × (now ≡ before + 1) × (Item name m ≡ item (before + 1))
GaveItem n before now (Refused name c) = ⊥
GaveItem n before now End = (n ≤ before) × (now ≡ before)

-- How a message is packed behind those before it.
use Rattle.std.specs.Prelude.{◌≡◌, ℕ, List, [], ◌∷◌, ◌++◌, nat_lt, length, map, Option, Some, None, if◌then◌else◌}
use Rattle.eip_exchange.specs.declared.message.Message.{Message}
use Rattle.eip_resequence.specs.declared.packed.Packed.{Packed}
use Rattle.eip_resequence.specs.Packing.{pack_text, IsPacked}
use Rattle.eip_resequence.specs.Unpacking.{messages_in}
use Rattle.eip_strategy.specs.Answers.{Answer, checked}

-- a message as it is packed
abbrev pub packed_of : Message → Packed
packed_of m = record { body = m.body; headers = m.headers; properties = m.properties }

-- the messages before: none of them, without headers and properties, where there is no such message
abbrev pub before : Option Message → Message
before None = record { body = pack_text []; headers = []; properties = [] }
before (Some old) = old

-- the packed text of a list with one more message
abbrev pub text_behind : List ℕ → Message → List ℕ
text_behind text new = pack_text (messages_in text ++ packed_of new ∷ [])

-- a new message packed behind those of another
abbrev pub packed_behind : Message → Message → Message
packed_behind old new = record old { body = text_behind old.body new }

-- the comma in front of one more value of a JSON list: none where the list is empty
abbrev pub comma_in : List ℕ → List ℕ
comma_in list = if nat_lt 2 (length list) then 44 ∷ [] else []

-- of at most 16,777,216 bytes
unfoldable pub added_packed : Option Message → Message → Answer Message
added_packed old new = checked 16777216 (packed_behind (before old) new)

-- the body of the messages before is the packed text of a list
abbrev pub IsBatch : Option Message → Type 0
IsBatch None = Unit {0}
IsBatch (Some old) = IsPacked old.body

-- a text that is packed of these messages, from the first to the last
abbrev pub IsPackedOf : List ℕ → List Message → Type 0
IsPackedOf text ms = text ≡ pack_text (map packed_of ms)

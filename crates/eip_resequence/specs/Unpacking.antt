-- The list of messages that a text is the packed text of.
use Rattle.std.specs.Prelude.{ℕ, List, [], ◌∷◌, codes, Option, Some, None, option_map, option_and_then, bytes_eq, if◌then◌else◌}
use Rattle.json.specs.Json.{Json, Items, no_items, item, document}
use Rattle.json.specs.Find.{get, as_str, as_array}
use Rattle.eip_resequence.specs.declared.packed.Packed.{Packed}
use Rattle.eip_resequence.specs.Packing.{Pairs, pack_text}

-- the text that a member is
abbrev pub text_at : List ℕ → Json → Option (List ℕ)
text_at name j = option_and_then as_str (get name j)

abbrev pub with_pair : Option (List ℕ) → Option (List ℕ) → Option Pairs → Option Pairs
with_pair name value rest = option_and_then (λ n. option_and_then (λ v. option_map (λ ps. (n, v) ∷ ps) rest) value) name

-- the pairs whose names and values stand in turn
abbrev pub pairs_in : Items → Option Pairs
pairs_in no_items = Some []
pairs_in (item n no_items) = None
pairs_in (item n (item v js)) = with_pair (as_str n) (as_str v) (pairs_in js)

-- the pairs that a member is
abbrev pub pairs_at : List ℕ → Json → Option Pairs
pairs_at name j = option_and_then pairs_in (option_and_then as_array (get name j))

abbrev pub packed_of : Option (List ℕ) → Option Pairs → Option Pairs → Option Packed
packed_of body headers properties = option_and_then (λ b. option_and_then (λ h. option_map (λ p. record { body = b; headers = h; properties = p }) properties) headers) body

-- the message that a value is
unfoldable pub packed_in : Json → Option Packed
packed_in j = packed_of (text_at (codes "b") j) (pairs_at (codes "h") j) (pairs_at (codes "p") j)

-- the messages that items are
abbrev pub all_in : Items → Option (List Packed)
all_in no_items = Some []
all_in (item j js) = option_and_then (λ m. option_map (λ ms. m ∷ ms) (all_in js)) (packed_in j)

abbrev pub list_in : Json → Option (List Packed)
list_in j = option_and_then all_in (as_array j)

-- the messages that a text says
abbrev pub list_read : List ℕ → Option (List Packed)
list_read text = option_and_then list_in (document text)

-- a list, where it packs to the text
abbrev pub if_packs : List ℕ → List Packed → Option (List Packed)
if_packs text ms = if bytes_eq (pack_text ms) text then Some ms else None

-- the list that the text is packed of
unfoldable pub unpacked : List ℕ → Option (List Packed)
unpacked text = option_and_then (if_packs text) (list_read text)

abbrev pub or_none : Option (List Packed) → List Packed
or_none None = []
or_none (Some ms) = ms

-- the messages that a packed text holds
unfoldable pub messages_in : List ℕ → List Packed
messages_in text = or_none (unpacked text)

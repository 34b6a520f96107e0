-- The messages of a batch in one text.
use Rattle.std.specs.Prelude.{◌≡◌, ℕ, List, [], ◌∷◌, codes}
use Rattle.eip_text.specs.Json.{Json, word, list, object, Items, no_items, item, no_members, member}
use Rattle.eip_text.specs.JsonText.{json_text}
use Rattle.eip_resequence.specs.declared.packed.Packed.{Packed}

-- names with their values
abbrev pub Pairs : Type 0
Pairs = List (List ℕ × List ℕ)

-- names and values in turn
abbrev pub in_turn : Pairs → Items
in_turn [] = no_items
in_turn (p ∷ ps) = item (word p.0) (item (word p.1) (in_turn ps))

abbrev pub pairs_json : Pairs → Json
pairs_json ps = list (in_turn ps)

-- a message: its body `b`, its headers `h` and its properties `p`
abbrev pub packed_json : Packed → Json
packed_json m = object (member (codes "b") (word m.body) (member (codes "h") (pairs_json m.headers) (member (codes "p") (pairs_json m.properties) no_members)))

abbrev pub all_packed : List Packed → Items
all_packed [] = no_items
all_packed (m ∷ ms) = item (packed_json m) (all_packed ms)

abbrev pub list_json : List Packed → Json
list_json ms = list (all_packed ms)

-- the messages in one text: the compact text of their list
unfoldable pub pack_text : List Packed → List ℕ
pack_text ms = json_text (list_json ms)

-- a text that some list packs to
abbrev pub IsPacked : List ℕ → Type 0
IsPacked text = (ms : List Packed) × (text ≡ pack_text ms)

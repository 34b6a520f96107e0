-- Texts in one JSON list.
use Rattle.std.specs.Prelude.{◌≡◌, ◌<◌, ℕ, List, [], ◌∷◌, length, Option, Some, None, option_and_then}
use Rattle.json.specs.Json as given
use Rattle.json.specs.Json.{document}
use Rattle.json.specs.Find.{as_str, as_array}
use Rattle.eip_text.specs.Json.{list, word, Items, no_items, item}
use Rattle.eip_text.specs.JsonText.{json_text}

abbrev pub words : List (List ℕ) → Items
words [] = no_items
words (t ∷ ts) = item (word t) (words ts)

-- the compact JSON list of texts
unfoldable pub group_text : List (List ℕ) → List ℕ
group_text ts = json_text (list (words ts))

-- a text that is such a list of one or more texts
abbrev pub IsGroup : List ℕ → Type 0
IsGroup text = (ts : List (List ℕ)) × ((0 < length ts) × (text ≡ group_text ts))

-- ---- what a list holds

abbrev pub with_text : Option (List ℕ) → List (List ℕ) → List (List ℕ)
with_text None ts = ts
with_text (Some t) ts = t ∷ ts

-- the texts among the elements
abbrev pub texts_of : given.Items → List (List ℕ)
texts_of given.no_items = []
texts_of (given.item j js) = with_text (as_str j) (texts_of js)

abbrev pub texts_among : Option given.Items → List (List ℕ)
texts_among None = []
texts_among (Some js) = texts_of js

-- the texts of the JSON list that a text is
unfoldable pub texts_read : List ℕ → List (List ℕ)
texts_read text = texts_among (option_and_then as_array (document text))

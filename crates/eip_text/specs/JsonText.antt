-- The compact text of a JSON value, and what lets it be read again.
use Rattle.std.specs.Prelude.{◌≡◌, ℕ, ℤ, suc, pos, negsuc, ◌^◌, ◌<◌, ◌||◌, max, Bool, true, false, List, [], ◌∷◌, ◌++◌, codes, if◌then◌else◌, ⊤}
use Rattle.std.specs.Cmp.Lexicographic.{slice_cmp}
use Rattle.std.specs.declared.cmp.Ordering.TheVariants.{Less}
use Rattle.std.specs.Float.{binary64}
use Rattle.std.specs.Float.Ieee.{of_int}
use Rattle.std.specs.Fmt.{signed_decimal}
use Rattle.std.specs.Ordering.{nat_cmp}
use Rattle.json.specs.Print.{quoted as string_text}
use Rattle.json.specs.Token.{Token}
use Rattle.json.specs.Tree as tree
use Rattle.json.specs.Written.{Written}
use Rattle.serde_json.specs.Data as given
use Rattle.serde_json.specs.Written.{outline, items_outline, members_outline}
use Rattle.serde_json.specs.Find.{of_integer}
use Rattle.eip_text.specs.Json.{Json, null, flag, whole, float, word, list, object, Items, no_items, item, Members, no_members, member}

abbrev pub comma_if : Bool → List ℕ
comma_if later = if later then 44 ∷ [] else []

-- without spaces, the members in their order, a string as the crate `json` quotes it; a float has no text
abbrev mutual
  pub json_text : Json → List ℕ
  json_text null = codes "null"
  json_text (flag b) = if b then codes "true" else codes "false"
  json_text (whole z) = signed_decimal z
  json_text float = []
  json_text (word w) = string_text w
  json_text (list js) = 91 ∷ items_text false js
  json_text (object ms) = 123 ∷ members_text false ms

  -- with the closing bracket, and a comma in front of each item behind the first
  pub items_text : Bool → Items → List ℕ
  items_text later no_items = 93 ∷ []
  items_text later (item j js) = comma_if later ++ (json_text j ++ items_text true js)

  pub members_text : Bool → Members → List ℕ
  members_text later no_members = 125 ∷ []
  members_text later (member k j ms) = comma_if later ++ (string_text k ++ 58 ∷ (json_text j ++ members_text true ms))

abbrev mutual
  pub has_float : Json → Bool
  has_float null = false
  has_float (flag b) = false
  has_float (whole z) = false
  has_float float = true
  has_float (word w) = false
  has_float (list js) = items_have_float js
  has_float (object ms) = members_have_float ms

  pub items_have_float : Items → Bool
  items_have_float no_items = false
  items_have_float (item j js) = has_float j || items_have_float js

  pub members_have_float : Members → Bool
  members_have_float no_members = false
  members_have_float (member k j ms) = has_float j || members_have_float ms

-- how deep lists and objects nest
abbrev mutual
  pub nesting : Json → ℕ
  nesting null = 0
  nesting (flag b) = 0
  nesting (whole z) = 0
  nesting float = 0
  nesting (word w) = 0
  nesting (list js) = suc (items_nesting js)
  nesting (object ms) = suc (members_nesting ms)

  pub items_nesting : Items → ℕ
  items_nesting no_items = 0
  items_nesting (item j js) = max (nesting j) (items_nesting js)

  pub members_nesting : Members → ℕ
  members_nesting no_members = 0
  members_nesting (member k j ms) = max (nesting j) (members_nesting ms)

-- a whole number of 64 bits, signed below and unsigned above
abbrev pub Fits64 : ℤ → Type 0
Fits64 (pos n) = n < 2 ^ 64
Fits64 (negsuc n) = n < 2 ^ 63

-- the keys of the members stand above a key, in byte order
abbrev pub Above : List ℕ → Members → Type 0
Above k no_members = ⊤
Above k (member l j ms) = (slice_cmp nat_cmp k l ≡ Less) × Above k ms

-- whole numbers have 64 bits, and the keys of each object stand in byte order, each once
abbrev mutual
  pub IsCanonical : Json → Type 0
  IsCanonical null = ⊤
  IsCanonical (flag b) = ⊤
  IsCanonical (whole z) = Fits64 z
  IsCanonical float = ⊤
  IsCanonical (word w) = ⊤
  IsCanonical (list js) = ItemsAreCanonical js
  IsCanonical (object ms) = MembersAreCanonical ms

  pub ItemsAreCanonical : Items → Type 0
  ItemsAreCanonical no_items = ⊤
  ItemsAreCanonical (item j js) = IsCanonical j × ItemsAreCanonical js

  pub MembersAreCanonical : Members → Type 0
  MembersAreCanonical no_members = ⊤
  MembersAreCanonical (member k j ms) = Above k ms × (IsCanonical j × MembersAreCanonical ms)

-- ---- the data that `serde_json` has for it, and the tokens that are written

abbrev mutual
  pub data_of : Json → given.Data
  data_of null = given.null
  data_of (flag b) = given.boolean b
  data_of (whole z) = given.number (of_integer z)
  data_of float = given.number (given.float (of_int binary64 (pos 0)))
  data_of (word w) = given.string w
  data_of (list js) = given.array (items_data js)
  data_of (object ms) = given.object (members_data ms)

  pub items_data : Items → given.Items
  items_data no_items = given.no_items
  items_data (item j js) = given.item (data_of j) (items_data js)

  pub members_data : Members → given.Members
  members_data no_members = given.no_members
  members_data (member k j ms) = given.member k (data_of j) (members_data ms)

abbrev pub value_tokens : Json → List Token
value_tokens j = tree.json_tokens (outline (data_of j))

-- with the closing bracket
abbrev pub items_tokens : Items → List Token
items_tokens js = tree.items_tokens (items_outline (items_data js))

abbrev pub members_tokens : Members → List Token
members_tokens ms = tree.members_tokens (members_outline (members_data ms))

-- these tokens were written behind the others
pub record Wrote (ts : List Token) (old new : Written) : Type 0 where
  pub before : new.before ≡ old.before
  pub tokens : new.tokens ≡ old.tokens ++ ts

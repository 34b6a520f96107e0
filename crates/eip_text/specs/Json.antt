-- A JSON value as plain data: what a tree is as such, and what a text reads as.
use Rattle.std.specs.Prelude.{ℕ, ℤ, pos, Bool, List, [], ◌∷◌, Option, None, option_map, if◌then◌else◌}
use Rattle.std.specs.Str.{is_utf8}
use Rattle.serde_json.specs.Data as given
use Rattle.serde_json.specs.Read.{read}
use Rattle.eip_text.specs.declared.tree.Tree.{Tree, fold-Tree}
use Rattle.eip_text.specs.declared.tree.Tree.TheOpen.{Tree-F}

-- a JSON value; a number that is no whole number of 64 bits is only `float`
mutual
  pub data Json : Type 0 where
    null : Json
    flag : Bool → Json
    whole : ℤ → Json
    float : Json
    word : List ℕ → Json
    list : Items → Json
    object : Members → Json

  pub data Items : Type 0 where
    no_items : Items
    item : Json → Items → Items

  pub data Members : Type 0 where
    no_members : Members
    member : List ℕ → Json → Members → Members

-- ---- of a tree

abbrev pub items_of : List Json → Items
items_of [] = no_items
items_of (j ∷ js) = item j (items_of js)

abbrev pub members_of : List (List ℕ × Json) → Members
members_of [] = no_members
members_of (m ∷ ms) = member m.0 m.1 (members_of ms)

-- one level, whose inner trees are seen as data already
abbrev pub one_level : Tree-F Json → Json
one_level Tree-F.Null = null
one_level (Tree-F.Flag b) = flag b
one_level (Tree-F.Whole z) = whole z
one_level Tree-F.Float = float
one_level (Tree-F.Word w) = word w
one_level (Tree-F.List ts) = list (items_of ts)
one_level (Tree-F.Object ms) = object (members_of ms)

-- the data that a tree is
unfoldable pub json : Tree → Json
json = fold-Tree Json one_level

abbrev pub items_json : List Tree → Items
items_json [] = no_items
items_json (t ∷ ts) = item (json t) (items_json ts)

abbrev pub members_json : List (List ℕ × Tree) → Members
members_json [] = no_members
members_json (m ∷ ms) = member m.0 (json m.1) (members_json ms)

-- ---- of a text

abbrev pub number_json : given.Num → Json
number_json (given.unsigned n) = whole (pos n)
number_json (given.negative z) = whole z
number_json (given.float x) = float

-- what is kept of the data that `serde_json` reads
abbrev mutual
  pub json_of : given.Data → Json
  json_of given.null = null
  json_of (given.boolean b) = flag b
  json_of (given.number n) = number_json n
  json_of (given.string s) = word s
  json_of (given.array ds) = list (json_items ds)
  json_of (given.object ms) = object (json_members ms)

  pub json_items : given.Items → Items
  json_items given.no_items = no_items
  json_items (given.item d ds) = item (json_of d) (json_items ds)

  pub json_members : given.Members → Members
  json_members given.no_members = no_members
  json_members (given.member k d ms) = member k (json_of d) (json_members ms)

-- the value that bytes spell: none where they are not UTF-8, or where `serde_json` reads none
unfoldable pub json_read : List ℕ → Option Json
json_read bs = if is_utf8 bs then option_map json_of (read bs) else None

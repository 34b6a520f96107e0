-- What a text reads as, apart by whether it is UTF-8, and level by level.
use Rattle.std.proofs.Common.{true≢false, rules, Bool, ℕ, ℤ, Some, List, [], ◌∷◌, ◌≡◌, inl, inr, option_map, None, refl, ap, sym, ◌∙◌, map, String, Global, string_bytes}
use Rattle.std.proofs.lemmas.Bool.{cases_Bool}
use Rattle.std.proofs.lemmas.Str.{IsUtf8-from_is_utf8, is_utf8-from_IsUtf8}
use Rattle.std.specs.Str.{IsUtf8, is_utf8}
use Rattle.serde_json.specs.Read.{read}
use Rattle.serde_json.specs.View.{view, items_view, members_view}
use Rattle.serde_json.specs.declared.value.Value.{Value, Null, Bool as Flag, Number as Numeral, String as Word, Array, Object, the_lemmas}
use Rattle.serde_json.specs.declared.number.Number.{Number}
use Rattle.serde_json.specs.View.{number_view}
use Rattle.serde_json.specs.Data.{Data, Num, unsigned, negative, float as real}
use Rattle.serde_json.specs.Find.{as_integer}
use Rattle.std.specs.Prelude.{Vec}
use Rattle.std.specs.BTreeMap.{BTreeMap}
use Rattle.eip_text.specs.Json.{Json, null, flag, whole, float, word, list, object, number_json, item, member, items_of, members_of, json, items_json, members_json, json_of, json_items, json_members, json_read}
use Rattle.eip_text.specs.declared.tree.Tree.{Tree}

-- of a text
pub json_read-text : (bs : List ℕ) → IsUtf8 bs → json_read bs ≡ option_map json_of (read bs)
unfolding json_read
json_read-text bs u = rw (is_utf8-from_IsUtf8 bs u)

-- of bytes that are no text
pub json_read-bytes : (bs : List ℕ) → (IsUtf8 bs → ⊥) → json_read bs ≡ None
unfolding json_read
json_read-bytes bs n = elim (cases_Bool (is_utf8 bs)) [ inl t ↦ absurd (n (IsUtf8-from_is_utf8 bs t)) | inr f ↦ rw f refl ]

pub json_read-some : (bs : List ℕ) (d : Data) (j : Json) → IsUtf8 bs → read bs ≡ Some d → j ≡ json_of d → json_read bs ≡ Some j
json_read-some bs d j u r e = json_read-text bs u ∙ ap (option_map json_of) r ∙ ap Some (sym e)

-- where a text would read as nothing
pub json_read-none : (bs : List ℕ) → (IsUtf8 bs → read bs ≡ None) → json_read bs ≡ None
json_read-none bs r = elim (cases_Bool (is_utf8 bs)) [
  | inl t ↦ (let u = IsUtf8-from_is_utf8 bs t in json_read-text bs u ∙ ap (option_map json_of) (r u))
  | inr f ↦ json_read-bytes bs (λ u. true≢false (sym (is_utf8-from_IsUtf8 bs u) ∙ f))
]

abbrev pub Entry : Type 0
Entry = String Global × Value

abbrev pub value_json : Value → Json
value_json v = json_of (view v)

abbrev pub entry_json : Entry → List ℕ × Json
entry_json e = (string_bytes e.0, value_json e.1)

abbrev pub named_json : List ℕ × Tree → List ℕ × Json
named_json m = (m.0, json m.1)

items_read : (vs : List Value) → items_of (map value_json vs) ≡ json_items (items_view vs)
items_read [] = refl
items_read (v ∷ vs) = ap (item (value_json v)) (items_read vs)

items_kept : (ts : List Tree) → items_json ts ≡ items_of (map json ts)
items_kept [] = refl
items_kept (t ∷ ts) = ap (item (json t)) (items_kept ts)

-- trees of the same data, item by item
pub items_json-mapped : (ts : List Tree) (vs : List Value) → map json ts ≡ map value_json vs → items_json ts ≡ json_items (items_view vs)
items_json-mapped ts vs e = items_kept ts ∙ ap items_of e ∙ items_read vs

members_read : (es : List Entry) → members_of (map entry_json es) ≡ json_members (members_view es)
members_read [] = refl
members_read (e ∷ es) = ap (member (string_bytes e.0) (value_json e.1)) (members_read es)

members_kept : (ms : List (List ℕ × Tree)) → members_json ms ≡ members_of (map named_json ms)
members_kept [] = refl
members_kept (m ∷ ms) = ap (member m.0 (json m.1)) (members_kept ms)

-- trees of the same data, member by member
pub members_json-mapped : (ms : List (List ℕ × Tree)) (es : List Entry) → map named_json ms ≡ map entry_json es → members_json ms ≡ json_members (members_view es)
members_json-mapped ms es e = members_kept ms ∙ ap members_of e ∙ members_read es

-- ---- the levels of a value

pub read-Null : value_json Null ≡ null
read-Null = search (rules, the_lemmas)

pub read-Flag : (b : Bool) → value_json (Flag b) ≡ flag b
read-Flag b = search (rules, the_lemmas)

pub read-Numeral : (x : Number) → value_json (Numeral x) ≡ number_json (number_view x)
read-Numeral x = search (rules, the_lemmas)

pub read-Word : (s : String Global) → value_json (Word s) ≡ word (string_bytes s)
read-Word s = search (rules, the_lemmas)

pub read-Array : (v : Vec Value Global) → value_json (Array v) ≡ list (json_items (items_view v.items))
read-Array v = search (rules, the_lemmas)

pub read-Object : (m : BTreeMap (String Global) Value) → value_json (Object m) ≡ object (json_members (members_view m.entries))
read-Object m = search (rules, the_lemmas)

pub number_json-some : (n : Num) (z : ℤ) → Some z ≡ as_integer n → number_json n ≡ whole z
number_json-some (unsigned k) z e = cc
number_json-some (negative k) z e = cc
number_json-some (real x) z e = cc

pub number_json-none : (n : Num) → None ≡ as_integer n → number_json n ≡ float
number_json-none (unsigned k) e = cc
number_json-none (negative k) e = cc
number_json-none (real x) e = refl

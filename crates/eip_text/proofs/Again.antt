-- The compact text of a JSON value is read again as that value.
use Rattle.std.proofs.Common.{ℕ, ℤ, pos, negsuc, suc, ◌≡◌, ◌≤◌, Bool, true, false, List, [], ◌∷◌, ◌++◌, Option, Some, option_map, option_and_then, refl, sym, ap, ap₂, ◌∙◌, arith, append-nil, Greater, nat_cmp}
use Rattle.std.proofs.lemmas.Bool.{or_parts}
use Rattle.std.proofs.lemmas.Cmp.{nat_list_cmp_total}
use Rattle.std.specs.Cmp.Lexicographic.{slice_cmp}
use Rattle.std.specs.Ordering.{ordering_reverse}
use Rattle.std.specs.Prelude.{⊤, max}
use Rattle.std.specs.Str.{IsUtf8}
use Rattle.json.specs.Json as parsed
use Rattle.json.specs.Lex.{tokens}
use Rattle.json.specs.Print.{print, quoted as string_text}
use Rattle.json.specs.Tree as tree
use Rattle.json.proofs.Printed.Trees.{value-json_tokens}
use Rattle.serde_json.specs.Data as given
use Rattle.serde_json.specs.Data.{put}
use Rattle.serde_json.specs.Find.{of_integer}
use Rattle.serde_json.specs.Read.{read, of_json, of_items, of_members, max_depth}
use Rattle.serde_json.specs.Written.{outline, items_outline, members_outline, compact_text}
use Rattle.serde_json.specs.Written as written
use Rattle.serde_json.proofs.Numbers.{number_of-decimal, number_of-negative}
use Rattle.serde_json.proofs.Texts.{print-outline}
use Rattle.eip_text.specs.Json.{Json, null, flag, whole, float, word, list, object, Items, no_items, item, Members, no_members, member, json_of, json_items, json_members, json_read}
use Rattle.eip_text.specs.JsonText.{json_text, items_text, members_text, comma_if, has_float, items_have_float, members_have_float, nesting, items_nesting, members_nesting, Above, IsCanonical, ItemsAreCanonical, MembersAreCanonical, data_of, items_data, members_data, value_tokens}
use Rattle.eip_text.proofs.Printing.{number_text-whole}
use Rattle.eip_text.proofs.Readings.{json_read-some}

-- ---- the text

flag_text : (b : Bool) → compact_text (given.boolean b) ≡ json_text (flag b)
flag_text true = refl
flag_text false = refl

mutual
  compact_text-data : (j : Json) → compact_text (data_of j) ≡ json_text j
  compact_text-data null = refl
  compact_text-data (flag b) = flag_text b
  compact_text-data (whole z) = number_text-whole z
  compact_text-data float = refl
  compact_text-data (word w) = refl
  compact_text-data (list js) = ap (λ s. 91 ∷ s) (items_text-data false js)
  compact_text-data (object ms) = ap (λ s. 123 ∷ s) (members_text-data false ms)

  items_text-data : (later : Bool) (js : Items) → written.items_text later (items_data js) ≡ items_text later js
  items_text-data later no_items = refl
  items_text-data later (item j js) = ap₂ (λ a b. comma_if later ++ (a ++ b)) (compact_text-data j) (items_text-data true js)

  members_text-data : (later : Bool) (ms : Members) → written.members_text later (members_data ms) ≡ members_text later ms
  members_text-data later no_members = refl
  members_text-data later (member k j ms) = ap₂ (λ a b. comma_if later ++ (string_text k ++ 58 ∷ (a ++ b))) (compact_text-data j) (members_text-data true ms)

pub print-value_tokens : (j : Json) → print (value_tokens j) ≡ json_text j
print-value_tokens j = print-outline (data_of j) ∙ compact_text-data j

-- ---- the data

number_again : (z : ℤ) → json_of (given.number (of_integer z)) ≡ whole z
number_again (pos n) = refl
number_again (negsuc n) = refl

mutual
  json_of-data : (j : Json) → json_of (data_of j) ≡ j
  json_of-data null = refl
  json_of-data (flag b) = refl
  json_of-data (whole z) = number_again z
  json_of-data float = refl
  json_of-data (word w) = refl
  json_of-data (list js) = ap list (json_items-data js)
  json_of-data (object ms) = ap object (json_members-data ms)

  json_items-data : (js : Items) → json_items (items_data js) ≡ js
  json_items-data no_items = refl
  json_items-data (item j js) = ap₂ item (json_of-data j) (json_items-data js)

  json_members-data : (ms : Members) → json_members (members_data ms) ≡ ms
  json_members-data no_members = refl
  json_members-data (member k j ms) = ap₂ (member k) (json_of-data j) (json_members-data ms)

mutual
  depth-outline : (j : Json) → tree.depth (outline (data_of j)) ≡ nesting j
  depth-outline null = refl
  depth-outline (flag b) = refl
  depth-outline (whole z) = refl
  depth-outline float = refl
  depth-outline (word w) = refl
  depth-outline (list js) = ap suc (items_depth-outline js)
  depth-outline (object ms) = ap suc (members_depth-outline ms)

  items_depth-outline : (js : Items) → tree.items_depth (items_outline (items_data js)) ≡ items_nesting js
  items_depth-outline no_items = refl
  items_depth-outline (item j js) = ap₂ max (depth-outline j) (items_depth-outline js)

  members_depth-outline : (ms : Members) → tree.members_depth (members_outline (members_data ms)) ≡ members_nesting ms
  members_depth-outline no_members = refl
  members_depth-outline (member k j ms) = ap₂ max (depth-outline j) (members_depth-outline ms)

-- ---- members in byte order stay in their order

abbrev joined : given.Members → given.Members → given.Members
joined given.no_members ms = ms
joined (given.member l e more) ms = given.member l e (joined more ms)

joined-none : (ds : given.Members) → joined ds given.no_members ≡ ds
joined-none given.no_members = refl
joined-none (given.member l e ds) = ap (given.member l e) (joined-none ds)

joined-assoc : (ds es fs : given.Members) → joined (joined ds es) fs ≡ joined ds (joined es fs)
joined-assoc given.no_members es fs = refl
joined-assoc (given.member l e ds) es fs = ap (given.member l e) (joined-assoc ds es fs)

-- each key that was found is below those of the members
abbrev AllAbove : given.Members → Members → Type 0
AllAbove given.no_members ms = ⊤
AllAbove (given.member l e ds) ms = Above l ms × AllAbove ds ms

put-last : (found : given.Members) (k : List ℕ) (d : given.Data) (j : Json) (ms : Members) → AllAbove found (member k j ms)
    → put k d found ≡ joined found (given.member k d given.no_members)
put-last given.no_members k d j ms h = refl
put-last (given.member l e found) k d j ms h =
    let above : slice_cmp nat_cmp k l ≡ Greater = nat_list_cmp_total.antisymm k l ∙ ap ordering_reverse h.0.0 in
    rw above (ap (given.member l e) (put-last found k d j ms h.1))

all_above_next : (found : given.Members) (k : List ℕ) (d : given.Data) (j : Json) (ms : Members) → AllAbove found (member k j ms) → Above k ms
    → AllAbove (joined found (given.member k d given.no_members)) ms
all_above_next given.no_members k d j ms h next = (next, tt)
all_above_next (given.member l e found) k d j ms h next = (h.0.1, all_above_next found k d j ms h.1 next)

-- ---- what was written reads as the data

number_read : (z : ℤ) → IsCanonical (whole z) → of_json (outline (data_of (whole z))) ≡ Some (data_of (whole z))
number_read (pos n) h = ap (option_map given.number) (number_of-decimal n h)
number_read (negsuc n) h = ap (option_map given.number) (number_of-negative n h)

mutual
  of_json-outline : (j : Json) → IsCanonical j → has_float j ≡ false → of_json (outline (data_of j)) ≡ Some (data_of j)
  of_json-outline null h wholes = refl
  of_json-outline (flag b) h wholes = refl
  of_json-outline (whole z) h wholes = number_read z h
  of_json-outline float h wholes = absurd (cc)
  of_json-outline (word w) h wholes = refl
  of_json-outline (list js) h wholes = ap (option_map given.array) (of_items-outline js h wholes)
  of_json-outline (object ms) h wholes = ap (option_map given.object) (of_members-outline ms given.no_members h wholes tt)

  of_items-outline : (js : Items) → ItemsAreCanonical js → items_have_float js ≡ false → of_items (items_outline (items_data js)) ≡ Some (items_data js)
  of_items-outline no_items h wholes = refl
  of_items-outline (item j js) h wholes =
      let p = or_parts (has_float j) _ wholes in
      ap₂ (λ (a : Option given.Data) (b : Option given.Items). option_and_then (λ d. option_map (given.item d) b) a) (of_json-outline j h.0 p.0) (of_items-outline js h.1 p.1)

  of_members-outline : (ms : Members) (found : given.Members) → MembersAreCanonical ms → members_have_float ms ≡ false → AllAbove found ms
      → of_members (members_outline (members_data ms)) found ≡ Some (joined found (members_data ms))
  of_members-outline no_members found h wholes above = ap Some (sym (joined-none found))
  of_members-outline (member k j ms) found h wholes above =
      let p = or_parts (has_float j) _ wholes in
      let rest = members_outline (members_data ms) in
      let d = data_of j in
      ap (option_and_then (λ e. of_members rest (put k e found))) (of_json-outline j h.1.0 p.0)
      ∙ ap (of_members rest) (put-last found k d j ms above)
      ∙ of_members-outline ms (joined found (given.member k d given.no_members)) h.1.1 p.1 (all_above_next found k d j ms above h.0)
      ∙ ap Some (joined-assoc found (given.member k d given.no_members) (members_data ms))

read-written : (j : Json) (text : List ℕ) → tokens text ≡ value_tokens j → IsCanonical j → has_float j ≡ false → nesting j ≤ 127 → read text ≡ Some (data_of j)
read-written j text same canonical wholes shallow =
    let k = outline (data_of j) in
    let depth : tree.depth k ≤ max_depth = omega (arith, depth-outline j) in
    ap (λ ts. option_and_then of_json (option_and_then (λ p. parsed.if_last p.0 p.1) (parsed.value max_depth ts))) (same ∙ sym (append-nil (value_tokens j)))
    ∙ ap (λ r. option_and_then of_json (option_and_then (λ p. parsed.if_last p.0 p.1) r)) (value-json_tokens k max_depth [] depth)
    ∙ of_json-outline j canonical wholes

-- of a text that was written for it
pub json_read-written : (j : Json) (bs text : List ℕ) → bs ≡ text → IsUtf8 text → tokens text ≡ value_tokens j → IsCanonical j → has_float j ≡ false → nesting j ≤ 127 → json_read bs ≡ Some j
json_read-written j bs text e utf8 same canonical wholes shallow =
    ap json_read e ∙ json_read-some text (data_of j) j utf8 (read-written j text same canonical wholes shallow) (sym (json_of-data j))

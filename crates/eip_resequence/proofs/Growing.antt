-- The text of a JSON list, and of that list with one more item at its end.
use Rattle.std.proofs.Common.{◌≡◌, ℕ, ◌+◌, ◌-◌, Bool, true, false, cond, ltb, List, [], ◌∷◌, ◌++◌, length, get_or, take, refl, sym, ap, ◌∙◌, arith, append_assoc, length-append}
use Rattle.std.proofs.Math.Seq.{take-append_seam, get_or-append_seam}
use Rattle.std.proofs.lemmas.Bool.{lt-ltb}
use Rattle.std.proofs.lemmas.List.{append_cancel_right}
use Rattle.eip_text.specs.Json.{Json, list, Items, no_items, item}
use Rattle.eip_text.specs.JsonText.{json_text, items_text, comma_if}
use Rattle.eip_resequence.specs.declared.packed.Packed.{Packed}
use Rattle.eip_resequence.specs.Packing.{packed_json, all_packed, pack_text}

-- one more item
abbrev pub with_last : Items → Json → Items
with_last no_items j = item j no_items
with_last (item i js) j = item i (with_last js j)

-- the text of items without the closing bracket
abbrev pub open_text : Bool → Items → List ℕ
open_text later no_items = []
open_text later (item j js) = comma_if later ++ (json_text j ++ open_text true js)

pub items_text-front : (later : Bool) (js : Items) → items_text later js ≡ open_text later js ++ 93 ∷ []
items_text-front later no_items = refl
items_text-front later (item j js) =
    ap (λ (s : List ℕ). comma_if later ++ (json_text j ++ s)) (items_text-front true js)
    ∙ ap (λ (s : List ℕ). comma_if later ++ s) (sym (append_assoc (json_text j) (open_text true js) (93 ∷ [])))
    ∙ sym (append_assoc (comma_if later) (json_text j ++ open_text true js) (93 ∷ []))

items_text-then : (js : Items) (j : Json) → items_text true (with_last js j) ≡ open_text true js ++ 44 ∷ (json_text j ++ 93 ∷ [])
items_text-then no_items j = refl
items_text-then (item i js) j =
    ap (λ (s : List ℕ). comma_if true ++ (json_text i ++ s)) (items_text-then js j)
    ∙ ap (λ (s : List ℕ). comma_if true ++ s) (sym (append_assoc (json_text i) (open_text true js) (44 ∷ (json_text j ++ 93 ∷ []))))
    ∙ sym (append_assoc (comma_if true) (json_text i ++ open_text true js) (44 ∷ (json_text j ++ 93 ∷ [])))

-- a list, without its closing bracket
abbrev pub list_open : Items → List ℕ
list_open js = 91 ∷ open_text false js

pub list-closed : (js : Items) → json_text (list js) ≡ list_open js ++ 93 ∷ []
list-closed js = ap (λ (s : List ℕ). 91 ∷ s) (items_text-front false js)

-- a list that isn't empty, with one more item
pub list-then : (i : Json) (js : Items) (j : Json) → json_text (list (with_last (item i js) j)) ≡ list_open (item i js) ++ 44 ∷ (json_text j ++ 93 ∷ [])
list-then i js j =
    ap (λ (s : List ℕ). 91 ∷ (json_text i ++ s)) (items_text-then js j)
    ∙ ap (λ (s : List ℕ). 91 ∷ s) (sym (append_assoc (json_text i) (open_text true js) (44 ∷ (json_text j ++ 93 ∷ []))))

-- ---- the closing bracket is the last byte

pub last_is : (text front : List ℕ) → text ≡ front ++ 93 ∷ [] → (length text ≡ length front + 1) × (get_or text (length text - 1) 0 ≡ 93) × (take (length text - 1) text ≡ front)
last_is text front e =
    let len : length text ≡ length front + 1 = ap length e ∙ length-append front (93 ∷ []) in
    let at : length text - 1 ≡ length front = omega arith in (
      len,
      ap (λ (n : ℕ). get_or text n 0) at ∙ ap (λ (t : List ℕ). get_or t (length front) 0) e ∙ get_or-append_seam front 93 [] 0,
      ap (λ (n : ℕ). take n text) at ∙ ap (λ (t : List ℕ). take (length front) t) e ∙ take-append_seam front (93 ∷ []),
    )

-- ---- of packed messages

all_packed-then : (ms : List Packed) (m : Packed) → all_packed (ms ++ m ∷ []) ≡ with_last (all_packed ms) (packed_json m)
all_packed-then [] m = refl
all_packed-then (l ∷ ls) m = ap (item (packed_json l)) (all_packed-then ls m)

-- a packed text ends with the closing bracket
pub packed_closed : (text : List ℕ) (ms : List Packed) → text ≡ pack_text ms → (front : List ℕ) × (text ≡ front ++ 93 ∷ [])
unfolding pack_text
packed_closed text ms e = (list_open (all_packed ms), e ∙ list-closed (all_packed ms))

abbrev pub comma_behind : List ℕ → List ℕ
comma_behind front = cond (ltb 1 (length front)) (44 ∷ []) []

-- a packed text without its closing bracket, then a comma where it isn't empty, a message and the bracket
pub packed_behind : (ms : List Packed) (m : Packed) (front : List ℕ) → pack_text ms ≡ front ++ 93 ∷ [] → pack_text (ms ++ m ∷ []) ≡ ((front ++ comma_behind front) ++ json_text (packed_json m)) ++ 93 ∷ []
unfolding pack_text
packed_behind [] m front e =
    let same : 91 ∷ [] ≡ front = append_cancel_right (91 ∷ []) front (93 ∷ []) e in
    let here = json_text (packed_json m) in
    items_text_one here ∙ ap (λ (o : List ℕ). ((o ++ comma_behind o) ++ here) ++ 93 ∷ []) same
  where
    items_text_one : (s : List ℕ) → 91 ∷ ([] ++ (s ++ 93 ∷ [])) ≡ ((91 ∷ [] ++ []) ++ s) ++ 93 ∷ []
    items_text_one s = refl
packed_behind (l ∷ ls) m front e =
    let js = item (packed_json l) (all_packed ls) in
    let here = json_text (packed_json m) in
    let same : list_open js ≡ front = append_cancel_right (list_open js) front (93 ∷ []) (sym (list-closed js) ∙ e) in
    let long : comma_behind (list_open js) ≡ 44 ∷ [] = ap (λ (b : Bool). cond b (44 ∷ []) []) (lt-ltb 1 (length (list_open js)) (omega arith)) in
    ap (λ (is : Items). json_text (list is)) (all_packed-then (l ∷ ls) m)
    ∙ list-then (packed_json l) (all_packed ls) (packed_json m)
    ∙ sym (append_assoc (list_open js) (44 ∷ here) (93 ∷ []))
    ∙ ap (λ (s : List ℕ). s ++ 93 ∷ []) (sym (append_assoc (list_open js) (44 ∷ []) here))
    ∙ ap (λ (c : List ℕ). ((list_open js ++ c) ++ here) ++ 93 ∷ []) (sym long)
    ∙ ap (λ (o : List ℕ). ((o ++ comma_behind o) ++ here) ++ 93 ∷ []) same

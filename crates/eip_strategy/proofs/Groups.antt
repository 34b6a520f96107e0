-- Lists of texts: read again, and with one more text.
use Rattle.std.proofs.Common.{◌≡◌, ℕ, ◌<◌, List, [], ◌∷◌, ◌++◌, length, Option, Some, option_and_then, refl, sym, ap, ◌∙◌, arith, append_assoc, length-append}
use Rattle.std.proofs.lemmas.List.{append_cancel_right}
use Rattle.json.specs.Json as given
use Rattle.json.specs.Json.{document}
use Rattle.json.specs.Find.{as_array}
use Rattle.json.specs.Print.{quoted}
use Rattle.json.specs.Tree.{items_depth, ItemsHaveNumbers}
use Rattle.json.proofs.Printed.Trees.{document-print}
use Rattle.serde_json.specs.Written.{outline, items_outline}
use Rattle.eip_text.specs.Json.{list, word, Items, item}
use Rattle.eip_text.specs.JsonText.{json_text, data_of, items_data}
use Rattle.eip_text.proofs.Again.{print-value_tokens}
use Rattle.eip_resequence.proofs.Growing.{with_last, list_open, list-closed, list-then}
use Rattle.eip_strategy.specs.Groups.{words, group_text, texts_of, texts_among, texts_read, IsGroup}

abbrev shown : Items → given.Items
shown js = items_outline (items_data js)

words_numbers : (ts : List (List ℕ)) → ItemsHaveNumbers (shown (words ts))
words_numbers [] = tt
words_numbers (t ∷ ts) = (tt, words_numbers ts)

words_depth : (ts : List (List ℕ)) → items_depth (shown (words ts)) ≡ 0
words_depth [] = refl
words_depth (t ∷ ts) = rw (words_depth ts) refl

texts_again : (ts : List (List ℕ)) → texts_of (shown (words ts)) ≡ ts
texts_again [] = refl
texts_again (t ∷ ts) = ap (λ (us : List (List ℕ)). t ∷ us) (texts_again ts)

document-group : (ts : List (List ℕ)) → document (group_text ts) ≡ Some (given.array (shown (words ts)))
unfolding group_text
document-group ts =
    ap document (sym (print-value_tokens (list (words ts))))
    ∙ document-print (outline (data_of (list (words ts)))) (words_numbers ts) (omega (arith, words_depth ts))

-- the texts of a list are read again
pub group_read : (text : List ℕ) (ts : List (List ℕ)) → text ≡ group_text ts → texts_read text ≡ ts
unfolding texts_read
group_read text ts e =
    ap (λ (t : List ℕ). texts_among (option_and_then as_array (document t))) e
    ∙ ap (λ (o : Option given.Json). texts_among (option_and_then as_array o)) (document-group ts)
    ∙ texts_again ts

words-then : (ts : List (List ℕ)) (t : List ℕ) → words (ts ++ t ∷ []) ≡ with_last (words ts) (word t)
words-then [] t = refl
words-then (u ∷ us) t = ap (item (word u)) (words-then us t)

-- a group ends with the closing bracket
pub group_closed : (text : List ℕ) → IsGroup text → (front : List ℕ) × (text ≡ front ++ 93 ∷ [])
unfolding group_text
group_closed text (ts, (some, e)) = (list_open (words ts), e ∙ list-closed (words ts))

longer : (ts : List (List ℕ)) (t : List ℕ) (front : List ℕ) → 0 < length ts → group_text ts ≡ front ++ 93 ∷ []
    → group_text (ts ++ t ∷ []) ≡ ((front ++ 44 ∷ []) ++ quoted t) ++ 93 ∷ []
unfolding group_text
longer [] t front some e = absurd (omega arith)
longer (u ∷ us) t front some e =
    let js = words (u ∷ us) in
    let same : list_open js ≡ front = append_cancel_right (list_open js) front (93 ∷ []) (sym (list-closed js) ∙ e) in
    ap (λ (is : Items). json_text (list is)) (words-then (u ∷ us) t)
    ∙ list-then (word u) (words us) (word t)
    ∙ sym (append_assoc (list_open js) (44 ∷ quoted t) (93 ∷ []))
    ∙ ap (λ (s : List ℕ). s ++ 93 ∷ []) (sym (append_assoc (list_open js) (44 ∷ []) (quoted t)))
    ∙ ap (λ (o : List ℕ). ((o ++ 44 ∷ []) ++ quoted t) ++ 93 ∷ []) same

-- a group without its bracket, then a comma, one more text and the bracket
pub group_grown : (text front t : List ℕ) → IsGroup text → text ≡ front ++ 93 ∷ [] → ((front ++ 44 ∷ []) ++ quoted t) ++ 93 ∷ [] ≡ group_text (texts_read text ++ t ∷ [])
group_grown text front t (ts, (some, e)) cut =
    sym (longer ts t front some (sym e ∙ cut)) ∙ ap (λ (us : List (List ℕ)). group_text (us ++ t ∷ [])) (sym (group_read text ts e))

pub group_one : (t : List ℕ) → ((91 ∷ []) ++ quoted t) ++ 93 ∷ [] ≡ group_text (t ∷ [])
unfolding group_text
group_one t = refl

pub IsGroup-one : (t : List ℕ) → IsGroup (group_text (t ∷ []))
IsGroup-one t = (t ∷ [], (omega arith, refl))

pub IsGroup-more : (ts : List (List ℕ)) (t : List ℕ) → IsGroup (group_text (ts ++ t ∷ []))
IsGroup-more ts t = (ts ++ t ∷ [], (omega (arith, length-append ts (t ∷ [])), refl))

-- How long a body is with one more.
use Rattle.std.proofs.Common.{◌≡◌, ℕ, ◌+◌, ◌<◌, ◌≤◌, Bool, true, false, List, [], ◌∷◌, ◌++◌, length, refl, sym, ap, ◌∙◌, length-append, arith, cond, ltb}
use Rattle.std.proofs.lemmas.Bool.{lt-ltb, le-ltb, ltb-true, ltb-false}
use Rattle.json.specs.Print.{quoted}
use Rattle.eip_text.specs.JsonText.{json_text}
use Rattle.eip_resequence.specs.declared.packed.Packed.{Packed}
use Rattle.eip_resequence.specs.Packing.{packed_json, pack_text, IsPacked}
use Rattle.eip_resequence.specs.Unpacking.{messages_in}
use Rattle.eip_resequence.proofs.Again.{messages_in-packed}
use Rattle.eip_resequence.proofs.Growing.{comma_behind, packed_behind}
use Rattle.eip_strategy.specs.Batches.{comma_in}
use Rattle.eip_strategy.specs.Groups.{group_text, texts_read, IsGroup}
use Rattle.eip_strategy.proofs.Groups.{group_grown}

pub joined_length : (old delimiter new : List ℕ) → length (old ++ (delimiter ++ new)) ≡ length old + (length delimiter + length new)
joined_length old delimiter new = length-append old (delimiter ++ new) ∙ ap (λ (n : ℕ). length old + n) (length-append delimiter new)

-- a value behind those of a list, with what goes in front of it
pub closed_length : (front comma word : List ℕ) → length (((front ++ comma) ++ word) ++ 93 ∷ []) ≡ length (front ++ 93 ∷ []) + (length comma + length word)
closed_length front comma word =
    let a : length (((front ++ comma) ++ word) ++ 93 ∷ []) ≡ length ((front ++ comma) ++ word) + 1 = length-append ((front ++ comma) ++ word) (93 ∷ []) in
    let b : length ((front ++ comma) ++ word) ≡ length (front ++ comma) + length word = length-append (front ++ comma) word in
    let d : length (front ++ comma) ≡ length front + length comma = length-append front comma in
    let e : length (front ++ 93 ∷ []) ≡ length front + 1 = length-append front (93 ∷ []) in
    omega arith

pub group_longer : (text front t : List ℕ) → IsGroup text → text ≡ front ++ 93 ∷ [] → length (group_text (texts_read text ++ t ∷ [])) ≡ length text + (1 + length (quoted t))
group_longer text front t group cut =
    ap length (sym (group_grown text front t group cut))
    ∙ closed_length front (44 ∷ []) (quoted t)
    ∙ ap (λ (xs : List ℕ). length xs + (1 + length (quoted t))) (sym cut)

-- ---- batches

comma_by : (b : Bool) (text front : List ℕ) → length text ≡ length front + 1 → ltb 1 (length front) ≡ b → comma_behind front ≡ comma_in text
comma_by true text front long e =
    let more : 1 < length front = ltb-true 1 (length front) e in
    ap (λ (b : Bool). cond b (44 ∷ []) []) (e ∙ sym (lt-ltb 2 (length text) (omega (arith, long, more))))
comma_by false text front long e =
    let less : length front ≤ 1 = ltb-false 1 (length front) e in
    ap (λ (b : Bool). cond b (44 ∷ []) []) (e ∙ sym (le-ltb 2 (length text) (omega (arith, long, less))))

comma_same : (text front : List ℕ) → text ≡ front ++ 93 ∷ [] → comma_behind front ≡ comma_in text
comma_same text front cut = comma_by (ltb 1 (length front)) text front (ap length cut ∙ length-append front (93 ∷ [])) refl

pub packed_grown : (text front : List ℕ) (m : Packed) → IsPacked text → text ≡ front ++ 93 ∷ []
    → ((front ++ comma_in text) ++ json_text (packed_json m)) ++ 93 ∷ [] ≡ pack_text (messages_in text ++ m ∷ [])
packed_grown text front m packed cut =
    let ms = packed.0 in
    ap (λ (c : List ℕ). ((front ++ c) ++ json_text (packed_json m)) ++ 93 ∷ []) (sym (comma_same text front cut))
    ∙ sym (packed_behind ms m front (sym packed.1 ∙ cut))
    ∙ ap (λ (ls : List Packed). pack_text (ls ++ m ∷ [])) (sym (messages_in-packed text ms packed.1))

pub packed_longer : (text front : List ℕ) (m : Packed) → IsPacked text → text ≡ front ++ 93 ∷ []
    → length (pack_text (messages_in text ++ m ∷ [])) ≡ length text + (length (comma_in text) + length (json_text (packed_json m)))
packed_longer text front m packed cut =
    ap length (sym (packed_grown text front m packed cut))
    ∙ closed_length front (comma_in text) (json_text (packed_json m))
    ∙ ap (λ (xs : List ℕ). length xs + (length (comma_in text) + length (json_text (packed_json m)))) (sym cut)

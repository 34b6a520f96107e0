-- What was packed is unpacked again.
use Rattle.std.proofs.Common.{◌≡◌, ◌≢◌, ℕ, ◌≤◌, Bool, true, false, cond, List, [], ◌∷◌, Option, Some, None, option_map, option_and_then, refl, sym, ap, ap₂, ◌∙◌, arith}
use Rattle.std.specs.Prelude.{bytes_eq}
use Rattle.std.proofs.lemmas.Slice.Eq.{bytes_eq-Decides}
use Rattle.json.specs.Json as given
use Rattle.json.specs.Json.{document}
use Rattle.json.specs.Tree.{depth, items_depth, ItemsHaveNumbers}
use Rattle.json.proofs.Printed.Trees.{document-print}
use Rattle.serde_json.specs.Written.{outline, items_outline}
use Rattle.eip_text.specs.Json.{Items}
use Rattle.eip_text.specs.JsonText.{data_of, items_data}
use Rattle.eip_text.proofs.Again.{print-value_tokens}
use Rattle.eip_resequence.specs.declared.packed.Packed.{Packed}
use Rattle.eip_resequence.specs.Packing.{Pairs, in_turn, packed_json, all_packed, list_json, pack_text}
use Rattle.eip_resequence.specs.Unpacking.{pairs_in, packed_of, packed_in, all_in, list_in, list_read, if_packs, unpacked, or_none, messages_in}

-- a list as the crate `json` has it
abbrev shown : Items → given.Items
shown js = items_outline (items_data js)

-- ---- no numbers, and not deep

pairs_numbers : (ps : Pairs) → ItemsHaveNumbers (shown (in_turn ps))
pairs_numbers [] = tt
pairs_numbers (p ∷ ps) = (tt, (tt, pairs_numbers ps))

all_numbers : (ms : List Packed) → ItemsHaveNumbers (shown (all_packed ms))
all_numbers [] = tt
all_numbers (m ∷ ms) = ((tt, (pairs_numbers m.headers, (pairs_numbers m.properties, tt))), all_numbers ms)

pairs_depth : (ps : Pairs) → items_depth (shown (in_turn ps)) ≡ 0
pairs_depth [] = refl
pairs_depth (p ∷ ps) = rw (pairs_depth ps) refl

packed_depth : (m : Packed) → depth (outline (data_of (packed_json m))) ≡ 2
packed_depth m = rw (pairs_depth m.headers, pairs_depth m.properties) refl

all_depth : (ms : List Packed) → items_depth (shown (all_packed ms)) ≤ 2
all_depth [] = omega arith
all_depth (m ∷ ms) = omega (arith, packed_depth m, all_depth ms)

-- ---- the values say the messages

pairs_again : (ps : Pairs) → pairs_in (shown (in_turn ps)) ≡ Some ps
pairs_again [] = refl
pairs_again (p ∷ ps) = ap (option_map (λ (qs : Pairs). p ∷ qs)) (pairs_again ps)

packed_again : (m : Packed) → packed_in (outline (data_of (packed_json m))) ≡ Some m
unfolding packed_in
packed_again m = ap₂ (packed_of (Some m.body)) (pairs_again m.headers) (pairs_again m.properties)

all_again : (ms : List Packed) → all_in (shown (all_packed ms)) ≡ Some ms
all_again [] = refl
all_again (m ∷ ms) =
    ap₂ (λ (o : Option Packed) (os : Option (List Packed)). option_and_then (λ l. option_map (λ ls. l ∷ ls) os) o) (packed_again m) (all_again ms)

-- ---- and so does the text

document-pack_text : (ms : List Packed) → document (pack_text ms) ≡ Some (given.array (shown (all_packed ms)))
unfolding pack_text
document-pack_text ms =
    ap document (sym (print-value_tokens (list_json ms)))
    ∙ document-print (outline (data_of (list_json ms))) (all_numbers ms) (omega (arith, all_depth ms))

pub read_again : (ms : List Packed) → list_read (pack_text ms) ≡ Some ms
read_again ms = ap (option_and_then list_in) (document-pack_text ms) ∙ all_again ms

same_bytes : (text : List ℕ) → bytes_eq text text ≡ true
same_bytes text = (bytes_eq-Decides text text).1 refl

-- what packs to the text is what it is unpacked to
pub packs : (text : List ℕ) (ms : List Packed) → list_read text ≡ Some ms → pack_text ms ≡ text → unpacked text ≡ Some ms
unfolding unpacked
packs text ms read same =
    ap (option_and_then (if_packs text)) read
    ∙ ap (λ (b : Bool). cond b (Some ms) None) (ap (λ (t : List ℕ). bytes_eq t text) same ∙ same_bytes text)

pub unpacked_again : (ms : List Packed) → unpacked (pack_text ms) ≡ Some ms
unpacked_again ms = packs (pack_text ms) ms (read_again ms) refl

by_test : (b : Bool) (text : List ℕ) (ls ms : List Packed) → bytes_eq (pack_text ls) text ≡ b → cond b (Some ls) None ≡ Some ms → text ≡ pack_text ms
by_test true text ls ms e h =
    let same : ls ≡ ms = cc in
    sym ((bytes_eq-Decides (pack_text ls) text).0 e) ∙ ap pack_text same
by_test false text ls ms e h = absurd (cc)

by_reading : (o : Option (List Packed)) (text : List ℕ) (ms : List Packed) → option_and_then (if_packs text) o ≡ Some ms → text ≡ pack_text ms
by_reading None text ms h = absurd (cc)
by_reading (Some ls) text ms h = by_test (bytes_eq (pack_text ls) text) text ls ms refl h

pub only_packed : (text : List ℕ) (ms : List Packed) → unpacked text ≡ Some ms → text ≡ pack_text ms
unfolding unpacked
only_packed text ms h = by_reading (list_read text) text ms h

-- ---- texts that nothing packs to

pub never_read : (text : List ℕ) → list_read text ≡ None → (ms : List Packed) → text ≢ pack_text ms
never_read text none ms e =
    let some : list_read text ≡ Some ms = ap list_read e ∙ read_again ms in
    let no : None ≡ Some ms = sym none ∙ some in
    cc

pub never_packs : (text : List ℕ) (ls : List Packed) → list_read text ≡ Some ls → pack_text ls ≢ text → (ms : List Packed) → text ≢ pack_text ms
never_packs text ls read other ms e =
    let some : list_read text ≡ Some ms = ap list_read e ∙ read_again ms in
    let both : Some ls ≡ Some ms = sym read ∙ some in
    let same : ls ≡ ms = cc in
    other (ap pack_text same ∙ sym e)

pub messages_in-packed : (text : List ℕ) (ms : List Packed) → text ≡ pack_text ms → messages_in text ≡ ms
unfolding messages_in
messages_in-packed text ms e = ap (λ (t : List ℕ). or_none (unpacked t)) e ∙ ap or_none (unpacked_again ms)

-- What the parts of a value say together.
use Rattle.std.proofs.Common.{◌≡◌, ◌<◌, ◌≤◌, ℕ, List, [], ◌∷◌, ◌++◌, length, drop, Option, Some, None, Result, Err, refl, ap, ap₂, ◌∙◌, arith, append-nil, drop_of_length-le}
use Rattle.std.specs.Prelude.{codes}
use Rattle.json.specs.Json.{Json}
use Rattle.json.specs.Value.{items_view}
use Rattle.json.specs.declared.value.Value.{Value}
use Rattle.eip_resequence.specs.declared.packed.PackFault.{PackFault}
use Rattle.eip_resequence.specs.declared.packed.Packed.{Packed}
use Rattle.eip_resequence.specs.Packing.{Pairs}
use Rattle.eip_resequence.specs.Unpacking.{text_at, pairs_in, pairs_at, packed_of, packed_in, all_in}

pub same_err : {T : Type 0} (a b : PackFault) → ◌≡◌ {A = Result T PackFault} (Err a) (Err b) → a ≡ b
same_err a b e = cc

-- ---- pairs in turn

pub pairs_done : {A : Type 0} (rest : List (Value A)) (ps : Pairs) (o : Option Pairs) → length rest ≡ 0
    → ((qs : Pairs) → pairs_in (items_view rest) ≡ Some qs → o ≡ Some (ps ++ qs)) → o ≡ Some ps
pairs_done [] ps o e h = h [] refl ∙ ap Some (append-nil ps)
pairs_done (v ∷ vs) ps o e h = absurd (omega arith)

pub one_left : {A : Type 0} (rest : List (Value A)) (o : Option Pairs) → length rest < 2 → (length rest ≡ 0 → ⊥)
    → (pairs_in (items_view rest) ≡ None → o ≡ None) → o ≡ None
one_left [] o few some h = absurd (some refl)
one_left (v ∷ []) o few some h = h refl
one_left (v ∷ w ∷ vs) o few some h = absurd (omega arith)

-- ---- a message

pub no_body : (j : Json) → text_at (codes "b") j ≡ None → packed_in j ≡ None
unfolding packed_in
no_body j e = ap (λ (o : Option (List ℕ)). packed_of o (pairs_at (codes "h") j) (pairs_at (codes "p") j)) e

pub no_headers : (j : Json) (b : List ℕ) → text_at (codes "b") j ≡ Some b → pairs_at (codes "h") j ≡ None → packed_in j ≡ None
unfolding packed_in
no_headers j b e f = ap₂ (λ (o : Option (List ℕ)) (p : Option Pairs). packed_of o p (pairs_at (codes "p") j)) e f

pub no_properties : (j : Json) (b : List ℕ) (hs : Pairs) → text_at (codes "b") j ≡ Some b → pairs_at (codes "h") j ≡ Some hs → pairs_at (codes "p") j ≡ None → packed_in j ≡ None
unfolding packed_in
no_properties j b hs e f g =
    ap₂ (λ (o : Option (List ℕ)) (p : Option Pairs). packed_of o p (pairs_at (codes "p") j)) e f ∙ ap (packed_of (Some b) (Some hs)) g

pub whole_message : (j : Json) (b : List ℕ) (hs ps : Pairs) → text_at (codes "b") j ≡ Some b → pairs_at (codes "h") j ≡ Some hs → pairs_at (codes "p") j ≡ Some ps
    → packed_in j ≡ Some (record { body = b; headers = hs; properties = ps })
unfolding packed_in
whole_message j b hs ps e f g =
    ap₂ (λ (o : Option (List ℕ)) (p : Option Pairs). packed_of o p (pairs_at (codes "p") j)) e f ∙ ap (packed_of (Some b) (Some hs)) g

-- ---- a list

pub all_done : {A : Type 0} (items : List (Value A)) (i : ℕ) (ms : List Packed) (o : Option (List Packed)) → length items ≤ i
    → ((ls : List Packed) → all_in (items_view (drop i items)) ≡ Some ls → o ≡ Some (ms ++ ls)) → o ≡ Some ms
all_done items i ms o e h = h [] (ap (λ vs. all_in (items_view vs)) (drop_of_length-le items e)) ∙ ap Some (append-nil ms)

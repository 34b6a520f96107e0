-- Worked rows of the definitions.
use Rattle.std.proofs.Common.{◌≡◌, true, false, [], ◌∷◌, Some, None, refl}
use Rattle.std.specs.Prelude.{codes}
use Rattle.json.specs.Print.{escape_byte}
use Rattle.eip_text.specs.Numbers.{whole_of}
use Rattle.eip_resequence.specs.declared.packed.Packed.{Packed}
use Rattle.eip_resequence.specs.Packing.{pack_text}
use Rattle.eip_resequence.specs.Order.{comes_before, ordered_messages}

row-empty_list : pack_text [] ≡ codes "[]"
unfolding pack_text
row-empty_list = refl

row-one_message : pack_text (record { body = codes "a\"b"; headers = (codes "Order", codes "1") ∷ []; properties = [] } ∷ []) ≡ codes "[{\"b\":\"a\\\"b\",\"h\":[\"Order\",\"1\"],\"p\":[]}]"
unfolding pack_text escape_byte
row-one_message = refl

row-numbers : comes_before (Some (codes "9")) (Some (codes "10")) ≡ true
unfolding comes_before whole_of
row-numbers = refl

row-numbers_first : comes_before (Some (codes "x")) (Some (codes "10")) ≡ false
unfolding comes_before whole_of
row-numbers_first = refl

row-equal_numbers : comes_before (Some (codes "7")) (Some (codes "007")) ≡ false
unfolding comes_before whole_of
row-equal_numbers = refl

row-absent : comes_before None (Some (codes "a")) ≡ true
unfolding comes_before whole_of
row-absent = refl

row-ordered : (ten nine x : Packed) → ordered_messages ((Some (codes "10"), ten) ∷ (Some (codes "9"), nine) ∷ (Some (codes "x"), x) ∷ []) ≡ nine ∷ ten ∷ x ∷ []
unfolding ordered_messages comes_before whole_of
row-ordered ten nine x = refl

row-ties : (first second third : Packed) → ordered_messages ((Some (codes "b"), first) ∷ (None, second) ∷ (Some (codes "b"), third) ∷ []) ≡ second ∷ first ∷ third ∷ []
unfolding ordered_messages comes_before whole_of
row-ties first second third = refl

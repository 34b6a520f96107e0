-- The id of a route that names none is a Name.
use Rattle.std.proofs.Common.{ℕ, ◌+◌, ◌<◌, ◌≤◌, ◌≡◌, ◌&&◌, true, List, [], ◌∷◌, length, codes, refl, arith, length-append}
use Rattle.std.specs.Prelude.{nat_le, decimal}
use Rattle.std.specs.List.{list_all}
use Rattle.std.specs.Char.{digit_value}
use Rattle.std.specs.Str.Parse.{AllDigits}
use Rattle.std.proofs.lemmas.Bool.{and_from, or_left, or_right, le-leb}
use Rattle.std.proofs.lemmas.Fmt.{decimal_is_IsNumeral, length-decimal-le}
use Rattle.std.proofs.lemmas.Str.Parse.{digit_from_value}
use Rattle.eip_text.specs.Names.{is_alphanumeric, is_name_byte, is_name}
use Rattle.eip_route_grammar.specs.Texts.{own_id}

named_digit : (c : ℕ) → digit_value c < 10 → is_name_byte c ≡ true
named_digit c h =
    let range = digit_from_value c h in
    or_left (is_alphanumeric c) _ (or_right _ _ (or_right _ (nat_le 48 c && nat_le c 57) (and_from (nat_le 48 c) (nat_le c 57) (le-leb 48 c (omega (arith, range))) (le-leb c 57 (omega (arith, range))))))

named_digits : (ds : List ℕ) → AllDigits 10 ds → list_all is_name_byte ds ≡ true
named_digits [] h = refl
named_digits (d ∷ ds) h = and_from (is_name_byte d) (list_all is_name_byte ds) (named_digit d h.0) (named_digits ds h.1)

pub own_name : (k : ℕ) → k ≤ 256 → is_name (own_id k) ≡ true
unfolding is_name
own_name k h =
    let short : length (decimal k) ≤ 3 = length-decimal-le 3 k (omega arith) (omega arith) (omega arith) in
    let size : length (own_id k) ≡ 5 + length (decimal k) = length-append (codes "route") (decimal k) in
    and_from (nat_le 1 (length (own_id k)) && nat_le (length (own_id k)) 64) (list_all is_name_byte (own_id k))
    (and_from (nat_le 1 (length (own_id k))) (nat_le (length (own_id k)) 64) (le-leb 1 (length (own_id k)) (omega arith)) (le-leb (length (own_id k)) 64 (omega arith)))
    (named_digits (decimal k) (decimal_is_IsNumeral k (omega arith)).0.1)

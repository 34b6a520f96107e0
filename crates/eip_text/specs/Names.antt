-- Names: 1 to 64 ASCII letters, digits, `_`, `-` and `.`.
use Rattle.std.specs.Prelude.{ℕ, Bool, ◌+◌, ◌==◌, ◌&&◌, ◌||◌, nat_le, if◌then◌else◌, List, length, map}
use Rattle.std.specs.List.{list_all}

-- an ASCII letter or digit
abbrev pub is_alphanumeric : ℕ → Bool
is_alphanumeric c = (nat_le 97 c && nat_le c 122) || ((nat_le 65 c && nat_le c 90) || (nat_le 48 c && nat_le c 57))

-- a byte that may stand in a Name
abbrev pub is_name_byte : ℕ → Bool
is_name_byte c = is_alphanumeric c || ((c == 95) || ((c == 45) || (c == 46)))

unfoldable pub is_name : List ℕ → Bool
is_name bs = (nat_le 1 (length bs) && nat_le (length bs) 64) && list_all is_name_byte bs

-- the byte, or the lower case letter of an ASCII upper case one
abbrev pub fold_byte : ℕ → ℕ
fold_byte b = if nat_le 65 b && nat_le b 90 then b + 32 else b

-- the bytes with their ASCII letters in lower case
abbrev pub folded : List ℕ → List ℕ
folded bs = map fold_byte bs

-- How a text is shown in one line: control bytes and the backslash are escaped.
use Rattle.std.specs.Prelude.{◌≡◌, ℕ, ◌+◌, ◌/◌, ◌%◌, ◌==◌, ◌&&◌, ◌||◌, nat_lt, Bool, true, if◌then◌else◌, List, [], ◌∷◌, ◌++◌, refl, codes}
use Rattle.std.specs.List.{flat_map}

-- 0 to 9, then a to f
abbrev pub hex_digit : ℕ → ℕ
hex_digit n = if nat_lt n 10 then 48 + n else 87 + n

-- a byte that has no look of its own: below a space, or 7f
abbrev pub is_control : ℕ → Bool
is_control b = nat_lt b 32 || b == 127

-- `\x` and two lower case hexadecimal digits
abbrev pub hex_escape : ℕ → List ℕ
hex_escape b = 92 ∷ 120 ∷ hex_digit (b / 16) ∷ hex_digit (b % 16) ∷ []

-- `\\` for a backslash, `\n` and `\r` for LF and CR, `\x..` for the other control bytes; all else stays
abbrev pub escaped_byte : ℕ → List ℕ
escaped_byte b = if b == 92 then 92 ∷ 92 ∷ [] else (if b == 10 then 92 ∷ 110 ∷ [] else (if b == 13 then 92 ∷ 114 ∷ [] else (if is_control b then hex_escape b else b ∷ [])))

unfoldable pub escaped : List ℕ → List ℕ
escaped bs = flat_map escaped_byte bs

-- `\"` for a quotation mark
abbrev pub with_quote_escaped : ℕ → List ℕ
with_quote_escaped b = if b == 34 then 92 ∷ 34 ∷ [] else b ∷ []

-- the escaped text between quotation marks, with its own quotation marks escaped
unfoldable pub quoted : List ℕ → List ℕ
quoted bs = 34 ∷ (flat_map with_quote_escaped (escaped bs) ++ 34 ∷ [])

-- ---- both at once, for the code

abbrev pub is_marked : Bool → ℕ → Bool
is_marked quotes b = is_control b || ((b == 92) || (quotes && b == 34))

abbrev pub shown_byte : Bool → ℕ → List ℕ
shown_byte quotes b = if quotes && b == 34 then 92 ∷ 34 ∷ [] else escaped_byte b

unfoldable pub shown : Bool → List ℕ → List ℕ
shown quotes bs = flat_map (shown_byte quotes) bs

-- a text cut round its first byte that is not shown as it is
pub record CutAtMark (quotes : Bool) (text front : List ℕ) (mark : ℕ) (rest : List ℕ) : Type 0 where
  pub whole : text ≡ front ++ mark ∷ rest
  pub plain : shown quotes front ≡ front
  pub marked : is_marked quotes mark ≡ true

-- ---- worked rows

pub row-backslash : escaped (codes "a\\b") ≡ codes "a\\\\b"
unfolding escaped
row-backslash = refl

pub row-line-feed : escaped (97 ∷ 10 ∷ 13 ∷ []) ≡ codes "a\\n\\r"
unfolding escaped
row-line-feed = refl

-- NUL, tab and 7f
pub row-control : escaped (0 ∷ 9 ∷ 127 ∷ []) ≡ codes "\\x00\\x09\\x7f"
unfolding escaped
row-control = refl

-- bytes from 80 hexadecimal on stay, as all else
pub row-plain : escaped (195 ∷ 164 ∷ 34 ∷ 32 ∷ 126 ∷ []) ≡ 195 ∷ 164 ∷ 34 ∷ 32 ∷ 126 ∷ []
unfolding escaped
row-plain = refl

pub row-quote : quoted (codes "say \"a\\b\"") ≡ codes "\"say \\\"a\\\\b\\\"\""
unfolding quoted escaped
row-quote = refl

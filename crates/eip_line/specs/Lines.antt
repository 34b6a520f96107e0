-- How bytes are cut into lines.
use Rattle.std.specs.Prelude.{ℕ, ◌≡◌, ◌+◌, ◌-◌, ◌<◌, ◌≤◌, ◌==◌, nat_le, nat_lt, Bool, cond, List, [], ◌∷◌, ◌++◌, Option, Result, IfOk, length, take, drop, slice_index}
use Rattle.std.specs.List.{position_or_len}
use Rattle.std.specs.Io.KnownBytes.{Consumes, IsAtEnd}

-- the byte LF, which ends a line
abbrev pub is_end : ℕ → Bool
is_end b = b == 10

-- how many bytes stand before the first LF, or all of them where there is none
abbrev pub line_length : List ℕ → ℕ
line_length bytes = position_or_len is_end bytes

-- the line without one CR at its end
abbrev pub without_return : List ℕ → List ℕ
without_return line = cond (slice_index line (length line - 1) == 13) (take (length line - 1) line) line

-- what bytes that are left give next: a line and the bytes left behind it, nothing, or a beginning that is too long to wait for its end
pub data Next : Type 0 where
  Line : List ℕ → List ℕ → Next
  Nothing : Next
  Endless : Next

-- the last bytes, behind which no LF stands: a line where there are any, with all its bytes
abbrev pub last_line : List ℕ → Next
last_line [] = Nothing
last_line (b ∷ bytes) = Line (b ∷ bytes) []

-- a line that an LF ends loses it and one CR before it, unless the first 1,048,576 bytes hold no LF
unfoldable pub next_line : List ℕ → Next
next_line bytes =
    cond (nat_le 1048576 (line_length bytes)) Endless
    (cond (nat_lt (line_length bytes) (length bytes)) (Line (without_return (take (line_length bytes) bytes)) (drop (line_length bytes + 1) bytes)) (last_line bytes))

-- enough bytes are there to tell the next line: an LF, 1,048,576 bytes, or all that the link had
pub record Enough (bytes : List ℕ) (left : Option (List ℕ)) (k : ℕ) : Type 0 where
  pub first : k ≡ line_length bytes
  pub all : k < 1048576 → length bytes ≤ k → IsAtEnd left

-- readings put more bytes behind those that were there, and took them from the link; where they answer, enough are there
pub record Gathered {E : Type 0} (old : List ℕ) (was : Option (List ℕ)) (r : Result ℕ E) (new : List ℕ) (now : Option (List ℕ)) : Type 0 where
  pub more : List ℕ
  pub behind : new ≡ old ++ more
  pub consumed : Consumes was now more
  pub enough : IfOk r (Enough new now)

-- the bytes hold a whole line, whose LF stands early enough
abbrev pub HasLine : List ℕ → Type 0
HasLine bytes = (line_length bytes < length bytes) × (line_length bytes < 1048576)

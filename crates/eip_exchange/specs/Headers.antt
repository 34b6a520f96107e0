-- Headers: pairs whose names are equal up to ASCII case, and the limit on their number.
use Rattle.std.specs.Prelude.{ℕ, ◌+◌, Bool, ◌&&◌, ◌||◌, not, nat_le, cond, List, [], ◌∷◌, Option, is_none, map, codes, bytes_eq}
use Rattle.std.specs.Char.{to_ascii_lowercase}
use Rattle.std.specs.Ordering.{on}
use Rattle.eip_exchange.specs.Pairs.{Pairs, value_of, put, without}

-- a name with its ASCII letters in lower case
abbrev pub folded : List ℕ → List ℕ
folded name = map to_ascii_lowercase name

-- two header names are equal up to ASCII case
abbrev pub same_name : List ℕ → List ℕ → Bool
same_name = on folded bytes_eq

-- the value of a header
abbrev pub get_header : List ℕ → Pairs → Option (List ℕ)
get_header name hs = value_of same_name name hs

-- the headers with one set: one that is there keeps its place and spelling, a new one goes last
abbrev pub put_header : List ℕ → List ℕ → Pairs → Pairs
put_header name value hs = put same_name name value hs

-- the headers without one
abbrev pub without_header : List ℕ → Pairs → Pairs
without_header name hs = without same_name name hs

-- one of the two headers that tell of redelivery
unfoldable pub is_redelivery : List ℕ → Bool
is_redelivery name = same_name (codes "CamelRedelivered") name || same_name (codes "CamelRedeliveryCounter") name

-- how many headers the limit counts: all but the two of redelivery
abbrev pub counted : Pairs → ℕ
counted [] = 0
counted (p ∷ ps) = cond (is_redelivery p.0) (counted ps) (1 + counted ps)

-- a header of this name would be one beyond the limit
abbrev pub is_one_too_many : List ℕ → Pairs → Bool
is_one_too_many name hs = is_none (get_header name hs) && (not (is_redelivery name) && nat_le 64 (counted hs))

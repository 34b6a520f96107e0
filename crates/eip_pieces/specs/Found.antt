-- A text round the first place of a token, as a search finds it.
use Rattle.std.specs.Prelude.{◌≡◌, ℕ, ◌+◌, List, Some, length, take, drop}
use Rattle.memchr.specs.Find.{FindsNeedle}

-- the front ends where the token first stands, and the rest begins behind that
pub record FoundAt (text token front rest : List ℕ) : Type 0 where
  pub place : ℕ
  pub first : FindsNeedle text token 0 (Some place)
  pub before : front ≡ take place text
  pub behind : rest ≡ drop (place + length token) text

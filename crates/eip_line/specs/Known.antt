-- What reading does to the bytes that are in a buffer and those that a link has left, where the latter are known.
use Rattle.std.specs.Prelude.{ℕ, ◌≡◌, ◌<◌, List, [], ◌++◌, Option, Result, Bool, true, false, IfOk, length}
use Rattle.std.specs.Io.KnownBytes.{Consumes, IsAtEnd}

-- one reading put more bytes behind those that were there, and took them from the link; it answers whether any came, and none come only at the end of what the link has
pub record Refilled {E : Type 0} (old : List ℕ) (was : Option (List ℕ)) (r : Result Bool E) (new : List ℕ) (now : Option (List ℕ)) : Type 0 where
  pub more : List ℕ
  pub behind : new ≡ old ++ more
  pub consumed : Consumes was now more
  pub came : IfOk r (λ b. b ≡ true → length old < length new)
  pub ended : IfOk r (λ b. b ≡ false → (more ≡ []) × IsAtEnd now)

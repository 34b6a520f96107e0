-- Joins whose parts end from the last one on.
use Rattle.std.specs.Prelude.{ℕ, ◌≡◌, ◌+◌, ◌*◌, ◌<◌, ◌≤◌, List, Some, None}
use Rattle.eip_join.specs.Parts.{Call, Open, Stands, parts_of, end_of}

-- exchange 1 has a join over so many parts from a number on, and as many of them from the front on haven't ended
pub record AreLeft (first count left : ℕ) (joins : List (ℕ × Open)) : Type 0 where
  pub calls : List Call
  pub stands : Stands calls joins
  pub parts : parts_of calls 1 ≡ Some (first, count)
  pub unended : (x : ℕ) → first ≤ x → x < first + left → end_of calls x ≡ None

-- the exchanges from 1 to a number, and no others, have a join over two parts, whose numbers are twice theirs and one more
pub record HavePairs (count : ℕ) (calls : List Call) : Type 0 where
  pub pairs : (p : ℕ) → 0 < p → p ≤ count → parts_of calls p ≡ Some (2 * p, 2)
  pub first : parts_of calls 0 ≡ None
  pub others : (p : ℕ) → count < p → parts_of calls p ≡ None

-- and no part has ended
pub record AreBegun (count : ℕ) (joins : List (ℕ × Open)) : Type 0 where
  pub calls : List Call
  pub stands : Stands calls joins
  pub pairs : HavePairs count calls
  pub unended : (x : ℕ) → end_of calls x ≡ None

-- and as many parts from the front on haven't ended
pub record ArePairs (count left : ℕ) (joins : List (ℕ × Open)) : Type 0 where
  pub calls : List Call
  pub stands : Stands calls joins
  pub pairs : HavePairs count calls
  pub unended : (x : ℕ) → x < 2 + left → end_of calls x ≡ None

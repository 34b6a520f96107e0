-- What calls on a link leave.
use Rattle.std.specs.Prelude.{ℕ, ◌≡◌, List, [], ◌++◌, Option, Result, Ok, Err, OnOk}
use Rattle.eip_endpoint.specs.Content.{extended}
use Rattle.eip_line.specs.declared.link.LinkFault.{LinkFault}
use Rattle.eip_line.specs.declared.link.LinkFault.TheVariants as fault

-- the content grew by the front of some bytes, and at Ok by all of them
pub record Wrote {E : Type 0} (was : Option (List ℕ)) (bytes : List ℕ) (r : Result Unit E) (now : Option (List ℕ)) : Type 0 where
  pub front : List ℕ
  pub rest : List ℕ
  pub cut : bytes ≡ front ++ rest
  pub grew : now ≡ extended was front
  pub whole : OnOk r (rest ≡ [])

-- 1 for a failure
abbrev pub link_failure : {T : Type 0} → Result T LinkFault → ℕ
link_failure (Ok r) = 0
link_failure (Err fault.Failed) = 1
link_failure (Err fault.NoMemory) = 0

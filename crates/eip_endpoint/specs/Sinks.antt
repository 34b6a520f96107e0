-- What a sink holds.
use Rattle.std.specs.Prelude.{ℕ, ◌≡◌, List, [], ◌++◌, Option, Result, Ok, Err, OnOk}
use Rattle.eip_endpoint.specs.Content.{extended}
use Rattle.eip_endpoint.specs.declared.sink.SinkFault.{SinkFault}
use Rattle.eip_endpoint.specs.declared.sink.SinkFault.TheVariants as fault

-- the content grew by the front of a text, and at Ok by all of it
pub record Wrote (was : Option (List ℕ)) (text : List ℕ) (r : Result Unit SinkFault) (now : Option (List ℕ)) : Type 0 where
  pub front : List ℕ
  pub rest : List ℕ
  pub cut : text ≡ front ++ rest
  pub grew : now ≡ extended was front
  pub whole : OnOk r (rest ≡ [])

-- 1 for a failure
abbrev pub sink_failure : Result Unit SinkFault → ℕ
sink_failure (Ok u) = 0
sink_failure (Err fault.Failed) = 1
sink_failure (Err fault.NoMemory) = 0

-- What an output puts into a writer, and the status behind a text that was told.
use Rattle.std.specs.Prelude.{ℕ, ◌≡◌, ◌==◌, List, [], ◌++◌, Option, Bool, true, Result, Ok, Err, IsErrOf, if◌then◌else◌}
use Rattle.std.specs.Io.KnownBytes.{Appends}
use Rattle.eip_text.specs.Causes.{Rises}
use Rattle.eip_endpoint.specs.Sinks.{Wrote, sink_failure}
use Rattle.eip_endpoint.specs.declared.sink.SinkFault.{SinkFault}
use Rattle.eip_endpoint.specs.declared.sink.SinkFault.TheVariants as fault

-- the writer's known bytes grew by the front of a piece, by all of it where it is said that all was written
pub record Put (was : Option (List ℕ)) (piece : List ℕ) (whole : Bool) (now : Option (List ℕ)) : Type 0 where
  pub front : List ℕ
  pub rest : List ℕ
  pub cut : piece ≡ front ++ rest
  pub grew : Appends was now front
  pub all : whole ≡ true → rest ≡ []

-- the status that the writing of a text leaves of a given one: a status other than 0 had an earlier cause, and stays
abbrev pub status_behind : ℕ → Result Unit SinkFault → ℕ
status_behind status (Ok u) = status
status_behind status (Err fault.Failed) = if status == 0 then 2 else status
status_behind status (Err fault.NoMemory) = if status == 0 then 5 else status

-- a text was written by one call, or the front of it where the sink failed, and what that left of the status is ended with
pub record Said (text : List ℕ) (status : ℕ) (before after : Option (List ℕ)) (faults_before faults_after ended : ℕ) : Type 0 where
  pub write : Result Unit SinkFault
  pub wrote : Wrote before text write after
  pub memory : IsErrOf write fault.NoMemory → after ≡ before
  pub faults : Rises (sink_failure write) faults_before faults_after
  pub status_is : ended ≡ status_behind status write

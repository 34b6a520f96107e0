-- What the program tells and leaves of a command, and the status that it ends with.
use Rattle.std.specs.Prelude.{ℕ, ◌≡◌, List, codes, Option, Result}
use Rattle.std.specs.Result.{IsOkAnd}
use Rattle.eip_text.specs.declared.memory.NoMemory.{NoMemory}
use Rattle.eip_text.specs.declared.text.TextFault.{TextFault}
use Rattle.eip_text.specs.declared.text.TextFault.TheVariants as fault
use Rattle.eip_endpoint.specs.Lanes.{LaneView}
use Rattle.eip_endpoint.specs.Inlets.{InletView}
use Rattle.eip_processor.specs.Registered.{RegistryView}
use Rattle.eip_host.specs.Outputs.{Said}
use Rattle.eip_run.specs.Given.{Outside}
use Rattle.eip_run.specs.Caused.{IsReport}
use Rattle.eip_run.specs.declared.report.Report.{Report}

-- the top call was made for these words, with what is outside, over these lanes, inlets and this registry, and the status is that of its report
pub record WasRun (words : List (List ℕ)) (before after : Outside) (lanes : List LaneView) (inlets : List InletView) (registry : RegistryView) (ended : ℕ) : Type 0 where
  pub lanes_after : List LaneView
  pub inlets_after : List InletView
  pub report : Report
  pub reported : IsReport words (record before { lanes = lanes; inlets = inlets }) (record after { lanes = lanes_after; inlets = inlets_after }) registry report
  pub status : ended ≡ report.status

-- no call was made: neither count of faults rose
pub record IsIdle (before after : Outside) : Type 0 where
  pub files : after.materials.files_faults ≡ before.materials.files_faults
  pub patterns : after.materials.pattern_faults ≡ before.materials.pattern_faults

-- a command over the lanes, inlets and registry that were made for it: the top call was made over these, or memory was wanting before it, which is told
pub data Commanded {H : Type 0} (lanes : H → List LaneView) (inlets : H → List InletView) (registry : H → RegistryView) (words : List (List ℕ)) (handed : Result H NoMemory) (before after : Outside) (ended : ℕ) : Type 0 where
  Run : IsOkAnd handed (λ h. WasRun words before after (lanes h) (inlets h) (registry h) ended) → Commanded lanes inlets registry words handed before after ended
  Starved : IsIdle before after → Said (codes "error memory\n") 5 before.written after.written before.sink_faults after.sink_faults ended
      → Commanded lanes inlets registry words handed before after ended

-- why there are no words is told: one is no text, which is refused, or memory was wanting
abbrev pub TellsFault : TextFault → Option (List ℕ) → Option (List ℕ) → ℕ → ℕ → ℕ → Type 0
TellsFault fault.NotText before after faults_before faults_after ended = Said (codes "error words\n") 1 before after faults_before faults_after ended
TellsFault fault.NoMemory before after faults_before faults_after ended = Said (codes "error memory\n") 5 before after faults_before faults_after ended

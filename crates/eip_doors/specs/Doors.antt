-- The counts of faults of the host's lanes and inlets: those of what they work on.
use Rattle.std.specs.Prelude.{ℕ}
use Rattle.eip_line.specs.Sources.{faults_with}
use Rattle.eip_doors.specs.declared.doors.HostLane.{HostLane}
use Rattle.eip_doors.specs.declared.doors.HostLane.TheVariants as lane
use Rattle.eip_doors.specs.declared.doors.HostInlet.{HostInlet}
use Rattle.eip_doors.specs.declared.doors.HostInlet.TheVariants as inlet

abbrev pub lane_faults_of : {F K : Type 0} → (F → ℕ) → (K → ℕ) → HostLane F K → ℕ
lane_faults_of files link (lane.Files l) = files l.files
lane_faults_of files link (lane.Lines l) = link l.link

abbrev pub inlet_faults_of : {A F K : Type 0} → (A → ℕ) → (F → ℕ) → (K → ℕ) → HostInlet A F K → ℕ
inlet_faults_of input files link (inlet.Stream s) = faults_with (input s.link) s.endless
inlet_faults_of input files link (inlet.Files s) = files s.files
inlet_faults_of input files link (inlet.Lines s) = faults_with (link s.link) s.endless
inlet_faults_of input files link (inlet.Loads s) = 0

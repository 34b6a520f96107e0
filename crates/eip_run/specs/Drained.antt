-- What running a set by so many workers with a limit on its turns leaves and tells.
use Rattle.std.specs.Prelude.{ℕ, ◌≡◌, List, Option, Result}
use Rattle.eip_route.specs.declared.route.RouteSet.{RouteSet}
use Rattle.eip_endpoint.specs.Lanes.{LaneView}
use Rattle.eip_endpoint.specs.Inlets.{InletView}
use Rattle.eip_processor.specs.Registered.{RegistryView}
use Rattle.eip_ledger.specs.View.{JournalView}
use Rattle.eip_ledger.specs.declared.place.Stop.{Stop}
use Rattle.eip_run.specs.declared.report.Outcome.{Outcome}
use Rattle.eip_run.specs.declared.report.Outcome.TheVariants as outcome
use Rattle.eip_run.specs.declared.print.Account.{Account}
use Rattle.eip_run.specs.Reports.{IsNew, Told, Ran}
use Rattle.eip_command.specs.declared.words.Path.{Path}
use Rattle.eip_endpoint.specs.Files.{File}
use Rattle.eip_endpoint.specs.declared.files.FilesFault.{FilesFault}
use Rattle.eip_run.specs.Kept.{Keeps}
use Rattle.eip_run.specs.Printed.{TellsRun}
use Rattle.std.specs.Prelude.{codes}

-- this account of a run was given, and its journal written where a file is named for it, or the run found no memory to begin with
pub data Drained (account : Account) (named : Option Path) (set : RouteSet) (workers limit : ℕ) (j : JournalView) (files_before files_after : Option (List File)) (count_before count_after : ℕ) (lanes_before lanes_after : List LaneView) (inlets_before inlets_after : List InletView)
    (registry : RegistryView) (before after : Option (List ℕ)) (faults_before faults_after : ℕ) : Outcome → Type 0 where
  RanTo : (s : Stop) (kept : Result Unit FilesFault) (o : Outcome) → Ran set workers limit j s lanes_before lanes_after inlets_before inlets_after registry
      → Keeps named j files_before files_after count_before count_after kept → TellsRun account set j.past s kept before after faults_before faults_after o
      → Drained account named set workers limit j files_before files_after count_before count_after lanes_before lanes_after inlets_before inlets_after registry before after faults_before faults_after o
  NotBegun : (o : Outcome) → IsNew j → files_after ≡ files_before → count_after ≡ count_before → lanes_after ≡ lanes_before → inlets_after ≡ inlets_before
      → Told outcome.NoMemory (codes "error memory\n") before after faults_before faults_after o
      → Drained account named set workers limit j files_before files_after count_before count_after lanes_before lanes_after inlets_before inlets_after registry before after faults_before faults_after o

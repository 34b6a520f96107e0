-- What workers did to a run together.
use Rattle.std.specs.Prelude.{◌≡◌, List, [], ◌++◌}
use Rattle.eip_endpoint.specs.Lanes.{LaneView, LanesGrew}
use Rattle.eip_endpoint.specs.Inlets.{InletView, InletsGrew}
use Rattle.eip_endpoint.specs.Outside.{calls}
use Rattle.eip_history.specs.Own.{Past}
use Rattle.eip_history.specs.Rules.{Served, served}
use Rattle.eip_crew.specs.View.{BooksView, plan, IsSameRun}
use Rattle.eip_outlets.specs.Outlets.{outlets}
use Rattle.eip_owners.specs.Acts.{inlet_acts, seen_answers}
use Rattle.eip_owners.specs.Owners.{entries_of, IsOwnedBehind}
use Rattle.eip_processor.specs.Registered.{RegistryView}
use Rattle.eip_crew.specs.Doors.{doors_among}
use Rattle.eip_crew.specs.Outside.{AreTheirs}

-- entries were made behind the journal, none of them by worker 0 and each on a lane or an inlet by its owner, and by them requests were
-- answered; lanes and inlets did what these entries and answers say, in their order, and what was processed or tested was answered by the one
-- of that name
pub record Works (old new : BooksView) (lanes_old lanes_new : List LaneView) (inlets_old inlets_new : List InletView) (registry : RegistryView) : Type 0 where
  pub behind : Past
  pub past : new.journal.past ≡ behind ++ old.journal.past
  pub given : List Served
  pub answers : served (plan old) new.journal.past ≡ served (plan old) old.journal.past ++ given
  pub same : IsSameRun old new
  pub staffed : entries_of 0 behind ≡ []
  pub owned : IsOwnedBehind (plan old) (outlets old.set) old.journal.workers old.journal.past behind
  pub lanes : LanesGrew 0 (calls (doors_among old.set lanes_old inlets_old) (seen_answers given)) lanes_old lanes_new
  pub inlets : InletsGrew 0 (inlet_acts (doors_among old.set lanes_old inlets_old) behind (seen_answers given)) inlets_old inlets_new
  pub theirs : AreTheirs registry given

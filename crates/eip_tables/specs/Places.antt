-- The place of an exchange, as its row shows it.
use Rattle.std.specs.Prelude.{ℕ, Bool, true, false, List, [], Option, Some, None, slice_get}
use Rattle.eip_exchange.specs.declared.end.Fault.{Fault}
use Rattle.eip_exchange.specs.declared.end.End.TheVariants as end
use Rattle.eip_exchange.specs.Ends.{out_of_memory, commit_failed}
use Rattle.eip_ledger.specs.declared.entry.Entry.{Entry}
use Rattle.eip_ledger.specs.declared.entry.Kind.{Kind}
use Rattle.eip_ledger.specs.declared.entry.Kind.TheVariants.{Accept}
use Rattle.eip_ledger.specs.declared.place.Place.{Place}
use Rattle.eip_ledger.specs.declared.place.Place.TheVariants as place_is
use Rattle.eip_tables.specs.declared.asking.Inner.{Inner}
use Rattle.eip_tables.specs.declared.asking.Inner.TheVariants.{Did, Outside}
use Rattle.eip_tables.specs.declared.row.Born.{Born}
use Rattle.eip_tables.specs.declared.row.Born.TheVariants as born
use Rattle.eip_tables.specs.declared.row.Stage.{Stage}
use Rattle.eip_tables.specs.declared.row.Stage.TheVariants as stage
use Rattle.eip_tables.specs.Row.{Row}

-- the item that an entry accepted
abbrev pub item_by : Kind → List ℕ
item_by (Accept source item m) = item
item_by _ = []

abbrev pub item_at : Option Entry → List ℕ
item_at (Some e) = item_by e.kind
item_at None = []

abbrev pub failed_place : Option Fault → Place
failed_place (Some f) = place_is.Ended (end.Failed f)
failed_place None = place_is.Ready

-- the item of an exchange, by what made it
abbrev pub item_born : List Entry → Born → List ℕ
item_born entries (born.Item i) = item_at (slice_get entries i)
item_born entries _ = []

-- a copy waits in the queue that it was born into
abbrev pub queue_place : Born → Place
queue_place (born.Copy q) = place_is.Queue q
queue_place _ = place_is.Ready

-- the place of a stage, with what made the exchange, its item and its fault
abbrev pub stage_place : Born → List ℕ → Option Fault → Stage → Place
stage_place o item f stage.Queued = queue_place o
stage_place o item f (stage.Held w) = place_is.InHand w
stage_place o item f (stage.Joining i) = place_is.Joining
stage_place o item f (stage.Asleep i due) = place_is.Retry due
stage_place o item f stage.Completed = place_is.Ended end.Completed
stage_place o item f stage.Handled = place_is.Ended end.Handled
stage_place o item f stage.Failed = failed_place f
stage_place o item f stage.Starved = place_is.Ended out_of_memory
stage_place o item f stage.NotCommitted = place_is.Ended (commit_failed item)
stage_place o item f _ = place_is.Ready

-- the place that a row shows, with the journal's entries
abbrev pub shown : List Entry → Row → Place
shown entries r = stage_place r.born (item_born entries r.born) r.fault r.stage

-- what a look at an exchange answers, by whether it asks somebody outside
abbrev pub inner_of : Bool → Inner
inner_of true = Outside
inner_of false = Did

-- Where an exchange comes from, and how it ended, as the books lend it.
use Rattle.std.specs.Prelude.{List, Option, Some, None, slice_get}
use Rattle.eip_exchange.specs.declared.birth.Origin.{Origin}
use Rattle.eip_exchange.specs.declared.birth.Origin.TheVariants as from
use Rattle.eip_exchange.specs.declared.end.Ending.{Ending}
use Rattle.eip_exchange.specs.declared.end.Ending.TheVariants as ending
use Rattle.eip_exchange.specs.Ends.{ending_of}
use Rattle.eip_ledger.specs.declared.entry.Entry.{Entry}
use Rattle.eip_ledger.specs.declared.entry.Kind.{Kind}
use Rattle.eip_ledger.specs.declared.entry.Kind.TheVariants.{Accept}
use Rattle.eip_ledger.specs.declared.place.Place.{Place}
use Rattle.eip_ledger.specs.declared.place.Place.TheVariants.{Ended}
use Rattle.eip_tables.specs.declared.origin.OriginView.{OriginView}
use Rattle.eip_tables.specs.declared.origin.OriginView.TheVariants as view
use Rattle.eip_tables.specs.declared.row.Born.{Born}
use Rattle.eip_tables.specs.declared.row.Born.TheVariants as born
use Rattle.eip_tables.specs.declared.row.Stage.{Stage}
use Rattle.eip_tables.specs.declared.row.Stage.TheVariants as stage

-- the origin that a view lends
abbrev pub origin_seen : OriginView → Origin
origin_seen (view.Source r item) = from.Source r item.now
origin_seen (view.Queue r) = from.Queue r
origin_seen (view.Part parent i) = from.Part parent i
origin_seen (view.Group g) = from.Group g

-- the origin of the exchange that an entry made
abbrev pub origin_by : Kind → Option Origin
origin_by (Accept source item m) = Some (from.Source source item)
origin_by _ = None

abbrev pub origin_in : Option Entry → Option Origin
origin_in (Some e) = origin_by e.kind
origin_in None = None

-- the origin of an exchange, by what made it
abbrev pub origin_born : List Entry → Born → Option Origin
origin_born entries (born.Item i) = origin_in (slice_get entries i)
origin_born entries (born.Copy q) = Some (from.Queue q)
origin_born entries (born.Part parent index) = Some (from.Part parent index)
origin_born entries (born.Group group cause) = Some (from.Group group)

-- how an exchange that stands here ended
abbrev pub ending_at : Option Place → Option Ending
ending_at (Some (Ended e)) = Some (ending_of e)
ending_at _ = None

-- how an exchange at this stage ended
abbrev pub stage_ending : Stage → Option Ending
stage_ending stage.Completed = Some ending.Completed
stage_ending stage.Handled = Some ending.Handled
stage_ending stage.Failed = Some ending.Failed
stage_ending stage.Starved = Some ending.Failed
stage_ending stage.NotCommitted = Some ending.Failed
stage_ending _ = None

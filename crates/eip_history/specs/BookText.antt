-- The texts of a journal as bytes: the log, the book and its summary.
use Rattle.std.specs.Prelude.{ℕ, List, [], ◌∷◌, ◌++◌, Option, codes, decimal, flat_map, length, take, option_map}
use Rattle.eip_text.specs.Escapes.{escaped, quoted}
use Rattle.eip_exchange.specs.declared.birth.Birth.{Birth}
use Rattle.eip_exchange.specs.declared.birth.Origin.{Origin}
use Rattle.eip_exchange.specs.declared.birth.Origin.TheVariants as from
use Rattle.eip_exchange.specs.declared.end.End.{End}
use Rattle.eip_exchange.specs.declared.end.End.TheVariants as end
use Rattle.eip_ledger.specs.declared.entry.Kind.{Kind}
use Rattle.eip_ledger.specs.declared.entry.Kind.TheVariants.{Refuse}
use Rattle.eip_ledger.specs.declared.entry.Refused.{Refused}
use Rattle.eip_ledger.specs.declared.entry.Refused.TheVariants as refused
use Rattle.eip_ledger.specs.declared.place.Note.{Note}
use Rattle.eip_ledger.specs.declared.place.Place.{Place}
use Rattle.eip_ledger.specs.declared.place.Place.TheVariants as place_is
use Rattle.eip_ledger.specs.declared.place.Stop.{Stop}
use Rattle.eip_ledger.specs.declared.place.Stop.TheVariants as stop_is
use Rattle.eip_history.specs.Plan.{Plan}
use Rattle.eip_history.specs.Own.{Past, numbered, turns}
use Rattle.eip_history.specs.Groups.{Group}
use Rattle.eip_history.specs.Births.{births}
use Rattle.eip_history.specs.Place.{place_of}
use Rattle.eip_history.specs.Stop.{open_groups}
use Rattle.eip_history.specs.Texts.{notes, Line, OfExchange, OfRefusal, OfGroup, OfCounts, OfTotals}
use Rattle.eip_history.specs.Counts.{total_count, completed_count, handled_count, failed_count, waiting_count, accepted_count, refused_count}

-- the names that the texts print, by the index of a route
pub record RouteNames : Type 0 where
  pub route_id : ℕ → List ℕ
  pub queue_name : ℕ → List ℕ

-- `log N NAME: TEXT`
abbrev pub note_line : Note → List ℕ
note_line n = codes "log " ++ (decimal n.number ++ (codes " " ++ (n.name ++ (codes ": " ++ (escaped n.text ++ codes "\n")))))

-- the log: a line per note, in the journal's order
unfoldable pub log_text_of : Plan → Past → List ℕ
log_text_of s past = flat_map note_line (notes s past)

-- where an exchange comes from
abbrev pub origin_text : RouteNames → Origin → List ℕ
origin_text names (from.Source r item) = codes "source " ++ names.route_id r
origin_text names (from.Queue q) = codes "queue " ++ names.queue_name q
origin_text names (from.Part parent i) = codes "part " ++ (decimal parent ++ (codes "." ++ decimal i))
origin_text names (from.Group g) = codes "group " ++ decimal g

-- how an exchange ended
abbrev pub end_text : End → List ℕ
end_text end.Completed = codes "completed"
end_text end.Handled = codes "handled"
end_text (end.Failed f) = codes "failed " ++ (f.kind ++ (codes " " ++ quoted f.text))

-- how an exchange ended, or where it waits; at a stop nobody is in hand
abbrev pub state_text : RouteNames → Place → List ℕ
state_text names (place_is.Ended e) = end_text e
state_text names (place_is.Queue q) = codes "waiting queue " ++ names.queue_name q
state_text names (place_is.Retry due) = codes "waiting retry " ++ decimal due
state_text names place_is.Joining = codes "waiting joining"
state_text names place_is.Ready = codes "waiting ready"
state_text names (place_is.InHand w) = codes "waiting in hand"

-- `exchange N ORIGIN STATE`
abbrev pub exchange_line : RouteNames → ℕ → Origin → Place → List ℕ
exchange_line names n o p = codes "exchange " ++ (decimal n ++ (codes " " ++ (origin_text names o ++ (codes " " ++ (state_text names p ++ codes "\n")))))

-- the line of a birth
abbrev pub line_of_exchange : Plan → RouteNames → Past → Birth → List ℕ
line_of_exchange s names past b = exchange_line names b.number b.origin (place_of s past b)

-- the lines of the first k exchanges
unfoldable pub exchanges_text : Plan → RouteNames → Past → ℕ → List ℕ
exchanges_text s names past k = flat_map (line_of_exchange s names past) (take k (births s past))

-- where a birth comes from
abbrev pub origin_of : Birth → Origin
origin_of b = b.origin

-- where exchange x comes from
abbrev pub origin_at : Plan → Past → ℕ → Option Origin
origin_at s past x = option_map origin_of (numbered (births s past) x)

-- why an item was refused
abbrev pub cause_text : Refused → List ℕ
cause_text refused.NotText = codes "NotText"
cause_text refused.TooLong = codes "TooLong"

-- `refused ROUTE ITEM CAUSE`
abbrev pub refused_line : RouteNames → ℕ → List ℕ → Refused → List ℕ
refused_line names route item cause = codes "refused " ++ (names.route_id route ++ (codes " " ++ (quoted item ++ (codes " " ++ (cause_text cause ++ codes "\n")))))

-- the line of an entry that refuses an item
abbrev pub refused_line_in : RouteNames → Kind → List ℕ
refused_line_in names (Refuse route item cause) = refused_line names route item cause
refused_line_in names _ = []

-- the lines of the refused items, in the journal's order
unfoldable pub refusals_text : RouteNames → Past → List ℕ
refusals_text names [] = []
refusals_text names (e ∷ past) = refusals_text names past ++ refused_line_in names e.kind

-- `group G SIZE KEY`
abbrev pub group_line_of : ℕ → ℕ → List ℕ → List ℕ
group_line_of number size key = codes "group " ++ (decimal number ++ (codes " " ++ (decimal size ++ (codes " " ++ (quoted key ++ codes "\n")))))

-- the line of a group
abbrev pub line_of_group : Group → List ℕ
line_of_group g = group_line_of g.number (length g.parts) g.key

-- the lines of the first k open groups
unfoldable pub groups_text : Plan → Past → ℕ → List ℕ
groups_text s past k = flat_map line_of_group (take k (open_groups s past))

-- `accepted A refused R`
abbrev pub accepted_line : ℕ → ℕ → List ℕ
accepted_line a r = codes "accepted " ++ (decimal a ++ (codes " refused " ++ (decimal r ++ codes "\n")))

-- `total B completed C handled H failed F waiting W`
abbrev pub total_line : ℕ → ℕ → ℕ → ℕ → ℕ → List ℕ
total_line b c h f w =
    codes "total " ++ (decimal b ++ (codes " completed " ++ (decimal c ++ (codes " handled " ++ (decimal h
    ++ (codes " failed " ++ (decimal f ++ (codes " waiting " ++ (decimal w ++ codes "\n")))))))))

-- a line of the book, given as data
abbrev pub line_text : RouteNames → Line → List ℕ
line_text names (OfExchange n o p) = exchange_line names n o p
line_text names (OfRefusal route item cause) = refused_line names route item cause
line_text names (OfGroup number size key) = group_line_of number size key
line_text names (OfCounts a r) = accepted_line a r
line_text names (OfTotals b c h f w) = total_line b c h f w

-- why the run stopped, behind so many turns; a run without memory prints no book
abbrev pub stop_line : RouteNames → ℕ → Stop → List ℕ
stop_line names spent stop_is.Drained = codes "drained\n"
stop_line names spent (stop_is.Held g) = codes "held " ++ (decimal g ++ codes "\n")
stop_line names spent stop_is.Spent = codes "spent " ++ (decimal spent ++ codes "\n")
stop_line names spent (stop_is.SourceFault r) = codes "source fault " ++ (names.route_id r ++ codes "\n")
stop_line names spent stop_is.NoMemory = []

-- the last three lines of the book
unfoldable pub summary_text_of : Plan → RouteNames → Past → Stop → List ℕ
summary_text_of s names past stop =
    accepted_line (accepted_count past) (refused_count past)
    ++ (total_line (total_count s past) (completed_count s past) (handled_count s past) (failed_count s past) (waiting_count s past)
    ++ stop_line names (turns past) stop)

-- the book: the exchanges by number, the refused items in order, the open groups by number, the summary
unfoldable pub book_text_of : Plan → RouteNames → Past → Stop → List ℕ
book_text_of s names past stop =
    exchanges_text s names past (total_count s past)
    ++ (refusals_text names past ++ (groups_text s past (length (open_groups s past)) ++ summary_text_of s names past stop))

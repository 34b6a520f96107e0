-- The texts of a run, by what contracts see of it.
use Rattle.std.specs.Prelude.{ℕ, ◌≡◌, ◌++◌, length, List, Some}
use Rattle.eip_exchange.specs.declared.birth.Origin.{Origin}
use Rattle.eip_ledger.specs.declared.place.Place.{Place}
use Rattle.eip_ledger.specs.declared.place.Stop.{Stop}
use Rattle.eip_history.specs.Place.{place}
use Rattle.eip_history.specs.Counts.{total_count}
use Rattle.eip_history.specs.Stop.{open_groups}
use Rattle.eip_history.specs.BookText.{origin_at, exchange_line, exchanges_text, groups_text, log_text_of, summary_text_of, book_text_of, total_line}
use Rattle.eip_hub.specs.View.{BooksView, plan}
use Rattle.eip_endbook.specs.Names.{route_names}
use Rattle.eip_endbook.specs.declared.counts.Summary.{Summary}

-- the log
abbrev pub log_of : BooksView → List ℕ
log_of v = log_text_of (plan v) v.journal.past

-- the book of a run that stopped so
abbrev pub book_of : BooksView → Stop → List ℕ
book_of v stop = book_text_of (plan v) (route_names v.set) v.journal.past stop

-- its last three lines
abbrev pub summary_of : BooksView → Stop → List ℕ
summary_of v stop = summary_text_of (plan v) (route_names v.set) v.journal.past stop

-- its lines of exchanges
abbrev pub exchanges_of : BooksView → List ℕ
exchanges_of v = exchanges_text (plan v) (route_names v.set) v.journal.past (total_count (plan v) v.journal.past)

-- its lines of open groups
abbrev pub groups_of : BooksView → List ℕ
groups_of v = groups_text (plan v) v.journal.past (length (open_groups (plan v) v.journal.past))

-- a text grew by the line of exchange x, by where it comes from and where it stands
abbrev pub AppendsExchange : BooksView → ℕ → (before after : List ℕ) → Type 0
AppendsExchange v x before after =
    (o : Origin) (p : Place) → origin_at (plan v) v.journal.past x ≡ Some o → place (plan v) v.journal.past x ≡ Some p
    → after ≡ before ++ exchange_line (route_names v.set) x o p

-- the line of exchanges
abbrev pub total_of : Summary → List ℕ
total_of s = total_line s.total s.completed s.handled s.failed s.waiting

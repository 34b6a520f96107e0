-- What an outcome's status is, and what becomes of it when its text is written.
use Rattle.std.specs.Prelude.{ℕ, Result, Ok, Err}
use Rattle.eip_ledger.specs.declared.place.Stop.{Stop}
use Rattle.eip_ledger.specs.declared.place.Stop.TheVariants as stop
use Rattle.eip_endpoint.specs.declared.files.FilesFault.{FilesFault as FileFault}
use Rattle.eip_endpoint.specs.declared.files.FilesFault.TheVariants as file_fault
use Rattle.eip_endpoint.specs.declared.sink.SinkFault.{SinkFault}
use Rattle.eip_endpoint.specs.declared.sink.SinkFault.TheVariants as fault
use Rattle.eip_run.specs.declared.report.Outcome.{Outcome}
use Rattle.eip_run.specs.declared.report.Outcome.TheVariants.{Words, Routes, FilesFault, Checked, Ran}
use Rattle.eip_run.specs.declared.report.Outcome.TheVariants.{Legal, Wrong, BadDump, Migrated, SinkFault as Unwritten, NoMemory}
use Rattle.eip_verdict.specs.declared.verdict.Verdict.{Verdict}
use Rattle.eip_verdict.specs.declared.verdict.Verdict.TheVariants as verdict

-- the status of a run by its stop
abbrev pub stop_status : Stop → ℕ
stop_status stop.Drained = 0
stop_status (stop.SourceFault route) = 2
stop_status (stop.Held groups) = 3
stop_status stop.Spent = 4
stop_status stop.NoMemory = 5

-- 0 drained, checked, legal or migrated, 1 words, routes or a dump refused, 2 a fault of files, a source or the sink, 3 held, 4 spent, 5 out of memory,
-- 6 a journal that isn't legal
abbrev pub status_of : Outcome → ℕ
status_of Words = 1
status_of (Routes f) = 1
status_of FilesFault = 2
status_of Checked = 0
status_of (Ran s) = stop_status s
status_of (Legal entries) = 0
status_of (Wrong entry rule) = 6
status_of (BadDump line) = 1
status_of (Migrated entries) = 0
status_of Unwritten = 2
status_of NoMemory = 5

-- a journal that could not be written to its file is the outcome of a run that was drained; every other stop came earlier
abbrev pub unkept : Stop → Outcome
unkept stop.Drained = FilesFault
unkept s = Ran s

-- the outcome of a run by its stop and by what became of writing its journal
abbrev pub left_by : Stop → Result Unit FileFault → Outcome
left_by s (Ok u) = Ran s
left_by s (Err file_fault.Failed) = unkept s
left_by s (Err file_fault.NoMemory) = NoMemory

-- the outcome of an audit by its verdict
abbrev pub judged : Verdict → Outcome
judged (verdict.Legal entries) = Legal entries
judged (verdict.Wrong entry rule) = Wrong entry rule

-- a sink that failed is the outcome of a run that was drained, of a check, of an audit with a verdict and of a migration that was written; every other
-- outcome had an earlier cause
abbrev pub unwritten : Outcome → Outcome
unwritten (Ran stop.Drained) = Unwritten
unwritten Checked = Unwritten
unwritten (Legal entries) = Unwritten
unwritten (Wrong entry rule) = Unwritten
unwritten (Migrated entries) = Unwritten
unwritten o = o

-- the outcome behind the writing of its text
abbrev pub behind : Outcome → Result Unit SinkFault → Outcome
behind o (Ok u) = o
behind o (Err fault.Failed) = unwritten o
behind o (Err fault.NoMemory) = NoMemory

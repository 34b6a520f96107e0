-- What comes of the dump that an audit or a migration names, by what the command came to.
use Rattle.std.proofs.Common.{◌≡◌, ◌⊎◌, ℕ, List, Option, Some, None, Result, Ok, Err, length, refl, sym, ap, subst, ◌∙◌, inl, inr}
use Rattle.std.proofs.lemmas.Option.{same_Some}
use Rattle.eip_route.specs.declared.route.RouteSet.{RouteSet}
use Rattle.eip_route_faults.specs.Sites.{Site}
use Rattle.eip_route_json.specs.Reading.{Finds}
use Rattle.eip_route_grammar.specs.declared.fault.RouteFault.{RouteFault}
use Rattle.eip_command.specs.Words.{command_of}
use Rattle.eip_command.specs.declared.words.Path.{Path}
use Rattle.eip_command.specs.declared.words.Command.{Command}
use Rattle.eip_command.specs.declared.words.Command.TheVariants.{Drain, Check, Audit, Load, Migrate}
use Rattle.eip_endpoint.specs.Content.{IfTold}
use Rattle.eip_endpoint.specs.Files.{File, bytes_at, read_of}
use Rattle.eip_endpoint.specs.declared.files.FileRead.{FileRead}
use Rattle.eip_endpoint.specs.declared.files.FileRead.TheVariants.{Bytes, Missing, TooLong}
use Rattle.eip_endpoint.specs.declared.sink.SinkFault.{SinkFault}
use Rattle.eip_endpoint.specs.declared.sink.SinkFault.TheVariants as fault
use Rattle.eip_ledger.specs.View.{JournalView}
use Rattle.eip_dump.proofs.Unique.{one_journal, none_bad}
use Rattle.eip_history.specs.Own.{Past}
use Rattle.eip_plan.specs.Plan.{plan_of}
use Rattle.eip_verdict.specs.Verdicts.{Says}
use Rattle.eip_verdict.specs.declared.verdict.Verdict.{Verdict}
use Rattle.eip_verdict.specs.declared.verdict.Verdict.TheVariants as verdict
use Rattle.eip_run.specs.declared.report.Outcome.{Outcome}
use Rattle.eip_run.specs.declared.report.Outcome.TheVariants as outcome
use Rattle.eip_run.specs.Given.{Asked, Setting, asked}
use Rattle.eip_run.specs.Routes.{set_in}
use Rattle.eip_run.specs.Prepared.{sites, WasRead}
use Rattle.eip_run.specs.Outcomes.{judged, behind}
use Rattle.eip_run.specs.Dumps.{dump_limit, HoldsDump, IsTextOf, IsBad, IsJournalAt, IsBadAt}
use Rattle.eip_run.specs.Reports.{RunsTo, AsksDump, ToAudit, ToMigrate, Comes, NoCommand, NotRead, NoRoutes, WasChecked, Stopped, Starved, DumpUnread, NoJournal, WasJudged, WasMigrated, NotMigrated, LacksMemory, LacksText, LacksLine}
use Rattle.eip_run.specs.Caused.{IsOfSize, IsRight, AsksAudit, AsksMigration, IsHeldDump, IsRefusedDump, IsVerdictOn, IsMigrationOf}
use Rattle.eip_run.proofs.Held.{one-command, was-held, same-places}

-- ---- what a dump holds

-- what was read of it is what it holds
dump-held : (p : Path) (files : Option (List File)) (held read : FileRead) → IsHeldDump p files held → HoldsDump p files read → read ≡ held
dump-held p files held read h told =
    subst (λ (o : Option (List File)). IfTold o (λ all. read ≡ read_of dump_limit (bytes_at p.folder p.name all))) h.told told ∙ sym h.held

-- no text is that of a journal and has a bad line
no-both : (line : ℕ) (j : JournalView) (read : FileRead) → IsTextOf j read → IsBad line read → ⊥
no-both line j (Bytes bytes) is_text bad = none_bad line bytes j is_text bad
no-both line j Missing is_text bad = is_text
no-both line j TooLong is_text bad = is_text

journal-bad : (p : Path) (files : Option (List File)) (held : FileRead) (line : ℕ) (j : JournalView) → IsHeldDump p files held → IsBad line held → IsJournalAt p files j → ⊥
journal-bad p files held line j h bad at = no-both line j held (subst (IsTextOf j) (dump-held p files held at.read h at.held) at.is_text) bad

bad-journal : (p : Path) (files : Option (List File)) (held : FileRead) (line : ℕ) (j : JournalView) → IsHeldDump p files held → IsTextOf j held → IsBadAt p files line → ⊥
bad-journal p files held line j h is_text at = no-both line j held is_text (subst (IsBad line) (dump-held p files held at.read h at.held) at.bad)

-- journals of one text have the same limits and entries
record Same (j k : JournalView) : Type 0 where
  pub workers : j.workers ≡ k.workers
  pub turns : j.turns ≡ k.turns
  pub past : j.past ≡ k.past

same-text : (read : FileRead) (j k : JournalView) → IsTextOf j read → IsTextOf k read → Same j k
same-text (Bytes bytes) j k a b = let same = one_journal bytes j k a b in record { workers = same.0; turns = same.1.0; past = same.1.1 }
same-text Missing j k a b = absurd a
same-text TooLong j k a b = absurd a

same-journal : (p : Path) (files : Option (List File)) (held : FileRead) (j k : JournalView) → IsHeldDump p files held → IsJournalAt p files j → IsTextOf k held → Same j k
same-journal p files held j k h at is_text = same-text held j k (subst (IsTextOf j) (dump-held p files held at.read h at.held) at.is_text) is_text

-- ---- the dump that the words name

abbrev dump_of : Command → Option Path
dump_of (Audit p dump) = Some dump
dump_of (Migrate old new) = Some old
dump_of _ = None

record Names (words : List (List ℕ)) (dump : Path) : Type 0 where
  pub command : Command
  pub words_are : command_of words ≡ Some command
  pub named : dump_of command ≡ Some dump

one-dump : (words : List (List ℕ)) (d e : Path) → Names words d → Names words e → d ≡ e
one-dump words d e m n =
    let same : m.command ≡ n.command = cc (m.words_are, n.words_are) in
    same_Some d e (sym m.named ∙ ap dump_of same ∙ n.named)

asker-names : (y : Asked) (dump : Path) → AsksDump y dump → Names y.words dump
asker-names y dump (ToAudit p d set has) = record { command = Audit p dump; words_are = has.command; named = refl }
asker-names y dump (ToMigrate old new command calm) = record { command = Migrate dump new; words_are = command; named = refl }

either-names : (x : Setting) (dump : Path) (routes : FileRead) → AsksAudit x dump routes ⊎ AsksMigration x dump → Names x.words dump
either-names x dump routes (inl a) = record { command = Audit a.path dump; words_are = a.file.command; named = refl }
either-names x dump routes (inr m) = record { command = Migrate dump m.new; words_are = m.command; named = refl }

-- a command that names none is none of these
no-name : (words : List (List ℕ)) (dump : Path) (k : Command) → Names words dump → command_of words ≡ Some k → dump_of k ≡ None → ⊥
no-name words dump k n command none =
    let same : n.command ≡ k = cc (n.words_are, command) in
    let both : None ≡ Some dump = sym none ∙ ap dump_of (sym same) ∙ n.named in
    cc both

run-names-none : (k : Command) (limit : ℕ) → RunsTo k limit → dump_of k ≡ None
run-names-none (Drain p workers turns journal) limit to = refl
run-names-none (Load n workers) limit to = refl
run-names-none (Check p) limit to = absurd to
run-names-none (Audit p journal) limit to = absurd to
run-names-none (Migrate old new) limit to = absurd to

no-run : (words : List (List ℕ)) (dump : Path) (k : Command) (limit : ℕ) → Names words dump → command_of words ≡ Some k → RunsTo k limit → ⊥
no-run words dump k limit n command to = no-name words dump k n command (run-names-none k limit to)

-- ---- a pattern of right routes is refused for its size alone

right-size : (at : List Site) (g : RouteFault) (before after : ℕ) → IsRight at → Finds at before after g → IsOfSize g.cause
right-size at g before after right (inl h) = absurd (let both : None ≡ Some g = sym right.faultless ∙ h.0 in cc both)
right-size at g before after right (inr h) = right.patterns g h.0

audit-size : (x : Setting) (dump : Path) (routes read : FileRead) (l : Command) (g : RouteFault) → AsksAudit x dump routes → command_of x.words ≡ Some l
    → WasRead (asked x) l read → Finds (sites (asked x) read) x.before.materials.pattern_faults x.after.materials.pattern_faults g → IsOfSize g.cause
audit-size x dump routes read l g a command was h =
    let same : sites (asked x) read ≡ sites (asked x) routes = same-places x (Audit a.path dump) l routes read a.file command was.answer in
    right-size (sites (asked x) routes) g x.before.materials.pattern_faults x.after.materials.pattern_faults a.right
    (subst (λ (at : List Site). Finds at x.before.materials.pattern_faults x.after.materials.pattern_faults g) same h)

-- a migration has no routes
no-routes : (x : Setting) (dump : Path) (l : Command) (read : FileRead) → AsksMigration x dump → command_of x.words ≡ Some l → WasRead (asked x) l read → ⊥
no-routes x dump l read m command was =
    let same : l ≡ Migrate dump m.new = one-command x l (Migrate dump m.new) command m.command in
    (subst (λ (c : Command). WasRead (asked x) c read) same was).answer

either-size : (x : Setting) (dump : Path) (routes read : FileRead) (l : Command) (g : RouteFault) → AsksAudit x dump routes ⊎ AsksMigration x dump → command_of x.words ≡ Some l
    → WasRead (asked x) l read → Finds (sites (asked x) read) x.before.materials.pattern_faults x.after.materials.pattern_faults g → IsOfSize g.cause
either-size x dump routes read l g (inl a) command was h = audit-size x dump routes read l g a command was h
either-size x dump routes read l g (inr m) command was h = absurd (no-routes x dump l read m command was)

-- ---- a dump that is that of no journal

pub told-bad : (x : Setting) (dump : Path) (routes held : FileRead) (line : ℕ) (told : Outcome) (text : List ℕ) → AsksAudit x dump routes ⊎ AsksMigration x dump
    → IsHeldDump dump x.before.materials.files held → IsBad line held → Comes x told text → IsRefusedDump held told
told-bad x dump routes held line told text asks h bad (NoCommand none still calm) = absurd (cc (none, (either-names x dump routes asks).words_are))
told-bad x dump routes held line told text asks h bad (NotRead k command names still rises calm) = tt
told-bad x dump routes held line told text asks h bad (NoRoutes k read f command still was finds) = either-size x dump routes read k f asks command was finds
told-bad x dump routes held line told text asks h bad (WasChecked p set has still) =
    absurd (no-name x.words dump (Check p) (either-names x dump routes asks) has.command refl)
told-bad x dump routes held line told text asks h bad (Stopped k limit set s kept to has ran ne keeps wrote) =
    absurd (no-run x.words dump k limit (either-names x dump routes asks) has.command to)
told-bad x dump routes held line told text asks h bad (Starved k limit set kept to has ran keeps) =
    absurd (no-run x.words dump k limit (either-names x dump routes asks) has.command to)
told-bad x dump routes held line told text asks h bad (DumpUnread d named still rises) = tt
told-bad x dump routes held line told text asks h bad (NoJournal d other named still at) =
    let same : d ≡ dump = one-dump x.words d dump (asker-names (asked x) d named) (either-names x dump routes asks) in
    let here : IsBadAt dump x.before.materials.files other = subst (λ (p : Path). IsBadAt p x.before.materials.files other) same at in
    subst (IsBad other) (dump-held dump x.before.materials.files held here.read h here.held) here.bad
told-bad x dump routes held line told text asks h bad (WasJudged p d set v has still says) =
    let same : d ≡ dump = one-dump x.words d dump (asker-names (asked x) d (ToAudit p d set has)) (either-names x dump routes asks) in
    absurd (journal-bad dump x.before.materials.files held line says.journal h bad (subst (λ (q : Path). IsJournalAt q x.before.materials.files says.journal) same says.held))
told-bad x dump routes held line told text asks h bad (WasMigrated old new entries m) =
    let same : old ≡ dump = one-dump x.words old dump (record { command = Migrate old new; words_are = m.command; named = refl }) (either-names x dump routes asks) in
    absurd (journal-bad dump x.before.materials.files held line m.moved.journal h bad (subst (λ (q : Path). IsJournalAt q x.before.materials.files m.moved.journal) same m.moved.held))
told-bad x dump routes held line told text asks h bad (NotMigrated old new entries m) = tt
told-bad x dump routes held line told text asks h bad (LacksMemory still count spared) = tt
told-bad x dump routes held line told text asks h bad (LacksText k limit set s kept to has ran ne keeps) = tt
told-bad x dump routes held line told text asks h bad (LacksLine old new entries m) = tt

pub behind-bad : (held : FileRead) (told : Outcome) (w : Result Unit SinkFault) → IsRefusedDump held told → IsRefusedDump held (behind told w)
behind-bad held told (Ok u) h = h
behind-bad held told (Err fault.NoMemory) h = tt
behind-bad held outcome.Words (Err fault.Failed) h = h
behind-bad held (outcome.Routes g) (Err fault.Failed) h = h
behind-bad held outcome.FilesFault (Err fault.Failed) h = h
behind-bad held outcome.Checked (Err fault.Failed) h = h
behind-bad held (outcome.Ran s) (Err fault.Failed) h = absurd h
behind-bad held (outcome.Legal entries) (Err fault.Failed) h = h
behind-bad held (outcome.Wrong entry rule) (Err fault.Failed) h = h
behind-bad held (outcome.BadDump line) (Err fault.Failed) h = h
behind-bad held (outcome.Migrated entries) (Err fault.Failed) h = h
behind-bad held outcome.SinkFault (Err fault.Failed) h = h
behind-bad held outcome.NoMemory (Err fault.Failed) h = h

-- ---- a journal that is judged

verdict-on : (set : RouteSet) (j : JournalView) (v : Verdict) → Says (plan_of set) j.workers j.turns j.past v → IsVerdictOn set j (judged v)
verdict-on set j (verdict.Legal entries) h = h
verdict-on set j (verdict.Wrong entry rule) h = h

-- what is said of a journal and of routes is said of the same ones
says-same : (set other : RouteSet) (j k : JournalView) (v : Verdict) → set ≡ other → Same j k → Says (plan_of set) j.workers j.turns j.past v
    → Says (plan_of other) k.workers k.turns k.past v
says-same set other j k v e same h =
    subst (λ (r : RouteSet). Says (plan_of r) k.workers k.turns k.past v) e
    (subst (λ (n : ℕ). Says (plan_of set) n k.turns k.past v) same.workers
    (subst (λ (n : ℕ). Says (plan_of set) j.workers n k.past v) same.turns (subst (λ (p : Past). Says (plan_of set) j.workers j.turns p v) same.past h)))

pub told-verdict : (x : Setting) (dump : Path) (routes held : FileRead) (j : JournalView) (told : Outcome) (text : List ℕ) → AsksAudit x dump routes
    → IsHeldDump dump x.before.materials.files held → IsTextOf j held → Comes x told text → IsVerdictOn (set_in (asked x).names routes) j told
told-verdict x dump routes held j told text asks h is_text (NoCommand none still calm) = absurd (cc (none, asks.file.command))
told-verdict x dump routes held j told text asks h is_text (NotRead k command names still rises calm) = tt
told-verdict x dump routes held j told text asks h is_text (NoRoutes k read f command still was finds) = audit-size x dump routes read k f asks command was finds
told-verdict x dump routes held j told text asks h is_text (WasChecked p set has still) = absurd (cc (asks.file.command, has.command))
told-verdict x dump routes held j told text asks h is_text (Stopped k limit set s kept to has ran ne keeps wrote) =
    absurd (no-run x.words dump k limit (either-names x dump routes (inl asks)) has.command to)
told-verdict x dump routes held j told text asks h is_text (Starved k limit set kept to has ran keeps) =
    absurd (no-run x.words dump k limit (either-names x dump routes (inl asks)) has.command to)
told-verdict x dump routes held j told text asks h is_text (DumpUnread d named still rises) = tt
told-verdict x dump routes held j told text asks h is_text (NoJournal d other named still at) =
    let same : d ≡ dump = one-dump x.words d dump (asker-names (asked x) d named) (either-names x dump routes (inl asks)) in
    absurd (bad-journal dump x.before.materials.files held other j h is_text (subst (λ (p : Path). IsBadAt p x.before.materials.files other) same at))
told-verdict x dump routes held j told text asks h is_text (WasJudged p d set v has still says) =
    let same : d ≡ dump = one-dump x.words d dump (asker-names (asked x) d (ToAudit p d set has)) (either-names x dump routes (inl asks)) in
    let one : Same says.journal j = same-journal dump x.before.materials.files held says.journal j h (subst (λ (q : Path). IsJournalAt q x.before.materials.files says.journal) same says.held) is_text in
    let read : has.read ≡ routes = was-held x (Audit asks.path dump) (Audit p d) routes has.read asks.file has.command has.answer.answer in
    let sets : set ≡ set_in (asked x).names routes = has.routes ∙ ap (set_in (asked x).names) read in
    verdict-on (set_in (asked x).names routes) j v (says-same set (set_in (asked x).names routes) says.journal j v sets one says.says)
told-verdict x dump routes held j told text asks h is_text (WasMigrated old new entries m) = absurd (cc (asks.file.command, m.command))
told-verdict x dump routes held j told text asks h is_text (NotMigrated old new entries m) = tt
told-verdict x dump routes held j told text asks h is_text (LacksMemory still count spared) = tt
told-verdict x dump routes held j told text asks h is_text (LacksText k limit set s kept to has ran ne keeps) = tt
told-verdict x dump routes held j told text asks h is_text (LacksLine old new entries m) = tt

pub behind-verdict : (set : RouteSet) (j : JournalView) (told : Outcome) (w : Result Unit SinkFault) → IsVerdictOn set j told → IsVerdictOn set j (behind told w)
behind-verdict set j told (Ok u) h = h
behind-verdict set j told (Err fault.NoMemory) h = tt
behind-verdict set j outcome.Words (Err fault.Failed) h = h
behind-verdict set j (outcome.Routes g) (Err fault.Failed) h = h
behind-verdict set j outcome.FilesFault (Err fault.Failed) h = h
behind-verdict set j outcome.Checked (Err fault.Failed) h = tt
behind-verdict set j (outcome.Ran s) (Err fault.Failed) h = absurd h
behind-verdict set j (outcome.Legal entries) (Err fault.Failed) h = tt
behind-verdict set j (outcome.Wrong entry rule) (Err fault.Failed) h = tt
behind-verdict set j (outcome.BadDump line) (Err fault.Failed) h = h
behind-verdict set j (outcome.Migrated entries) (Err fault.Failed) h = tt
behind-verdict set j outcome.SinkFault (Err fault.Failed) h = h
behind-verdict set j outcome.NoMemory (Err fault.Failed) h = h

-- ---- a journal that is migrated

pub told-migrated : (x : Setting) (dump : Path) (held : FileRead) (j : JournalView) (told : Outcome) (text : List ℕ) → AsksMigration x dump
    → IsHeldDump dump x.before.materials.files held → IsTextOf j held → Comes x told text → IsMigrationOf j told
told-migrated x dump held j told text asks h is_text (NoCommand none still calm) = absurd (cc (none, asks.command))
told-migrated x dump held j told text asks h is_text (NotRead k command names still rises calm) = tt
told-migrated x dump held j told text asks h is_text (NoRoutes k read f command still was finds) = absurd (no-routes x dump k read asks command was)
told-migrated x dump held j told text asks h is_text (WasChecked p set has still) = absurd (cc (asks.command, has.command))
told-migrated x dump held j told text asks h is_text (Stopped k limit set s kept to has ran ne keeps wrote) =
    absurd (no-run x.words dump k limit (either-names x dump held (inr asks)) has.command to)
told-migrated x dump held j told text asks h is_text (Starved k limit set kept to has ran keeps) =
    absurd (no-run x.words dump k limit (either-names x dump held (inr asks)) has.command to)
told-migrated x dump held j told text asks h is_text (DumpUnread d named still rises) = tt
told-migrated x dump held j told text asks h is_text (NoJournal d other named still at) =
    let same : d ≡ dump = one-dump x.words d dump (asker-names (asked x) d named) (either-names x dump held (inr asks)) in
    absurd (bad-journal dump x.before.materials.files held other j h is_text (subst (λ (p : Path). IsBadAt p x.before.materials.files other) same at))
told-migrated x dump held j told text asks h is_text (WasJudged p d set v has still says) = absurd (cc (asks.command, has.command))
told-migrated x dump held j told text asks h is_text (WasMigrated old new entries m) =
    let same : old ≡ dump = one-dump x.words old dump (record { command = Migrate old new; words_are = m.command; named = refl }) (either-names x dump held (inr asks)) in
    let one : Same m.moved.journal j = same-journal dump x.before.materials.files held m.moved.journal j h
    (subst (λ (q : Path). IsJournalAt q x.before.materials.files m.moved.journal) same m.moved.held) is_text in
    m.moved.count ∙ ap (λ (p : Past). length p) one.past
told-migrated x dump held j told text asks h is_text (NotMigrated old new entries m) = tt
told-migrated x dump held j told text asks h is_text (LacksMemory still count spared) = tt
told-migrated x dump held j told text asks h is_text (LacksText k limit set s kept to has ran ne keeps) = tt
told-migrated x dump held j told text asks h is_text (LacksLine old new entries m) = tt

pub behind-migrated : (j : JournalView) (told : Outcome) (w : Result Unit SinkFault) → IsMigrationOf j told → IsMigrationOf j (behind told w)
behind-migrated j told (Ok u) h = h
behind-migrated j told (Err fault.NoMemory) h = tt
behind-migrated j outcome.Words (Err fault.Failed) h = h
behind-migrated j (outcome.Routes g) (Err fault.Failed) h = h
behind-migrated j outcome.FilesFault (Err fault.Failed) h = h
behind-migrated j outcome.Checked (Err fault.Failed) h = tt
behind-migrated j (outcome.Ran s) (Err fault.Failed) h = absurd h
behind-migrated j (outcome.Legal entries) (Err fault.Failed) h = tt
behind-migrated j (outcome.Wrong entry rule) (Err fault.Failed) h = tt
behind-migrated j (outcome.BadDump line) (Err fault.Failed) h = h
behind-migrated j (outcome.Migrated entries) (Err fault.Failed) h = tt
behind-migrated j outcome.SinkFault (Err fault.Failed) h = h
behind-migrated j outcome.NoMemory (Err fault.Failed) h = h

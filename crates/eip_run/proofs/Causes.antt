-- An outcome has its cause: by what the command came to, and why a run stops.
use Rattle.std.proofs.Common.{◌≡◌, ℕ, zero, suc, ◌+◌, ◌<◌, ◌≤◌, ◌++◌, ◌≢◌, ◌⊎◌, ◌==◌, ◌&&◌, Bool, true, false, cond, List, [], ◌∷◌, Option, Some, None, Result, Ok, Err, length, refl, sym, ap, subst, ◌∙◌, arith, inl, inr}
use Rattle.std.specs.Option.{IsSome}
use Rattle.std.specs.List.{slice_get}
use Rattle.std.proofs.lemmas.Bool.{eqb-true, eq-eqb, and_parts, ne_eqb}
use Rattle.std.proofs.lemmas.List.{length-map}
use Rattle.std.proofs.lemmas.Option.{slice_get_within}
use Rattle.eip_text.specs.Causes.{Rose, Rises}
use Rattle.eip_uri.specs.Inlets.{inlet_of}
use Rattle.eip_route.specs.declared.route.Route.{Route}
use Rattle.eip_route.specs.declared.route.RouteSet.{RouteSet}
use Rattle.eip_route_faults.specs.Sites.{Site, Stops, cause_failures}
use Rattle.eip_route_json.specs.Reading.{Finds}
use Rattle.eip_route_faults.specs.Sites as sites_are
use Rattle.eip_route_grammar.specs.declared.fault.Cause.{Cause}
use Rattle.eip_route_grammar.specs.declared.fault.Cause.TheVariants as cause_is
use Rattle.eip_route_grammar.specs.declared.fault.RouteFault.{RouteFault}
use Rattle.eip_command.specs.Words.{command_of, journal_of, workers_of}
use Rattle.eip_command.specs.declared.words.Path.{Path}
use Rattle.eip_command.specs.declared.words.Command.{Command}
use Rattle.eip_command.specs.declared.words.Command.TheVariants.{Check, Audit, Migrate}
use Rattle.eip_endpoint.specs.Files.{File}
use Rattle.eip_endpoint.specs.declared.files.FileRead.{FileRead}
use Rattle.eip_endpoint.specs.declared.files.FilesFault.{FilesFault}
use Rattle.eip_endpoint.specs.declared.files.FilesFault.TheVariants as files_fault
use Rattle.eip_endpoint.specs.declared.sink.SinkFault.{SinkFault}
use Rattle.eip_endpoint.specs.declared.sink.SinkFault.TheVariants as fault
use Rattle.eip_endpoint.specs.Sinks.{sink_failure}
use Rattle.eip_endpoint.specs.Inlets.{InletView, InletAct, Failed, faults_at, InletsGrew, inlet_names}
use Rattle.eip_endpoint.specs.Lanes.{lane_names}
use Rattle.eip_endpoint.specs.Outside.{Doors, commits, acts_by}
use Rattle.eip_endpoint.proofs.InletLaws.{faults_at-append}
use Rattle.eip_ledger.specs.View.{JournalView}
use Rattle.eip_ledger.specs.declared.entry.Kind.{Kind}
use Rattle.eip_ledger.specs.declared.entry.Kind.TheVariants.{SourceFault}
use Rattle.eip_ledger.specs.declared.place.Stop.{Stop}
use Rattle.eip_ledger.specs.declared.place.Stop.TheVariants as stop
use Rattle.eip_history.specs.Plan.{Plan}
use Rattle.eip_history.specs.Own.{Past, turns}
use Rattle.eip_history.specs.Place.{hands}
use Rattle.eip_history.specs.Rules.{IsSource, KeepsRules, May, Served, served}
use Rattle.eip_history.specs.Stop.{first_fault, fault_in, or_else, is_over, open_groups, held_or_drained, with_fault, stop_of}
use Rattle.eip_history.proofs.Steps.{fault-none, fault-more}
use Rattle.eip_history.proofs.Unborn.{legal-tail, legal-may}
use Rattle.eip_plan.specs.Plan.{plan_of}
use Rattle.eip_table_laws.proofs.StopCalls.{position-some}
use Rattle.eip_core.specs.Doors.{doors_of, inlet_named, inlet_at}
use Rattle.eip_core.specs.Outside.{seen_answers, pulls_in, pulls, inlet_acts}
use Rattle.eip_core.specs.Served.{names_of}
use Rattle.eip_core.proofs.Handed.{runs-inlets}
use Rattle.eip_run.specs.declared.report.Outcome.{Outcome}
use Rattle.eip_run.specs.declared.report.Outcome.TheVariants as outcome
use Rattle.eip_run.specs.Kept.{Keeps}
use Rattle.eip_verdict.specs.declared.verdict.Verdict.{Verdict}
use Rattle.eip_verdict.specs.declared.verdict.Verdict.TheVariants as verdict
use Rattle.eip_run.specs.Routes.{set_in}
use Rattle.eip_run.specs.Outcomes.{unkept, left_by, judged, behind}
use Rattle.eip_run.specs.Given.{Asked, Setting, asked, begun}
use Rattle.eip_run.specs.Prepared.{sites, IsReadOf, WasRead, IsSpared, HasRoutes}
use Rattle.eip_run.specs.Reports.{RunsTo, IsRun, KeptBy, Comes, NoCommand, NotRead, NoRoutes, WasChecked, Stopped, Starved, DumpUnread, NoJournal, WasJudged, WasMigrated, NotMigrated, LacksMemory, LacksText, LacksLine, AsksDump, ToAudit, ToMigrate, Reports}
use Rattle.eip_run.specs.Caused.{InletRose, SourceFailed, CauseOfStop, CauseOf, PatternsOf, IsUnharmed, Completes, Prints, IsFaultless, IsRefusedFor, Holds, InFile, IsOfSize, IsRight, IsAudited, AsksAudit, IsRefusedDump, IsVerdictOn, HasVerdict, IsMigrationOf, Dumps, Causes}
use Rattle.eip_run.proofs.Runnable.{Runs}
use Rattle.eip_run.proofs.Ending.{routes-run}
use Rattle.eip_run.proofs.Held.{one-command, same-places}
use Rattle.eip_run.proofs.DumpCauses.{told-bad, behind-bad, told-verdict, behind-verdict, told-migrated, behind-migrated}

-- ---- counts

-- a count rose where there was a fault
rises-rose : (n before now : ℕ) → 1 ≤ n → Rises n before now → Rose before now
rises-rose n before now some r = let least = r.least in omega arith

-- ---- why a run stops

-- what a stop says of the first source that failed, of the turns, and of open groups
abbrev Says : (over : Bool) → Option ℕ → (groups taken limit : ℕ) → Stop → Type 0
Says over f groups taken limit stop.Drained = Unit {0}
Says over f groups taken limit (stop.SourceFault t) = f ≡ Some t
Says over f groups taken limit (stop.Held held) = (over ≡ true) × (held ≡ groups) × (1 ≤ held)
Says over f groups taken limit stop.Spent = taken ≡ limit
Says over f groups taken limit stop.NoMemory = Unit {0}

says-by : (over spent : Bool) (f : Option ℕ) (groups taken limit : ℕ) (s : Stop) → (spent ≡ true → taken ≡ limit)
    → cond over (Some (with_fault f (held_or_drained groups))) (cond spent (Some (with_fault f stop.Spent)) None) ≡ Some s → Says over f groups taken limit s
says-by true spent (Some t) groups taken limit s full h = let same : stop.SourceFault t ≡ s = cc in subst (Says true (Some t) groups taken limit) same refl
says-by true spent None zero taken limit s full h = let same : stop.Drained ≡ s = cc in subst (Says true None zero taken limit) same tt
says-by true spent None (suc groups) taken limit s full h =
    let some : (suc groups == 0) ≡ false = ne_eqb (suc groups) 0 (λ q. omega (arith, q)) in
    let held : Some (stop.Held (suc groups)) ≡ Some s = subst (λ v. Some (cond v stop.Drained (stop.Held (suc groups))) ≡ Some s) some h in
    let same : stop.Held (suc groups) ≡ s = cc held in
    subst (Says true None (suc groups) taken limit) same (refl, refl, omega arith)
says-by false true (Some t) groups taken limit s full h = let same : stop.SourceFault t ≡ s = cc in subst (Says false (Some t) groups taken limit) same refl
says-by false true None groups taken limit s full h = let same : stop.Spent ≡ s = cc in subst (Says false None groups taken limit) same (full refl)
says-by false false f groups taken limit s full h = absurd (cc h)

abbrev StopSays : Plan → Past → (limit : ℕ) → Stop → Type 0
StopSays s past limit r = Says (is_over s past) (first_fault past) (length (open_groups s past)) (turns past) limit r

stop-says : (s : Plan) (limit : ℕ) (past : Past) (r : Stop) → stop_of s limit past ≡ Some r → StopSays s past limit r
unfolding stop_of
stop-says s limit past r h =
    says-by (is_over s past) ((turns past == limit) && (hands s past == 0)) (first_fault past) (length (open_groups s past)) (turns past) limit r
    (λ e. eqb-true (turns past) limit (and_parts (turns past == limit) _ e).0) h

-- ---- the inlet of a source that failed

-- who failed is a source
fault-source : (s : Plan) (w limit : ℕ) (past : Past) → KeepsRules s w limit past → (t : ℕ) → first_fault past ≡ Some t → IsSource s t
fault-source s w limit [] legal t h = absurd (let g : None ≡ Some t = sym fault-none ∙ h in cc g)
fault-source s w limit (e ∷ past) legal t h =
    by_first (first_fault past) refl (fault-source s w limit past (legal-tail s w limit e past legal) t) (sym (fault-more e past) ∙ h)
  where
    by_kind : (k : Kind) → May s limit past e.worker k → fault_in k ≡ Some t → IsSource s t
    by_kind (SourceFault u) may g = let same : u ≡ t = cc in subst (IsSource s) same may.0
    by_kind _ may g = absurd (cc g)

    by_first : (o : Option ℕ) → first_fault past ≡ o → (first_fault past ≡ Some t → IsSource s t) → or_else o (fault_in e.kind) ≡ Some t → IsSource s t
    by_first (Some u) was older g = older (was ∙ g)
    by_first None was older g = by_kind e.kind (legal-may s w limit e past legal) g

failed-once : (o : Option ℕ) (k : ℕ) (u : List ℕ) → o ≡ Some k → 1 ≤ faults_at k (acts_by o u (Failed ∷ []))
failed-once None k u h = absurd (cc h)
failed-once (Some j) k u h = let same : j ≡ k = cc in rw (eq-eqb j k same) (omega arith)

-- its inlet failed
fault-acted : (d : Doors) (k t : ℕ) → d.inlet t ≡ Some k → (past : Past) → first_fault past ≡ Some t → 1 ≤ faults_at k (pulls d past)
unfolding pulls
fault-acted d k t door [] h = absurd (let g : None ≡ Some t = sym fault-none ∙ h in cc g)
fault-acted d k t door (e ∷ past) h = by_first (first_fault past) refl (fault-acted d k t door past) (sym (fault-more e past) ∙ h)
  where
    by_kind : (n : Kind) → fault_in n ≡ Some t → 1 ≤ faults_at k (pulls_in d n)
    by_kind (SourceFault u) g = let same : u ≡ t = cc in failed-once (d.inlet u) k (d.uri u) (ap d.inlet same ∙ door)
    by_kind _ g = absurd (cc g)

    by_first : (o : Option ℕ) → first_fault past ≡ o → (first_fault past ≡ Some t → 1 ≤ faults_at k (pulls d past)) → or_else o (fault_in e.kind) ≡ Some t
        → 1 ≤ faults_at k (pulls d past ++ pulls_in d e.kind)
    by_first (Some u) was older g =
        let sum = faults_at-append k (pulls d past) (pulls_in d e.kind) in
        let some : 1 ≤ faults_at k (pulls d past) = older (was ∙ g) in
        omega arith
    by_first None was older g =
        let sum = faults_at-append k (pulls d past) (pulls_in d e.kind) in
        let some : 1 ≤ faults_at k (pulls_in d e.kind) = by_kind e.kind g in
        omega arith

fault-among : (d : Doors) (k t : ℕ) → d.inlet t ≡ Some k → (past : Past) (vs : List Served) → first_fault past ≡ Some t → 1 ≤ faults_at k (inlet_acts d past (seen_answers vs))
fault-among d k t door past vs h =
    let sum = faults_at-append k (pulls d past) (commits d (seen_answers vs)) in
    let some = fault-acted d k t door past h in
    omega (arith, sum, some)

-- so its count rose
inlet-rose : (k n : ℕ) (js : List InletAct) (vs ws : List InletView) → InletsGrew k js vs ws → (i : ℕ) → i < length vs → n ≡ k + i → 1 ≤ faults_at n js → InletRose vs ws i
inlet-rose k n js [] ws grew i within at some = absurd (omega arith)
inlet-rose k n js (v ∷ vs) [] grew i within at some = absurd grew
inlet-rose k n js (v ∷ vs) (w ∷ ws) grew zero within at some =
    let same : n ≡ k = omega arith in
    record { old = v; new = w; was = refl; is = refl; rose = rises-rose (faults_at k js) v.faults w.faults (rw same at some) grew.0.faults }
inlet-rose k n js (v ∷ vs) (w ∷ ws) grew (suc i) within at some =
    let r : InletRose vs ws i = inlet-rose (k + 1) n js vs ws grew.1 i (omega arith) (omega arith) some in
    record { old = r.old; new = r.new; was = r.was; is = r.is; rose = r.rose }

named-within : (names : List (List ℕ)) (o : Option (List ℕ)) (k : ℕ) → inlet_named names o ≡ Some k → k < length names
named-within names None k h = absurd (cc h)
named-within names (Some name) k h =
    let f = position-some _ 0 names k h in
    let is : k ≡ 0 + f.index = f.is in
    let within : f.index < length names = slice_get_within names f.index f.it f.at in
    omega arith

inlet-within : (names : List (List ℕ)) (r : Option Route) (k : ℕ) → inlet_at names r ≡ Some k → k < length names
inlet-within names None k h = absurd (cc h)
inlet-within names (Some r) k h = named-within names (inlet_of r.from) k h

the-some : (o : Option ℕ) → IsSome o → (k : ℕ) × (o ≡ Some k)
the-some None h = absurd (cc h)
the-some (Some k) h = (k, refl)

source-failed : (x : Setting) (k : Command) (limit : ℕ) (set : RouteSet) (s : Stop) (t : ℕ) → RunsTo k limit → HasRoutes (begun x) k set → IsRun x k set limit s
    → first_fault x.journal.past ≡ Some t → SourceFailed x t
source-failed x k limit set s t to has ran h =
    let runs : Runs set (names_of x.before.lanes x.before.inlets x.registry) = routes-run (begun x) k set has in
    let is : IsSource (plan_of set) t = fault-source (plan_of set) (workers_of k) limit x.journal.past ran.legal.entries t h in
    let door = the-some (inlet_at (inlet_names x.before.inlets) (slice_get set.routes t)) (runs-inlets runs.can_run t is) in
    let all : length (inlet_names x.before.inlets) ≡ length x.before.inlets = length-map x.before.inlets (λ v. v.name) in
    let among : door.0 < length (inlet_names x.before.inlets) = inlet-within _ (slice_get set.routes t) door.0 door.1 in
    let within : door.0 < length x.before.inlets = rw all at among in
    record {
      command = k;
      limit = limit;
      set = set;
      runs = to;
      routes = has;
      inlet = door.0;
      read_by = door.1;
      failed = inlet-rose 0 door.0 _ _ _ ran.inlets door.0 within (omega arith)
          (fault-among (doors_of set (lane_names x.before.lanes) (inlet_names x.before.inlets)) door.0 t door.1 x.journal.past (served (plan_of set) x.journal.past) h);
    }

-- ---- the cause of what a command came to

stop-caused : (x : Setting) (k : Command) (limit : ℕ) (set : RouteSet) (r s : Stop) → RunsTo k limit → HasRoutes (begun x) k set → IsRun x k set limit r
    → StopSays (plan_of set) x.journal.past limit s → CauseOfStop x limit s
stop-caused x k limit set r stop.Drained to has ran h = tt
stop-caused x k limit set r (stop.SourceFault t) to has ran h = source-failed x k limit set r t to has ran h
stop-caused x k limit set r (stop.Held groups) to has ran h = record { command = k; set = set; runs = to; routes = has; over = h.0; count = h.1; some = h.2 }
stop-caused x k limit set r stop.Spent to has ran h = h
stop-caused x k limit set r stop.NoMemory to has ran h = tt

-- the files' count rose where they failed in the write of a journal
failed-rose : (named : Option Path) (j : JournalView) (before after : Option (List File)) (faults_before faults_after : ℕ)
    → Keeps named j before after faults_before faults_after (Err files_fault.Failed) → Rose faults_before faults_after
failed-rose None j before after faults_before faults_after h = absurd (let e : Err files_fault.Failed ≡ Ok tt = h.answers in cc e)
failed-rose (Some p) j before after faults_before faults_after h = rises-rose 1 faults_before faults_after (omega arith) h.faults

unkept-caused : (x : Setting) (s : Stop) → Rose x.before.materials.files_faults x.after.materials.files_faults → CauseOf x (outcome.Ran s) → CauseOf x (unkept s)
unkept-caused x stop.Drained rose h = rose
unkept-caused x (stop.SourceFault t) rose h = h
unkept-caused x (stop.Held groups) rose h = h
unkept-caused x stop.Spent rose h = h
unkept-caused x stop.NoMemory rose h = h

audited : (x : Setting) (v : Verdict) → IsAudited x v → CauseOf x (judged v)
audited x (verdict.Legal entries) h = h
audited x (verdict.Wrong entry rule) h = h

told-caused : (x : Setting) (told : Outcome) (text : List ℕ) → Comes x told text → CauseOf x told
told-caused x told text (NoCommand none still calm) = none
told-caused x told text (NotRead k command names still rises calm) = rises-rose 1 _ _ (omega arith) rises
told-caused x told text (NoRoutes k read f command still was h) =
    record { command = k; read = read; words = command; answer = was; refused = h }
told-caused x told text (WasChecked p set has still) = (p, has.command)
told-caused x told text (Stopped k limit set s kept to has ran ne keeps wrote) = by_answer kept keeps wrote
  where
    by_stop : (s ≡ stop.NoMemory) ⊎ (stop_of (plan_of set) limit x.journal.past ≡ Some s) → CauseOfStop x limit s
    by_stop (inl e) = absurd (ne e)
    by_stop (inr h) = stop-caused x k limit set s s to has ran (stop-says (plan_of set) limit x.journal.past s h)

    by_answer : (w : Result Unit FilesFault) → KeptBy x k w → w ≢ Err files_fault.NoMemory → CauseOf x (left_by s w)
    by_answer (Ok u) h made = (limit, (k, has.command, to), by_stop ran.stops)
    by_answer (Err files_fault.Failed) h made = unkept-caused x s (failed-rose (journal_of k) _ _ _ _ _ h) (limit, (k, has.command, to), by_stop ran.stops)
    by_answer (Err files_fault.NoMemory) h made = absurd (made refl)
told-caused x told text (Starved k limit set kept to has ran keeps) = (limit, (k, has.command, to), tt)
told-caused x told text (LacksMemory still count spared) = tt
told-caused x told text (LacksText k limit set s kept to has ran ne keeps) = tt
told-caused x told text (DumpUnread dump asks still rises) = rises-rose 1 _ _ (omega arith) rises
told-caused x told text (NoJournal dump line asks still bad) = record { dump = dump; asks = asks; bad = bad }
told-caused x told text (WasJudged p dump set v has still says) = audited x v (record { path = p; dump = dump; set = set; routes = has; judged = says })
told-caused x told text (WasMigrated old new entries m) =
    record { old = old; new = new; command = m.command; journal = m.moved.journal; held = m.moved.held; count = m.moved.count }
told-caused x told text (NotMigrated old new entries m) = rises-rose 1 _ _ (omega arith) m.moved.wrote.faults
told-caused x told text (LacksLine old new entries m) = tt

-- the sink's fault is the cause where there was none before it
behind-caused : (x : Setting) (told : Outcome) (w : Result Unit SinkFault) → Rises (sink_failure w) x.before.sink_faults x.after.sink_faults → CauseOf x told
    → CauseOf x (behind told w)
behind-caused x told (Ok u) rises h = h
behind-caused x told (Err fault.NoMemory) rises h = tt
behind-caused x outcome.Words (Err fault.Failed) rises h = h
behind-caused x (outcome.Routes f) (Err fault.Failed) rises h = h
behind-caused x outcome.FilesFault (Err fault.Failed) rises h = h
behind-caused x outcome.Checked (Err fault.Failed) rises h = rises-rose 1 _ _ (omega arith) rises
behind-caused x (outcome.Ran stop.Drained) (Err fault.Failed) rises h = rises-rose 1 _ _ (omega arith) rises
behind-caused x (outcome.Ran (stop.SourceFault t)) (Err fault.Failed) rises h = h
behind-caused x (outcome.Ran (stop.Held groups)) (Err fault.Failed) rises h = h
behind-caused x (outcome.Ran stop.Spent) (Err fault.Failed) rises h = h
behind-caused x (outcome.Ran stop.NoMemory) (Err fault.Failed) rises h = h
behind-caused x (outcome.Legal entries) (Err fault.Failed) rises h = rises-rose 1 _ _ (omega arith) rises
behind-caused x (outcome.Wrong entry rule) (Err fault.Failed) rises h = rises-rose 1 _ _ (omega arith) rises
behind-caused x (outcome.BadDump line) (Err fault.Failed) rises h = h
behind-caused x (outcome.Migrated entries) (Err fault.Failed) rises h = rises-rose 1 _ _ (omega arith) rises
behind-caused x outcome.SinkFault (Err fault.Failed) rises h = h
behind-caused x outcome.NoMemory (Err fault.Failed) rises h = h

-- ---- words that are no command

abbrev IsRefused : Outcome → Type 0
IsRefused o = (o ≡ outcome.Words) ⊎ (o ≡ outcome.NoMemory)

words-behind : (w : Result Unit SinkFault) → IsRefused (behind outcome.Words w)
words-behind (Ok u) = inl refl
words-behind (Err fault.Failed) = inl refl
words-behind (Err fault.NoMemory) = inr refl

starved-behind : (w : Result Unit SinkFault) → IsRefused (behind outcome.NoMemory w)
starved-behind (Ok u) = inr refl
starved-behind (Err fault.Failed) = inr refl
starved-behind (Err fault.NoMemory) = inr refl

-- who asks for a dump is a command
no-asker : (y : Asked) (dump : Path) → command_of y.words ≡ None → AsksDump y dump → ⊥
no-asker y dump none (ToAudit p d set has) = cc (none, has.command)
no-asker y dump none (ToMigrate old new command calm) = cc (none, command)

refused-behind : (x : Setting) (told : Outcome) (text : List ℕ) (w : Result Unit SinkFault) → command_of x.words ≡ None → Comes x told text → IsRefused (behind told w)
refused-behind x told text w none (NoCommand _ still calm) = words-behind w
refused-behind x told text w none (NotRead k command names still rises calm) = absurd (cc (none, command))
refused-behind x told text w none (NoRoutes k read f command still was h) = absurd (cc (none, command))
refused-behind x told text w none (WasChecked p set has still) = absurd (cc (none, has.command))
refused-behind x told text w none (Stopped k limit set s kept to has ran ne keeps wrote) = absurd (cc (none, has.command))
refused-behind x told text w none (Starved k limit set kept to has ran keeps) = absurd (cc (none, has.command))
refused-behind x told text w none (LacksMemory still count spared) = starved-behind w
refused-behind x told text w none (LacksText k limit set s kept to has ran ne keeps) = absurd (cc (none, has.command))
refused-behind x told text w none (DumpUnread dump asks still rises) = absurd (no-asker (begun x) dump none asks)
refused-behind x told text w none (NoJournal dump line asks still bad) = absurd (no-asker (asked x) dump none asks)
refused-behind x told text w none (WasJudged p dump set v has still says) = absurd (cc (none, has.command))
refused-behind x told text w none (WasMigrated old new entries m) = absurd (cc (none, m.command))
refused-behind x told text w none (NotMigrated old new entries m) = absurd (cc (none, m.command))
refused-behind x told text w none (LacksLine old new entries m) = absurd (cc (none, m.command))

-- ---- the patterns' count

found-patterns : (x : Setting) (k : Command) (read : FileRead) (f : RouteFault) → command_of x.words ≡ Some k → WasRead (asked x) k read
    → Finds (sites (asked x) read) x.before.materials.pattern_faults x.after.materials.pattern_faults f → PatternsOf x (outcome.Routes f)
found-patterns x k read f command was (inl h) = inl h.1
found-patterns x k read f command was (inr h) = inr (record { command = k; read = read; asked = command; answer = was; stops = h.0; count = h.1 })

unkept-patterns : (x : Setting) (s : Stop) → x.after.materials.pattern_faults ≡ x.before.materials.pattern_faults → PatternsOf x (unkept s)
unkept-patterns x stop.Drained h = h
unkept-patterns x (stop.SourceFault t) h = h
unkept-patterns x (stop.Held groups) h = h
unkept-patterns x stop.Spent h = h
unkept-patterns x stop.NoMemory h = h

left-patterns : (x : Setting) (s : Stop) (w : Result Unit FilesFault) → x.after.materials.pattern_faults ≡ x.before.materials.pattern_faults → PatternsOf x (left_by s w)
left-patterns x s (Ok u) h = h
left-patterns x s (Err files_fault.Failed) h = unkept-patterns x s h
left-patterns x s (Err files_fault.NoMemory) h = inl h

asker-patterns : (y : Asked) (dump : Path) → AsksDump y dump → y.after.pattern_faults ≡ y.before.pattern_faults
asker-patterns y dump (ToAudit p d set has) = has.patterns
asker-patterns y dump (ToMigrate old new command calm) = calm.patterns

judged-patterns : (x : Setting) (v : Verdict) → x.after.materials.pattern_faults ≡ x.before.materials.pattern_faults → PatternsOf x (judged v)
judged-patterns x (verdict.Legal entries) h = h
judged-patterns x (verdict.Wrong entry rule) h = h

told-patterns : (x : Setting) (told : Outcome) (text : List ℕ) → Comes x told text → PatternsOf x told
told-patterns x told text (NoCommand none still calm) = calm.patterns
told-patterns x told text (NotRead k command names still rises calm) = calm
told-patterns x told text (NoRoutes k read f command still was h) = found-patterns x k read f command was h
told-patterns x told text (WasChecked p set has still) = has.patterns
told-patterns x told text (Stopped k limit set s kept to has ran ne keeps wrote) = left-patterns x s kept has.patterns
told-patterns x told text (Starved k limit set kept to has ran keeps) = has.patterns
told-patterns x told text (LacksMemory still count spared) = spared
told-patterns x told text (LacksText k limit set s kept to has ran ne keeps) = inl has.patterns
told-patterns x told text (DumpUnread dump asks still rises) = asker-patterns (begun x) dump asks
told-patterns x told text (NoJournal dump line asks still bad) = asker-patterns (asked x) dump asks
told-patterns x told text (WasJudged p dump set v has still says) = judged-patterns x v has.patterns
told-patterns x told text (WasMigrated old new entries m) = m.patterns
told-patterns x told text (NotMigrated old new entries m) = m.patterns
told-patterns x told text (LacksLine old new entries m) = inl m.patterns

starved-patterns : (x : Setting) (told : Outcome) → PatternsOf x told → IsSpared (asked x)
starved-patterns x outcome.Words h = inl h
starved-patterns x (outcome.Routes f) (inl h) = inl h
starved-patterns x (outcome.Routes f) (inr h) = inr (f, h)
starved-patterns x outcome.FilesFault h = inl h
starved-patterns x outcome.Checked h = inl h
starved-patterns x (outcome.Ran s) h = inl h
starved-patterns x (outcome.Legal entries) h = inl h
starved-patterns x (outcome.Wrong entry rule) h = inl h
starved-patterns x (outcome.BadDump line) h = inl h
starved-patterns x (outcome.Migrated entries) h = inl h
starved-patterns x outcome.SinkFault h = inl h
starved-patterns x outcome.NoMemory h = h

behind-patterns : (x : Setting) (told : Outcome) (w : Result Unit SinkFault) → PatternsOf x told → PatternsOf x (behind told w)
behind-patterns x told (Ok u) h = h
behind-patterns x told (Err fault.NoMemory) h = starved-patterns x told h
behind-patterns x outcome.Words (Err fault.Failed) h = h
behind-patterns x (outcome.Routes f) (Err fault.Failed) h = h
behind-patterns x outcome.FilesFault (Err fault.Failed) h = h
behind-patterns x outcome.Checked (Err fault.Failed) h = h
behind-patterns x (outcome.Ran stop.Drained) (Err fault.Failed) h = h
behind-patterns x (outcome.Ran (stop.SourceFault t)) (Err fault.Failed) h = h
behind-patterns x (outcome.Ran (stop.Held groups)) (Err fault.Failed) h = h
behind-patterns x (outcome.Ran stop.Spent) (Err fault.Failed) h = h
behind-patterns x (outcome.Ran stop.NoMemory) (Err fault.Failed) h = h
behind-patterns x (outcome.Legal entries) (Err fault.Failed) h = h
behind-patterns x (outcome.Wrong entry rule) (Err fault.Failed) h = h
behind-patterns x (outcome.BadDump line) (Err fault.Failed) h = h
behind-patterns x (outcome.Migrated entries) (Err fault.Failed) h = h
behind-patterns x outcome.SinkFault (Err fault.Failed) h = h
behind-patterns x outcome.NoMemory (Err fault.Failed) h = h

-- ---- where nothing failed

without-faults : (x : Setting) (o : Outcome) → CauseOf x o → IsUnharmed x → IsFaultless o
without-faults x outcome.Words h u = tt
without-faults x (outcome.Routes f) h u = tt
without-faults x outcome.FilesFault h u = u.files h
without-faults x outcome.Checked h u = tt
without-faults x (outcome.Ran stop.Drained) h u = tt
without-faults x (outcome.Ran (stop.SourceFault t)) h u = u.inlets h.2.inlet h.2.failed
without-faults x (outcome.Ran (stop.Held groups)) h u = tt
without-faults x (outcome.Ran stop.Spent) h u = tt
without-faults x (outcome.Ran stop.NoMemory) h u = tt
without-faults x (outcome.Legal entries) h u = tt
without-faults x (outcome.Wrong entry rule) h u = tt
without-faults x (outcome.BadDump line) h u = tt
without-faults x (outcome.Migrated entries) h u = tt
without-faults x outcome.SinkFault h u = u.sink h
without-faults x outcome.NoMemory h u = tt

-- ---- routes with a fault

-- routes with a fault aren't taken
none-taken : (x : Setting) (k l : Command) (held read : FileRead) (g : RouteFault) → InFile x k held → sites_are.first_fault (sites (asked x) held) ≡ Some g → command_of x.words ≡ Some l
    → IsReadOf l x.before.materials.files read → sites_are.first_fault (sites (asked x) read) ≡ None → ⊥
none-taken x k l held read g f wrong command was faultless =
    let same : sites (asked x) read ≡ sites (asked x) held = same-places x k l held read f command was in
    let none : None ≡ Some g = sym faultless ∙ ap sites_are.first_fault same ∙ wrong in
    cc none

found-for : (at : List Site) (before after : ℕ) (f g : RouteFault) → Finds at before after g → sites_are.first_fault at ≡ Some f → (g ≡ f) ⊎ Stops at g
found-for at before after f g (inl h) wrong = let both : Some g ≡ Some f = sym h.0 ∙ wrong in inl (cc both)
found-for at before after f g (inr h) wrong = inr h.0

-- a migration has no routes
unread-migration : (x : Setting) (k : Command) (old new : Path) (held : FileRead) → InFile x k held → command_of x.words ≡ Some (Migrate old new) → ⊥
unread-migration x k old new held f command =
    subst (λ (c : Command). Holds c x.before.materials.files held) (one-command x k (Migrate old new) f.command command) f.holds

told-refused : (x : Setting) (k : Command) (held : FileRead) (f : RouteFault) (told : Outcome) (text : List ℕ) → InFile x k held → sites_are.first_fault (sites (asked x) held) ≡ Some f → Comes x told text
    → IsRefusedFor (sites (asked x) held) f told
told-refused x k held f told text file wrong (NoCommand none still calm) = absurd (cc (none, file.command))
told-refused x k held f told text file wrong (NotRead l command names still rises calm) = tt
told-refused x k held f told text file wrong (NoRoutes l read g command still was h) =
    let same : sites (asked x) read ≡ sites (asked x) held = same-places x k l held read file command was.answer in
    found-for (sites (asked x) held) x.before.materials.pattern_faults x.after.materials.pattern_faults f g (subst (λ (at : List Site). Finds at x.before.materials.pattern_faults x.after.materials.pattern_faults g) same h) wrong
told-refused x k held f told text file wrong (WasChecked p set has still) = none-taken x k (Check p) held has.read f file wrong has.command has.answer.answer has.faultless
told-refused x k held f told text file wrong (Stopped l limit set s kept to has ran ne keeps wrote) =
    absurd (none-taken x k l held has.read f file wrong has.command has.answer.answer has.faultless)
told-refused x k held f told text file wrong (Starved l limit set kept to has ran keeps) = none-taken x k l held has.read f file wrong has.command has.answer.answer has.faultless
told-refused x k held f told text file wrong (LacksMemory still count spared) = tt
told-refused x k held f told text file wrong (LacksText l limit set s kept to has ran ne keeps) = tt
told-refused x k held f told text file wrong (DumpUnread dump asks still rises) = tt
told-refused x k held f told text file wrong (NoJournal dump line (ToAudit p d set has) still bad) =
    none-taken x k (Audit p dump) held has.read f file wrong has.command has.answer.answer has.faultless
told-refused x k held f told text file wrong (NoJournal dump line (ToMigrate old new command calm) still bad) = absurd (unread-migration x k dump new held file command)
told-refused x k held f told text file wrong (WasJudged p dump set v has still says) =
    absurd (none-taken x k (Audit p dump) held has.read f file wrong has.command has.answer.answer has.faultless)
told-refused x k held f told text file wrong (WasMigrated old new entries m) = absurd (unread-migration x k old new held file m.command)
told-refused x k held f told text file wrong (NotMigrated old new entries m) = tt
told-refused x k held f told text file wrong (LacksLine old new entries m) = tt

behind-refused : (at : List Site) (f : RouteFault) (told : Outcome) (w : Result Unit SinkFault) → IsRefusedFor at f told → IsRefusedFor at f (behind told w)
behind-refused at f told (Ok u) h = h
behind-refused at f told (Err fault.NoMemory) h = tt
behind-refused at f outcome.Words (Err fault.Failed) h = h
behind-refused at f (outcome.Routes g) (Err fault.Failed) h = h
behind-refused at f outcome.FilesFault (Err fault.Failed) h = h
behind-refused at f outcome.Checked (Err fault.Failed) h = h
behind-refused at f (outcome.Ran s) (Err fault.Failed) h = absurd h
behind-refused at f (outcome.Legal entries) (Err fault.Failed) h = absurd h
behind-refused at f (outcome.Wrong entry rule) (Err fault.Failed) h = absurd h
behind-refused at f (outcome.BadDump line) (Err fault.Failed) h = absurd h
behind-refused at f (outcome.Migrated entries) (Err fault.Failed) h = absurd h
behind-refused at f outcome.SinkFault (Err fault.Failed) h = h
behind-refused at f outcome.NoMemory (Err fault.Failed) h = h

-- a pattern's fault that is one of size has its count
of-size : (c : Cause) (before after : ℕ) → IsOfSize c → Rises (cause_failures c) before after → Rose before after
of-size (cause_is.PatternTooLarge at) before after h rises = rises-rose 1 before after (omega arith) rises
of-size _ before after h rises = absurd h

right-found : (at : List Site) (g : RouteFault) (before after : ℕ) → IsRight at → Finds at before after g → Rose before after
right-found at g before after right (inl h) = absurd (let both : None ≡ Some g = sym right.faultless ∙ h.0 in cc both)
right-found at g before after right (inr h) = of-size g.cause before after (right.patterns g h.0) h.1

-- and routes without one are not refused
not-refused : (x : Setting) (k : Command) (held : FileRead) (g : RouteFault) → CauseOf x (outcome.Routes g) → InFile x k held → IsRight (sites (asked x) held)
    → IsUnharmed x → ⊥
not-refused x k held g h file right u =
    let same : sites (asked x) h.read ≡ sites (asked x) held = same-places x k h.command held h.read file h.words h.answer.answer in
    u.patterns (right-found (sites (asked x) held) g x.before.materials.pattern_faults x.after.materials.pattern_faults right (subst (λ (at : List Site). Finds at x.before.materials.pattern_faults x.after.materials.pattern_faults g) same h.refused))

-- another command that doesn't run
no-run : (x : Setting) (k l : Command) (limit : ℕ) → command_of x.words ≡ Some k → command_of x.words ≡ Some l → (RunsTo l limit → ⊥) → RunsTo k limit → ⊥
no-run x k l limit asks other none to = none (subst (λ (c : Command). RunsTo c limit) (one-command x k l asks other) to)

-- nor does one that asks for a dump
no-run-asker : (x : Setting) (k : Command) (limit : ℕ) (dump : Path) → command_of x.words ≡ Some k → AsksDump (asked x) dump → RunsTo k limit → ⊥
no-run-asker x k limit dump asks (ToAudit p d set has) to = no-run x k (Audit p dump) limit asks has.command (λ r. r) to
no-run-asker x k limit dump asks (ToMigrate old new command calm) to = no-run x k (Migrate dump new) limit asks command (λ r. r) to

drains : (x : Setting) (k : Command) (limit : ℕ) (held : FileRead) (o : Outcome) → CauseOf x o → RunsTo k limit → InFile x k held → IsRight (sites (asked x) held) → IsUnharmed x
    → IsFaultless o → Completes o
drains x k limit held outcome.Words h to file right u f = absurd (cc (h, file.command))
drains x k limit held (outcome.Routes g) h to file right u f = absurd (not-refused x k held g h file right u)
drains x k limit held outcome.FilesFault h to file right u f = f
drains x k limit held outcome.Checked h to file right u f = absurd (no-run x k (Check h.0) limit file.command h.1 (λ r. r) to)
drains x k limit held (outcome.Legal entries) h to file right u f = absurd (no-run x k (Audit h.path h.dump) limit file.command h.routes.command (λ r. r) to)
drains x k limit held (outcome.Wrong entry rule) h to file right u f = absurd (no-run x k (Audit h.path h.dump) limit file.command h.routes.command (λ r. r) to)
drains x k limit held (outcome.BadDump line) h to file right u f = absurd (no-run-asker x k limit h.dump file.command h.asks to)
drains x k limit held (outcome.Migrated entries) h to file right u f = absurd (no-run x k (Migrate h.old h.new) limit file.command h.command (λ r. r) to)
drains x k limit held (outcome.Ran s) h to file right u f = f
drains x k limit held outcome.SinkFault h to file right u f = f
drains x k limit held outcome.NoMemory h to file right u f = f

-- a check asks for no dump
no-check : (x : Setting) (p dump : Path) → command_of x.words ≡ Some (Check p) → AsksDump (asked x) dump → ⊥
no-check x p dump checks (ToAudit q d set has) = cc (checks, has.command)
no-check x p dump checks (ToMigrate old new command calm) = cc (checks, command)

prints : (x : Setting) (p : Path) (held : FileRead) (o : Outcome) → CauseOf x o → InFile x (Check p) held → IsRight (sites (asked x) held) → IsUnharmed x
    → IsFaultless o → Prints o
prints x p held outcome.Words h file right u f = absurd (cc (h, file.command))
prints x p held (outcome.Routes g) h file right u f = absurd (not-refused x (Check p) held g h file right u)
prints x p held outcome.FilesFault h file right u f = f
prints x p held outcome.Checked h file right u f = tt
prints x p held (outcome.Ran s) h file right u f = absurd (no-run x h.1.0 (Check p) h.0 h.1.1 file.command (λ r. r) h.1.2)
prints x p held (outcome.Legal entries) h file right u f = absurd (cc (file.command, h.routes.command))
prints x p held (outcome.Wrong entry rule) h file right u f = absurd (cc (file.command, h.routes.command))
prints x p held (outcome.BadDump line) h file right u f = absurd (no-check x p h.dump file.command h.asks)
prints x p held (outcome.Migrated entries) h file right u f = absurd (cc (file.command, h.command))
prints x p held outcome.SinkFault h file right u f = f
prints x p held outcome.NoMemory h file right u f = tt

-- an audit gives its verdict where nothing failed
has-verdict : (x : Setting) (dump : Path) (routes : FileRead) (set : RouteSet) (j : JournalView) (o : Outcome) → CauseOf x o → AsksAudit x dump routes → IsVerdictOn set j o
    → IsUnharmed x → HasVerdict o
has-verdict x dump routes set j outcome.Words h asks v u = absurd v
has-verdict x dump routes set j (outcome.Routes g) h asks v u = absurd (not-refused x (Audit asks.path dump) routes g h asks.file asks.right u)
has-verdict x dump routes set j outcome.FilesFault h asks v u = absurd (u.files h)
has-verdict x dump routes set j outcome.Checked h asks v u = absurd v
has-verdict x dump routes set j (outcome.Ran s) h asks v u = absurd v
has-verdict x dump routes set j (outcome.Legal entries) h asks v u = tt
has-verdict x dump routes set j (outcome.Wrong entry rule) h asks v u = tt
has-verdict x dump routes set j (outcome.BadDump line) h asks v u = absurd v
has-verdict x dump routes set j (outcome.Migrated entries) h asks v u = absurd v
has-verdict x dump routes set j outcome.SinkFault h asks v u = absurd (u.sink h)
has-verdict x dump routes set j outcome.NoMemory h asks v u = tt

-- ---- the clauses

dumps : (x : Setting) (o : Outcome) → Reports x o → CauseOf x o → Dumps x o
dumps x o r cause =
    let is : behind r.told r.tells.write ≡ o = sym r.tells.outcome in
    record {
      refused = λ dump routes read line asks held bad.
          subst (IsRefusedDump read) is (behind-bad read r.told r.tells.write (told-bad x dump routes read line r.told r.text asks held bad r.comes));
      judged = λ dump routes read j asks held is_text.
          let v : IsVerdictOn (set_in (asked x).names routes) j o =
          subst (IsVerdictOn (set_in (asked x).names routes) j) is
          (behind-verdict (set_in (asked x).names routes) j r.told r.tells.write (told-verdict x dump routes read j r.told r.text asks held is_text r.comes)) in
          (v, has-verdict x dump routes (set_in (asked x).names routes) j o cause asks v);
      migrated = λ dump read j asks held is_text.
          subst (IsMigrationOf j) is (behind-migrated j r.told r.tells.write (told-migrated x dump read j r.told r.text asks held is_text r.comes));
    }

pub causes : (x : Setting) (o : Outcome) → Reports x o → Causes x o
causes x o r =
    let is : behind r.told r.tells.write ≡ o = sym r.tells.outcome in
    let cause : CauseOf x o = subst (CauseOf x) is (behind-caused x r.told r.tells.write r.tells.faults (told-caused x r.told r.text r.comes)) in
    record {
      cause = cause;
      patterns = subst (PatternsOf x) is (behind-patterns x r.told r.tells.write (told-patterns x r.told r.text r.comes));
      no_command = λ none. subst IsRefused is (refused-behind x r.told r.text r.tells.write none r.comes);
      faultless = without-faults x o cause;
      no_routes = λ k read f file wrong.
          subst (IsRefusedFor (sites (asked x) read) f) is
          (behind-refused (sites (asked x) read) f r.told r.tells.write (told-refused x k read f r.told r.text file wrong r.comes));
      drained = λ k limit read to file right u. drains x k limit read o cause to file right u (without-faults x o cause u);
      checked = λ p read file right u. prints x p read o cause file right u (without-faults x o cause u);
      dumps = dumps x o r cause;
    }

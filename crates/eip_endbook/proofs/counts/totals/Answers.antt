use Rattle.std.proofs.Common.{◌∙◌, arith}
use Rattle.std.proofs.lemmas.List.{reverse-reverse}
use Rattle.eip_history.specs.Texts.{is_completed, is_handled}
use Rattle.eip_history.specs.Counts.{is_failed, is_waiting}
use Rattle.eip_history.proofs.Totals.{count-first-all, totals-add-up}
use Rattle.eip_hub.specs.View.{plan}
use Rattle.eip_endbook.proofs.counts.totals.Goals as goal

pub returns-clause-accepted : goal.returns-clause-accepted
returns-clause-accepted c = c.count_accepted.ensures ∙ rw (c.entries-entries.ensures, c.journal.ensures.journal, reverse-reverse)

pub returns-clause-refused : goal.returns-clause-refused
returns-clause-refused c = c.count_refused.ensures ∙ rw (c.entries-entries.ensures, c.journal.ensures.journal, reverse-reverse)

pub returns-clause-completed : goal.returns-clause-completed
returns-clause-completed c = c.count_ends-ends.ensures.completed ∙ count-first-all (plan c.args.hub.now) c.args.hub.now.journal.past is_completed

pub returns-clause-handled : goal.returns-clause-handled
returns-clause-handled c = c.count_ends-ends.ensures.handled ∙ count-first-all (plan c.args.hub.now) c.args.hub.now.journal.past is_handled

pub returns-clause-failed : goal.returns-clause-failed
returns-clause-failed c = c.count_ends-ends.ensures.failed ∙ count-first-all (plan c.args.hub.now) c.args.hub.now.journal.past is_failed

pub returns-clause-waiting : goal.returns-clause-waiting
returns-clause-waiting c = c.count_ends-ends.ensures.waiting ∙ count-first-all (plan c.args.hub.now) c.args.hub.now.journal.past is_waiting

pub returns-clause-sum : goal.returns-clause-sum
returns-clause-sum c =
    let completed = returns-clause-completed c in
    let handled = returns-clause-handled c in
    let failed = returns-clause-failed c in
    let waiting = returns-clause-waiting c in
    let total = c.total.ensures in
    let all = totals-add-up (plan c.args.hub.now) c.args.hub.now.journal.past in
    omega (arith, completed, handled, failed, waiting, total, all)

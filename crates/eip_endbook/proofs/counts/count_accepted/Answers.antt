use Rattle.std.proofs.Common.{◌+◌, ◌<◌, length, reverse, get_or, sym, ap, ◌∙◌, arith}
use Rattle.std.proofs.lemmas.List.{take_all}
use Rattle.eip_ledger.specs.declared.entry.Entry.{Entry}
use Rattle.eip_history.specs.Counts.{accepted_in, accepted_count}
use Rattle.eip_history.specs.Walk.{past_at}
use Rattle.eip_history.proofs.Walk.{past-more}
use Rattle.eip_history.proofs.Totals.{accepted-none, accepted-more}
use Rattle.eip_endbook.proofs.counts.count_accepted.Goals as goal

pub loop-entry-init : goal.loop-entry-init
loop-entry-init c = record { count = sym accepted-none; few = omega arith }

pub loop-entry-preserved : goal.loop-entry-preserved
loop-entry-preserved c =
    let es = c.args.entries.now in
    let k = c.loop-entry.entry-index in
    let e = c.entry-item.result in
    let within : k < length es = omega (arith, c.loop-entry-test.true) in
    let next = ap accepted_count (past-more es k e within)
    ∙ (accepted-more (get_or es k e) (past_at es k) ∙ ap (λ (x : Entry). accepted_count (past_at es k) + accepted_in x.kind) (sym c.entry-item.is)) in
    record {
      count = omega (arith, next, c.loop-entry.invariant.count, c.accepted_by-count.ensures.value);
      few = omega (arith, c.loop-entry.invariant.few, c.accepted_by-count.ensures.small);
    }

pub returns : goal.returns
returns c =
    let es = c.args.entries.now in
    c.loop-entry.invariant.count ∙ ap (λ xs. accepted_count (reverse xs)) (take_all c.loop-entry.entry-index es (omega arith))

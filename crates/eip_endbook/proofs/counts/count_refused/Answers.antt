use Rattle.std.proofs.Common.{◌+◌, ◌<◌, length, reverse, get_or, sym, ap, ◌∙◌, arith}
use Rattle.std.proofs.lemmas.List.{take_all}
use Rattle.eip_ledger.specs.declared.entry.Entry.{Entry}
use Rattle.eip_history.specs.Counts.{refused_in, refused_count}
use Rattle.eip_history.specs.Walk.{past_at}
use Rattle.eip_history.proofs.Walk.{past-more}
use Rattle.eip_history.proofs.Totals.{refused-none, refused-more}
use Rattle.eip_endbook.proofs.counts.count_refused.Goals as goal

pub loop-entry-init : goal.loop-entry-init
loop-entry-init c = record { count = sym refused-none; few = omega arith }

pub loop-entry-preserved : goal.loop-entry-preserved
loop-entry-preserved c =
    let es = c.args.entries.now in
    let k = c.loop-entry.entry-index in
    let e = c.entry-item.result in
    let within : k < length es = omega (arith, c.loop-entry-test.true) in
    let next = ap refused_count (past-more es k e within)
    ∙ (refused-more (get_or es k e) (past_at es k) ∙ ap (λ (x : Entry). refused_count (past_at es k) + refused_in x.kind) (sym c.entry-item.is)) in
    record {
      count = omega (arith, next, c.loop-entry.invariant.count, c.refused_by-count.ensures.value);
      few = omega (arith, c.loop-entry.invariant.few, c.refused_by-count.ensures.small);
    }

pub returns : goal.returns
returns c =
    let es = c.args.entries.now in
    c.loop-entry.invariant.count ∙ ap (λ xs. refused_count (reverse xs)) (take_all c.loop-entry.entry-index es (omega arith))

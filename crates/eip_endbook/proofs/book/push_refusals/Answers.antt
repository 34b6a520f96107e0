use Rattle.std.proofs.Common.{◌+◌, ◌<◌, ◌++◌, length, string_bytes, sym, ap, ◌∙◌, arith, get_or}
use Rattle.std.proofs.lemmas.List.{append-nil}
use Rattle.eip_ledger.specs.declared.entry.Entry.{Entry}
use Rattle.eip_history.specs.Walk.{past_at}
use Rattle.eip_history.specs.BookText.{refused_line_in, refusals_text}
use Rattle.eip_history.proofs.Walk.{past-more}
use Rattle.eip_history.proofs.TextSteps.{refusals-none, refusals-more}
use Rattle.eip_endbook.specs.Names.{route_names}
use Rattle.eip_endbook.proofs.Joining.{grown}
use Rattle.eip_endbook.proofs.book.push_refusals.Goals as goal

pub loop-entry-init : goal.loop-entry-init
loop-entry-init c = rw refusals-none (sym (append-nil (string_bytes c.args.out.now)))

pub loop-entry-preserved : goal.loop-entry-preserved
loop-entry-preserved c =
    let names = route_names c.args.set.now in
    let es = c.args.entries.now in
    let k = c.loop-entry.entry-index in
    let e = c.entry-item.result in
    let within : k < length es = omega (arith, c.loop-entry-test.true) in
    let next = ap (refusals_text names) (past-more es k e within)
    ∙ (refusals-more names (get_or es k e) (past_at es k)
    ∙ ap (λ (x : Entry). refusals_text names (past_at es k) ++ refused_line_in names x.kind) (sym c.entry-item.is)) in
    grown (string_bytes c.push_refusal.new.out) (string_bytes c.loop-entry.out) (string_bytes c.args.out.now) (refusals_text names (past_at es k)) (refused_line_in names e.kind) (refusals_text names (past_at es (k + 1)))
    c.in_ok-push_refusal.ensures c.loop-entry.invariant next

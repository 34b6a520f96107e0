use Rattle.std.proofs.Common.{string_bytes}
use Rattle.eip_history.specs.BookText.{accepted_line, total_line, stop_line}
use Rattle.eip_history.proofs.TextSteps.{summary-is}
use Rattle.eip_hub.specs.View.{plan}
use Rattle.eip_endbook.specs.Names.{route_names}
use Rattle.eip_endbook.proofs.Joining.{three-joined}
use Rattle.eip_endbook.proofs.book.push_summary.Goals as goal

pub returns : goal.returns
returns c =
    let t = c.totals-summary.ensures in
    let r = c.totals-summary.result in
    rw (
      summary-is (plan c.args.hub.now) (route_names c.args.hub.now.set) c.args.hub.now.journal.past c.args.stop.now,
      ← t.accepted,
      ← t.refused,
      ← t.total,
      ← t.completed,
      ← t.handled,
      ← t.failed,
      ← t.waiting,
      ← c.turns_taken.ensures,
      ← c.set.ensures,
    )
    (three-joined (string_bytes c.args.out.now)
    (accepted_line r.accepted r.refused) (total_line r.total r.completed r.handled r.failed r.waiting) (stop_line (route_names c.set.result.now) c.turns_taken.result c.args.stop.now)
    _ _ _ c.in_ok-push_accepted.ensures c.in_ok-push_total.ensures c.in_ok-push_stop.ensures)

use Rattle.std.proofs.Common.{◌++◌, string_bytes}
use Rattle.std.specs.Prelude.{codes, decimal}
use Rattle.eip_endbook.proofs.Joining.{six-joined}
use Rattle.eip_endbook.proofs.lines.push_total.Goals as goal

pub returns : goal.returns
returns c =
    let t = c.args.summary.now in
    six-joined (string_bytes c.args.out.now)
    (codes "total " ++ decimal t.total) (codes " completed " ++ decimal t.completed) (codes " handled " ++ decimal t.handled) (codes " failed " ++ decimal t.failed) (codes " waiting " ++ decimal t.waiting) (codes "\n")
    _ _ _ _ _ _
    c.in_ok-push_count.ensures c.in_ok-push_count-2.ensures c.in_ok-push_count-3.ensures c.in_ok-push_count-4.ensures c.in_ok-push_count-5.ensures c.in_ok-push_str.ensures.bytes

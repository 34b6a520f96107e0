use Rattle.std.proofs.Common.{◌≡◌, ◌+◌, ◌<◌, ◌++◌, length, ap, arith, length-append}
use Rattle.std.proofs.lemmas.List.{get_or-append-add}
use Rattle.eip_tables.proofs.wanted.first_wanted.Goals as goal

pub first_of_run-requires-in-None : goal.first_of_run-requires-in-None
first_of_run-requires-in-None c = λ k d l.
    let front = c.runs.result.0.now in
    let rest = c.runs.result.1.now in
    let whole : length (front ++ rest) ≡ length c.args.numbers.now.numbers = ap length c.runs.ensures in
    let within : length front + k < length c.args.numbers.now.numbers = omega (arith, whole, length-append front rest, l) in
    rw (← c.runs.ensures, get_or-append-add front rest k d) at (c.requires (length front + k) d within)

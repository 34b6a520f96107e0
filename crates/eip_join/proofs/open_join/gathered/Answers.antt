use Rattle.std.proofs.Common.{List, ◌++◌, Option, Some, sym, ap, ◌∙◌, append-nil, arith}
use Rattle.eip_exchange.specs.declared.end.Ended.{Ended}
use Rattle.eip_join.proofs.Ends.{told, all_told, no_more}
use Rattle.eip_join.proofs.open_join.gathered.Goals as goal

pub returns : goal.returns
returns c =
    all_told c.args.ends.items c.requires.complete
    ∙ ap (λ (es : List Ended). Some es)
    (sym c.loop-end.invariant.so_far
    ∙ ap (λ (xs : List (Option Ended)). c.loop-end.room.items ++ told xs) (no_more c.loop-end.rest.items (omega (arith, c.in_default.ensures.cases)))
    ∙ append-nil c.loop-end.room.items)

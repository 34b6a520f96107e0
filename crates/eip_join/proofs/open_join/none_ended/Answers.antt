use Rattle.std.proofs.Common.{List, [], ◌∷◌, ◌++◌, Option, None, ap, ◌∙◌}
use Rattle.std.proofs.lemmas.List.{replicate-append-replicate}
use Rattle.eip_exchange.specs.declared.end.Ended.{Ended}
use Rattle.eip_join.proofs.open_join.none_ended.Goals as goal

pub loop-index-preserved : goal.loop-index-preserved
loop-index-preserved c =
    c.in_ok-push.ensures.items
    ∙ ap (λ (xs : List (Option Ended)). xs ++ None ∷ []) c.loop-index.invariant
    ∙ replicate-append-replicate c.loop-index._index 1 None

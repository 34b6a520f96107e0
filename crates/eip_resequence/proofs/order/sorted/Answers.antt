use Rattle.std.proofs.Common.{rules}
use Rattle.std.proofs.lemmas.Fn.{always_returns_same}
use Rattle.eip_resequence.specs.Order.{goes_before}
use Rattle.eip_resequence.proofs.Ranks.{goes_before-order}
use Rattle.eip_resequence.proofs.Sorting.{sorted_is}
use Rattle.eip_resequence.proofs.order.sorted.Goals as goal

pub returns : goal.returns
returns c =
    sorted_is goes_before goes_before-order c.args.list.items c.sort_by.new.self.items
    (c.in_ok-sort_by.ensures.sorted goes_before goes_before-order (always_returns_same _ _ _ (λ a r f' k. search rules)))
    (c.in_ok-sort_by.ensures.stable goes_before goes_before-order (always_returns_same _ _ _ (λ a r f' k. search rules)))

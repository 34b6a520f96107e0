use Rattle.eip_resequence.specs.Order.{goes_before}
use Rattle.eip_resequence.proofs.Ranks.{goes_before-order}
use Rattle.eip_resequence.proofs.Sorting.{sorted_is, in_order-moves, in_order-rises, in_order-ties}
use Rattle.eip_resequence.proofs.laws.order_law.Goals as goal

pub returns-clause-ordered : goal.returns-clause-ordered
returns-clause-ordered c = λ arrivals. record {
  same = in_order-moves goes_before goes_before-order arrivals;
  rising = in_order-rises goes_before goes_before-order arrivals;
  ties = in_order-ties goes_before goes_before-order arrivals;
}

pub returns-clause-only : goal.returns-clause-only
returns-clause-only c = λ arrivals list h. sorted_is goes_before goes_before-order arrivals list h.rising h.ties

use Rattle.std.proofs.lemmas.List.Filters.{dedup_is}
use Rattle.eip_endpoint.proofs.ByteOrder.{ordered-ascending, ordered-same}
use Rattle.eip_endpoint.proofs.listing.order.Goals as goal

pub returns : goal.returns
returns c =
    let is = dedup_is _ _ _ c.dedup.ensures.filtered in
    record {
      ascending = ordered-ascending _ _ c.sort_unstable.ensures.sorted is;
      same = λ name. ordered-same name _ _ _ c.sort_unstable.ensures.permutation is;
    }

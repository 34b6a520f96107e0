use Rattle.std.proofs.Common.{subst, sym, ap, ◌∙◌}
use Rattle.eip_endpoint.specs.Files.{IsAscending, is_among}
use Rattle.eip_endpoint.proofs.ByteOrder.{ok-then, texts-named}
use Rattle.eip_endpoint.proofs.listing.in_byte_order.Goals as goal

pub returns : goal.returns
returns c = record {
  ascending = ok-then c.texts_of.result c.texts_of.ensures
      (λ texts e. subst IsAscending (sym (texts-named _ _ _ e c.as_slice.ensures.value)) c.order.ensures.ascending);
  same = ok-then c.texts_of.result c.texts_of.ensures
      (λ texts e name. ap (is_among name) (texts-named _ _ _ e c.as_slice.ensures.value) ∙ c.order.ensures.same name);
}

use Rattle.std.proofs.Common.{ap, sym, ◌∙◌, rules}
use Rattle.eip_route_grammar.proofs.Segments.{segment_in, segment_cut}
use Rattle.eip_route_grammar.proofs.texts.last_segment.Goals as goal

pub loop-more-preserved : goal.loop-more-preserved
loop-more-preserved c = record {
  is_text = search rules;
  same = ap (segment_in c.loop-more.rest.now) c.in-Some.ensures.value ∙ sym (segment_cut c.loop-more.rest.now) ∙ c.loop-more.invariant.same;
}

pub returns : goal.returns
returns c = ap (segment_in c.loop-more.rest.now) c.in_default.ensures.value ∙ sym (segment_cut c.loop-more.rest.now) ∙ c.loop-more.invariant.same

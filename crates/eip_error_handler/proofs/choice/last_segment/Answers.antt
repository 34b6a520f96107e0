use Rattle.std.proofs.Common.{◌∙◌, sym, rules}
use Rattle.eip_error_handler.proofs.Segments.{segment_behind, segment_whole}
use Rattle.eip_error_handler.proofs.choice.last_segment.Goals as goal

pub loop-more-preserved : goal.loop-more-preserved
loop-more-preserved c = record {
  is_text = search rules;
  same = sym (segment_behind c.loop-more.rest.now c.in-Some.field-0-0.now c.in-Some.more.now c.in-Some.ensures.value) ∙ c.loop-more.invariant.same;
}

pub returns : goal.returns
returns c = sym (segment_whole c.loop-more.rest.now c.in_default.ensures.value) ∙ c.loop-more.invariant.same

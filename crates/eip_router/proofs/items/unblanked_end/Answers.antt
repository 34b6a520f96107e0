use Rattle.std.proofs.Common.{sym, ◌∙◌, rules}
use Rattle.eip_router.proofs.Ends.{end_off, end_filled}
use Rattle.eip_router.proofs.items.unblanked_end.Goals as goal

pub loop-more-preserved : goal.loop-more-preserved
loop-more-preserved c = record {
  is_text = search rules;
  same = sym (end_off c.loop-more.rest.now c.in-Some.more.now c.in-Some.ensures) ∙ c.loop-more.invariant.same;
}

pub returns : goal.returns
returns c = sym (end_filled c.loop-more.rest.now c.in_default.ensures) ∙ c.loop-more.invariant.same

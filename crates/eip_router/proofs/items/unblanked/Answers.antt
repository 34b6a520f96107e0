use Rattle.std.proofs.Common.{sym, ◌∙◌, rules}
use Rattle.eip_router.proofs.Ends.{front_off, front_filled}
use Rattle.eip_router.proofs.items.unblanked.Goals as goal

pub loop-more-preserved : goal.loop-more-preserved
loop-more-preserved c = record {
  is_text = search rules;
  same = sym (front_off c.loop-more.rest.now c.in-Some.more.now c.in-Some.ensures) ∙ c.loop-more.invariant.same;
}

pub returns : goal.returns
returns c = sym (front_filled c.loop-more.rest.now c.in_default.ensures) ∙ c.loop-more.invariant.same

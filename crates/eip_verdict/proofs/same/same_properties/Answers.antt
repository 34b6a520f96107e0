use Rattle.std.proofs.Common.{◌∙◌, sym, arith}
use Rattle.eip_verdict.specs.Same.{same_pair}
use Rattle.eip_verdict.proofs.Lists.{same-all, differ-there}
use Rattle.eip_verdict.proofs.Deciding.{pair-decides}
use Rattle.eip_verdict.proofs.same.same_properties.Goals as goal

pub returns-then-not-same_place : goal.returns-then-not-same_place
returns-then-not-same_place c =
    sym (differ-there same_pair pair-decides c.args.one.now c.args.other.now c.loop-k.k
    (λ e. let t = c.same_place.ensures.1 (c.at.ensures ∙ (e ∙ sym c.at-in-loop-k.ensures)) in cc (t, c.if-not-same_place.true)))

pub returns : goal.returns
returns c =
    sym (same-all same_pair pair-decides c.args.one.now c.args.other.now (omega (arith, c.if-len.false, c.len.ensures.len, c.len-2.ensures.len))
    (λ i l. c.loop-k.invariant i (omega (arith, l, c.loop-k-test.false, c.len-k-end.ensures.len))))

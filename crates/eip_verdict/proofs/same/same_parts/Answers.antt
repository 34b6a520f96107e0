use Rattle.std.proofs.Common.{◌≡◌, ◌∙◌, length, sym, ap, Some, refl, arith, below_more}
use Rattle.std.proofs.lemmas.Option.{slice_get_read}
use Rattle.eip_verdict.specs.Same.{same_ended}
use Rattle.eip_verdict.proofs.Lists.{same-all, differ-there}
use Rattle.eip_verdict.proofs.Deciding.{ended-decides}
use Rattle.eip_verdict.proofs.same.same_parts.Goals as goal

pub returns-then-not-same_ended : goal.returns-then-not-same_ended
returns-then-not-same_ended c =
    let one = slice_get_read c.args.one.now (length c.args.one.now) c.loop-k.k c.index-one-k.result refl (omega arith) c.index-one-k.is in
    let other = slice_get_read c.args.other.now (length c.args.other.now) c.loop-k.k c.index-other-k.result refl (omega arith) c.index-other-k.is in
    sym (differ-there same_ended ended-decides c.args.one.now c.args.other.now c.loop-k.k
    (λ e.
    let both : Some c.index-one-k.result ≡ Some c.index-other-k.result = sym one ∙ (e ∙ other) in
    let t = (ended-decides c.index-one-k.result c.index-other-k.result).1 cc in
    cc (t, c.same_ended.ensures, c.if-not-same_ended.true)))

pub loop-k-preserved : goal.loop-k-preserved
loop-k-preserved c =
    let one = slice_get_read c.args.one.now (length c.args.one.now) c.loop-k.k c.index-one-k.result refl (omega arith) c.index-one-k.is in
    let other = slice_get_read c.args.other.now (length c.args.other.now) c.loop-k.k c.index-other-k.result refl (omega arith) c.index-other-k.is in
    let same = (ended-decides c.index-one-k.result c.index-other-k.result).0 (sym c.same_ended.ensures ∙ c.if-not-same_ended.false) in
    below_more _ _ c.loop-k.invariant (one ∙ (ap Some same ∙ sym other))

pub returns : goal.returns
returns c =
    sym (same-all same_ended ended-decides c.args.one.now c.args.other.now (omega arith) (λ i l. c.loop-k.invariant i (omega (arith, l, c.loop-k-test.false))))

use Rattle.std.proofs.Common.{◌≡◌, List, Some, slice_get, ap, sym, subst, ◌∙◌}
use Rattle.std.proofs.lemmas.Option.{slice_get-get_or}
use Rattle.eip_idempotent.specs.Keys.{ClaimView, row_at}
use Rattle.eip_idempotent.proofs.Lookups.{row_next}
use Rattle.eip_idempotent.proofs.keys.settle_claims.Goals as goal

pub loop-claim-preserved : goal.loop-claim-preserved
loop-claim-preserved c = λ k.
    let i = c.loop-claim.claim-index in
    row_next c.args.number c.args.ending k c.args.claims.now i c.claim-item.result (row_at c.args.keys.now.entries k) (row_at c.loop-claim.keys.entries k) (row_at c.settle_claim.new.keys.entries k)
    (subst (λ (cs : List ClaimView). slice_get cs i ≡ Some c.claim-item.result) c.as_slice-claim-items.ensures
    (slice_get-get_or c.as_slice-claim-items.result.now i c.claim-item.result c.loop-claim-test.true ∙ ap (λ (d : ClaimView). Some d) (sym c.claim-item.is)))
    (c.loop-claim.invariant k)
    (c.settle_claim.ensures k)

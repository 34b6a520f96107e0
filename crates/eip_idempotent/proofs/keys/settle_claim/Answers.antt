use Rattle.std.proofs.Common.{Some, is_some, ap, sym, ◌∙◌}
use Rattle.eip_exchange.specs.declared.end.Ending.{Ending}
use Rattle.std.specs.Prelude.{Bool}
use Rattle.eip_idempotent.specs.Keys.{settled, is_held}
use Rattle.eip_idempotent.proofs.Lookups.{row_settled}
use Rattle.eip_idempotent.proofs.keys.settle_claim.Goals as goal

pub returns-in-Some : goal.returns-in-Some
returns-in-Some c =
    row_settled c.args.keys.now.entries (c.get_mut.follows.lender c.settle.new.self).entries c.args.number c.args.ending c.args.claim.now c.key.result.now c.in-Some.holders.now c.settle.new.self
    c.key.ensures
    c.in-Some.ensures.value
    (c.settle.ensures
    ∙ ap (λ (b : Bool). settled c.args.number b c.lasts.result c.in-Some.holders.now) c.is_eager.ensures
    ∙ ap (λ (b : Bool). settled c.args.number c.args.claim.now.eager b c.in-Some.holders.now) c.lasts.ensures)
    ((c.get_mut.follows.holds c.settle.new.self).3 (ap is_some (sym c.in-Some.ensures.value))).0

use Rattle.std.proofs.Common.{◌≡◌, ◌++◌, ◌==◌, cond, List, [], ◌∷◌, Option, Some, HashMap, unwrap_or, ap, sym, ◌∙◌}
use Rattle.eip_idempotent.specs.Keys.{ClaimView, Claims, value_at}
use Rattle.eip_ordered.proofs.Lookups.{err_always, set_again}
use Rattle.eip_idempotent.proofs.keys.add_claim.Goals as goal

pub returns-in_err-add-in-Some-clause-err : goal.returns-in_err-add-in-Some-clause-err
returns-in_err-add-in-Some-clause-err c =
    err_always c.from_residual.result ((c.get_mut.follows.lender c.add.new.self).entries ≡ c.args.claims.now.entries)
    ((c.get_mut.follows.holds c.add.new.self).0
    ∙ set_again (λ n. c.args.number == n) c.args.claims.now.entries c.add.new.self (sym (ap (λ (cs : List ClaimView). Some cs) c.in_err-add-in-Some.ensures.err ∙ c.in-Some.ensures.value)))

pub returns-in_ok-insert-in-None-clause-ok : goal.returns-in_ok-insert-in-None-clause-ok
returns-in_ok-insert-in-None-clause-ok c = λ x.
    c.in_ok-insert-in-None.ensures.updates.0 x
    ∙ ap (λ (m : HashMap _ _ _). cond (c.args.number == x) (Some c.in_ok-of-in-None.field-0) (value_at m.entries x)) c.get_mut.follows.holds-at-none
    ∙ ap (λ (cs : List ClaimView). cond (c.args.number == x) (Some cs) (value_at c.args.claims.now.entries x))
    (c.in_ok-of-in-None.ensures ∙ ap (λ (o : Option (List ClaimView)). unwrap_or o [] ++ c.args.claim ∷ []) c.in-None.ensures.value)

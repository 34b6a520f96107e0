use Rattle.std.proofs.Common.{List, [], Option, option_map, unwrap_or, sym, subst, ap, ◌∙◌}
use Rattle.eip_idempotent.specs.Keys.{Key, ClaimView, Stands, row_at, claims_at, settled_claims}
use Rattle.eip_idempotent.proofs.Lookups.{row_same}
use Rattle.eip_idempotent.proofs.Standing.{stands_settled}
use Rattle.eip_idempotent.proofs.repo.Repo.settle.Goals as goal

pub returns-in-Some : goal.returns-in-Some
returns-in-Some c = λ calls stands unended.
    stands_settled calls c.self.inside.keys.entries c.settle_claims.new.keys.entries c.self.inside.claims.entries c.take_claims.new.claims.entries c.args.number c.args.ending
    (subst (Stands calls) (sym c.self.view_is) stands) unended
    (λ k. c.settle_claims.ensures k
    ∙ ap (λ (cs : List ClaimView). option_map (settled_claims c.args.number c.args.ending k cs) (row_at c.self.inside.keys.entries k)) (ap (λ (o : Option (List ClaimView)). unwrap_or o []) c.in-Some.ensures.claims))
    c.in-Some.ensures.rest

pub returns-in_default : goal.returns-in_default
returns-in_default c = λ calls stands unended.
    stands_settled calls c.self.inside.keys.entries c.self.inside.keys.entries c.self.inside.claims.entries c.take_claims.new.claims.entries c.args.number c.args.ending
    (subst (Stands calls) (sym c.self.view_is) stands) unended
    (λ k. row_same c.args.number c.args.ending k (claims_at c.self.inside.claims.entries c.args.number) (row_at c.self.inside.keys.entries k)
    (ap (λ (o : Option (List ClaimView)). unwrap_or o []) (sym c.take_claims.ensures.claims ∙ c.in_default.is)))
    c.take_claims.ensures.rest

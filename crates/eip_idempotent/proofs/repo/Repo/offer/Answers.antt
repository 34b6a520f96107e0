use Rattle.std.proofs.Common.{sym, subst, ap, ◌∙◌}
use Rattle.eip_idempotent.specs.Keys.{Key, Stands, IsLeast, holds, holders_at, least_holder, claim, held_by}
use Rattle.eip_idempotent.proofs.Lookups.{put_told, add_told}
use Rattle.eip_idempotent.proofs.Standing.{made, holder_told, stands_claimed}
use Rattle.eip_idempotent.proofs.repo.Repo.offer.Goals as goal

pub returns-clause-stands : goal.returns-clause-stands
returns-clause-stands c = λ calls stands unended.
    let key : Key = (c.args.repository.now, c.args.key.now) in
    let before = subst (Stands calls) (sym c.self.view_is) stands in
    let free = ap (λ (k : Key). least_holder (holders_at c.self.inside.keys.entries k)) (sym c.in_ok-name.ensures) ∙ sym c.least_holder.ensures ∙ c.in_default.is in
    stands_claimed calls c.self.inside.keys.entries c.put_holders.new.keys.entries c.self.inside.claims.entries c.add_claim.new.claims.entries (c.args.repository.now, c.args.key.now) c.args.number c.args.eager
    c.args.remove before (subst (IsLeast (holds calls key)) free (holder_told calls (made c.self.inside.keys.entries c.self.inside.claims.entries) key before)) unended
    (put_told c.self.inside.keys.entries c.reserve_key.new.keys.entries c.put_holders.new.keys.entries c.in_ok-name.name (c.args.repository.now, c.args.key.now) c.claimed.result (held_by c.args.number c.args.eager)
    c.in_ok-reserve_key.ensures.entries c.in_ok-name.ensures c.claimed.ensures c.put_holders.ensures)
    (add_told c.self.inside.claims.entries c.add_claim.new.claims.entries c.args.number c.new-claim.result (claim (c.args.repository.now, c.args.key.now) c.args.eager c.args.remove)
    (c.new-claim.ensures ∙ ap (λ (k : Key). claim k c.args.eager c.args.remove) c.in_ok-key_of.ensures)
    c.in_ok-add_claim.ensures.ok)

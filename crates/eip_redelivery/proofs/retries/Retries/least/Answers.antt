use Rattle.std.proofs.Common.{sym, subst, true≢false}
use Rattle.eip_redelivery.specs.Sleep.{Stands}
use Rattle.eip_redelivery.proofs.Sleepers.{no_keys, nobody, first_moment}
use Rattle.eip_redelivery.proofs.retries.Retries.least.Goals as goal

pub returns-in_err-first : goal.returns-in_err-first
returns-in_err-first c = λ calls stands.
    rw c.from_residual.ensures
    (nobody calls c.self.inside.sleepers.keys (no_keys c.self.inside.sleepers.keys (λ lt. true≢false (sym (c.in_err-first.ensures.variant.1 lt))))
    (subst (Stands calls) (sym c.self.view_is) stands))

pub returns : goal.returns
returns c = λ calls stands.
    first_moment calls c.self.inside.sleepers c.in_ok-first.first.now c.in_ok-first.ensures.member c.in_ok-first.ensures.least (subst (Stands calls) (sym c.self.view_is) stands)

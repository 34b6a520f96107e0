use Rattle.std.proofs.Common.{ℕ, ◌≤◌, sym, subst, true≢false}
use Rattle.eip_redelivery.specs.Sleep.{Stands}
use Rattle.eip_redelivery.proofs.Sleepers.{no_keys, nobody_yet, too_early, first_sleeper, first_key, stands_woke}
use Rattle.eip_redelivery.proofs.retries.Retries.wake.Goals as goal

pub returns-in_err-first-clause-sleeper : goal.returns-in_err-first-clause-sleeper
returns-in_err-first-clause-sleeper c = λ calls stands.
    rw c.from_residual.ensures
    (nobody_yet calls c.self.inside.sleepers.keys c.args.tick (no_keys c.self.inside.sleepers.keys (λ lt. true≢false (sym (c.in_err-first.ensures.variant.1 lt))))
    (subst (Stands calls) (sym c.self.view_is) stands))

pub returns-then-first-tick-clause-sleeper : goal.returns-then-first-tick-clause-sleeper
returns-then-first-tick-clause-sleeper c = λ calls stands.
    too_early calls c.self.inside.sleepers c.in_ok-first.first.now c.args.tick c.in_ok-first.ensures.least c.if-first-tick.true (subst (Stands calls) (sym c.self.view_is) stands)

pub returns-clause-sleeper : goal.returns-clause-sleeper
returns-clause-sleeper c = λ calls stands.
    first_sleeper calls c.self.inside.sleepers (c.in_ok-number.field-0-0, c.in_ok-number.number) c.args.tick c.in_ok-number.ensures.member c.in_ok-number.ensures.least
    (subst (λ (k : ℕ × ℕ). k.0 ≤ c.args.tick) (first_key c.self.inside.sleepers.keys c.pop_first.new.self.keys c.in_ok-first.first.now (c.in_ok-number.field-0-0, c.in_ok-number.number) c.in_ok-first.ensures.first c.in_ok-number.ensures.removal) c.if-first-tick.false)
    (subst (Stands calls) (sym c.self.view_is) stands)

pub returns-clause-stands : goal.returns-clause-stands
returns-clause-stands c = λ calls stands.
    stands_woke calls c.self.inside.sleepers c.pop_first.new.self (c.in_ok-number.field-0-0, c.in_ok-number.number) c.in_ok-number.ensures.updates.0 c.in_ok-number.ensures.member (subst (Stands calls) (sym c.self.view_is) stands)

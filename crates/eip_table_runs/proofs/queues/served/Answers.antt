use Rattle.std.proofs.Common.{◌<◌, ◌∷◌, sym, subst, ℕ}
use Rattle.eip_seda.specs.Consuming.{Ended, started_by}
use Rattle.eip_table_runs.proofs.Helps.{busy_after}
use Rattle.eip_table_runs.proofs.queues.served.Goals as goal

pub returns-in_err-number-clause-stands : goal.returns-in_err-number-clause-stands
returns-in_err-number-clause-stands c =
    let s = c.requires.stands in
    (s.0, (started_by c.args.queue c.start.result s.1.0, c.start.ensures.stands s.0 s.1.0 s.1.1))

pub ended-requires-clause-busy : goal.ended-requires-clause-busy
ended-requires-clause-busy c =
    let s = c.requires.stands in
    busy_after s.0 s.1.0 c.start.new.self c.args.queue (subst (λ (n : ℕ). c.args.queue < n) (sym c.start.ensures.as_many) c.requires.in_range) (s.1.1.turns c.args.queue)
    (c.in_ok-number.ensures.stands s.0 s.1.0 s.1.1)

pub returns-clause-stands : goal.returns-clause-stands
returns-clause-stands c =
    let s = c.requires.stands in
    (s.0, (Ended c.args.queue ∷ started_by c.args.queue c.start.result s.1.0, c.ended.ensures.stands s.0 (started_by c.args.queue c.start.result s.1.0) (c.start.ensures.stands s.0 s.1.0 s.1.1)))

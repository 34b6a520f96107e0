use Rattle.std.proofs.Common.{◌≡◌, drop, filter}
use Rattle.eip_history.specs.Rules.{first}
use Rattle.eip_tables.specs.State.{outside_at, is_wanted}
use Rattle.eip_tables.proofs.wanted.first_of_run.Given as goal

abbrev pub invariant-loop-number : goal.invariant-loop-number
invariant-loop-number l = first (filter (λ x. is_wanted l.outside (outside_at l.rows x)) l.numbers) ≡ first (filter (λ x. is_wanted l.outside (outside_at l.rows x)) (drop l.number-index l.numbers))

use Rattle.std.proofs.Common.{◌≡◌, ℕ, subst, arith}
use Rattle.eip_table_runs.specs.Backwards.{AreBegun}
use Rattle.eip_table_runs.proofs.Helps.{no_pairs, all_begun}
use Rattle.eip_table_runs.proofs.joins.many_joins.Goals as goal

pub loop-at-init : goal.loop-at-init
loop-at-init c = no_pairs c.new-joins.result c.new-joins.ensures

pub returns : goal.returns
returns c =
    let all : c.loop-at.at ≡ c.args.count = omega arith in
    all_begun c.args.count c.loop-at.joins (subst (λ (n : ℕ). AreBegun n c.loop-at.joins) all c.loop-at.invariant)

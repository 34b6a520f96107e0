use Rattle.std.proofs.Common.{◌≡◌, ◌+◌, ℕ, subst, arith}
use Rattle.eip_table_runs.specs.Arriving.{AreOf}
use Rattle.eip_table_runs.proofs.groups.arrive_all.Goals as goal

pub loop-at-preserved : goal.loop-at-preserved
loop-at-preserved c =
    let next : (c.args.most + c.loop-at.at) + 1 ≡ c.args.most + (c.loop-at.at + 1) = omega arith in
    subst (λ (n : ℕ). AreOf c.args.setting.now n c.arrive.new.groups) next c.in_ok-arrived.ensures

pub returns : goal.returns
returns c =
    let all : c.args.most + c.loop-at.at ≡ c.args.most + c.args.count = omega arith in
    subst (λ (n : ℕ). AreOf c.args.setting.now n c.loop-at.groups) all c.loop-at.invariant

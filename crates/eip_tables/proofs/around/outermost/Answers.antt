use Rattle.std.proofs.Common.{◌≡◌, ℕ, Bool, ◌-◌, cond, sym, ap, ◌∙◌, arith}
use Rattle.eip_route.specs.declared.route.Block.{Block}
use Rattle.eip_plan.specs.Plan.{stands_in}
use Rattle.eip_tables.proofs.Outermost.{one-more}
use Rattle.eip_tables.proofs.around.outermost.Goals as goal

pub loop-here-preserved-then-is_in_steps : goal.loop-here-preserved-then-is_in_steps
loop-here-preserved-then-is_in_steps c =
    let block = c.index-blocks-here.result in
    let here = c.loop-here.here in
    let around = c.loop-here.around in
    let more = one-more c.args.blocks.now here c.args.block block c.loop-here-test.true c.loop-here.invariant.within c.index-blocks-here.is in
    let inside : c.is_in_steps.result ≡ stands_in around block =
    (rw c.items.ensures at c.is_in_steps.ensures) ∙ ap (λ (b : Block). stands_in around b) (sym c.index-blocks-here.is) in
    record {
      so_far = more ∙ (ap (λ (o : ℕ). cond (stands_in o block) (here - 1) o) c.loop-here.invariant.so_far ∙ ap (λ (v : Bool). cond v (here - 1) around) (sym inside ∙ c.if-is_in_steps.true));
      within = omega (arith, c.loop-here.invariant.within);
    }

pub loop-here-preserved : goal.loop-here-preserved
loop-here-preserved c =
    let block = c.index-blocks-here.result in
    let here = c.loop-here.here in
    let around = c.loop-here.around in
    let more = one-more c.args.blocks.now here c.args.block block c.loop-here-test.true c.loop-here.invariant.within c.index-blocks-here.is in
    let inside : c.is_in_steps.result ≡ stands_in around block =
    (rw c.items.ensures at c.is_in_steps.ensures) ∙ ap (λ (b : Block). stands_in around b) (sym c.index-blocks-here.is) in
    record {
      so_far = more ∙ (ap (λ (o : ℕ). cond (stands_in o block) (here - 1) o) c.loop-here.invariant.so_far ∙ ap (λ (v : Bool). cond v (here - 1) around) (sym inside ∙ c.if-is_in_steps.false));
      within = omega (arith, c.loop-here.invariant.within);
    }

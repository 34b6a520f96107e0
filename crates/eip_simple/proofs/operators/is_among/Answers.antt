use Rattle.std.proofs.Common.{ap, sym, ◌∙◌, rules, is_eq}
use Rattle.eip_simple.specs.Operators.{same, is_among}
use Rattle.eip_simple.proofs.Among.{any_here, any_later, any_last}
use Rattle.eip_simple.proofs.operators.is_among.Goals as goal

pub returns-then-is_eq : goal.returns-then-is_eq
unfolding is_among
returns-then-is_eq c =
    any_here (same c.args.text.now) 44 c.loop-piece.rest.now c.in-Some.piece.now c.in-Some.more.now c.in-Some.ensures.value
    (sym (ap is_eq c.order.ensures) ∙ (sym c.is_eq.ensures ∙ c.if-is_eq.true)) ∙ c.loop-piece.invariant.so_far

pub loop-piece-preserved : goal.loop-piece-preserved
loop-piece-preserved c = record {
  is_text = search rules;
  so_far =
      any_later (same c.args.text.now) 44 c.loop-piece.rest.now c.in-Some.piece.now c.in-Some.more.now c.in-Some.ensures.value
      (sym (ap is_eq c.order.ensures) ∙ (sym c.is_eq.ensures ∙ c.if-is_eq.false)) ∙ c.loop-piece.invariant.so_far;
}

pub returns : goal.returns
unfolding is_among
returns c =
    c.is_eq-2.ensures ∙ (ap is_eq c.order-2.ensures
    ∙ (any_last (same c.args.text.now) 44 c.loop-piece.rest.now c.in_default.ensures.value ∙ c.loop-piece.invariant.so_far))

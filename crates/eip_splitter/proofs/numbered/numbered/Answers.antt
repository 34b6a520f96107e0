use Rattle.std.proofs.Common.{◌≡◌, ℕ, length, ap, ◌∙◌, arith, rules}
use Rattle.std.specs.Vec.Iter.{into_iter_items}
use Rattle.eip_splitter.specs.Parts.{parts_from}
use Rattle.eip_splitter.proofs.Numbering.{all_parts}
use Rattle.eip_splitter.proofs.numbered.numbered.Goals as goal

pub returns : goal.returns
returns c =
    let size : c.len-size.result ≡ length c.args.bodies.items = search rules in
    all_parts c.args.message.now c.len-size.result _ c.loop-body.parts.items _ (into_iter_items c.loop-body.body-iterator) (omega (arith, c.loop-body.invariant.left, c.in-None.ensures.steps.0)) c.loop-body.invariant.so_far
    ∙ ap (λ (n : ℕ). parts_from c.args.message.now n 0 c.args.bodies.items) size

use Rattle.std.proofs.Common.{◌≡◌, ℕ, length, ap, ◌∙◌, arith, rules}
use Rattle.std.specs.Vec.Iter.{into_iter_items}
use Rattle.eip_splitter.specs.Batches.{placed_from}
use Rattle.eip_splitter.proofs.Behind.{all_placed}
use Rattle.eip_splitter.proofs.batch.placed.Goals as goal

pub returns : goal.returns
returns c =
    let size : c.len-size.result ≡ length c.args.messages.items = search rules in
    all_placed c.len-size.result _ c.loop-message.parts.items _ (into_iter_items c.loop-message.message-iterator) (omega (arith, c.loop-message.invariant.left, c.in-None.ensures.steps.0)) c.loop-message.invariant.so_far
    ∙ ap (λ (n : ℕ). placed_from n 0 c.args.messages.items) size

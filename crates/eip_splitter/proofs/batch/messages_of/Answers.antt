use Rattle.std.proofs.Common.{length, ap, arith}
use Rattle.std.specs.Vec.Iter.{into_iter_items}
use Rattle.eip_splitter.specs.Batches.{messages_of}
use Rattle.eip_splitter.proofs.Behind.{more_messages, all_messages}
use Rattle.eip_splitter.proofs.batch.messages_of.Goals as goal

pub loop-packed-preserved : goal.loop-packed-preserved
loop-packed-preserved c = record {
  so_far = more_messages c.loop-packed.messages.items c.push.new.self.items c.in_ok-message_of.field-0 c.in-Some.packed (into_iter_items c.loop-packed.packed-iterator) (into_iter_items c.next.new.self)
      (messages_of c.args.list.items) c.in-Some.ensures.steps.0 c.in_ok-message_of.ensures.message c.in_ok-push.ensures.items c.loop-packed.invariant.so_far;
  left = omega (arith, ap length c.in-Some.ensures.steps.0, c.in-Some.ensures.steps.1, c.loop-packed.invariant.left);
}

pub returns-clause-messages : goal.returns-clause-messages
returns-clause-messages c =
    all_messages c.loop-packed.messages.items (into_iter_items c.loop-packed.packed-iterator) _ (omega (arith, c.loop-packed.invariant.left, c.in-None.ensures.steps.0)) c.loop-packed.invariant.so_far

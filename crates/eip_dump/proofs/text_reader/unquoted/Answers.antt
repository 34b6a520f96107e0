use Rattle.eip_dump.proofs.Steps.{starts, goes, stops}
use Rattle.eip_dump.proofs.text_reader.unquoted.Goals as goal

pub loop-byte-init : goal.loop-byte-init
loop-byte-init c = rw c.new-out.ensures.items (starts c.args.bytes.now)

pub loop-byte-preserved : goal.loop-byte-preserved
loop-byte-preserved c = rw c.in_ok-push.ensures.items (goes c.loop-byte.out.items c.loop-byte.rest.now _ c.in-Some.byte c.in-Some.more.now c.loop-byte.invariant c.in-Some.ensures.value c.in-Some.ensures.shorter)

pub returns : goal.returns
returns c = stops c.loop-byte.out.items c.loop-byte.rest.now _ c.loop-byte.invariant c.in_default.ensures.value

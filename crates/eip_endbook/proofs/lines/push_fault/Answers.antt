use Rattle.std.proofs.Common.{append_assoc}
use Rattle.eip_endbook.proofs.lines.push_fault.Goals as goal

pub returns : goal.returns
returns c = rw (c.in_ok-push_str-3.ensures.bytes, c.in_ok-push_str-2.ensures.bytes, c.in_ok-push_str.ensures.bytes, c.route_id-id.ensures) (simp append_assoc)

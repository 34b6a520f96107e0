use Rattle.std.proofs.Common.{arith, ap, ◌∙◌, length}
use Rattle.std.proofs.lemmas.List.{length-append}
use Rattle.eip_line.proofs.LineLaws.{searched-still}
use Rattle.eip_line.proofs.buffer.LineBuffer.refill.Goals as goal

pub invariant_of-self : goal.invariant_of-self
invariant_of-self g c =
    let old = c.self.inside.bytes.ok.0 in
    let new = c.read_behind.new.bytes.ok.0 in
    let longer = ap length c.read_behind.ensures.refilled.behind ∙ length-append c.self.inside.bytes.items c.read_behind.ensures.refilled.more in (
      omega (arith, old, new, longer, c.self.invariant.0),
      rw c.read_behind.ensures.refilled.behind
          (searched-still c.self.inside.bytes.items c.read_behind.ensures.refilled.more c.self.inside.start c.self.inside.searched (omega (arith, old, c.self.invariant.0)) c.self.invariant.1),
      c.self.invariant.2,
    )

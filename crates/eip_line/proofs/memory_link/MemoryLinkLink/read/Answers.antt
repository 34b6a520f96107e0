use Rattle.std.proofs.Common.{ap, sym}
use Rattle.eip_line.specs.MemoryLinks.{KeptLink}
use Rattle.eip_line.proofs.MemoryLaws.{left-from, read-front, read-none}
use Rattle.eip_line.proofs.memory_link.MemoryLinkLink.read.Goals as goal

pub returns-clause-bytes : goal.returns-clause-bytes
returns-clause-bytes c =
    let from = left-from c.as_slice.result.now c.self.inside.input.items c.self.inside.start c.as_slice.ensures.value in (
      read-front c.args.self.now.unread _ c.self.inside.input.items c.args.piece.now c.copy_from_slice.new.self c.self.inside.start c.min-count.result
          (sym (ap (λ (k : KeptLink). k.unread) c.self.view_is)) from c.copy_from_slice.ensures.after c.min-count.ensures,
      read-none _ c.self.inside.input.items c.args.piece.now c.copy_from_slice.new.self c.self.inside.start c.min-count.result
          from c.copy_from_slice.ensures.after c.min-count.ensures,
    )

use Rattle.std.proofs.Common.{◌≡◌, ◌-◌, ◌<◌, ◌++◌, List, ℕ, length}
use Rattle.std.specs.Io.KnownBytes.{Consumes}
use Rattle.eip_line.specs.Lines.{line_length}
use Rattle.eip_line.proofs.buffer.LineBuffer.gather.Given as goal

abbrev pub invariant-pieces : goal.invariant-pieces
invariant-pieces g l =
    (more : List ℕ) × (l.self ≡ l.fn.self ++ more) × Consumes (g.L.Link.unread l.fn.link) (g.L.Link.unread l.link) more
    × (line_length l.fn.self < length l.fn.self → l.self ≡ l.fn.self)
    × (g.L.Link.written l.link ≡ g.L.Link.written l.fn.link)
    × (g.L.Link.link_faults l.link ≡ g.L.Link.link_faults l.fn.link)

abbrev pub decreases-pieces : goal.decreases-pieces
decreases-pieces g l = 1048576 - length l.self

use Rattle.std.proofs.Common.{◌≡◌, ◌++◌, List, ℕ, length}
use Rattle.std.specs.Io.KnownBytes.{Appends}
use Rattle.eip_host.proofs.output.put_all.Given as goal

abbrev pub invariant-parts : goal.invariant-parts
invariant-parts g l = (front : List ℕ) × (l.bytes ≡ front ++ l.rest) × Appends (g.W.Write.contents l.fn.writer) (g.W.Write.contents l.writer) front

abbrev pub decreases-parts : goal.decreases-parts
decreases-parts g l = length l.rest

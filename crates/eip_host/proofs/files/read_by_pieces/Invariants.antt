use Rattle.std.proofs.Common.{◌-◌, ◌≤◌, length}
use Rattle.std.specs.Io.KnownBytes.{Consumes}
use Rattle.eip_host.proofs.files.read_by_pieces.Given as goal

abbrev pub invariant-pieces : goal.invariant-pieces
invariant-pieces g l = record {
  within : length l.bytes.items ≤ l.limit;
  taken : Consumes (g.R.Read.remaining l.fn.reader) (g.R.Read.remaining l.reader) l.bytes.items;
}

abbrev pub decreases-pieces : goal.decreases-pieces
decreases-pieces g l = l.limit - length l.bytes.items

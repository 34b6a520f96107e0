use Rattle.std.proofs.Common.{ℕ, List, ◌≡◌, ◌++◌, length, map, string_bytes}
use Rattle.std.specs.Vec.Iter.{into_iter_items, into_iter_len}
use Rattle.eip_host.specs.Listings.{AreFiles}
use Rattle.eip_host.proofs.files.HostFiles.files_among.Given as goal

abbrev pub invariant-loop-name : goal.invariant-loop-name
invariant-loop-name g l = record {
  seen : List (List ℕ);
  behind : seen ++ map string_bytes (into_iter_items l.name-iterator) ≡ map string_bytes l.fn.found.items;
  files : AreFiles (g.D.FileSystem.tells l.self.system) l.folder seen (map string_bytes l.names.items);
  left : length (into_iter_items l.name-iterator) ≡ into_iter_len l.name-iterator;
}

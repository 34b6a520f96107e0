use Rattle.std.proofs.Common.{◌≡◌, drop}
use Rattle.eip_endpoint.specs.Files.{bytes_at}
use Rattle.eip_endpoint.proofs.memory_files.find.Given as goal

abbrev pub invariant-loop-file : goal.invariant-loop-file
invariant-loop-file l = bytes_at l.folder l.name l.files ≡ bytes_at l.folder l.name (drop l.file-index l.files)

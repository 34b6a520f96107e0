use Rattle.std.proofs.Common.{◌≡◌, take, map}
use Rattle.eip_endpoint.specs.MemoryFolders.{names_in}
use Rattle.eip_endpoint.proofs.memory_files.names_in.Given as goal

abbrev pub invariant-loop-file : goal.invariant-loop-file
invariant-loop-file l = map (λ n. n.now) l.names.items ≡ names_in l.folder (take l.file-index l.files)

use Rattle.std.proofs.Common.{◌≡◌, take}
use Rattle.eip_endpoint.specs.Content.{IfTold}
use Rattle.eip_file.specs.Items.{AreMissing}
use Rattle.eip_file.proofs.item.find_next.Given as goal

abbrev pub invariant-loop-place : goal.invariant-loop-place
invariant-loop-place g l = record {
  missing : IfTold (g.F.Files.files l.fn.files) (AreMissing l.folder (take l.place l.names));
  same : g.F.Files.files l.files ≡ g.F.Files.files l.fn.files;
  faults : g.F.Files.files_faults l.files ≡ g.F.Files.files_faults l.fn.files;
}

-- What a command is given, and what it leaves.
use Rattle.std.specs.Prelude.{ℕ, List, Option}
use Rattle.eip_endpoint.specs.Files.{File}
use Rattle.eip_route.specs.declared.route.Names.{Names}
use Rattle.eip_endpoint.specs.Inlets.{InletView}
use Rattle.eip_endpoint.specs.Lanes.{LaneView}
use Rattle.eip_endpoint.specs.declared.files.Files.{Ghosts as FilesMembers}
use Rattle.eip_endpoint.specs.declared.sink.Sink.{Ghosts as SinkMembers}
use Rattle.eip_processor.specs.Registered.{RegistryView}
use Rattle.eip_ledger.specs.View.{JournalView}
use Rattle.eip_core.specs.Served.{names_of}

-- what a route file is read with: the files with their count of faults, and that of the builder of patterns
pub record Materials : Type 0 where
  pub files : Option (List File)
  pub files_faults : ℕ
  pub pattern_faults : ℕ

-- what is outside a command: what its file is read with, the lanes, the inlets, and what was written to the sink, with its count of faults
pub record Outside : Type 0 where
  pub materials : Materials
  pub lanes : List LaneView
  pub inlets : List InletView
  pub written : Option (List ℕ)
  pub sink_faults : ℕ

-- a command by its words, what its file is read with before and after, and the names of all that is handed in
pub record Asked : Type 0 where
  pub words : List (List ℕ)
  pub before : Materials
  pub after : Materials
  pub names : Names

-- what a command was given and what it left: its words, what was outside before and after, the registry, and the journal
pub record Setting : Type 1 where
  pub words : List (List ℕ)
  pub before : Outside
  pub after : Outside
  pub registry : RegistryView
  pub journal : JournalView

abbrev pub asked : Setting → Asked
asked x = record {
  words = x.words;
  before = x.before.materials;
  after = x.after.materials;
  names = names_of x.before.lanes x.before.inlets x.registry;
}

-- the same, where the routes were read and run: what was found out before the run began, until when no count of the files rose
abbrev pub begun : Setting → Asked
begun x = record {
  words = x.words;
  before = x.before.materials;
  after = record {
    files = x.before.materials.files;
    files_faults = x.before.materials.files_faults;
    pattern_faults = x.after.materials.pattern_faults;
  };
  names = names_of x.before.lanes x.before.inlets x.registry;
}

-- by the members of the objects
abbrev pub materials : {F : Type 0} → FilesMembers F → F → ℕ → Materials
materials m files pattern_faults = record { files = m.files files; files_faults = m.files_faults files; pattern_faults = pattern_faults }

abbrev pub outside : {F O : Type 0} → FilesMembers F → SinkMembers O → F → ℕ → List LaneView → List InletView → O → Outside
outside m n files pattern_faults lanes inlets out = record {
  materials = materials m files pattern_faults;
  lanes = lanes;
  inlets = inlets;
  written = n.bytes out;
  sink_faults = n.sink_faults out;
}

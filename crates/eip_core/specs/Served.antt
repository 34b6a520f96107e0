-- What is handed in, by its names.
use Rattle.std.specs.Prelude.{List}
use Rattle.eip_route.specs.declared.route.Names.{Names}
use Rattle.eip_endpoint.specs.Lanes.{LaneView, lane_names}
use Rattle.eip_endpoint.specs.Inlets.{InletView, inlet_names}
use Rattle.eip_processor.specs.Registered.{RegistryView}

-- the names of the lanes and inlets, and of what the registry has
abbrev pub names_of : List LaneView → List InletView → RegistryView → Names
names_of lanes inlets registry = record {
  lanes = lane_names lanes;
  inlets = inlet_names inlets;
  processors = registry.processors;
  predicates = registry.predicates;
}

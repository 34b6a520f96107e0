-- The sets that are run in tests.
use Rattle.std.specs.Prelude.{false, [], ◌∷◌, codes}
use Rattle.eip_uri.specs.declared.uri.Uri.TheVariants as uri
use Rattle.eip_route.specs.declared.step.Step.TheVariants as step
use Rattle.eip_route.specs.declared.route.Block.{Block}
use Rattle.eip_route.specs.declared.route.RouteSet.{RouteSet}
use Rattle.eip_route.specs.declared.route.Names.{Names}
use Rattle.eip_route.specs.Plain.{plain_handler}

-- standard input is handed in alone
abbrev pub stream_names : Names
stream_names = record { lanes = []; inlets = codes "stream" ∷ []; processors = []; predicates = [] }

-- a step that is a log
abbrev pub logging_block : Block
logging_block = record { steps = step.To (uri.Log (codes "out")) ∷ [] }

-- one route from `stream:in`, whose one step is a log
abbrev pub logging : RouteSet
logging = record {
  names = stream_names;
  routes = (record { id = codes "route1"; from = uri.StreamIn; block = 0 }) ∷ [];
  blocks = logging_block ∷ [];
  handler = plain_handler;
  clauses = [];
}

-- a step that puts a copy into the queue `l`
abbrev pub copying_block : Block
copying_block = record { steps = step.To (uri.Seda (codes "l") 1000 1 false) ∷ [] }

-- a route from `stream:in` and one from the queue `l`, each of which puts a copy into that queue
abbrev pub circling : RouteSet
circling = record {
  names = stream_names;
  routes = (record { id = codes "route1"; from = uri.StreamIn; block = 0 }) ∷ (record { id = codes "route2"; from = uri.Seda (codes "l") 1000 1 false; block = 1 }) ∷ [];
  blocks = copying_block ∷ copying_block ∷ [];
  handler = plain_handler;
  clauses = [];
}

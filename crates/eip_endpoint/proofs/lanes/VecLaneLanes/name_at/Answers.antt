use Rattle.eip_endpoint.specs.Lanes.{lane_view}
use Rattle.eip_endpoint.proofs.Named.{named-at}
use Rattle.eip_endpoint.proofs.lanes.VecLaneLanes.name_at.Goals as goal

pub returns : goal.returns
returns g c =
    named-at (lane_view g.E.Endpoint) (λ v. v.name) c.args.self.now.items c.as_slice-lanes.result.now c.args.index c.index-lanes-index.result c.as_slice-lanes.ensures.value c.requires

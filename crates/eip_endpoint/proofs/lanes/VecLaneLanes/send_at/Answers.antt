use Rattle.std.proofs.Common.{◌<◌, length, arith, sym, refl}
use Rattle.std.proofs.lemmas.List.{length-map}
use Rattle.eip_endpoint.specs.Lanes.{lane_view}
use Rattle.eip_endpoint.proofs.LaneLaws.{LanesGrew-set, LaneGrew-sent}
use Rattle.eip_endpoint.proofs.lanes.VecLaneLanes.send_at.Goals as goal

pub returns-clause-grew : goal.returns-clause-grew
returns-clause-grew g c =
    let within : c.args.index < length c.args.self.now.items = rw length-map at c.requires in
    LanesGrew-set (lane_view g.E.Endpoint) 0 c.args.index c.args.index _ c.args.self.now.items c.index_mut-lane.result.now _ (omega arith) within
    (rw (sym c.index_mut-lane.ensures.value) (LaneGrew-sent _ _ _ _ refl c.send.ensures.calls c.send.ensures.faults))

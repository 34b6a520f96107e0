use Rattle.eip_endpoint.specs.Inlets.{inlet_view}
use Rattle.eip_endpoint.proofs.Named.{named-at}
use Rattle.eip_endpoint.proofs.inlets.VecInletInlets.name_at.Goals as goal

pub returns : goal.returns
returns g c =
    named-at (inlet_view g.S.Source) (λ v. v.name) c.args.self.now.items c.as_slice-inlets.result.now c.args.index c.index-inlets-index.result c.as_slice-inlets.ensures.value c.requires

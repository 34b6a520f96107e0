use Rattle.std.proofs.Common.{◌<◌, length, arith, sym, refl}
use Rattle.std.proofs.lemmas.List.{length-map}
use Rattle.eip_endpoint.specs.Inlets.{inlet_view}
use Rattle.eip_endpoint.proofs.InletLaws.{InletsGrew-set, InletGrew-committed}
use Rattle.eip_endpoint.proofs.inlets.VecInletInlets.commit_at.Goals as goal

pub returns : goal.returns
returns g c =
    let within : c.args.index < length c.args.self.now.items = rw length-map at c.requires in
    record {
      grew = InletsGrew-set (inlet_view g.S.Source) 0 c.args.index c.args.index _ _ c.args.self.now.items c.index_mut-inlet.result.now _ (omega arith) within
          (rw (sym c.index_mut-inlet.ensures.value)
          (InletGrew-committed _ _ _ _ _ _ _ refl c.commit.ensures.given c.commit.ensures.left c.commit.ensures.commits c.commit.ensures.faults));
    }

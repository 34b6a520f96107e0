use Rattle.eip_host.proofs.KnownLaws.{written-on}
use Rattle.eip_host.proofs.output.put_all.Goals as goal

pub parts-preserved : goal.parts-preserved
parts-preserved g c =
    written-on _ _ _ c.args.bytes.now c.parts.invariant.0 c.parts.rest.now c.split_at.result.1.now c.in-Ok.count
    c.parts.invariant.1 c.parts.invariant.2 c.in-Ok.ensures.bytes c.split_at.ensures.back

use Rattle.std.proofs.Common.{◌≡◌, ◌∙◌, sym, refl, true, false}
use Rattle.std.specs.Str.{bytes_eq}
use Rattle.eip_endpoint.specs.Outside.{lane_of}
use Rattle.eip_endpoint.proofs.Named.{looked}
use Rattle.eip_core.proofs.outside.find_lane_of.Goals as goal

pub returns-then-serves-clause-first : goal.returns-then-serves-clause-first
returns-then-serves-clause-first g c =
    let same : bytes_eq c.name_at.result.now (lane_of c.args.target.now) ≡ true = sym c.serves.ensures ∙ c.if-serves.true in
    sym (c.loop-index.invariant ∙ looked (λ m. bytes_eq m (lane_of c.args.target.now)) _ c.loop-index.index c.loop-index.index c.name_at.result.now c.name_at.ensures ∙ (rw same refl))

pub loop-index-preserved : goal.loop-index-preserved
loop-index-preserved g c =
    let other : bytes_eq c.name_at.result.now (lane_of c.args.target.now) ≡ false = sym c.serves.ensures ∙ c.if-serves.false in
    c.loop-index.invariant ∙ looked (λ m. bytes_eq m (lane_of c.args.target.now)) _ c.loop-index.index c.loop-index.index c.name_at.result.now c.name_at.ensures ∙ (rw other refl)

use Rattle.std.proofs.Common.{◌≡◌, ◌∙◌, sym, refl, true, false}
use Rattle.std.specs.Str.{bytes_eq}
use Rattle.eip_endpoint.proofs.Named.{looked}
use Rattle.eip_endpoint.proofs.inlets.find_inlet.Goals as goal

pub returns-then-eq-clause-first : goal.returns-then-eq-clause-first
returns-then-eq-clause-first g c =
    let same : bytes_eq c.name_at.result.now c.args.name.now ≡ true = rw (← c.bytes.ensures.value) (sym c.eq.ensures ∙ c.if-eq.true) in
    sym (c.loop-index.invariant
    ∙ looked (λ m. bytes_eq m c.args.name.now) _ c.loop-index.index c.loop-index.index c.name_at.result.now c.name_at.ensures ∙ (rw same refl))

pub loop-index-preserved : goal.loop-index-preserved
loop-index-preserved g c =
    let other : bytes_eq c.name_at.result.now c.args.name.now ≡ false = rw (← c.bytes.ensures.value) (sym c.eq.ensures ∙ c.if-eq.false) in
    c.loop-index.invariant
    ∙ looked (λ m. bytes_eq m c.args.name.now) _ c.loop-index.index c.loop-index.index c.name_at.result.now c.name_at.ensures ∙ (rw other refl)

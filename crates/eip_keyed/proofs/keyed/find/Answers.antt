use Rattle.std.proofs.Common.{◌≡◌, ◌+◌, ◌∙◌, suc, sym, subst, true, false, bytes_eq, arith}
use Rattle.eip_keyed.specs.Keyed.{StandsAt}
use Rattle.eip_keyed.proofs.KeyedLaws.{stands-here, stands-next, found-next}
use Rattle.eip_keyed.proofs.keyed.find.Goals as goal

pub returns-then-eq-clause-first : goal.returns-then-eq-clause-first
returns-then-eq-clause-first g c =
    let same : bytes_eq c.index-entries-place.result.0 c.args.key.now ≡ true = rw (← c.bytes.ensures.value) (sym c.eq.ensures ∙ c.if-eq.true) in
    let end : c.loop-place.place + 0 ≡ c.loop-place.place = omega arith in
    subst (λ n. StandsAt c.args.key.now n c.args.entries.now) end
    (c.loop-place.invariant.first 0
    (stands-here c.args.key.now c.args.entries.now c.loop-place.place c.index-entries-place.result c.index-entries-place.is c.loop-place-test.true same))

pub loop-place-preserved : goal.loop-place-preserved
loop-place-preserved g c =
    let other : bytes_eq c.index-entries-place.result.0 c.args.key.now ≡ false = rw (← c.bytes.ensures.value) (sym c.eq.ensures ∙ c.if-eq.false) in
    record {
      first = λ k h.
          let there : c.loop-place.place + suc k ≡ c.loop-place.place + 1 + k = omega arith in
          subst (λ n. StandsAt c.args.key.now n c.args.entries.now) there
          (c.loop-place.invariant.first (suc k)
          (stands-next c.args.key.now c.args.entries.now c.loop-place.place k c.index-entries-place.result c.index-entries-place.is c.loop-place-test.true other h));
      none = c.loop-place.invariant.none
          ∙ found-next c.args.key.now c.args.entries.now c.loop-place.place c.index-entries-place.result c.index-entries-place.is c.loop-place-test.true other;
    }

use Rattle.std.proofs.Common.{◌≡◌, ◌∙◌, List, ℕ, [], ◌∷◌, ◌++◌, None, ap, length, arith}
use Rattle.eip_keyed.specs.Keyed.{found}
use Rattle.eip_keyed.proofs.KeyedLaws.{stands-last}
use Rattle.eip_load.specs.Sources.{given_of}
use Rattle.eip_load.proofs.SourceLaws.{given_of-more}
use Rattle.eip_load.proofs.source.place_for.Goals as goal

pub returns-clause-same : goal.returns-clause-same
returns-clause-same c = λ v.
    let pushed : c.push.new.self.items ≡ c.args.generators.now.items ++ (c.args.uri, c.new.result) ∷ [] =
    c.in_ok-push.ensures.items in
    ap (given_of v) pushed ∙ given_of-more v c.args.uri c.args.generators.now.items c.new.result c.new.ensures

pub returns-clause-first : goal.returns-clause-first
returns-clause-first c =
    let pushed : c.push.new.self.items ≡ c.args.generators.now.items ++ (c.args.uri, c.new.result) ∷ [] =
    c.in_ok-push.ensures.items in
    let none : found c.args.uri c.args.generators.now.items ≡ None = rw (← c.bytes.ensures.value, ← c.as_slice.ensures.value) c.in_default.ensures.none in
    let counted : c.len-place.result ≡ length c.args.generators.now.items = omega (arith, c.len-place.ensures, c.args.generators.now.ok.0) in
    rw (pushed, counted) (stands-last c.args.uri c.args.generators.now.items c.new.result none)

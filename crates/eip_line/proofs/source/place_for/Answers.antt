use Rattle.std.proofs.Common.{◌≡◌, ◌∙◌, [], ◌∷◌, ◌++◌, None, ap, length, arith}
use Rattle.eip_keyed.specs.Keyed.{found}
use Rattle.eip_keyed.proofs.KeyedLaws.{stands-last}
use Rattle.eip_line.specs.Sources.{reader_for}
use Rattle.eip_line.proofs.SourceLaws.{reader_for-more}
use Rattle.eip_line.proofs.source.place_for.Goals as goal

pub returns-clause-same : goal.returns-clause-same
returns-clause-same c = λ v.
    let pushed : c.push.new.self.items ≡ c.args.readers.now.items ++ (c.args.uri, c.in_ok-new.field-0) ∷ [] =
    c.in_ok-push.ensures.items in
    ap (reader_for v) pushed ∙ reader_for-more v c.args.uri c.args.readers.now.items c.in_ok-new.field-0 c.in_ok-new.ensures

pub returns-clause-first : goal.returns-clause-first
returns-clause-first c =
    let pushed : c.push.new.self.items ≡ c.args.readers.now.items ++ (c.args.uri, c.in_ok-new.field-0) ∷ [] =
    c.in_ok-push.ensures.items in
    let none : found c.args.uri c.args.readers.now.items ≡ None = rw (← c.bytes.ensures.value, ← c.as_slice.ensures.value) c.in_default.ensures.none in
    let counted : c.len-place.result ≡ length c.args.readers.now.items = omega (arith, c.len-place.ensures, c.args.readers.now.ok.0) in
    rw (pushed, counted) (stands-last c.args.uri c.args.readers.now.items c.in_ok-new.field-0 none)

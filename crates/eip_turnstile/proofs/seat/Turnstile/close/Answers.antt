use Rattle.std.proofs.Common.{arith, sym, refl, IsSome, subst}
use Rattle.eip_turnstile.proofs.Keeps.{ends, ends_as}
use Rattle.eip_turnstile.proofs.seat.Turnstile.close.Goals as goal

pub unwrap-value-requires : goal.unwrap-value-requires
unwrap-value-requires g c =
    let seat = c.args.seat in
    let t = ends g.V.Chronicle.entries g.V.Chronicle.base _ seat.place.id seat.place.me.0.made seat.place.me.0 _ _ c.take.result seat.live seat.rests c.requires.first refl (let all = c.requires.all in omega arith) c.close_with-closed.ensures.values.2 c.take.ensures.value in
    subst IsSome (sym t.1) refl

pub returns : goal.returns
returns g c =
    let seat = c.args.seat in
    let t = ends g.V.Chronicle.entries g.V.Chronicle.base _ seat.place.id seat.place.me.0.made seat.place.me.0 _ _ c.take.result seat.live seat.rests c.requires.first refl (let all = c.requires.all in omega arith) c.close_with-closed.ensures.values.2 c.take.ensures.value in
    let e = ends_as g.V.Chronicle.entries g.V.Chronicle.base (g.V.Chronicle.base c.args.self.table.shared.key.value) seat.place.me.0.made seat.place.me.0 c.take.result c.unwrap-value.result t c.unwrap-value.ensures in
    record { begins = e.starts; told = e.told; no_others = e.no_others; each = e.each; base = e.based }

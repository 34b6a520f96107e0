use Rattle.std.proofs.Common.{◌≡◌, ◌∙◌, rules, ◌+◌, ap, arith, Some, false}
use Rattle.atomic_table.specs.Table.{step}
use mathlib.Core.Option.{none}
use Rattle.eip_turnstile.proofs.Keeps.{claims, took}
use Rattle.eip_turnstile.proofs.seat.Turnstile.enter.Goals as goal

pub compare_exchange-found-requires : goal.compare_exchange-found-requires
compare_exchange-found-requires g c =
    let seat = c.args.seat in
    let place = c.loop.place in
    let is = c.loop.invariant.3 in
    let slots = c.args.self.now.table.shared.table_id.slots in
    let live : place.me.0.spent ≡ false = ap (λ m. m.0.spent) is ∙ seat.live in
    let rests : place.me.0.turn ≡ false = ap (λ m. m.0.turn) is ∙ seat.rests in
    let number : place.me.0.number ≡ seat.number = ap (λ m. m.0.number) is ∙ seat.numbered in
    let own_mark = c.from-own_mark.ensures in
    (c.loop.invariant.2 ∙ c.requires.own, search rules, claims g.V.Chronicle.entries g.V.Chronicle.base _ slots place.id (c.from-own_mark.result + 1) place.me (step slots 1 0 (c.from-own_mark.result + 1) none) live rests (omega arith))

pub exchange-requires : goal.exchange-requires
exchange-requires g c =
    let t = c.compare_exchange-found.ensures.2.0 c.if-found-eq0.true in
    (search rules, (Some t.0, took _ _ _ _ t.1))

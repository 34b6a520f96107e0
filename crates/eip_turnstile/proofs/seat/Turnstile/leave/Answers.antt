use Rattle.std.proofs.Common.{◌≡◌, ◌∙◌, ap, rules, ◌+◌, ◌∷◌, [], Some, length, length-append, arith, refl}
use mathlib.Core.Option.{none}
use Rattle.atomic_table.specs.Table.{rest, step}
use Rattle.eip_turnstile.specs.Steps.{counted, released, held_list}
use Rattle.eip_turnstile.proofs.Keeps.{counts, lent_is, releases}
use Rattle.eip_turnstile.proofs.seat.Turnstile.leave.Goals as goal

pub fetch_add-requires : goal.fetch_add-requires
fetch_add-requires g c =
    let held = c.args.held in
    let v = held.place.me.0 in
    let list = c.requires.list in
    let slots = c.args.self.now.table.shared.table_id.slots in
    let me = c.exchange.ensures.3 ∙ ap (λ l. (v, (0, Some held.value) ∷ rest l)) (lent_is held.place.me.1 held.lent) in
    let long = c.length-seen.ensures in
    let range = c.length-seen.type_inv in
    let began = held.began in
    let sum : length (g.V.Chronicle.entries held.value) ≡ length v.seen + length list.0 = ap length list.1 ∙ length-append v.seen list.0 in
    let sum' = length-append v.seen list.0 in
    (search rules, search rules, counts g.V.Chronicle.entries g.V.Chronicle.base _ slots c.exchange.new.seat.id _ c.exchange.new.seat.me v held.value (step slots 0 0 0 none) list.0 me held.live held.turned list.1 list.2 (omega arith) (omega arith))

pub store-requires : goal.store-requires
store-requires g c =
    let held = c.args.held in
    let v = held.place.me.0 in
    let slots = c.args.self.now.table.shared.table_id.slots in
    let sized = c.args.self.now.sized in
    let me = c.exchange.ensures.3 ∙ ap (λ l. (v, (0, Some held.value) ∷ rest l)) (lent_is held.place.me.1 held.lent) in
    let me' = c.fetch_add.ensures.2 ∙ ap (λ m. (counted m.0 (held_list g.V.Chronicle.entries g.V.Chronicle.base m.1), m.1)) me in
    (search rules, search rules, releases g.V.Chronicle.entries g.V.Chronicle.base _ slots c.fetch_add.new.seat.id c.fetch_add.new.seat.me (counted v (g.V.Chronicle.entries held.value)) held.value (step slots 1 0 0 none) me' (omega arith) held.live held.turned refl c.requires.base)

pub returns-clause-view : goal.returns-clause-view
returns-clause-view g c =
    let held = c.args.held in
    let v = held.place.me.0 in
    let me = c.exchange.ensures.3 ∙ ap (λ l. (v, (0, Some held.value) ∷ rest l)) (lent_is held.place.me.1 held.lent) in
    ap (λ m. m.0) (c.store.ensures.2 ∙ ap (λ m. (released m.0, [])) (c.fetch_add.ensures.2 ∙ ap (λ m. (counted m.0 (held_list g.V.Chronicle.entries g.V.Chronicle.base m.1), m.1)) me))

use Rattle.std.proofs.Common.{◌≡◌, ℕ, ◌∷◌, List, Ok, sym, ap, subst, ◌∙◌}
use Rattle.eip_frames.specs.declared.request.At.{At}
use Rattle.eip_exchange.specs.declared.message.Message.{Message}
use Rattle.eip_aggregator.specs.Arrivals.{Key, Arrival, Call, Came}
use Rattle.eip_aggregator.specs.Tables as tables
use Rattle.eip_aggregator.specs.Tables.{Answers, added_at, answer_at}
use Rattle.eip_meaning.specs.Values.{id_of}
use Rattle.eip_tables.specs.Parts.{at_by}
use Rattle.eip_tables.specs.Groups.{settings, coming}
use Rattle.eip_rows.specs.Coming.{Joins}
use Rattle.eip_rows.proofs.Comings.{joins-comes}
use Rattle.eip_rows.proofs.coming.arrive.Goals as goal

pub returns-in-Ok-clause-ok : goal.returns-in-Ok-clause-ok
returns-in-Ok-clause-ok c =
    let set = c.args.set.now in
    let message = c.args.message.now in
    let arrived = c.in-Ok.arrived in
    let arrival : Arrival = record { number = c.args.number; route = c.route_id-route.result.now; hops = c.hops.result; at = c.args.clock; message = message } in
    let it : arrival ≡ coming set c.args.number c.args.clock c.args.row.now message =
    ap (λ (r : List ℕ). record { number = c.args.number; route = r; hops = c.hops.result; at = c.args.clock; message = message }) (c.route_id-route.ensures ∙ ap (λ (p : At). id_of set p.route) c.at.ensures)
    ∙ ap (λ (n : ℕ). record { number = c.args.number; route = id_of set (at_by c.args.row.now.cursor).route; hops = n; at = c.args.clock; message = message }) c.hops.ensures in
    let same = sym c.requires.setting in
    let key : Key = (c.args.setting.now.block, c.args.key.now) in
    let whole = λ (calls : List Call) (st : tables.Stands (settings set) calls c.args.groups.now).
    subst (λ (p : Arrival). ((m : Message) × (added_at (settings set) calls key p ≡ Ok m)) × (arrived ≡ answer_at (settings set) calls key p)) it (c.in-Ok.ensures.answer (settings set) calls st same) in
    let joins : Joins set c.args.row.now c.args.setting.now.block c.args.key.now message c.args.number c.args.clock c.args.groups.now c.arrive.new.self arrived = record {
      came = λ calls st. subst (λ (p : Arrival). tables.Stands (settings set) (Came key p ∷ calls) c.arrive.new.self) it (c.in-Ok.ensures.ok (settings set) calls st same);
      adds = λ calls st. (whole calls st).0;
      answers = λ calls st. (whole calls st).1;
    } in
    rw c.outcome.ensures (joins-comes set c.args.row.now c.args.setting.now.block c.args.key.now message c.args.number c.args.clock c.args.groups.now c.arrive.new.self arrived joins)

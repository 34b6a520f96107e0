use Rattle.std.proofs.Common.{◌≡◌, ◌∷◌, None, Ok, Err, refl, subst}
use Rattle.std.proofs.lemmas.Result.{err_from_is_err_and}
use Rattle.eip_aggregator.specs.Arrivals.{Key, Arrival, Came}
use Rattle.eip_aggregator.specs.Tables.{Table, Stands, IsFree, IsOf, Grows}
use Rattle.eip_aggregator.proofs.Arriving.{set_few, set_unused, set_ready, set_count, free_none, answers_new, stands_new, on_each, refused_as}
use Rattle.eip_aggregator.proofs.GoingOn.{answers_grown, stands_grown}
use Rattle.eip_aggregator.proofs.groups.Groups.arrive.Goals as goal

pub returns-in_err-group-in-None-clause-answer : goal.returns-in_err-group-in-None-clause-answer
returns-in_err-group-in-None-clause-answer c = λ s calls stands same.
    let k : Key = (c.args.setting.now.block, c.args.key.now) in
    let p : Arrival = record { number = c.args.number; route = c.args.route.now; hops = c.args.hops; at = c.args.tick; message = c.args.part.now } in
    let free = subst (λ (t : Table). IsFree t.open_groups k) c.self.view_is (subst (λ (l : Key). IsFree c.self.inside.places l) c.in_ok-key.ensures c.in-None.ensures) in
    let r = err_from_is_err_and c.from_residual-in_err-group-in-None.result c.from_residual-in_err-group-in-None.ensures.1 in
    rw (r.1, r.2)
    (refused_as s calls k p c.args.setting.now None None _ same (free_none s calls c.args.self.now k stands free) refl
    (subst (λ (l : Key). Grows c.args.setting.now l None p.message p.hops p.at (Err c.in_err-group-in-None.field-0.0)) c.in_ok-key.ensures c.in_err-group-in-None.ensures.grows))

pub begin-requires-clause-few : goal.begin-requires-clause-few
begin-requires-clause-few c = set_few c.args.setting.now c.args.self.now c.requires

pub begin-requires-clause-unused : goal.begin-requires-clause-unused
begin-requires-clause-unused c = set_unused c.args.setting.now c.args.self.now c.requires

pub returns-in-None-clause-answer : goal.returns-in-None-clause-answer
returns-in-None-clause-answer c = λ s calls stands same.
    let k : Key = (c.args.setting.now.block, c.args.key.now) in
    let p : Arrival = record { number = c.args.number; route = c.args.route.now; hops = c.args.hops; at = c.args.tick; message = c.args.part.now } in
    answers_new s calls c.args.self.now c.begin.new.self k p c.in_ok-group-in-None.group c.args.setting.now same stands c.in_ok-group-in-None.ensures.ready
    (subst (λ (t : Table). IsFree t.open_groups k) c.self.view_is (subst (λ (l : Key). IsFree c.self.inside.places l) c.in_ok-key.ensures c.in-None.ensures))
    (set_unused c.args.setting.now c.args.self.now c.requires)
    (subst (λ (l : Key). Grows c.args.setting.now l None p.message p.hops p.at (Ok c.in_ok-group-in-None.group)) c.in_ok-key.ensures c.in_ok-group-in-None.ensures.grows)
    c.begin.result c.begin.ensures.settles

pub returns-in-None-clause-ok : goal.returns-in-None-clause-ok
returns-in-None-clause-ok c =
    let k : Key = (c.args.setting.now.block, c.args.key.now) in
    let p : Arrival = record { number = c.args.number; route = c.args.route.now; hops = c.args.hops; at = c.args.tick; message = c.args.part.now } in
    on_each c.begin.result (λ s calls. Stands s calls c.args.self.now) (λ s. s c.args.setting.now.block ≡ c.args.setting.now) (λ s calls. Stands s (Came k p ∷ calls) c.begin.new.self)
    (λ s calls stands same. stands_new s calls c.args.self.now c.begin.new.self k p c.in_ok-group-in-None.group c.args.setting.now same stands c.in_ok-group-in-None.ensures.ready
    (subst (λ (t : Table). IsFree t.open_groups k) c.self.view_is (subst (λ (l : Key). IsFree c.self.inside.places l) c.in_ok-key.ensures c.in-None.ensures))
    (set_unused c.args.setting.now c.args.self.now c.requires)
    (subst (λ (l : Key). Grows c.args.setting.now l None p.message p.hops p.at (Ok c.in_ok-group-in-None.group)) c.in_ok-key.ensures c.in_ok-group-in-None.ensures.grows)
    c.begin.result c.begin.ensures.settles c.begin.ensures.ok)

pub go_on-requires-clause-ready : goal.go_on-requires-clause-ready
go_on-requires-clause-ready c =
    let k : Key = (c.args.setting.now.block, c.args.key.now) in
    set_ready c.args.setting.now c.args.self.now c.args.key.now c.in-Some.place c.requires
    (subst (λ (t : Table). IsOf t.open_groups k c.in-Some.place) c.self.view_is (subst (λ (l : Key). IsOf c.self.inside.places l c.in-Some.place) c.in_ok-key.ensures c.in-Some.ensures))

pub go_on-requires-clause-fits : goal.go_on-requires-clause-fits
go_on-requires-clause-fits c =
    let k : Key = (c.args.setting.now.block, c.args.key.now) in
    set_count c.args.setting.now c.args.self.now k c.in-Some.place c.requires
    (subst (λ (t : Table). IsOf t.open_groups k c.in-Some.place) c.self.view_is (subst (λ (l : Key). IsOf c.self.inside.places l c.in-Some.place) c.in_ok-key.ensures c.in-Some.ensures))

pub returns-clause-answer : goal.returns-clause-answer
returns-clause-answer c = λ s calls stands same.
    let k : Key = (c.args.setting.now.block, c.args.key.now) in
    let p : Arrival = record { number = c.args.number; route = c.args.route.now; hops = c.args.hops; at = c.args.tick; message = c.args.part.now } in
    answers_grown s calls c.args.self.now c.go_on.new.self k p c.args.setting.now c.in-Some.place c.go_on.result same stands
    (subst (λ (t : Table). IsOf t.open_groups k c.in-Some.place) c.self.view_is (subst (λ (l : Key). IsOf c.self.inside.places l c.in-Some.place) c.in_ok-key.ensures c.in-Some.ensures))
    c.go_on.ensures.ok c.go_on.ensures.fault

pub returns-clause-ok : goal.returns-clause-ok
returns-clause-ok c =
    let k : Key = (c.args.setting.now.block, c.args.key.now) in
    let p : Arrival = record { number = c.args.number; route = c.args.route.now; hops = c.args.hops; at = c.args.tick; message = c.args.part.now } in
    stands_grown c.args.self.now c.go_on.new.self k p c.args.setting.now c.in-Some.place c.go_on.result
    (subst (λ (t : Table). IsOf t.open_groups k c.in-Some.place) c.self.view_is (subst (λ (l : Key). IsOf c.self.inside.places l c.in-Some.place) c.in_ok-key.ensures c.in-Some.ensures))
    c.go_on.ensures.same c.go_on.ensures.ok

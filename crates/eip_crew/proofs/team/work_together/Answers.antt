use Rattle.std.proofs.Common.{◌≡◌, ◌∙◌, ◌+◌, ◌<◌, ℕ, [], ◌++◌, length, map, slice_index_or, Some, sym, ap, subst, arith, append-nil}
use Rattle.std.proofs.lemmas.List.{length-map}
use Rattle.eip_endpoint.specs.Inlets.{inlet_view}
use Rattle.eip_endpoint.specs.Lanes.{lane_view}
use denote.Param.Send.{sendable}
use Rattle.eip_turnstile.specs.Rule.{AllBelow, entries_by}
use Rattle.eip_turnstile.specs.Seats.{lock_id, knows}
use Rattle.eip_worker.specs.Shared.{beginning, log}
use Rattle.eip_worker.proofs.Sending.{run-send}
use Rattle.eip_crew.specs.Crew.{IsNew, own_of}
use Rattle.eip_crew.proofs.Working.{all-did, all-man, all-sit, taken-told}
use Rattle.eip_crew.proofs.team.work_together.Goals as goal

pub serve_all-requires-clause-sit : goal.serve_all-requires-clause-sit
serve_all-requires-clause-sit g c κs lives =
    let f = lane_view g.E.Endpoint in
    let h = inlet_view g.S.Source in
    let start = c.requires.may.0 in
    let first = c.args.first in
    let is = c.requires.may.1 in
    let ws = c.seat_workers.new.workers in
    let seated = c.seat_workers.ensures in
    let count : length ws.items ≡ start.workers = omega (arith, ws.ok.0, seated.all, c.requires.may.2) in
    λ k d within. (
      start,
      all-sit f h (λ w. w.seat) (λ w. w.sources) (λ w. w.lanes) (λ w. w.inlets) start first (g.R.Registered.view c.args.registry.now) (lock_id c.args.lock) ws.items c.args.crew.now.sources.items
          c.args.crew.now.lanes.items c.args.crew.now.inlets.items c.requires.own (ap (λ v. v.seen) is) (ap (λ v. v.base) is) (ap (λ v. v.made) is) count
          seated.sources seated.lanes seated.inlets (λ j e lt. seated.seats j e (omega (arith, lt, ws.ok.0))) c.requires.may.3 k d within,
    )

pub unseat_workers-starved-requires-clause-all : goal.unseat_workers-starved-requires-clause-all
unseat_workers-starved-requires-clause-all g c κs lives =
    let f = lane_view g.E.Endpoint in
    let h = inlet_view g.S.Source in
    let start = c.requires.may.0 in
    let first = c.args.first in
    let is = c.requires.may.1 in
    let ws = c.seat_workers.new.workers in
    let ts = c.serve_all.new.workers in
    let seated = c.seat_workers.ensures in
    let registry = g.R.Registered.view c.args.registry.now in
    let count : length ws.items ≡ start.workers = omega (arith, ws.ok.0, seated.all, c.requires.may.2) in
    let same : length ts.items ≡ length ws.items = omega (arith, ws.ok.0, ts.ok.0, c.serve_all.ensures.all) in
    let made : (j : ℕ) (e : _) → j < length ws.items → IsNew first ((knows first).made + j) (slice_index_or ws.items j e).seat =
    λ j e lt. seated.seats j e (omega (arith, lt, ws.ok.0)) in
    let sits = all-sit f h (λ w. w.seat) (λ w. w.sources) (λ w. w.lanes) (λ w. w.inlets) start first registry (lock_id c.args.lock) ws.items c.args.crew.now.sources.items
    c.args.crew.now.lanes.items c.args.crew.now.inlets.items c.requires.own (ap (λ v. v.seen) is) (ap (λ v. v.base) is) (ap (λ v. v.made) is) count
    seated.sources seated.lanes seated.inlets made c.requires.may.3 in
    all-man f h (λ w. w.seat) (λ w. w.sources) (λ w. w.lanes) (λ w. w.inlets) start first registry (lock_id c.args.lock) ws.items ts.items c.requires.own same made
    (λ k d lt. c.serve_all.ensures.sat k d (omega (arith, lt, ws.ok.0)) start (sits k d lt))

pub close-requires-send-V : goal.close-requires-send-V
close-requires-send-V g c κs = search (run-send, sendable) depth 12

pub close-requires-clause-first : goal.close-requires-clause-first
close-requires-clause-first g c κs =
    c.unseat_workers-starved.ensures.seats.1 ∙ (c.seat_workers.ensures.first.1 ∙ ap (λ v. v.number) c.requires.may.1)

pub close-requires-clause-all : goal.close-requires-clause-all
close-requires-clause-all g c κs =
    let ws = c.seat_workers.new.workers in
    let ts = c.serve_all.new.workers in
    let taken = c.unseat_workers-starved.ensures.seats in
    let splits = c.seat_workers.ensures.first in
    let none : (knows c.seat_workers.new.first).olds ≡ [] = splits.6 ∙ ap (λ v. v.olds) c.requires.may.1 in
    let long = ap length taken.5 ∙ ap (λ l. length (map (λ w. own_of w.seat) ts.items ++ l)) none ∙ ap length (append-nil (map (λ w. own_of w.seat) ts.items)) ∙ length-map ts.items (λ w. own_of w.seat) in
    omega (arith, long, taken.4, splits.5, ap (λ v. v.made) c.requires.may.1, ts.ok.0, ws.ok.0, c.serve_all.ensures.all, c.seat_workers.ensures.all)

pub returns-clause-together : goal.returns-clause-together
returns-clause-together g c start is count may =
    let f = lane_view g.E.Endpoint in
    let h = inlet_view g.S.Source in
    let first = c.args.first in
    let ws = c.seat_workers.new.workers in
    let ts = c.serve_all.new.workers in
    let seated = c.seat_workers.ensures in
    let registry = g.R.Registered.view c.args.registry.now in
    let all : length ws.items ≡ start.workers = omega (arith, ws.ok.0, seated.all, count) in
    let same : length ts.items ≡ length ws.items = omega (arith, ws.ok.0, ts.ok.0, c.serve_all.ensures.all) in
    let made : (j : ℕ) (e : _) → j < length ws.items → IsNew first ((knows first).made + j) (slice_index_or ws.items j e).seat =
    λ j e lt. seated.seats j e (omega (arith, lt, ws.ok.0)) in
    let one = ap (λ v. v.made) is in
    let sits = all-sit f h (λ w. w.seat) (λ w. w.sources) (λ w. w.lanes) (λ w. w.inlets) start first registry (lock_id c.args.lock) ws.items c.args.crew.now.sources.items
    c.args.crew.now.lanes.items c.args.crew.now.inlets.items c.requires.own (ap (λ v. v.seen) is) (ap (λ v. v.base) is) one all
    seated.sources seated.lanes seated.inlets made may in
    let taken = c.unseat_workers-starved.ensures.seats in
    let splits = seated.first in
    let run = c.close.result in
    let closed = c.close.ensures in
    let none : (knows c.seat_workers.new.first).olds ≡ [] = splits.6 ∙ ap (λ v. v.olds) is in
    let number : (knows c.unseat_workers-starved.new.first).number ≡ 0 = taken.1 ∙ (splits.1 ∙ ap (λ v. v.number) is) in
    let mine : (knows c.unseat_workers-starved.new.first).mine ≡ [] = taken.2 ∙ (splits.3 ∙ ap (λ v. v.mine) is) in
    let count_all : (knows c.unseat_workers-starved.new.first).made ≡ start.workers + 1 = omega (arith, taken.4, splits.5, one, count) in
    let based : Some (beginning run) ≡ Some start = closed.base ∙ (taken.3 ∙ (splits.4 ∙ ap (λ v. v.base) is)) in
    record {
      began = cc;
      no_first = ap (λ n. entries_by n (log run)) (sym number) ∙ (closed.told.0 ∙ mine);
      below = subst (λ (n : ℕ). AllBelow n (log run)) count_all closed.no_others;
      each = all-did f h (λ w. w.seat) (λ w. w.sources) (λ w. w.lanes) (λ w. w.inlets) start first registry ws.items ts.items c.args.crew.now.lanes.items c.unseat_workers-starved.new.lane_lists.items
          c.args.crew.now.inlets.items c.unseat_workers-starved.new.inlet_lists.items (log run) one all same seated.lanes seated.inlets
          c.unseat_workers-starved.ensures.lanes c.unseat_workers-starved.ensures.inlets made (λ k d lt. c.serve_all.ensures.sat k d (omega (arith, lt, ws.ok.0)) start (sits k d lt))
          (taken-told (log run) (map (λ w. own_of w.seat) ts.items) _ _ closed.told.1 taken.5 none);
    }

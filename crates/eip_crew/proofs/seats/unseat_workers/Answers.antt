use Rattle.std.proofs.Common.{◌∙◌, [], ◌∷◌, map, refl, sym, ap, subst, rules, arith, append-nil}
use Rattle.std.proofs.lemmas.List.{nil_from_length}
use denote.Param.Send.{sendable}
use Rattle.eip_turnstile.specs.Seats.{lock_id}
use Rattle.eip_worker.proofs.Sending.{run-send}
use Rattle.eip_crew.specs.Crew.{Mans, own_of, Gathers}
use Rattle.eip_crew.proofs.Lists.{cut-more, put, true-of}
use Rattle.eip_crew.proofs.Seated.{gathers-more}
use Rattle.eip_crew.proofs.seats.unseat_workers.Goals as goal

pub loop-init : goal.loop-init
loop-init g c = record {
  cut = (
    [],
    sym (append-nil c.args.workers.now.items),
    refl,
    (refl, refl, refl, refl, refl, refl),
    nil_from_length c.args.lane_lists.now.items (sym c.args.lane_lists.now.ok.0 ∙ c.requires.empty.0),
    nil_from_length c.args.inlet_lists.now.items (sym c.args.inlet_lists.now.ok.0 ∙ c.requires.empty.1),
  );
  left = omega arith;
  filled = c.requires.empty;
  spare = c.requires.spare;
}

pub unreachable-requires-in_default-seat : goal.unreachable-requires-in_default-seat
unreachable-requires-in_default-seat g c =
    let cut = c.loop.invariant.cut in
    let w = c.in-Some.worker in
    let whole = cut-more c.args.workers.now.items c.loop.workers.items c.pop.new.self.items cut.0 w cut.1 c.in-Some.ensures.items in
    subst (Mans (lock_id c.args.lock.now)) c.in_default-seat.is
    (true-of (λ x. Mans (lock_id c.args.lock.now) x.seat) c.args.workers.now.items c.pop.new.self.items cut.0 w c.requires.all whole)

pub join-requires-send-V : goal.join-requires-send-V
join-requires-send-V g c κs = search (run-send, sendable) depth 12

pub join-requires-clause-own : goal.join-requires-clause-own
join-requires-clause-own g c κs =
    let cut = c.loop.invariant.cut in
    let w = c.in-Some.worker in
    let whole = cut-more c.args.workers.now.items c.loop.workers.items c.pop.new.self.items cut.0 w cut.1 c.in-Some.ensures.items in
    let mans = subst (Mans (lock_id c.args.lock.now)) c.in-Some-seat.is
    (true-of (λ x. Mans (lock_id c.args.lock.now) x.seat) c.args.workers.now.items c.pop.new.self.items cut.0 w c.requires.all whole) in
    (cut.3.0 ∙ c.requires.own, mans.0)

pub loop-preserved : goal.loop-preserved
loop-preserved g c =
    let cut = c.loop.invariant.cut in
    let w = c.in-Some.worker in
    let seat = c.in-Some-seat.seat in
    let whole = cut-more c.args.workers.now.items c.loop.workers.items c.pop.new.self.items cut.0 w cut.1 c.in-Some.ensures.items in
    let mans = subst (Mans (lock_id c.args.lock.now)) c.in-Some-seat.is
    (true-of (λ x. Mans (lock_id c.args.lock.now) x.seat) c.args.workers.now.items c.pop.new.self.items cut.0 w c.requires.all whole) in
    record {
      cut = (
        w ∷ cut.0,
        whole,
        omega (arith, cut.2),
        subst (λ x. Gathers (x ∷ map (λ y. own_of y.seat) cut.0) c.args.first.now c.join.new.seat) (sym (ap own_of c.in-Some-seat.is))
            (gathers-more c.args.first.now c.loop.first c.join.new.seat seat (map (λ y. own_of y.seat) cut.0) mans.1 cut.3 c.join.ensures.own c.join.ensures.knows),
        put (λ y. y.lanes) c.loop.lane_lists.items c.push_reserved.new.self.items cut.0 w w.lanes cut.4 c.push_reserved.ensures.items refl,
        put (λ y. y.inlets) c.loop.inlet_lists.items c.push_reserved-in-loop.new.self.items cut.0 w w.inlets cut.5 c.push_reserved-in-loop.ensures.items refl,
      );
      left = search rules;
      filled = search rules;
      spare = search rules;
    }

use Rattle.std.proofs.Common.{◌∙◌, ℕ, ◌+◌, ◌<◌, ◌++◌, map, slice_index_or, refl, sym, ap, subst, rules, arith}
use Rattle.std.specs.Prelude.{reverse}
use denote.Param.Send.{sendable}
use Rattle.eip_turnstile.specs.Seats.{knows}
use Rattle.eip_worker.proofs.Sending.{run-send}
use Rattle.eip_worker.specs.declared.worker.Worker.{Worker}
use Rattle.eip_crew.specs.Crew.{IsNew}
use Rattle.eip_crew.proofs.Lists.{all-more, moved}
use Rattle.eip_crew.proofs.Seated.{new-behind}
use Rattle.eip_crew.proofs.seats.seat_workers.Goals as goal

pub split-seat-requires-send-V : goal.split-seat-requires-send-V
split-seat-requires-send-V g c κs = search (run-send, sendable) depth 12

pub loop-preserved : goal.loop-preserved
loop-preserved g c =
    let i = c.loop.invariant in
    let pushed = c.push_reserved.ensures.items in
    let P : ℕ → Worker g.row.E.Denot g.row.S.Denot → Type 0 = λ k w. IsNew c.args.first.now ((knows c.args.first.now).made + k) w.seat in
    record {
      sources = moved (λ w. w.sources) c.args.sets.now.items c.loop.sets.items c.pop.new.self.items c.loop.workers.items _ c.in-Some-Some-Some.sources i.sources c.in-Some-Some-Some.ensures.items refl
          ∙ ap (λ ws. map (λ w. w.sources) ws ++ reverse c.pop.new.self.items) (sym pushed);
      lanes = moved (λ w. w.lanes) c.args.lane_lists.now.items c.loop.lane_lists.items c.pop-in-loop.new.self.items c.loop.workers.items _ c.in-Some-Some-Some.lanes i.lanes c.in-Some-Some-Some.ensures'.items refl
          ∙ ap (λ ws. map (λ w. w.lanes) ws ++ reverse c.pop-in-loop.new.self.items) (sym pushed);
      inlets = moved (λ w. w.inlets) c.args.inlet_lists.now.items c.loop.inlet_lists.items c.pop-in-loop-2.new.self.items c.loop.workers.items _ c.in-Some-Some-Some.inlets i.inlets c.in-Some-Some-Some.ensures''.items refl
          ∙ ap (λ ws. map (λ w. w.inlets) ws ++ reverse c.pop-in-loop-2.new.self.items) (sym pushed);
      seats = subst (λ ws. (k : ℕ) (d : _) → k < c.loop.counter + 1 → P k (slice_index_or ws k d)) (sym pushed)
          (all-more P c.loop.workers.items _ c.loop.counter (omega (arith, i.seated, c.loop.workers.ok.0)) i.seats
          (new-behind c.args.first.now c.loop.first c.split-seat.result c.loop.counter i.first c.split-seat.ensures.own.1 c.split-seat.ensures.new));
      first = search rules;
      seated = search rules;
      left = search rules;
      alike = search rules;
      spare = search rules;
      kept = search rules;
    }

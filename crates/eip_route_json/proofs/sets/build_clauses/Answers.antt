use Rattle.std.proofs.Common.{◌≡◌, ◌+◌, [], ◌∷◌, ◌++◌, length, drop, sym, ap, ◌∙◌, rules}
use Rattle.std.specs.Prelude.{option_map}
use Rattle.eip_text.specs.Json.{items_json, members_json}
use Rattle.eip_route.specs.Nest.{flat_clauses}
use Rattle.eip_route_values.specs.Sets.{clause_in, clauses_of}
use Rattle.eip_route_values.specs.Taken.{stock, spent, in_object, in_clauses}
use Rattle.eip_route_blocks.proofs.Appended.{with_clauses}
use Rattle.eip_route_json.proofs.Held.{clause_left, clause_held, clauses_held, steps_held}
use Rattle.eip_route_json.proofs.Items.{clause_at, clause_built, clause_passed}
use Rattle.eip_route_json.proofs.sets.build_clauses.Goals as goal
use Rattle.eip_route_json.proofs.sets.build_clauses.Goals.{in-Some+in_ok-more+in_ok-clause+in_ok-n+in_ok-push+in_ok-append, in_default}

pub build_clause_steps-requires : goal.build_clause_steps-requires
build_clause_steps-requires c =
    let some = sym (ap (option_map (λ ms. members_json ms.now)) c.in-Some.is) ∙ c.members_in.ensures in
    let known = stock c.loop-item.known in
    let held = clause_held c.args.items.now c.loop-item.item-index c.item-item.result known c.item-item.is c.loop-item-test.true c.loop-item.invariant.held in
    record { held = steps_held _ _ known some held }

pub loop-item-preserved : goal.loop-item-preserved
loop-item-preserved c =
    let ts = c.args.items.now in
    let i = c.loop-item.item-index in
    let x = c.item-item.result in
    let n = c.loop-item.n in
    let before = stock c.loop-item.known in
    let whole = spent (in_clauses (items_json ts)) (stock c.args.known.now) in
    let all = flat_clauses 0 (clauses_of (items_json ts)) in
    elim c.match-members_in.branch [
      | in-Some+in_ok-more+in_ok-clause+in_ok-n+in_ok-push+in_ok-append w ↦
          let some = sym (ap (option_map (λ ms. members_json ms.now)) w.in-Some.is) ∙ c.members_in.ensures in
          let took = ap stock w.known-is ∙ (w.in_ok-more.ensures.left ∙ ap (λ o. spent (in_object o) before) some) in
          let ms = members_json w.in-Some.members.now in
          let more = w.in_ok-more.more.items in
          let clause : w.in_ok-clause.clause ≡ clause_at n (clause_in ms) more = search rules in
          let behind : w.in_ok-n.n ≡ n + length more = search rules in
          let pushed : w.push.new.self.items ≡ c.loop-item.clauses.items ++ (w.in_ok-clause.clause ∷ []) = search rules in
          let appended : w.append.new.self.items ≡ c.loop-item.blocks.items ++ more = search rules in
          let built : all ≡ with_clauses w.push.new.self.items w.append.new.self.items (flat_clauses w.in_ok-n.n (clauses_of (items_json (drop (i + 1) ts)))) =
          clause_built ts i x ms n w.in_ok-n.n c.loop-item.clauses.items w.push.new.self.items w.in_ok-clause.clause c.loop-item.blocks.items more w.append.new.self.items all c.item-item.is c.loop-item-test.true
          c.loop-item.invariant.clauses some w.in_ok-more.ensures.value clause behind pushed appended in
          record {
            clauses = rw w.clauses-is (rw w.blocks-is (rw w.n-is built));
            left = clause_left ts i x whole before _ c.item-item.is c.loop-item-test.true c.loop-item.invariant.left took;
            held = clauses_held ts i x before _ c.item-item.is c.loop-item-test.true c.loop-item.invariant.held took;
          }
      | in_default w ↦
          let none = sym (ap (option_map (λ ms. members_json ms.now)) w.in_default.is) ∙ c.members_in.ensures in
          let took = ap stock w.known-is ∙ ap (λ o. spent (in_object o) before) none in
          record {
            clauses = rw w.clauses-is (rw w.blocks-is (rw w.n-is (clause_passed ts i x n _ _ all c.item-item.is c.loop-item-test.true c.loop-item.invariant.clauses none)));
            left = clause_left ts i x whole before _ c.item-item.is c.loop-item-test.true c.loop-item.invariant.left took;
            held = clauses_held ts i x before _ c.item-item.is c.loop-item-test.true c.loop-item.invariant.held took;
          }
    ]

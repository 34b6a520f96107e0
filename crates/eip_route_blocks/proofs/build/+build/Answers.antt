use Rattle.std.proofs.Common.{◌≡◌, ◌+◌, ℕ, true, List, [], ◌∷◌, ◌++◌, length, rules, ◌∙◌, sym, ap, subst, drop, get_or, Some}
use Rattle.std.proofs.lemmas.List.{at_drop_more}
use Rattle.eip_text.proofs.Levels.{json_object}
use Rattle.eip_text.specs.Json.{json, members_json, object}
use Rattle.eip_text.specs.declared.tree.Tree.{the_lemmas}
use Rattle.eip_route.specs.Nest.{flat_step, flat_groups}
use Rattle.eip_route_values.proofs.Taking.{spent_append, holds_first, holds_behind}
use Rattle.eip_route_values.specs.Nesting.{said, with_groups, places, at_places, nest_at, nest_value, nest_step}
use Rattle.eip_route_values.specs.Taken.{stock, spent, holds}
use Rattle.eip_route_values.specs.Taken as taken
use Rattle.eip_route_values.specs.declared.places.Place.{Place}
use Rattle.eip_route_values.specs.declared.places.Place.TheVariants as place
use Rattle.eip_route_blocks.proofs.Appended as appended
use Rattle.eip_route_blocks.proofs.Groups.{object_built, placed, value_said}
use Rattle.eip_route_blocks.proofs.Places.{place_left, places_held}
use Rattle.eip_route_blocks.proofs.Held.{step_left, step_held, steps_held, inner_left, inner_held, inners_held, list_held, each_list_held, own_held, only_held, value_held}
use Rattle.eip_route_blocks.proofs.Items.{step_built, branch_built, inner_built, branch_block}
use Rattle.eip_route_blocks.proofs.build.+build.Goals as goal

pub build_object-returns-clause-value : goal.build_object-returns-clause-value
build_object-returns-clause-value t c =
    object_built c.args.n c.args.key (members_json c.args.members.now) c.places_of.result.now _ _ _ c.places_of.ensures c.in_ok-numbers.ensures.value c.in_ok-step.ensures.value

pub build_object-returns-clause-left : goal.build_object-returns-clause-left
build_object-returns-clause-left t c =
    let ms = members_json c.args.members.now in
    let inner = taken.at_places (taken.in_place ms) (places c.args.key) in
    let own = taken.by_step c.args.key ms in
    let before = stock c.args.known.now in
    c.in_ok-step.ensures.left
    ∙ (ap (spent own) (c.in_ok-numbers.ensures.left ∙ ap (λ ps. spent (taken.at_places (taken.in_place ms) ps) before) c.places_of.ensures)
    ∙ sym (spent_append inner own before))

pub build_object-build_places-requires : goal.build_object-build_places-requires
build_object-build_places-requires t c =
    let ms = members_json c.args.members.now in
    let known = stock c.args.known.now in
    let inner : holds (taken.at_places (taken.in_place ms) (places c.args.key)) known ≡ true =
    holds_first (taken.at_places (taken.in_place ms) (places c.args.key)) (taken.by_step c.args.key ms) known c.requires.held in
    (search (rules, the_lemmas), subst (λ (ps : List Place). holds (taken.at_places (taken.in_place ms) ps) known ≡ true) (sym c.places_of.ensures) inner)

pub build_object-step_of-requires : goal.build_object-step_of-requires
build_object-step_of-requires t c =
    let ms = members_json c.args.members.now in
    let own = taken.by_step c.args.key ms in
    let before = stock c.args.known.now in
    let behind : holds own (spent (taken.at_places (taken.in_place ms) (places c.args.key)) before) ≡ true =
    holds_behind (taken.at_places (taken.in_place ms) (places c.args.key)) own before c.requires.held in
    let left = c.in_ok-numbers.ensures.left ∙ ap (λ (ps : List Place). spent (taken.at_places (taken.in_place ms) ps) before) c.places_of.ensures in
    record { held = subst (λ (s : List ℕ → ℕ). holds own s ≡ true) (sym left) behind }

pub build_places-loop-place-preserved : goal.build_places-loop-place-preserved
build_places-loop-place-preserved t c =
    let ms = members_json c.args.members.now in
    let at = nest_at ms in
    let n = c.loop-place.n in
    let i = c.loop-place.place-index in
    let behind : c.in_ok-n.n ≡ n + length c.in_ok-more.more.blocks.items = search rules in
    record {
      groups =
          placed n c.in_ok-n.n c.loop-place.numbers.items _ _ c.loop-place.blocks.items _ _ (at (get_or c.args.places.now i place.Steps)) (at_places at (drop (i + 1) c.args.places.now)) _
          (c.loop-place.invariant.groups ∙ at_drop_more (λ ps. appended.with_groups c.loop-place.numbers.items c.loop-place.blocks.items (flat_groups n (at_places at ps))) c.args.places.now i place.Steps c.loop-place-test.true)
          c.in_ok-more.ensures.value behind c.in_ok-append.ensures.items c.in_ok-append-2.ensures.items;
      left = place_left (taken.in_place ms) c.args.places.now i place.Steps _ _ _ c.loop-place-test.true c.loop-place.invariant.left c.in_ok-more.ensures.left;
      held = places_held (taken.in_place ms) c.args.places.now i place.Steps _ _ c.loop-place-test.true c.loop-place.invariant.held c.in_ok-more.ensures.left;
    }

pub build_value-returns-in_ok-build_object-in-Object : goal.build_value-returns-in_ok-build_object-in-Object
build_value-returns-in_ok-build_object-in-Object t c =
    let ms = members_json c.items.result.now in
    let n = c.args.n in
    let built = c.in_ok-build_object-in-Object.ensures in
    let whole : json c.args.tree.now ≡ object ms = ap json c.in-Object.is ∙ (json_object _ ∙ ap (λ x. object (members_json x)) (sym c.items.ensures)) in
    let same : nest_value c.args.key (json c.args.tree.now) ≡ with_groups (said c.in-Some.key ms) (at_places (nest_at ms) (places c.in-Some.key)) =
    ap (λ o. nest_value o (json c.args.tree.now)) c.in-Some.is ∙ (ap (nest_value (Some c.in-Some.key)) whole ∙ value_said c.in-Some.key ms) in
    let texts : taken.in_value c.args.key (json c.args.tree.now) ≡ taken.in_step_of c.in-Some.key ms =
    ap (λ o. taken.in_value o (json c.args.tree.now)) c.in-Some.is ∙ ap (taken.in_value (Some c.in-Some.key)) whole in
    record {
      value = (built.value.0 ∙ sym (ap (λ x. (flat_step n x).step) same), built.value.1 ∙ sym (ap (λ x. (flat_step n x).blocks) same));
      left = built.left ∙ sym (ap (λ ts. spent ts (stock c.args.known.now)) texts);
    }

pub build_list-build_steps-requires : goal.build_list-build_steps-requires
build_list-build_steps-requires t c = (search (rules, the_lemmas), list_held c.args.tree.now c.items.result.now _ (stock c.args.known.now) c.in-List.is c.items.ensures c.requires.held)

pub build_branch_list-build_branches-requires : goal.build_branch_list-build_branches-requires
build_branch_list-build_branches-requires t c = (search (rules, the_lemmas), list_held c.args.tree.now c.items.result.now _ (stock c.args.known.now) c.in-List.is c.items.ensures c.requires.held)

pub build_each_list-build_each-requires : goal.build_each_list-build_each-requires
build_each_list-build_each-requires t c = (search (rules, the_lemmas), each_list_held c.args.tree.now c.items.result.now _ (stock c.args.known.now) c.in-List.is c.items.ensures c.requires.held)

pub build_inner-build_in-requires : goal.build_inner-build_in-requires
build_inner-build_in-requires t c = (search (rules, the_lemmas), own_held c.args.tree.now c.items.result.now _ (stock c.args.known.now) c.in-Object.is c.items.ensures c.requires.held)

pub build_step-build_only-requires : goal.build_step-build_only-requires
build_step-build_only-requires t c = (search (rules, the_lemmas), only_held c.args.tree.now c.items.result.now _ (stock c.args.known.now) c.in-Object.is c.items.ensures c.requires.held)

pub build_value-build_object-requires : goal.build_value-build_object-requires
build_value-build_object-requires t c = (search (rules, the_lemmas), value_held c.args.key c.in-Some.key c.args.tree.now c.items.result.now _ (stock c.args.known.now) c.in-Some.is c.in-Object.is c.items.ensures c.requires.held)

pub build_steps-build_step-requires : goal.build_steps-build_step-requires
build_steps-build_step-requires t c = (search (rules, the_lemmas), step_held c.args.items.now c.loop-item.item-index c.item-item.result (stock c.loop-item.known) c.item-item.is c.loop-item-test.true c.loop-item.invariant.held)

pub build_branches-build_step-requires : goal.build_branches-build_step-requires
build_branches-build_step-requires t c = (search (rules, the_lemmas), step_held c.args.items.now c.loop-item.item-index c.item-item.result (stock c.loop-item.known) c.item-item.is c.loop-item-test.true c.loop-item.invariant.held)

pub build_each-build_inner-requires : goal.build_each-build_inner-requires
build_each-build_inner-requires t c = (search (rules, the_lemmas), inner_held c.args.items.now c.loop-item.item-index c.item-item.result (stock c.loop-item.known) c.item-item.is c.loop-item-test.true c.loop-item.invariant.held)

pub build_steps-loop-item-preserved : goal.build_steps-loop-item-preserved
build_steps-loop-item-preserved t c =
    let ts = c.args.items.now in
    let i = c.loop-item.item-index in
    let x = c.item-item.result in
    let n = c.loop-item.n in
    let behind : c.in_ok-n.n ≡ n + length c.in_ok-step.more.items = search rules in
    let step : c.in_ok-step.step ≡ (flat_step n (nest_step (json x))).step = search rules in
    let blocks : c.in_ok-step.more.items ≡ (flat_step n (nest_step (json x))).blocks = search rules in
    let pushed : c.push.new.self.items ≡ c.loop-item.steps.items ++ (c.in_ok-step.step ∷ []) = search rules in
    let appended : c.append.new.self.items ≡ c.loop-item.blocks.items ++ c.in_ok-step.more.items = search rules in
    record {
      steps = step_built ts i x n c.in_ok-n.n c.loop-item.steps.items _ c.in_ok-step.step c.loop-item.blocks.items c.in_ok-step.more.items _ _ c.item-item.is c.loop-item-test.true c.loop-item.invariant.steps (step, blocks) behind pushed appended;
      left = step_left ts i x _ _ _ c.item-item.is c.loop-item-test.true c.loop-item.invariant.left c.in_ok-step.ensures.left;
      held = steps_held ts i x _ _ c.item-item.is c.loop-item-test.true c.loop-item.invariant.held c.in_ok-step.ensures.left;
    }

pub build_branches-loop-item-preserved : goal.build_branches-loop-item-preserved
build_branches-loop-item-preserved t c =
    let ts = c.args.items.now in
    let i = c.loop-item.item-index in
    let x = c.item-item.result in
    let n = c.loop-item.n in
    let behind : c.in_ok-n.n ≡ n + length c.in_ok-more.more.items = search rules in
    let inner : c.in_ok-after.field-0 ≡ n + 1 = search rules in
    let block = branch_block n c.in_ok-after.field-0 (nest_step (json x)) c.in_ok-step.step.step c.in_ok-step.step.blocks.items c.in_ok-more.more.items c.in_ok-more.ensures inner c.in_ok-step.ensures.value in
    record {
      groups = branch_built ts i x n c.in_ok-n.n c.loop-item.numbers.items _ c.loop-item.blocks.items c.in_ok-more.more.items _ _ c.item-item.is c.loop-item-test.true c.loop-item.invariant.groups block behind c.in_ok-push.ensures.items c.in_ok-append.ensures.items;
      left = step_left ts i x _ _ _ c.item-item.is c.loop-item-test.true c.loop-item.invariant.left c.in_ok-step.ensures.left;
      held = steps_held ts i x _ _ c.item-item.is c.loop-item-test.true c.loop-item.invariant.held c.in_ok-step.ensures.left;
    }

pub build_each-loop-item-preserved : goal.build_each-loop-item-preserved
build_each-loop-item-preserved t c =
    let ts = c.args.items.now in
    let i = c.loop-item.item-index in
    let x = c.item-item.result in
    let n = c.loop-item.n in
    let behind : c.in_ok-n.n ≡ n + length c.in_ok-more.more.items = search rules in
    record {
      groups = inner_built ts i x n c.in_ok-n.n c.loop-item.numbers.items _ c.loop-item.blocks.items c.in_ok-more.more.items _ _ c.item-item.is c.loop-item-test.true c.loop-item.invariant.groups c.in_ok-more.ensures.value behind c.in_ok-push.ensures.items c.in_ok-append.ensures.items;
      left = inner_left ts i x _ _ _ c.item-item.is c.loop-item-test.true c.loop-item.invariant.left c.in_ok-more.ensures.left;
      held = inners_held ts i x _ _ c.item-item.is c.loop-item-test.true c.loop-item.invariant.held c.in_ok-more.ensures.left;
    }

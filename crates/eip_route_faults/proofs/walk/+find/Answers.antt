use Rattle.std.proofs.Common.{ℕ, List, None, Some, Ok, refl, ap, sym, ◌∙◌, rules}
use Rattle.eip_text.specs.Json.{json, list, object, items_json, members_json}
use Rattle.eip_text.specs.declared.tree.Tree.{Tree}
use Rattle.eip_text.proofs.Levels.{json_null, json_flag, json_whole, json_float, json_word, json_list, json_object}
use Rattle.eip_route_grammar.specs.Objects.{value_kind}
use Rattle.eip_route_grammar.specs.Paths.{key_step, placed}
use Rattle.eip_route_faults.proofs.Sited.{at_null, at_flag, at_whole, at_float, at_word, at_list, at_object, list_wrong, list_walks, object_wrong, object_walks, inside_wrong, inside_walks, items_wrong, items_end, members_wrong, members_end}
use Rattle.eip_route_faults.proofs.Starved.{text_starves, value_list_starves, list_starves, value_object_starves, object_starves, inside_starves, items_starve, items_walked, members_starve, members_walked}
use Rattle.eip_route_faults.proofs.Walking.{starves_walked, still_ended, walk_ended}
use Rattle.eip_route_faults.proofs.walk.+find.Goals as goal

pub find_fault-returns-in_ok-found-in-Null : goal.find_fault-returns-in_ok-found-in-Null
find_fault-returns-in_ok-found-in-Null g t c = at_null _ _ _ _ _ _ _ _ (ap json c.in-Null.is ∙ json_null) c.in_ok-found-in-Null.ensures

pub find_fault-returns-in_ok-found-in-Flag : goal.find_fault-returns-in_ok-found-in-Flag
find_fault-returns-in_ok-found-in-Flag g t c =
    at_flag _ _ _ _ _ _ c.rule.result c.flag_cause.result _ _ _ (ap json c.in-Flag.is ∙ json_flag _) c.rule.ensures c.flag_cause.ensures c.in_ok-found-in-Flag.ensures

pub find_fault-returns-in_ok-found-in-Whole : goal.find_fault-returns-in_ok-found-in-Whole
find_fault-returns-in_ok-found-in-Whole g t c =
    at_whole _ _ _ _ _ _ c.rule-in-Whole.result c.whole_cause.result _ _ _ (ap json c.in-Whole.is ∙ json_whole _) c.rule-in-Whole.ensures (search rules) c.in_ok-found-in-Whole.ensures

pub find_fault-returns-in_ok-found-in-Float : goal.find_fault-returns-in_ok-found-in-Float
find_fault-returns-in_ok-found-in-Float g t c = at_float _ _ _ _ _ _ _ _ (ap json c.in-Float.is ∙ json_float) c.in_ok-found-in-Float.ensures

pub find_fault-returns-in_ok-found-in-Word : goal.find_fault-returns-in_ok-found-in-Word
find_fault-returns-in_ok-found-in-Word g t c =
    at_word _ _ _ _ _ _ c.rule-rule.result _ _ _ _ _ (ap json c.in-Word.is ∙ json_word _) c.rule-rule.ensures c.in_ok-found-in-Word.ensures

pub find_fault-returns-in_ok-found-in-List : goal.find_fault-returns-in_ok-found-in-List
find_fault-returns-in_ok-found-in-List g t c =
    at_list _ _ _ _ _ _ _ _ _ _ _ (ap json c.in-List.is ∙ json_list _ ∙ ap (λ (x : List Tree). list (items_json x)) (sym c.items-items.ensures)) c.in_ok-found-in-List.ensures

pub find_fault-returns-in_ok-found-in-Object : goal.find_fault-returns-in_ok-found-in-Object
find_fault-returns-in_ok-found-in-Object g t c =
    at_object _ _ _ _ _ _ _ _ _ _ _ (ap json c.in-Object.is ∙ json_object _ ∙ ap (λ (x : List (List ℕ × Tree)). object (members_json x)) (sym c.items-members.ensures)) c.in_ok-found-in-Object.ensures

pub find_in_items-returns-in-Some : goal.find_in_items-returns-in-Some
find_in_items-returns-in-Some g t c =
    c.loop-k.invariant (Ok (Some c.in_ok-placed.placed)) _ _
    (items_wrong _ _ _ _ _ c.index-items-k.result c.args.items.now c.in_ok-found.found c.in-Some.fault _ _ _ _ _ refl c.loop-k-test.true c.index-items-k.is c.in_ok-found.ensures c.in-Some.is c.in_ok-placed.ensures)

pub find_in_items-loop-k-preserved : goal.find_in_items-loop-k-preserved
find_in_items-loop-k-preserved g t c = λ a n m h.
    c.loop-k.invariant a n m
    (items_walked _ _ _ _ _ c.index-items-k.result c.args.items.now c.in_ok-found.found a _ _ n _ _ m refl c.loop-k-test.true c.index-items-k.is c.in_ok-found.ensures c.in_default.is h)

pub find_in_items-returns : goal.find_in_items-returns
find_in_items-returns g t c = c.loop-k.invariant (Ok None) _ _ (items_end _ _ _ c.loop-k.k c.args.items.now _ _ c.loop-k-test.false)

pub find_in_list-returns-in_ok-fault-in-Err : goal.find_in_list-returns-in_ok-fault-in-Err
find_in_list-returns-in_ok-fault-in-Err g t c =
    list_wrong _ _ _ _ c.list-list.result c.has_none.result c.in-Err.cause _ _ _ c.list-list.ensures c.has_none.ensures c.in-Err.ensures.wrong c.in_ok-fault-in-Err.ensures

pub find_in_list-returns-in_ok-found-in-Ok : goal.find_in_list-returns-in_ok-found-in-Ok
find_in_list-returns-in_ok-found-in-Ok g t c =
    list_walks _ _ _ _ c.list-list.result c.has_none.result c.in-Ok.inside c.item_kind-item.result _ _ _ _ _ c.list-list.ensures c.has_none.ensures c.in-Ok.ensures.sound c.in-Ok.ensures.deeper c.item_kind-item.ensures c.in_ok-found-in-Ok.ensures

pub find_in_members-returns-in-Some : goal.find_in_members-returns-in-Some
find_in_members-returns-in-Some g t c =
    c.loop-member.invariant (Ok (Some c.in_ok-placed.placed)) _ _
    (members_wrong _ _ _ _ c.value_kind-inner.result _ c.member-item.result c.args.members.now c.in_ok-found.found c.in-Some.fault _ _ _ _ _
    (c.value_kind-inner.ensures ∙ ap (λ (w : List ℕ). value_kind c.args.kind w) c.as_str.ensures) c.loop-member-test.true c.member-item.is c.in_ok-found.ensures c.in-Some.is
    (c.in_ok-placed.ensures ∙ ap (λ (w : List ℕ). placed (key_step w) c.in-Some.fault) c.as_str-in-Some.ensures))

pub find_in_members-loop-member-preserved : goal.find_in_members-loop-member-preserved
find_in_members-loop-member-preserved g t c = λ a n m h.
    c.loop-member.invariant a n m
    (members_walked _ _ _ _ c.value_kind-inner.result _ c.member-item.result c.args.members.now c.in_ok-found.found a _ _ n _ _ m
    (c.value_kind-inner.ensures ∙ ap (λ (w : List ℕ). value_kind c.args.kind w) c.as_str.ensures) c.loop-member-test.true c.member-item.is c.in_ok-found.ensures c.in_default.is h)

pub find_in_members-returns : goal.find_in_members-returns
find_in_members-returns g t c = c.loop-member.invariant (Ok None) _ _ (members_end _ _ _ _ c.loop-member.member-index c.args.members.now _ _ c.loop-member-test.false)

pub find_in_object-returns-in_ok-fault-in-Some : goal.find_in_object-returns-in_ok-fault-in-Some
find_in_object-returns-in_ok-fault-in-Some g t c = object_wrong _ _ _ _ c.in_ok-own.own c.in-Some.cause _ _ _ c.in_ok-own.ensures c.in-Some.is c.in_ok-fault-in-Some.ensures

pub find_in_object-returns-in_ok-found-in-None : goal.find_in_object-returns-in_ok-found-in-None
find_in_object-returns-in_ok-found-in-None g t c = object_walks _ _ _ _ c.in_ok-own.own _ _ _ _ _ c.in_ok-own.ensures c.in-None.is c.in_ok-found-in-None.ensures

pub find_inside-returns-in-Some : goal.find_inside-returns-in-Some
find_inside-returns-in-Some g t c =
    inside_wrong _ _ _ _ c.as_slice-beside.result.now c.in_ok-found.found c.in-Some.fault _ _ _ _ (c.as_slice-beside.ensures.value ∙ c.in_ok-parameters.ensures) c.in-Some.is c.in_ok-found.ensures

pub find_inside-returns : goal.find_inside-returns
find_inside-returns g t c =
    inside_walks _ _ _ _ c.as_slice-beside.result.now c.in_ok-found.found c.whole_object.result _ _ _ _ _ (c.as_slice-beside.ensures.value ∙ c.in_ok-parameters.ensures) c.in-None.is c.in_ok-found.ensures c.whole_object.ensures c.in_ok-rest-in-None.ensures

-- ---- where memory is wanting

pub find_fault-returns-in_err-found-in-Null : goal.find_fault-returns-in_err-found-in-Null
find_fault-returns-in_err-found-in-Null g t c = still_ended _ _ _ _ _ c.from_residual.ensures.0

pub find_fault-returns-in_err-found-in-Flag : goal.find_fault-returns-in_err-found-in-Flag
find_fault-returns-in_err-found-in-Flag g t c = still_ended _ _ _ _ _ c.from_residual-in_err-found-in-Flag.ensures.0

pub find_fault-returns-in_err-found-in-Whole : goal.find_fault-returns-in_err-found-in-Whole
find_fault-returns-in_err-found-in-Whole g t c = still_ended _ _ _ _ _ c.from_residual-in_err-found-in-Whole.ensures.0

pub find_fault-returns-in_err-found-in-Float : goal.find_fault-returns-in_err-found-in-Float
find_fault-returns-in_err-found-in-Float g t c = still_ended _ _ _ _ _ c.from_residual-in_err-found-in-Float.ensures.0

pub find_in_list-returns-in_err-fault-in-Err : goal.find_in_list-returns-in_err-fault-in-Err
find_in_list-returns-in_err-fault-in-Err g t c = still_ended _ _ _ _ _ c.from_residual.ensures.0

pub find_in_object-returns-in_err-own : goal.find_in_object-returns-in_err-own
find_in_object-returns-in_err-own g t c = still_ended _ _ _ _ _ c.from_residual.ensures.0

pub find_in_object-returns-in_err-fault-in-Some : goal.find_in_object-returns-in_err-fault-in-Some
find_in_object-returns-in_err-fault-in-Some g t c = still_ended _ _ _ _ _ c.from_residual-in_err-fault-in-Some.ensures.0

pub find_inside-returns-in_err-parameters : goal.find_inside-returns-in_err-parameters
find_inside-returns-in_err-parameters g t c = still_ended _ _ _ _ _ c.from_residual.ensures.0

pub find_fault-returns-in_err-found-in-Word : goal.find_fault-returns-in_err-found-in-Word
find_fault-returns-in_err-found-in-Word g t c =
    walk_ended _ _ _ _ _ _ c.from_residual-in_err-found-in-Word.ensures.0
    (text_starves _ _ _ _ _ _ c.rule-rule.result _ _ (ap json c.in-Word.is ∙ json_word _) c.rule-rule.ensures c.in_err-found-in-Word.ensures)

pub find_fault-returns-in_err-found-in-List : goal.find_fault-returns-in_err-found-in-List
find_fault-returns-in_err-found-in-List g t c =
    walk_ended _ _ _ _ _ _ c.from_residual-in_err-found-in-List.ensures.0
    (value_list_starves _ _ _ _ _ _ _ _ (ap json c.in-List.is ∙ json_list _ ∙ ap (λ (x : List Tree). list (items_json x)) (sym c.items-items.ensures)) c.in_err-found-in-List.ensures)

pub find_fault-returns-in_err-found-in-Object : goal.find_fault-returns-in_err-found-in-Object
find_fault-returns-in_err-found-in-Object g t c =
    walk_ended _ _ _ _ _ _ c.from_residual-in_err-found-in-Object.ensures.0
    (value_object_starves _ _ _ _ _ _ _ _ (ap json c.in-Object.is ∙ json_object _ ∙ ap (λ (x : List (List ℕ × Tree)). object (members_json x)) (sym c.items-members.ensures)) c.in_err-found-in-Object.ensures)

pub find_in_list-returns-in_err-found-in-Ok : goal.find_in_list-returns-in_err-found-in-Ok
find_in_list-returns-in_err-found-in-Ok g t c =
    walk_ended _ _ _ _ _ _ c.from_residual-in_err-found-in-Ok.ensures.0
    (list_starves _ _ _ _ c.list-list.result c.has_none.result c.in-Ok.inside c.item_kind-item.result _ _ c.list-list.ensures c.has_none.ensures c.in-Ok.ensures.sound c.in-Ok.ensures.deeper c.item_kind-item.ensures c.in_err-found-in-Ok.ensures)

pub find_in_object-returns-in_err-found-in-None : goal.find_in_object-returns-in_err-found-in-None
find_in_object-returns-in_err-found-in-None g t c =
    walk_ended _ _ _ _ _ _ c.from_residual-in_err-found-in-None.ensures.0
    (object_starves _ _ _ _ c.in_ok-own.own _ _ c.in_ok-own.ensures c.in-None.is c.in_err-found-in-None.ensures)

pub find_inside-returns-in_err-found : goal.find_inside-returns-in_err-found
find_inside-returns-in_err-found g t c =
    walk_ended _ _ _ _ _ _ c.from_residual-in_err-found.ensures.0
    (inside_starves _ _ _ _ c.as_slice-beside.result.now _ _ (c.as_slice-beside.ensures.value ∙ c.in_ok-parameters.ensures) c.in_err-found.ensures)

pub find_inside-returns-in_err-rest-in-None : goal.find_inside-returns-in_err-rest-in-None
find_inside-returns-in_err-rest-in-None g t c =
    walk_ended _ _ _ _ _ _ c.from_residual-in_err-rest-in-None.ensures.0
    (inside_starves _ _ _ _ c.as_slice-beside.result.now _ _ (c.as_slice-beside.ensures.value ∙ c.in_ok-parameters.ensures) (starves_walked _ c.in_ok-found.found _ _ _ _ c.in_ok-found.ensures))

pub find_in_items-returns-in_err-found : goal.find_in_items-returns-in_err-found
find_in_items-returns-in_err-found g t c =
    c.loop-k.invariant _ _ _
    (walk_ended _ _ _ _ _ _ c.from_residual.ensures.0
    (items_starve _ _ _ _ _ c.index-items-k.result c.args.items.now _ _ refl c.loop-k-test.true c.index-items-k.is c.in_err-found.ensures))

pub find_in_items-returns-in_err-placed : goal.find_in_items-returns-in_err-placed
find_in_items-returns-in_err-placed g t c =
    c.loop-k.invariant _ _ _
    (walk_ended _ _ _ _ _ _ c.from_residual-in_err-placed.ensures.0
    (items_starve _ _ _ _ _ c.index-items-k.result c.args.items.now _ _ refl c.loop-k-test.true c.index-items-k.is (starves_walked _ c.in_ok-found.found _ _ _ _ c.in_ok-found.ensures)))

pub find_in_members-returns-in_err-found : goal.find_in_members-returns-in_err-found
find_in_members-returns-in_err-found g t c =
    c.loop-member.invariant _ _ _
    (walk_ended _ _ _ _ _ _ c.from_residual.ensures.0
    (members_starve _ _ _ _ c.value_kind-inner.result _ c.member-item.result c.args.members.now _ _
    (c.value_kind-inner.ensures ∙ ap (λ (w : List ℕ). value_kind c.args.kind w) c.as_str.ensures) c.loop-member-test.true c.member-item.is c.in_err-found.ensures))

pub find_in_members-returns-in_err-placed : goal.find_in_members-returns-in_err-placed
find_in_members-returns-in_err-placed g t c =
    c.loop-member.invariant _ _ _
    (walk_ended _ _ _ _ _ _ c.from_residual-in_err-placed.ensures.0
    (members_starve _ _ _ _ c.value_kind-inner.result _ c.member-item.result c.args.members.now _ _
    (c.value_kind-inner.ensures ∙ ap (λ (w : List ℕ). value_kind c.args.kind w) c.as_str.ensures) c.loop-member-test.true c.member-item.is (starves_walked _ c.in_ok-found.found _ _ _ _ c.in_ok-found.ensures)))

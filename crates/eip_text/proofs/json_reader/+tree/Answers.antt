use Rattle.std.proofs.Common.{◌≡◌, List, map, append-nil, [], ◌∷◌, ◌++◌, sym, ap, ◌∙◌, append_assoc, arith}
use Rattle.std.proofs.lemmas.List.{map-append}
use Rattle.std.proofs.lemmas.Grind.{common_steps}
use Rattle.eip_text.specs.Json.{word, list, object, items_json, members_json}
use Rattle.eip_text.proofs.Levels.{json_null, json_flag, json_word, json_list, json_object}
use Rattle.eip_text.proofs.Readings.{Entry, value_json, named_json, entry_json, items_json-mapped, members_json-mapped, read-Null, read-Flag, read-Numeral, read-Word, read-Array, read-Object}
use Rattle.eip_text.proofs.json_reader.+tree.Goals as goal

pub tree_of-returns-in-Null : goal.tree_of-returns-in-Null
tree_of-returns-in-Null t c = json_null ∙ sym (ap value_json c.in-Null.is ∙ read-Null)

pub tree_of-returns-in-Bool : goal.tree_of-returns-in-Bool
tree_of-returns-in-Bool t c = json_flag _ ∙ sym (ap value_json c.in-Bool.is ∙ read-Flag _)

pub tree_of-returns-in-Number : goal.tree_of-returns-in-Number
tree_of-returns-in-Number t c = c.number_tree.ensures ∙ sym (ap value_json c.in-Number.is ∙ read-Numeral _)

pub tree_of-returns-in_ok-of_str-in-String : goal.tree_of-returns-in_ok-of_str-in-String
tree_of-returns-in_ok-of_str-in-String t c = json_word _ ∙ sym (ap value_json c.in-String.is ∙ read-Word _ ∙ ap word (sym (c.in_ok-of_str-in-String.ensures ∙ c.as_str.ensures.value)))

pub tree_of-returns-in_ok-trees_of-in-Array : goal.tree_of-returns-in_ok-trees_of-in-Array
tree_of-returns-in_ok-trees_of-in-Array t c = json_list _ ∙ sym (ap value_json c.in-Array.is ∙ read-Array _ ∙ ap list (sym (ap items_json c.of.ensures ∙ c.in_ok-trees_of-in-Array.ensures)))

pub tree_of-returns-in_ok-members_of-in-Object : goal.tree_of-returns-in_ok-members_of-in-Object
tree_of-returns-in_ok-members_of-in-Object t c = json_object _ ∙ sym (ap value_json c.in-Object.is ∙ read-Object _ ∙ ap object (sym (ap members_json c.of-in-Object.ensures ∙ c.in_ok-members_of-in-Object.ensures)))

pub trees_of-returns : goal.trees_of-returns
trees_of-returns t c =
    let all = c.loop-item.invariant in
    items_json-mapped _ _ (all ∙ grind (arith, common_steps))

pair_of : {A B : Type 0} {a b : A} {x y : B} → a ≡ b → x ≡ y → ◌≡◌ {A = A × B} (a, x) (b, y)
pair_of p q = cc

-- one more on each side
map_last : {A B C : Type 0} (f : A → C) (g : B → C) (xs : List A) (ys : List B) (x : A) (y : B) (more : List A)
    → more ≡ xs ++ x ∷ [] → map f xs ≡ map g ys → f x ≡ g y → map f more ≡ map g (ys ++ y ∷ [])
map_last f g xs ys x y more e h here = ap (map f) e ∙ map-append f xs (x ∷ []) ∙ rw (h, here) (sym (map-append g ys (y ∷ [])))

pub members_of-loop-key-preserved : goal.members_of-loop-key-preserved
members_of-loop-key-preserved t c =
    let l = c.loop-key in
    let done = l.invariant.0 in
    let e : Entry = (c.in-Some.key.now, c.in-Some.member.now) in
    let left = c.next.new.self in (
      done ++ e ∷ [],
      l.invariant.1 ∙ ap (λ es. done ++ es) c.in-Some.ensures.steps ∙ sym (append_assoc done (e ∷ []) left),
      map_last named_json entry_json l.trees.items done (c.in_ok-name.name, c.in_ok-tree_of.field-0) e _
          c.in_ok-push.ensures.items l.invariant.2
          (pair_of (c.in_ok-name.ensures ∙ c.as_str.ensures.value) c.in_ok-tree_of.ensures),
    )

pub members_of-returns : goal.members_of-returns
members_of-returns t c =
    let l = c.loop-key in
    let all : l.invariant.0 ≡ c.args.members.now.entries = sym (l.invariant.1 ∙ ap (λ es. l.invariant.0 ++ es) c.in-None.ensures.steps.0 ∙ append-nil l.invariant.0) in
    members_json-mapped _ _ (l.invariant.2 ∙ ap (map entry_json) all)

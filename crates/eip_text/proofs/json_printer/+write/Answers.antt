use Rattle.std.proofs.Common.{◌≡◌, [], ◌∷◌, true, false, ap, sym, ◌∙◌, subst, rules, OnOk, List, ℕ}
use Rattle.std.proofs.lemmas.Int.{to_z-of_z}
use Rattle.std.specs.Fmt.{signed_decimal}
use Rattle.std.specs.Int.{w128}
use Rattle.json.specs.Token.{Token, number}
use Rattle.json.specs.Token as token
use Rattle.eip_text.specs.Json.{null, flag, whole, float, word, list, object, json, items_json, members_json}
use Rattle.eip_text.specs.JsonText.{has_float, items_have_float, members_have_float, value_tokens, items_tokens, members_tokens, Wrote}
use Rattle.eip_text.specs.declared.tree.Tree.{the_lemmas}
use Rattle.eip_text.proofs.Levels.{json_null, json_flag, json_whole, json_float, json_word, json_list, json_object}
use Rattle.eip_text.proofs.Printing.{OnOk-mapped, Wrote-then, number_text-whole}
use Rattle.eip_text.proofs.json_printer.+write.Goals as goal

pub write_tree-unreachable-requires : goal.write_tree-unreachable-requires
write_tree-unreachable-requires t c =
    let e : json c.args.tree.now ≡ float = ap json c.in-Float.is ∙ json_float in
    let no : true ≡ false = subst (λ j. has_float j ≡ false) e c.requires in
    absurd (cc)

pub write_tree-write_items-requires : goal.write_tree-write_items-requires
write_tree-write_items-requires t c =
    let e : json c.args.tree.now ≡ list (items_json c.in-List.items) = ap json c.in-List.is ∙ json_list _ in
    let no : items_have_float (items_json c.items.result.now) ≡ false = rw c.items.ensures (subst (λ j. has_float j ≡ false) e c.requires) in
    (search (rules, the_lemmas), no)

pub write_tree-write_members-requires : goal.write_tree-write_members-requires
write_tree-write_members-requires t c =
    let e : json c.args.tree.now ≡ object (members_json c.in-Object.members) = ap json c.in-Object.is ∙ json_object _ in
    let no : members_have_float (members_json c.items-in-Object.result.now) ≡ false = rw c.items-in-Object.ensures (subst (λ j. has_float j ≡ false) e c.requires) in
    (search (rules, the_lemmas), no)

pub write_tree-returns-in_ok-null-in-Null : goal.write_tree-returns-in_ok-null-in-Null
write_tree-returns-in_ok-null-in-Null t c =
    let e : json c.args.tree.now ≡ null = ap json c.in-Null.is ∙ json_null in
    let w = c.in_ok-null-in-Null.ensures in
    subst (λ j. Wrote (value_tokens j) c.args.writer.now c.null.new.self) (sym e) (record { before = w.room.0; tokens = w.ok })

pub write_tree-returns-in_ok-boolean-in-Flag : goal.write_tree-returns-in_ok-boolean-in-Flag
write_tree-returns-in_ok-boolean-in-Flag t c =
    let e : json c.args.tree.now ≡ flag c.in-Flag.flag = ap json c.in-Flag.is ∙ json_flag _ in
    let w = c.in_ok-boolean-in-Flag.ensures in
    subst (λ j. Wrote (value_tokens j) c.args.writer.now c.boolean.new.self) (sym e) (record { before = w.room.0; tokens = w.ok })

pub write_tree-returns-in-Whole : goal.write_tree-returns-in-Whole
write_tree-returns-in-Whole t c =
    let e : json c.args.tree.now ≡ whole c.in-Whole.number = ap json c.in-Whole.is ∙ json_whole _ in
    let w = c.write_whole.ensures in
    subst (λ j. OnOk c.write_whole.result (Wrote (value_tokens j) c.args.writer.now c.write_whole.new.writer)) (sym e)
    (OnOk-mapped c.write_whole.result
    (subst (λ (ds : List ℕ). Wrote (number ds ∷ []) c.args.writer.now c.write_whole.new.writer)
    (ap signed_decimal (to_z-of_z w128 c.in-Whole.number (search rules)) ∙ sym (number_text-whole c.in-Whole.number)))
    c.write_whole.ensures)

pub write_tree-returns-in_ok-string-in-Word : goal.write_tree-returns-in_ok-string-in-Word
write_tree-returns-in_ok-string-in-Word t c =
    let e : json c.args.tree.now ≡ word c.as_str.result.now = ap json c.in-Word.is ∙ json_word _ ∙ ap word (sym c.as_str.ensures) in
    let w = c.in_ok-string-in-Word.ensures in
    subst (λ j. Wrote (value_tokens j) c.args.writer.now c.string.new.self) (sym e) (record { before = w.room.0; tokens = w.ok })

pub write_tree-returns-in_ok-begin_array-in-List : goal.write_tree-returns-in_ok-begin_array-in-List
write_tree-returns-in_ok-begin_array-in-List t c =
    let e : json c.args.tree.now ≡ list (items_json c.items.result.now) = ap json c.in-List.is ∙ json_list _ ∙ ap (λ ts. list (items_json ts)) (sym c.items.ensures) in
    let w = c.in_ok-begin_array-in-List.ensures in
    subst (λ j. OnOk c.write_items.result (Wrote (value_tokens j) c.args.writer.now c.write_items.new.writer)) (sym e)
    (OnOk-mapped c.write_items.result
    (Wrote-then token.begin_array (items_tokens (items_json c.items.result.now)) c.args.writer.now c.begin_array.new.self c.write_items.new.writer w.room.0 w.ok)
    c.write_items.ensures)

pub write_tree-returns-in_ok-begin_object-in-Object : goal.write_tree-returns-in_ok-begin_object-in-Object
write_tree-returns-in_ok-begin_object-in-Object t c =
    let e : json c.args.tree.now ≡ object (members_json c.items-in-Object.result.now) = ap json c.in-Object.is ∙ json_object _ ∙ ap (λ ms. object (members_json ms)) (sym c.items-in-Object.ensures) in
    let w = c.in_ok-begin_object-in-Object.ensures in
    subst (λ j. OnOk c.write_members.result (Wrote (value_tokens j) c.args.writer.now c.write_members.new.writer)) (sym e)
    (OnOk-mapped c.write_members.result
    (Wrote-then token.begin_object (members_tokens (members_json c.items-in-Object.result.now)) c.args.writer.now c.begin_object.new.self c.write_members.new.writer w.room.0 w.ok)
    c.write_members.ensures)

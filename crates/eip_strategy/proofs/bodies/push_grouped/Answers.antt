use Rattle.std.proofs.Common.{◌≡◌, ◌+◌, ◌++◌, ◌∷◌, [], List, ℕ, length, Ok, Err, ap, ap₂, sym, ◌∙◌, arith}
use Rattle.std.specs.Prelude.{string_bytes, string_len}
use Rattle.std.proofs.lemmas.Result.{err_from_is_err_and}
use Rattle.json.specs.Print.{quoted}
use Rattle.eip_strategy.specs.Groups.{group_text, texts_read}
use Rattle.eip_strategy.proofs.Groups.{group_closed, group_grown}
use Rattle.eip_strategy.proofs.Bounded.{bounded_as}
use Rattle.eip_strategy.proofs.Lengths.{group_longer}
use Rattle.eip_strategy.proofs.bodies.push_grouped.Goals as goal

pub returns-in_err-make_room-clause-says : goal.returns-in_err-make_room-clause-says
returns-in_err-make_room-clause-says c =
    let old = string_bytes c.args.list.now in
    let cut = group_closed old c.requires in
    let longer : length (group_text (texts_read old ++ c.args.new.now ∷ [])) ≡ length old + (1 + length (quoted c.args.new.now)) = group_longer old cut.0 c.args.new.now c.requires cut.1 in
    let word : length (string_bytes c.in_ok-word.word) ≡ length (quoted c.args.new.now) = ap length (c.in_ok-word.ensures ∙ ap quoted c.as_str.ensures) in
    let len : length (group_text (texts_read old ++ c.args.new.now ∷ [])) ≡ string_len c.args.list.now + (1 + c.len.result) = omega (arith, longer, word, c.len.ensures) in
    let p = err_from_is_err_and c.from_residual-in_err-make_room.result c.from_residual-in_err-make_room.ensures.1 in
    rw (p.1, p.2) (λ h. bounded_as 65536 (group_text (texts_read old ++ c.args.new.now ∷ [])) _ (Err c.in_err-make_room.field-0.0) len (c.in_err-make_room.ensures.says h))

pub reopen-requires : goal.reopen-requires
reopen-requires c = let cut = group_closed (string_bytes c.args.list.now) c.requires in (cut.0, c.make_room.ensures.same ∙ cut.1)

pub returns-clause-says : goal.returns-clause-says
returns-clause-says c =
    let old = string_bytes c.args.list.now in
    let front = string_bytes c.reopen.new.text in
    let cut : old ≡ front ++ 93 ∷ [] = sym c.make_room.ensures.same ∙ c.reopen.ensures.bytes in
    let longer : length (group_text (texts_read old ++ c.args.new.now ∷ [])) ≡ length old + (1 + length (quoted c.args.new.now)) = group_longer old front c.args.new.now c.requires cut in
    let spelled : string_bytes c.in_ok-word.word ≡ quoted c.args.new.now = c.in_ok-word.ensures ∙ ap quoted c.as_str.ensures in
    let word : length (string_bytes c.in_ok-word.word) ≡ length (quoted c.args.new.now) = ap length spelled in
    let len : length (group_text (texts_read old ++ c.args.new.now ∷ [])) ≡ string_len c.args.list.now + (1 + c.len.result) = omega (arith, longer, word, c.len.ensures) in
    bounded_as 65536 (group_text (texts_read old ++ c.args.new.now ∷ [])) _ (Ok _) len c.in_ok-make_room.ensures.says
    ∙ ap (λ (xs : List ℕ). Ok xs)
    (sym (c.push-3.ensures.bytes
    ∙ ap (λ (xs : List ℕ). xs ++ 93 ∷ []) (c.push-2.ensures.bytes ∙ ap₂ (λ (xs ys : List ℕ). xs ++ ys) c.push.ensures.bytes (c.as_str-2.ensures.value ∙ spelled))
    ∙ group_grown old front c.args.new.now c.requires cut))

use Rattle.std.proofs.Common.{◌≡◌, ◌+◌, ◌++◌, ◌∷◌, [], List, ℕ, length, Ok, Err, ap, ap₂, sym, ◌∙◌, arith}
use Rattle.std.specs.Prelude.{string_bytes, string_len}
use Rattle.std.proofs.lemmas.Result.{err_from_is_err_and}
use Rattle.eip_text.specs.JsonText.{json_text}
use Rattle.eip_resequence.specs.declared.packed.Packed.{Packed}
use Rattle.eip_resequence.specs.Packing.{packed_json}
use Rattle.eip_resequence.proofs.Growing.{packed_closed}
use Rattle.eip_strategy.specs.Batches.{packed_of, text_behind, comma_in}
use Rattle.eip_strategy.proofs.Bounded.{bounded_as}
use Rattle.eip_strategy.proofs.Lengths.{packed_grown, packed_longer}
use Rattle.eip_strategy.proofs.batch.push_message.Goals as goal

pub reopen-requires : goal.reopen-requires
reopen-requires c = let cut = packed_closed (string_bytes c.args.batch.now) c.requires.0 c.requires.1 in (cut.0, c.make_room.ensures.same ∙ cut.1)

pub returns-in_err-make_room-clause-says : goal.returns-in_err-make_room-clause-says
returns-in_err-make_room-clause-says c =
    let old = string_bytes c.args.batch.now in
    let new = c.args.new.now in
    let object = json_text (packed_json (packed_of new)) in
    let cut = packed_closed old c.requires.0 c.requires.1 in
    let longer : length (text_behind old new) ≡ length old + (length (comma_in old) + length object) = packed_longer old cut.0 (packed_of new) c.requires cut.1 in
    let comma : length c.comma_in-comma.result.now ≡ length (comma_in old) = ap length (c.comma_in-comma.ensures ∙ ap comma_in c.as_str.ensures.value) in
    let word : length (string_bytes c.in_ok-object.object) ≡ length object = ap length (c.in_ok-object.ensures ∙ ap (λ (p : Packed). json_text (packed_json p)) c.in_ok-packed.ensures) in
    let len : length (text_behind old new) ≡ string_len c.args.batch.now + (length c.comma_in-comma.result.now + c.len.result) = omega (arith, longer, comma, word, c.len.ensures) in
    let p = err_from_is_err_and c.from_residual-in_err-make_room.result c.from_residual-in_err-make_room.ensures.1 in
    rw (p.1, p.2) (λ h. bounded_as 16777216 (text_behind old new) _ (Err c.in_err-make_room.field-0.0) len (c.in_err-make_room.ensures.says h))

pub returns-clause-says : goal.returns-clause-says
returns-clause-says c =
    let old = string_bytes c.args.batch.now in
    let new = c.args.new.now in
    let object = json_text (packed_json (packed_of new)) in
    let front = string_bytes c.reopen.new.text in
    let cut : old ≡ front ++ 93 ∷ [] = sym c.make_room.ensures.same ∙ c.reopen.ensures.bytes in
    let longer : length (text_behind old new) ≡ length old + (length (comma_in old) + length object) = packed_longer old front (packed_of new) c.requires cut in
    let comma_is : c.comma_in-comma.result.now ≡ comma_in old = c.comma_in-comma.ensures ∙ ap comma_in c.as_str.ensures.value in
    let comma : length c.comma_in-comma.result.now ≡ length (comma_in old) = ap length comma_is in
    let spelled : string_bytes c.in_ok-object.object ≡ object = c.in_ok-object.ensures ∙ ap (λ (p : Packed). json_text (packed_json p)) c.in_ok-packed.ensures in
    let word : length (string_bytes c.in_ok-object.object) ≡ length object = ap length spelled in
    let len : length (text_behind old new) ≡ string_len c.args.batch.now + (length c.comma_in-comma.result.now + c.len.result) = omega (arith, longer, comma, word, c.len.ensures) in
    bounded_as 16777216 (text_behind old new) _ (Ok _) len c.in_ok-make_room.ensures.says
    ∙ ap (λ (xs : List ℕ). Ok xs)
    (sym (c.push-3.ensures.bytes
    ∙ ap (λ (xs : List ℕ). xs ++ 93 ∷ []) (c.push-2.ensures.bytes ∙ ap₂ (λ (xs ys : List ℕ). xs ++ ys) (c.push.ensures.bytes ∙ ap (λ (ys : List ℕ). front ++ ys) comma_is) (c.as_str-2.ensures.value ∙ spelled))
    ∙ packed_grown old front (packed_of new) c.requires cut))

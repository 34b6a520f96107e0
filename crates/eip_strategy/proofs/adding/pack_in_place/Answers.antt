use Rattle.std.proofs.Common.{◌≡◌, ◌-◌, ◌<◌, List, ℕ, length, Some, Ok, Err, refl, ap, subst, sym, ◌∙◌}
use Rattle.std.specs.Prelude.{string_bytes}
use Rattle.std.specs.Str.{IsUtf8}
use Rattle.std.proofs.lemmas.Result.{err_from_is_err_and}
use Rattle.std.proofs.lemmas.Str.{IsUtf8-string_bytes}
use Rattle.eip_exchange.specs.declared.message.Message.{Message}
use Rattle.eip_strategy.specs.declared.undo.Undo.TheVariants.{Reclose}
use Rattle.eip_strategy.specs.Answers.{bounded}
use Rattle.eip_strategy.specs.Batches.{text_behind}
use Rattle.eip_strategy.specs.Undoing.{Undoes}
use Rattle.eip_strategy.proofs.Packed.{packed_as}
use Rattle.eip_strategy.proofs.Undone.{undoes_packed, packed_some}
use Rattle.eip_strategy.proofs.adding.pack_in_place.Goals as goal

pub front_len-front-requires : goal.front_len-front-requires
front_len-front-requires c =
    subst (λ (xs : List ℕ). 0 < length xs) (sym (c.as_str.ensures.value ∙ c.in_ok-body.ensures.body)) (packed_some c.args.so_far.now.body c.requires)

pub returns-in_err-done-clause-says : goal.returns-in_err-done-clause-says
returns-in_err-done-clause-says c =
    let old : Message = c.args.so_far.now in
    let same : string_bytes c.in_ok-body.body ≡ old.body = c.in_ok-body.ensures.body in
    let p = err_from_is_err_and c.from_residual-in_err-done.result c.from_residual-in_err-done.ensures.1 in
    rw (p.1, p.2) (λ h.
    packed_as (Some old) old c.args.new.now (Err c.in_err-done.field-0.0) refl (ap (λ (b : List ℕ). bounded 16777216 (Ok (text_behind b c.args.new.now))) (sym same) ∙ c.in_err-done.ensures.says h))

pub returns-clause-says : goal.returns-clause-says
returns-clause-says c =
    let old : Message = c.args.so_far.now in
    let same : string_bytes c.in_ok-body.body ≡ old.body = c.in_ok-body.ensures.body in
    rw c.in_ok-body.ensures.rest (packed_as (Some old) old c.args.new.now (Ok c.of.result) refl
    (ap (λ (b : List ℕ). bounded 16777216 (Ok (text_behind b c.args.new.now))) (sym same) ∙ c.in_ok-done.ensures.says ∙ ap (λ (xs : List ℕ). Ok xs) (sym c.of.ensures)))

pub returns-clause-undo : goal.returns-clause-undo
returns-clause-undo c =
    let old : Message = c.args.so_far.now in
    let same : string_bytes c.in_ok-body.body ≡ old.body = c.in_ok-body.ensures.body in
    let utf8 : IsUtf8 old.body = subst IsUtf8 same (IsUtf8-string_bytes c.in_ok-body.body) in
    rw c.in_ok-body.ensures.rest (subst (λ (n : ℕ). Undoes (Reclose n) old (record old { body = c.of.result })) (sym (c.front_len-front.ensures ∙ ap (λ (xs : List ℕ). length xs - 1) (c.as_str.ensures.value ∙ same)))
    (undoes_packed old c.args.new.now c.of.result c.requires utf8
    (ap (λ (b : List ℕ). bounded 16777216 (Ok (text_behind b c.args.new.now))) (sym same) ∙ c.in_ok-done.ensures.says ∙ ap (λ (xs : List ℕ). Ok xs) (sym c.of.ensures))))

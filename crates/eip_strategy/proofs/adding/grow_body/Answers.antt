use Rattle.std.proofs.Common.{◌≡◌, List, ℕ, Ok, ap, subst, sym, ◌∙◌}
use Rattle.std.specs.Prelude.{string_bytes}
use Rattle.std.specs.Str.{IsUtf8}
use Rattle.std.proofs.lemmas.Str.{IsUtf8-string_bytes}
use Rattle.eip_exchange.specs.declared.message.Message.{Message}
use Rattle.eip_strategy.specs.declared.undo.Undo.{Undo}
use Rattle.eip_strategy.specs.Adding.{next_body}
use Rattle.eip_strategy.specs.Answers.{bounded}
use Rattle.eip_strategy.specs.Undoing.{Undoes, undo_of}
use Rattle.eip_strategy.proofs.Undone.{undoes_grown}
use Rattle.eip_strategy.proofs.adding.grow_body.Goals as goal

pub returns-clause-undo : goal.returns-clause-undo
returns-clause-undo c =
    let old : Message = c.args.so_far.now in
    let same : string_bytes c.in_ok-body.body ≡ old.body = c.in_ok-body.ensures.body in
    let utf8 : IsUtf8 old.body = subst IsUtf8 same (IsUtf8-string_bytes c.in_ok-body.body) in
    rw c.in_ok-body.ensures.rest (subst (λ (u : Undo). Undoes u old (record old { body = c.of.result })) (sym (c.undo_of-undo.ensures ∙ ap (undo_of c.args.strategy.now) (c.as_str.ensures.value ∙ same)))
    (undoes_grown c.args.strategy.now old c.args.new.now.body c.of.result c.requires.ready c.requires.keeps c.requires.grows utf8
    (ap (λ (b : List ℕ). bounded 65536 (next_body c.args.strategy.now b c.args.new.now.body)) (sym same) ∙ c.in_ok-done.ensures.says ∙ ap (λ (xs : List ℕ). Ok xs) (sym c.of.ensures))))

use Rattle.std.proofs.Common.{◌≡◌, ◌++◌, ◌∷◌, [], List, ℕ, ap, ap₂, ◌∙◌}
use Rattle.std.specs.Prelude.{string_bytes}
use Rattle.json.specs.Print.{quoted}
use Rattle.eip_strategy.proofs.Groups.{group_one}
use Rattle.eip_strategy.proofs.steps.begin_group.Goals as goal

pub returns : goal.returns
returns c =
    let body = string_bytes c.args.body.now in
    let word : c.as_str-2.result.now ≡ quoted body = c.as_str-2.ensures.value ∙ c.in_ok-word.ensures ∙ ap quoted c.as_str.ensures.value in
    let first : string_bytes c.push_str.new.self ≡ 91 ∷ [] = c.in_ok-push_str.ensures.bytes ∙ ap (λ (xs : List ℕ). xs ++ 91 ∷ []) c.clear.ensures.bytes in
    c.in_ok-push_str-3.ensures.bytes
    ∙ ap (λ (xs : List ℕ). xs ++ 93 ∷ []) (c.in_ok-push_str-2.ensures.bytes ∙ ap₂ (λ (xs ys : List ℕ). xs ++ ys) first word)
    ∙ group_one body

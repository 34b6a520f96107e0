use Rattle.std.proofs.Common.{◌≡◌, None, ap₂, sym, ◌∙◌, Option, ℤ, int_cmp, rules}
use Rattle.std.proofs.lemmas.Int.{to_z-of_z}
use Rattle.std.specs.Int.{w64}
use Rattle.eip_text.specs.Numbers.{whole_of}
use Rattle.eip_resequence.specs.Order.{number_or, rank_cmp}
use Rattle.eip_resequence.proofs.order.compared_bytes.Goals as goal

pub returns-in-Some-Some : goal.returns-in-Some-Some
returns-in-Some-Some c =
    let x = to_z-of_z w64 c.in-Some-Some.x (search rules) in
    let y = to_z-of_z w64 c.in-Some-Some.y (search rules) in
    c.compared_numbers.ensures ∙ ap₂ int_cmp x y ∙ ap₂ (λ (o p : Option ℤ). rank_cmp (number_or o c.args.a.now) (number_or p c.args.b.now)) c.in-Some-Some.ensures c.in-Some-Some.ensures'

pub returns-in-Some-None : goal.returns-in-Some-None
returns-in-Some-None c = ap₂ (λ (o p : Option ℤ). rank_cmp (number_or o c.args.a.now) (number_or p c.args.b.now)) c.in-Some-None.ensures c.in-Some-None.ensures'

pub returns-in-None-Some : goal.returns-in-None-Some
returns-in-None-Some c =
    let none : None ≡ whole_of c.args.a.now = sym c.in-None-Some.is-0 ∙ c.number_of.ensures in
    let some = c.in-None-Some.ensures in
    ap₂ (λ (o p : Option ℤ). rank_cmp (number_or o c.args.a.now) (number_or p c.args.b.now)) none some

pub returns-in-None-None : goal.returns-in-None-None
returns-in-None-None c =
    let none : None ≡ whole_of c.args.a.now = sym c.in-None-None.is-0 ∙ c.number_of.ensures in
    let none_too : None ≡ whole_of c.args.b.now = sym c.in-None-None.is-1 ∙ c.number_of-2.ensures in
    c.cmp.ensures ∙ ap₂ (λ (o p : Option ℤ). rank_cmp (number_or o c.args.a.now) (number_or p c.args.b.now)) none none_too

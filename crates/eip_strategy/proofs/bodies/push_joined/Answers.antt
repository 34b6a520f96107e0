use Rattle.std.proofs.Common.{◌≡◌, ◌+◌, ◌++◌, List, ℕ, length, Ok, Err, sym, ap, ap₂, ◌∙◌, arith, append_assoc}
use Rattle.std.specs.Prelude.{string_bytes, string_len}
use Rattle.std.proofs.lemmas.Result.{err_from_is_err_and}
use Rattle.eip_strategy.proofs.Bounded.{bounded_as}
use Rattle.eip_strategy.proofs.Lengths.{joined_length}
use Rattle.eip_strategy.proofs.bodies.push_joined.Goals as goal

pub returns-in_err-make_room-clause-says : goal.returns-in_err-make_room-clause-says
returns-in_err-make_room-clause-says c =
    let old = string_bytes c.args.body.now in
    let joined = old ++ (c.args.delimiter.now ++ c.args.new.now) in
    let first : length c.as_str-delimiter.result.now ≡ length c.args.delimiter.now = ap length c.as_str-delimiter.ensures in
    let second : length c.as_str-new.result.now ≡ length c.args.new.now = ap length c.as_str-new.ensures in
    let both : length joined ≡ length old + (length c.args.delimiter.now + length c.args.new.now) = joined_length old c.args.delimiter.now c.args.new.now in
    let len : length joined ≡ string_len c.args.body.now + (length c.as_str-delimiter.result.now + length c.as_str-new.result.now) = omega (arith, first, second, both) in
    let p = err_from_is_err_and c.from_residual.result c.from_residual.ensures.1 in
    rw (p.1, p.2) (λ h. bounded_as 65536 joined _ (Err c.in_err-make_room.field-0.0) len (c.in_err-make_room.ensures.says h))

pub returns-clause-says : goal.returns-clause-says
returns-clause-says c =
    let old = string_bytes c.args.body.now in
    let joined = old ++ (c.args.delimiter.now ++ c.args.new.now) in
    let first : length c.as_str-delimiter.result.now ≡ length c.args.delimiter.now = ap length c.as_str-delimiter.ensures in
    let second : length c.as_str-new.result.now ≡ length c.args.new.now = ap length c.as_str-new.ensures in
    let both : length joined ≡ length old + (length c.args.delimiter.now + length c.args.new.now) = joined_length old c.args.delimiter.now c.args.new.now in
    let len : length joined ≡ string_len c.args.body.now + (length c.as_str-delimiter.result.now + length c.as_str-new.result.now) = omega (arith, first, second, both) in
    bounded_as 65536 joined _ (Ok _) len c.in_ok-make_room.ensures.says ∙ ap (λ (xs : List ℕ). Ok xs)
    (sym (append_assoc old c.args.delimiter.now c.args.new.now)
    ∙ sym (c.push-2.ensures.bytes
    ∙ ap₂ (λ (xs ys : List ℕ). xs ++ ys)
    (c.push.ensures.bytes ∙ ap₂ (λ (xs ys : List ℕ). xs ++ ys) c.make_room.ensures.same c.as_str-delimiter.ensures)
    c.as_str-new.ensures))

use Rattle.std.proofs.Common.{◌-◌, length, refl, sym, ap, ◌∙◌, arith, get_or}
use Rattle.std.proofs.lemmas.Option.{slice_get_read}
use Rattle.eip_tables.specs.State.{is_outside_row, outside_at, is_wanted}
use Rattle.eip_tables.proofs.FirstWanted.{first-here, first-later}
use Rattle.eip_tables.proofs.wanted.first_of_run.Goals as goal

pub returns-then-is_wanted : goal.returns-then-is_wanted
returns-then-is_wanted c =
    let number = c.requires c.loop-number.number-index 0 c.loop-number-test.true in
    let row = slice_get_read c.args.rows.now (length c.args.rows.now) (get_or c.args.numbers.now c.loop-number.number-index 0 - 1) c.index-rows-number.result refl (omega (arith, number.0, number.1)) c.index-rows-number.is in
    let wanted = ap (λ o. is_wanted c.args.outside (is_outside_row o)) row ∙ (sym c.is_wanted.ensures ∙ c.if-is_wanted.true) in
    sym (c.loop-number.invariant ∙ first-here (λ x. is_wanted c.args.outside (outside_at c.args.rows.now x)) c.args.numbers.now c.loop-number.number-index 0 c.loop-number-test.true wanted)

pub loop-number-preserved : goal.loop-number-preserved
loop-number-preserved c =
    let number = c.requires c.loop-number.number-index 0 c.loop-number-test.true in
    let row = slice_get_read c.args.rows.now (length c.args.rows.now) (get_or c.args.numbers.now c.loop-number.number-index 0 - 1) c.index-rows-number.result refl (omega (arith, number.0, number.1)) c.index-rows-number.is in
    let wanted = ap (λ o. is_wanted c.args.outside (is_outside_row o)) row ∙ (sym c.is_wanted.ensures ∙ c.if-is_wanted.false) in
    c.loop-number.invariant ∙ first-later (λ x. is_wanted c.args.outside (outside_at c.args.rows.now x)) c.args.numbers.now c.loop-number.number-index 0 c.loop-number-test.true wanted

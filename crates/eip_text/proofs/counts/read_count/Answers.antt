use Rattle.std.proofs.Common.{◌≡◌, ◌<◌, ◌^◌, ◌∙◌, arith, sym, ap}
use Rattle.std.proofs.lemmas.Fmt.{parse-decimal}
use Rattle.std.specs.Fmt.{decimal}
use Rattle.std.proofs.lemmas.Bool.{both_ways}
use Rattle.eip_text.specs.Counts.{count_of}
use Rattle.eip_text.proofs.CountLemmas.{count_again, no_count}
use Rattle.eip_text.proofs.counts.read_count.Goals as goal

pub returns-in_default : goal.returns-in_default
returns-in_default c = sym (no_count c.args.text.now (λ n lt e.
    let read = parse-decimal 32 n c.args.text.now c.parse.result lt (omega arith) e c.parse.ensures.value.0 in
    let was = c.in-Ok.is in
    let same : c.in-Ok.number ≡ n = cc in
    both_ways c.is_decimal.result c.if-is_decimal.false (c.is_decimal.ensures.1 (e ∙ ap decimal (sym same)))))

pub returns-in_default-2 : goal.returns-in_default-2
returns-in_default-2 c = sym (no_count c.args.text.now (λ n lt e.
    let read = parse-decimal 32 n c.args.text.now c.parse.result lt (omega arith) e c.parse.ensures.value.0 in
    let was = c.in_default.is in
    cc))

pub returns-in-Ok : goal.returns-in-Ok
returns-in-Ok c =
    let small : c.in-Ok.number < 2 ^ 32 = omega arith in
    sym (ap count_of (c.is_decimal.ensures.0 c.if-is_decimal.true) ∙ count_again c.in-Ok.number small)

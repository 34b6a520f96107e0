use Rattle.std.proofs.Common.{◌≡◌, ◌<◌, length, arith}
use Rattle.std.proofs.lemmas.Bool.{both_ways}
use Rattle.eip_exchange.specs.Headers.{same_name, folded, get_header}
use Rattle.eip_splitter.proofs.Finding.{same_true, same_false, value_here, value_later}
use Rattle.eip_splitter.proofs.keys.header_in.Goals as goal

pub returns-then-eq_ignore_ascii_case : goal.returns-then-eq_ignore_ascii_case
returns-then-eq_ignore_ascii_case c =
    let name = c.args.name.now in
    let hs = c.args.headers.now in
    let i = c.loop-pair.pair-index in
    let p = c.pair-item.result in
    let lt : i < length hs = omega arith in
    let test = c.eq_ignore_ascii_case.ensures.test.0 c.if-eq_ignore_ascii_case.true in
    let same : folded name ≡ folded p.0 = cc (c.bytes.ensures.value, c.bytes-in-loop-pair.ensures.value, test) in
    value_here same_name name hs i (get_header name hs) p lt c.pair-item.is (same_true name p.0 same) c.loop-pair.invariant

pub loop-pair-preserved : goal.loop-pair-preserved
loop-pair-preserved c =
    let name = c.args.name.now in
    let hs = c.args.headers.now in
    let i = c.loop-pair.pair-index in
    let p = c.pair-item.result in
    let lt : i < length hs = omega arith in
    let other : (folded name ≡ folded p.0 → ⊥) = λ e.
    both_ways c.eq_ignore_ascii_case.result c.if-eq_ignore_ascii_case.false (c.eq_ignore_ascii_case.ensures.test.1 (cc (c.bytes.ensures.value, c.bytes-in-loop-pair.ensures.value, e))) in
    value_later same_name name hs i (get_header name hs) p lt c.pair-item.is (same_false name p.0 other) c.loop-pair.invariant

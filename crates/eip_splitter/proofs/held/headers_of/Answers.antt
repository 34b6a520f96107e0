use Rattle.std.proofs.Common.{ℕ, List, ap, arith, length, []}
use Rattle.std.proofs.lemmas.Result.{err_from_is_err_and}
use Rattle.std.specs.Vec.Iter.{into_iter_items}
use Rattle.eip_exchange.specs.Headers.{same_name}
use Rattle.eip_splitter.specs.Batches.{are_headers, are_new, may_add}
use Rattle.eip_splitter.proofs.Fitting.{all_more, few_more, headers_not, new_more, new_of_may, refused_on}
use Rattle.eip_splitter.proofs.held.headers_of.Goals as goal

pub returns-in_err-add_header-clause-fault : goal.returns-in_err-add_header-clause-fault
returns-in_err-add_header-clause-fault c =
    let before = c.loop-name.headers in
    let all = c.args.pairs.items in
    let p = err_from_is_err_and c.from_residual.result c.from_residual.ensures.1 in
    rw (p.1, p.2)
    (refused_on c.in_err-add_header.field-0.0 (may_add c.in-Some.name before) (are_headers all)
    (headers_not before (into_iter_items c.loop-name.name-iterator) (into_iter_items c.next.new.self) all (c.in-Some.name, c.in-Some.value) c.in-Some.ensures.steps.0 c.loop-name.invariant.all c.loop-name.invariant.new)
    c.in_err-add_header.ensures.fault)

pub loop-name-preserved : goal.loop-name-preserved
loop-name-preserved c =
    let before = c.loop-name.headers in
    let after = c.add_header.new.headers in
    let rest = into_iter_items c.loop-name.name-iterator in
    let left = into_iter_items c.next.new.self in
    let all = c.args.pairs.items in
    let pair : List ℕ × List ℕ = (c.in-Some.name, c.in-Some.value) in
    let step = c.in-Some.ensures.steps in
    let fits = c.in_ok-add_header.ensures.fits in
    let added = c.in_ok-add_header.ensures.added in
    record {
      all = all_more before after rest left all pair step.0 added c.loop-name.invariant.all;
      new = new_more same_name before after pair rest left (are_new same_name [] all) step.0 (new_of_may c.in-Some.name before fits) added c.loop-name.invariant.new;
      few = few_more c.in-Some.name c.in-Some.value before after c.loop-name.invariant.few fits added;
      left = omega (arith, ap length step.0, step.1, c.loop-name.invariant.left);
    }

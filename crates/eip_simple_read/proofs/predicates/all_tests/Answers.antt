use Rattle.std.proofs.Common.{◌≡◌, ◌∙◌, ◌++◌, [], Ok, ap, sym, refl, rules, arith}
use Rattle.std.proofs.lemmas.List.Elements.{All-push}
use Rattle.std.proofs.lemmas.Result.{err_from_is_err_and}
use Rattle.eip_simple_read.specs.declared.joints.Joint.{Joint}
use Rattle.eip_simple_read.specs.declared.joints.Joint.TheVariants as joint
use Rattle.eip_simple_read.specs.Reading.{joint_at, all_tests, HasGoodPattern}
use Rattle.eip_simple_read.specs.Builds.{test_patterns, patterns_in}
use Rattle.eip_simple_read.proofs.Asked.{added_nothing, begins_built, built_behind}
use Rattle.eip_simple_read.proofs.AskedTests.{starts_asking, goes_on_asking, asks_starved, asks_done, asks_test, asks_joint}
use Rattle.eip_simple_read.proofs.Conjunctions.{starts, goes_and, goes_or, is_done, fails_test, fails_joint, good_more}
use Rattle.eip_simple_read.proofs.predicates.all_tests.Goals as goal

pub loop-all-init : goal.loop-all-init
loop-all-init g c =
    let s = starts c.args.text.now c.unspaced-rest.result.now c.unspaced-rest.ensures.value c.unspaced-rest.ensures.shorter in
    record {
      is_text = search rules;
      so_far = rw (c.new-any.ensures.items, c.new-all.ensures.items) s;
      shorter = c.unspaced-rest.ensures.shorter;
      any_good = search rules;
      all_good = search rules;
      faults = search rules;
      asked = ([], starts_asking c.args.text.now c.unspaced-rest.result.now c.unspaced-rest.ensures.value c.unspaced-rest.ensures.shorter, sym (added_nothing _));
    }

pub returns-in_err-test-clause-reads : goal.returns-in_err-test-clause-reads
returns-in_err-test-clause-reads g c =
    let p = err_from_is_err_and c.from_residual.result c.from_residual.ensures.1 in
    rw (p.1, p.2) (fails_test _ _ _ (λ refused. all_tests refused c.args.text.now) c.loop-all.invariant.so_far c.in_err-test.field-0.0 c.in_err-test.ensures.reads c.in_err-test.ensures.within)

pub returns-in_err-joint-clause-reads : goal.returns-in_err-joint-clause-reads
returns-in_err-joint-clause-reads g c =
    let p = err_from_is_err_and c.from_residual-in_err-joint.result c.from_residual-in_err-joint.ensures.1 in
    rw (p.1, p.2) (fails_joint _ _ _ (λ refused. all_tests refused c.args.text.now) c.loop-all.invariant.so_far c.in_err-joint.field-0.0 c.in_ok-test.test c.in_ok-test.after.now c.in_ok-test.ensures.reads c.in_err-joint.ensures.reads)

pub returns-in-End-clause-reads : goal.returns-in-End-clause-reads
returns-in-End-clause-reads g c =
    let next = c.in_ok-joint.next.now in
    let read : joint_at c.in_ok-test.after.now ≡ Ok (c.in_ok-joint.joint, next) = c.in_ok-joint.ensures.reads in
    let here : joint_at c.in_ok-test.after.now ≡ Ok (joint.End, next) = read ∙ ap (λ (j : Joint). Ok (j, next)) c.in-End.is in
    let done = is_done _ _ _ (λ refused. all_tests refused c.args.text.now) c.loop-all.invariant.so_far c.in_ok-test.test c.in_ok-test.after.now next c.in_ok-test.ensures.reads here in
    rw (c.in_ok-push-in-End.ensures.items, c.of.ensures, c.in_ok-push.ensures.items) done

pub returns-in-End-clause-grammar : goal.returns-in-End-clause-grammar
returns-in-End-clause-grammar g c =
    let good = good_more c.loop-all.any.items c.loop-all.all.items c.in_ok-test.test c.loop-all.invariant.any_good c.loop-all.invariant.all_good c.in_ok-test.ensures.grammar in
    rw (c.in_ok-push-in-End.ensures.items, c.of.ensures, c.in_ok-push.ensures.items) good

pub returns-in_err-test-clause-asks : goal.returns-in_err-test-clause-asks
returns-in_err-test-clause-asks g c =
    let p = err_from_is_err_and c.from_residual.result c.from_residual.ensures.1 in
    rw (p.1, p.2) (asks_test _ _ (λ refused. patterns_in refused c.args.text.now) c.loop-all.invariant.asked.1 c.in_err-test.field-0.0 c.in_err-test.ensures.reads c.in_err-test.ensures.within _ _ _ c.loop-all.invariant.asked.2 c.in_err-test.ensures.asks)

pub returns-in_err-joint-clause-asks : goal.returns-in_err-joint-clause-asks
returns-in_err-joint-clause-asks g c =
    let p = err_from_is_err_and c.from_residual-in_err-joint.result c.from_residual-in_err-joint.ensures.1 in
    rw (p.1, p.2) (asks_joint _ _ (λ refused. patterns_in refused c.args.text.now) c.loop-all.invariant.asked.1 c.in_err-joint.field-0.0 c.in_ok-test.test c.in_ok-test.after.now c.in_ok-test.ensures.reads c.in_err-joint.ensures.reads
    _ _ _ c.loop-all.invariant.asked.2 c.in_ok-test.ensures.asks)

pub returns-in-End-clause-asks : goal.returns-in-End-clause-asks
returns-in-End-clause-asks g c =
    let next = c.in_ok-joint.next.now in
    let read : joint_at c.in_ok-test.after.now ≡ Ok (c.in_ok-joint.joint, next) = c.in_ok-joint.ensures.reads in
    let here : joint_at c.in_ok-test.after.now ≡ Ok (joint.End, next) = read ∙ ap (λ (j : Joint). Ok (j, next)) c.in-End.is in
    asks_done _ _ (λ refused. patterns_in refused c.args.text.now) c.loop-all.invariant.asked.1 c.in_ok-test.test c.in_ok-test.after.now next c.in_ok-test.ensures.reads here _ _ _ c.loop-all.invariant.asked.2 c.in_ok-test.ensures.asks

pub loop-all-preserved-in-And : goal.loop-all-preserved-in-And
loop-all-preserved-in-And g c =
    let next = c.in_ok-joint.next.now in
    let read : joint_at c.in_ok-test.after.now ≡ Ok (c.in_ok-joint.joint, next) = c.in_ok-joint.ensures.reads in
    let here : joint_at c.in_ok-test.after.now ≡ Ok (joint.And, next) = read ∙ ap (λ (j : Joint). Ok (j, next)) c.in-And.is in
    let s = goes_and _ _ _ (λ refused. all_tests refused c.args.text.now) c.loop-all.invariant.so_far c.in_ok-test.test c.in_ok-test.after.now next
    (c.in_ok-test.ensures.reads, c.in_ok-test.ensures.later) here c.in_ok-joint.ensures.shorter (omega (arith, c.in_ok-test.ensures.shorter, c.in_ok-joint.ensures.shorter)) in
    record {
      is_text = search rules;
      so_far = rw (c.in_ok-push.ensures.items) s;
      shorter = omega (arith, c.in_ok-test.ensures.shorter, c.in_ok-joint.ensures.shorter);
      any_good = c.loop-all.invariant.any_good;
      all_good = rw (c.in_ok-push.ensures.items) (All-push HasGoodPattern c.loop-all.all.items c.in_ok-test.test c.loop-all.invariant.all_good c.in_ok-test.ensures.grammar);
      faults = c.in_ok-test.ensures.cause.none (refl {a = 0}) ∙ c.loop-all.invariant.faults;
      asked = (
        c.loop-all.invariant.asked.0 ++ test_patterns c.loop-all.rest.now,
        goes_on_asking _ _ (λ refused. patterns_in refused c.args.text.now) c.loop-all.invariant.asked.1 c.in_ok-test.test c.in_ok-test.after.now next joint.And
            (c.in_ok-test.ensures.reads, c.in_ok-test.ensures.later) here (λ more. refl) c.in_ok-joint.ensures.shorter (omega (arith, c.in_ok-test.ensures.shorter, c.in_ok-joint.ensures.shorter)),
        built_behind c.loop-all.invariant.asked.0 (test_patterns c.loop-all.rest.now) _ _ _ c.loop-all.invariant.asked.2 c.in_ok-test.ensures.asks,
      );
    }

pub loop-all-preserved : goal.loop-all-preserved
loop-all-preserved g c =
    let next = c.in_ok-joint.next.now in
    let read : joint_at c.in_ok-test.after.now ≡ Ok (c.in_ok-joint.joint, next) = c.in_ok-joint.ensures.reads in
    let here : joint_at c.in_ok-test.after.now ≡ Ok (joint.Or, next) = read ∙ ap (λ (j : Joint). Ok (j, next)) c.in-Or.is in
    let s = goes_or _ _ _ (λ refused. all_tests refused c.args.text.now) c.loop-all.invariant.so_far c.in_ok-test.test c.in_ok-test.after.now next
    (c.in_ok-test.ensures.reads, c.in_ok-test.ensures.later) here c.in_ok-joint.ensures.shorter (omega (arith, c.in_ok-test.ensures.shorter, c.in_ok-joint.ensures.shorter)) in
    let good = good_more c.loop-all.any.items c.loop-all.all.items c.in_ok-test.test c.loop-all.invariant.any_good c.loop-all.invariant.all_good c.in_ok-test.ensures.grammar in
    record {
      is_text = search rules;
      so_far = rw (c.new-all-in-Or.ensures.items, c.in_ok-push-in-Or.ensures.items, c.of-in-Or.ensures, c.in_ok-push.ensures.items) s;
      shorter = omega (arith, c.in_ok-test.ensures.shorter, c.in_ok-joint.ensures.shorter);
      any_good = rw (c.in_ok-push-in-Or.ensures.items, c.of-in-Or.ensures, c.in_ok-push.ensures.items) good;
      all_good = search rules;
      faults = c.in_ok-test.ensures.cause.none (refl {a = 0}) ∙ c.loop-all.invariant.faults;
      asked = (
        c.loop-all.invariant.asked.0 ++ test_patterns c.loop-all.rest.now,
        goes_on_asking _ _ (λ refused. patterns_in refused c.args.text.now) c.loop-all.invariant.asked.1 c.in_ok-test.test c.in_ok-test.after.now next joint.Or
            (c.in_ok-test.ensures.reads, c.in_ok-test.ensures.later) here (λ more. refl) c.in_ok-joint.ensures.shorter (omega (arith, c.in_ok-test.ensures.shorter, c.in_ok-joint.ensures.shorter)),
        built_behind c.loop-all.invariant.asked.0 (test_patterns c.loop-all.rest.now) _ _ _ c.loop-all.invariant.asked.2 c.in_ok-test.ensures.asks,
      );
    }

pub returns-in_err-push-clause-asks : goal.returns-in_err-push-clause-asks
returns-in_err-push-clause-asks g c =
    let p = err_from_is_err_and c.from_residual-in_err-push.result c.from_residual-in_err-push.ensures.1 in
    rw (p.1, p.2) (asks_starved _ _ (λ refused. patterns_in refused c.args.text.now) c.loop-all.invariant.asked.1 _ _ _ c.loop-all.invariant.asked.2 (begins_built _ _ _ c.in_ok-test.ensures.asks))

pub returns-in_err-push-in-End-clause-asks : goal.returns-in_err-push-in-End-clause-asks
returns-in_err-push-in-End-clause-asks g c =
    let p = err_from_is_err_and c.from_residual-in_err-push-in-End.result c.from_residual-in_err-push-in-End.ensures.1 in
    rw (p.1, p.2) (asks_starved _ _ (λ refused. patterns_in refused c.args.text.now) c.loop-all.invariant.asked.1 _ _ _ c.loop-all.invariant.asked.2 (begins_built _ _ _ c.in_ok-test.ensures.asks))

pub returns-in_err-push-in-Or-clause-asks : goal.returns-in_err-push-in-Or-clause-asks
returns-in_err-push-in-Or-clause-asks g c =
    let p = err_from_is_err_and c.from_residual-in_err-push-in-Or.result c.from_residual-in_err-push-in-Or.ensures.1 in
    rw (p.1, p.2) (asks_starved _ _ (λ refused. patterns_in refused c.args.text.now) c.loop-all.invariant.asked.1 _ _ _ c.loop-all.invariant.asked.2 (begins_built _ _ _ c.in_ok-test.ensures.asks))

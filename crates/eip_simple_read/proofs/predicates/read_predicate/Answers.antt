use Rattle.std.proofs.Common.{ℕ, List, length, ◌∙◌, None, Err, ap, sym, subst}
use Rattle.eip_simple_read.specs.Builds.{any_patterns, patterns_in, IsAsked}
use Rattle.eip_simple_read.proofs.Laws.{any_stay}
use Rattle.eip_simple_read.specs.Meaning.{placed_stop}
use Rattle.eip_simple_read.proofs.AskedTests.{asked_stop}
use Rattle.eip_simple_read.proofs.AskedAll.{patterns_said}
use Rattle.eip_simple_read.proofs.predicates.read_predicate.Goals as goal

pub returns-in-Ok-clause-again : goal.returns-in-Ok-clause-again
returns-in-Ok-clause-again g c = any_stay c.as_str-whole.result.now c.in-Ok.any.items c.in-Ok.ensures.reads c.of.result c.of.ensures

pub returns-in-Ok-clause-spelled : goal.returns-in-Ok-clause-spelled
returns-in-Ok-clause-spelled g c = ap (patterns_in None) (sym c.as_str-whole.ensures) ∙ patterns_said _ _ c.in-Ok.ensures.reads ∙ ap any_patterns (sym c.of.ensures)

pub returns-in-Err-clause-asks : goal.returns-in-Err-clause-asks
returns-in-Err-clause-asks g c =
    let h = asked_stop c.as_str-whole.result.now c.in-Err.stop _ _ c.in-Err.ensures.reads c.in-Err.ensures.within c.in-Err.ensures.asks in
    rw c.fault.ensures (subst (λ (bs : List ℕ). IsAsked bs (Err (placed_stop (length c.as_str-whole.result.now) c.in-Err.stop)) (g.P.Patterns.pattern_builds c.args.patterns.now) (g.P.Patterns.pattern_builds c.all_tests.new.patterns)) c.as_str-whole.ensures h)

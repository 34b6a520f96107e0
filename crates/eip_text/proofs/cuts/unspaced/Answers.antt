use Rattle.std.proofs.Common.{sym, ◌∙◌, arith}
use Rattle.std.proofs.lemmas.Option.{MatchOption-at_none}
use Rattle.std.proofs.lemmas.Str.Pattern.{strip_prefix_char}
use Rattle.eip_text.proofs.Cutting.{unspaced_done}
use Rattle.eip_text.proofs.cuts.unspaced.Goals as goal

pub returns-clause-value : goal.returns-clause-value
returns-clause-value c =
    let h = MatchOption-at_none _ _ c.in_default.is (strip_prefix_char 32 c.loop-more.rest.now c.strip_prefix.result c.strip_prefix.ensures.cases (omega arith)) in
    sym (unspaced_done c.loop-more.rest.now h) ∙ c.loop-more.invariant.1

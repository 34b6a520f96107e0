use Rattle.std.proofs.Common.{sym, ◌∙◌}
use Rattle.eip_splitter.proofs.Ends.{without_empty, with_filled}
use Rattle.eip_splitter.proofs.token.kept_count.Goals as goal

pub returns-then-is_empty-clause-kept : goal.returns-then-is_empty-clause-kept
returns-then-is_empty-clause-kept c = without_empty c.args.pieces.now c.in-Some.front.now c.in-Some.last.now c.in-Some.ensures.cases.0 (sym c.is_empty.ensures ∙ c.if-is_empty.true)

pub returns-else-is_empty-clause-kept : goal.returns-else-is_empty-clause-kept
returns-else-is_empty-clause-kept c = with_filled c.args.pieces.now c.in-Some.front.now c.in-Some.last.now c.in-Some.ensures.cases.0 (sym c.is_empty.ensures ∙ c.if-is_empty.false)

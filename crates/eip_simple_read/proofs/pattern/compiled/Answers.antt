use Rattle.eip_simple_read.proofs.Refusals.{IsRefused-by_builder}
use Rattle.eip_simple_read.proofs.pattern.compiled.Goals as goal

pub returns-in-Err-Syntax-clause-bad : goal.returns-in-Err-Syntax-clause-bad
returns-in-Err-Syntax-clause-bad c = λ _.
    let kind = rw c.in-Err-Syntax.field-0-is at c.in-Err-Syntax.ensures.kind in
    let refuses = c.in-Err-Syntax.ensures.by_grammar c.in-Err-Syntax.field-0-0 c.in-Err-Syntax.field-0-is in
    IsRefused-by_builder c.args.source.now c.bytes.result c.new.result c.size_limit.result c.in-Err-Syntax.field-0-0.kind c.new.ensures.source c.new.ensures.config c.size_limit.ensures kind refuses

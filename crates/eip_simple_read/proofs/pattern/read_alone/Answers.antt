use Rattle.std.proofs.Common.{subst}
use Rattle.regex_syntax.specs.declared.Config.{Config}
use Rattle.regex_syntax.specs.Verdict.{Refuses}
use Rattle.eip_simple_read.proofs.Refusals.{IsRefused-by_grammar}
use Rattle.eip_simple_read.proofs.pattern.read_alone.Goals as goal

pub returns-in_default : goal.returns-in_default
returns-in_default c =
    let refuses = subst (λ (g : Config). Refuses g c.args.source.now c.in-Err.error.kind) c.default.ensures c.in-Err.ensures.err in
    record {
      grammar = tt;
      bad = λ _. IsRefused-by_grammar c.args.source.now c.in-Err.error.kind c.in_default.not-OutOfMemory refuses;
      never = λ h. cc;
    }

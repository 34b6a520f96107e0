use Rattle.eip_text.proofs.Wholes.{IsUtf8-whole}
use Rattle.eip_text.proofs.numbers.read_i64.Goals as goal

pub returns-in_default : goal.returns-in_default
returns-in_default c = λ w. c.in_default.ensures.cases.0 (IsUtf8-whole c.args.bytes.now w)

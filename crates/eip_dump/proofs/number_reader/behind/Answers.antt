use Rattle.eip_dump.proofs.Words.{stripped}
use Rattle.eip_dump.proofs.number_reader.behind.Goals as goal

pub returns : goal.returns
returns c = stripped c.args.word.now c.args.bytes.now c.strip_prefix.result c.strip_prefix.ensures.cases

use Rattle.std.proofs.Common.{ap, ◌∙◌}
use Rattle.eip_text.specs.Numbers.{whole_of}
use Rattle.eip_text.proofs.WholeNumbers.{whole_is}
use Rattle.eip_route_grammar.proofs.texts.whole.Goals as goal

pub returns : goal.returns
returns c = whole_is c.as_bytes.result.now c.read_i64.result c.read_i64.ensures ∙ ap whole_of c.as_bytes.ensures.value

use Rattle.std.proofs.lemmas.Bool.{both_ways}
use Rattle.std.proofs.Common.{ap, arith}
use Rattle.serde_json.specs.View.{view}
use Rattle.eip_text.specs.JsonText.{nesting}
use Rattle.eip_text.proofs.Canonical.{canonical-read, nesting-data}
use Rattle.eip_text.proofs.Readings.{json_read-some, json_read-none}
use Rattle.eip_text.proofs.json_reader.read_json.Goals as goal

pub returns-in_ok-tree_of-in-Ok-clause-tree : goal.returns-in_ok-tree_of-in-Ok-clause-tree
returns-in_ok-tree_of-in-Ok-clause-tree c = json_read-some c.args.bytes.now _ _ c.in-Ok.ensures.ok.0 c.in-Ok.ensures.ok.1 c.in_ok-tree_of-in-Ok.ensures

pub returns-in_ok-tree_of-in-Ok-clause-canonical : goal.returns-in_ok-tree_of-in-Ok-clause-canonical
returns-in_ok-tree_of-in-Ok-clause-canonical c = canonical-read c.args.bytes.now _ _ c.in-Ok.ensures.ok.1 c.in_ok-tree_of-in-Ok.ensures

pub returns-in_ok-tree_of-in-Ok-clause-nests : goal.returns-in_ok-tree_of-in-Ok-clause-nests
returns-in_ok-tree_of-in-Ok-clause-nests c = omega (arith, ap nesting c.in_ok-tree_of-in-Ok.ensures, nesting-data (view c.in-Ok.value), c.in-Ok.ensures.nests)

pub returns-in-Err-2-clause-not_json : goal.returns-in-Err-2-clause-not_json
returns-in-Err-2-clause-not_json c = λ _.
    json_read-none c.args.bytes.now
    (c.in-Err.ensures.err (λ memory. both_ways c.is_memory.result c.if-is_memory.false (c.is_memory.ensures.1 memory)))

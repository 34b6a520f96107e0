use Rattle.std.proofs.Common.{◌≡◌, drop}
use Rattle.eip_endpoint.specs.MemorySources.{listed}
use Rattle.eip_endpoint.proofs.memory_source.find_answer.Given as goal

abbrev pub invariant-loop-pair : goal.invariant-loop-pair
invariant-loop-pair l = listed l.uri l.items ≡ listed l.uri (drop l.pair-index l.items)

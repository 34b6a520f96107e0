use Rattle.std.proofs.Common.{◌≡◌, ◌++◌, map, drop}
use Rattle.eip_uri.specs.Printed.{printed}
use Rattle.eip_meaning.specs.Parts.{send_seed}
use Rattle.eip_parts.proofs.fans.recipient_seeds.Given as goal

abbrev pub invariant-loop-uri : goal.invariant-loop-uri
invariant-loop-uri l = l.seeds.items ++ map (λ u. send_seed l.care (printed u) l.message) (drop l.uri-index l.uris) ≡ map (λ u. send_seed l.care (printed u) l.message) l.uris

use Rattle.std.proofs.Common.{◌≡◌, drop}
use Rattle.eip_exchange.specs.Headers.{get_header}
use Rattle.eip_splitter.proofs.keys.header_in.Given as goal

abbrev pub invariant-loop-pair : goal.invariant-loop-pair
invariant-loop-pair l = get_header l.name (drop l.pair-index l.headers) ≡ get_header l.name l.headers

use Rattle.std.proofs.Common.{None}
use Rattle.eip_join.proofs.Lookups.{puts_where}
use Rattle.eip_join.proofs.maps.unindex.Goals as goal

pub returns-then-count-gt0 : goal.returns-then-count-gt0
returns-then-count-gt0 c =
    puts_where c.args.parents.now.entries c.take.new.map.entries c.args.count c.args.first None c.if-count-gt0.true
    c.take.ensures.rest

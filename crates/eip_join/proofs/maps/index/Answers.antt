use Rattle.std.proofs.Common.{Some}
use Rattle.eip_join.proofs.Lookups.{puts_where}
use Rattle.eip_join.proofs.maps.index.Goals as goal

pub returns-in_ok-put-clause-ok : goal.returns-in_ok-put-clause-ok
returns-in_ok-put-clause-ok c =
    puts_where c.args.parents.now.entries c.put.new.map.entries c.args.count c.args.first (Some c.args.parent) c.if-count-gt0.true
    c.in_ok-put.ensures.ok

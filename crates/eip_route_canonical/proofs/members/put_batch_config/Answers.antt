use Rattle.std.proofs.Common.{◌≡◌, ◌++◌, OnOk, codes, subst}
use Rattle.eip_route_canonical.specs.Canonical.{Pairs, where_any}
use Rattle.eip_route_canonical.specs.Trees.{made}
use Rattle.eip_route_canonical.proofs.members.put_batch_config.Goals as goal

pub returns : goal.returns
returns c =
    subst (λ (ps : Pairs). OnOk c.put_any.result (made c.put_any.new.self ≡ made c.args.object.now ++ where_any (codes "batchConfig") ps)) c.in_ok-batch_config.ensures c.put_any.ensures

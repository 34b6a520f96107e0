use Rattle.std.proofs.Common.{◌≡◌, ◌++◌, OnOk, codes, ap, sym, subst, ◌∙◌, arith}
use Rattle.eip_text.specs.Json.{json}
use Rattle.eip_route.specs.Nest.{catchings_of}
use Rattle.eip_route_canonical.proofs.Loops.{catches_put}
use Rattle.eip_route_canonical.specs.Canonical.{Pairs, one, list_of, catches_json}
use Rattle.eip_route_canonical.specs.Trees.{made, left}
use Rattle.eip_route_canonical.proofs.steps.put_catches.Goals as goal

pub returns-in_ok-list-in-len1-up-clause-member : goal.returns-in_ok-list-in-len1-up-clause-member
returns-in_ok-list-in-len1-up-clause-member c =
    let cs = c.args.catches.now in
    let gs = left c.args.groups.now in
    let value : json c.in_ok-list-in-len1-up.list ≡ list_of (catches_json (catchings_of cs) gs) = c.in_ok-list-in-len1-up.ensures.trees in
    subst (λ (ps : Pairs). OnOk c.put.result (made c.put.new.self ≡ made c.args.object.now ++ ps))
    (ap (one (codes "doCatch")) value ∙ sym (catches_put cs gs c.in-len1-up.len_at_least)) c.put.ensures

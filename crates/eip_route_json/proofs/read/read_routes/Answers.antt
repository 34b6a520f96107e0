use Rattle.std.proofs.Common.{refl}
use Rattle.eip_simple_read.proofs.Asked.{begins_nothing}
use Rattle.eip_route_json.proofs.Walked.{refuses_long, refuses_other, asks_long, asks_other}
use Rattle.eip_route_json.proofs.read.read_routes.Goals as goal

pub returns-then-is_too_long : goal.returns-then-is_too_long
returns-then-is_too_long g c = record {
  reads = refuses_long _ _ _ _ _ c.is_too_long.ensures c.if-is_too_long.true c.refused.ensures;
  asks = asks_long _ _ _ _ _ c.is_too_long.ensures c.if-is_too_long.true c.refused.ensures;
}

pub returns-in-Err-NotJson : goal.returns-in-Err-NotJson
returns-in-Err-NotJson g c =
    let none = (let r = rw c.in-Err-NotJson.field-0-is at c.in-Err-NotJson.ensures.not_json in r refl) in
    record {
      reads = refuses_other _ _ _ _ _ c.is_too_long.ensures c.if-is_too_long.false none c.refused-in-Err-NotJson.ensures;
      asks = asks_other _ _ _ _ _ c.is_too_long.ensures c.if-is_too_long.false none c.refused-in-Err-NotJson.ensures;
    }

pub returns-in-Err-NoMemory-clause-asks : goal.returns-in-Err-NoMemory-clause-asks
returns-in-Err-NoMemory-clause-asks g c = begins_nothing _ _ _ refl

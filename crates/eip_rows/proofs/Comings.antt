-- What came of an arrival, said of whatever the exchange asks.
use Rattle.std.proofs.Common.{◌≡◌, ℕ, List, Option, Some, None, subst}
use Rattle.eip_exchange.specs.declared.message.Message.{Message}
use Rattle.eip_route.specs.declared.route.RouteSet.{RouteSet}
use Rattle.eip_frames.specs.declared.request.Request.TheVariants.{Arrive}
use Rattle.eip_aggregator.specs.Tables.{Table}
use Rattle.eip_aggregator.specs.declared.closed.Arrived.{Arrived}
use Rattle.eip_aggregator.specs.declared.closed.Closed.{Closed}
use Rattle.eip_tables.specs.Row.{Row}
use Rattle.eip_rows.specs.Coming.{Joins, Comes, ComesTo, outcome}
use Rattle.eip_rows.specs.declared.coming.Coming.{Coming}

pub comes-to : (set : RouteSet) (r : Row) (a : ℕ) (key : List ℕ) (m : Message) (number clock : ℕ) (old new : Table) (came : Coming)
    → r.request ≡ Some (Arrive a key m) → Comes set r a key m number clock old new came → ComesTo set r number clock old new came
comes-to set r a key m number clock old new came is h b other n at =
    let same : Arrive a key m ≡ Arrive b other n = cc in
    let aggregator : a ≡ b = cc in
    let keys : key ≡ other = cc in
    let messages : m ≡ n = cc in
    subst (λ (x : ℕ). Comes set r x other n number clock old new came) aggregator
    (subst (λ (x : List ℕ). Comes set r a x n number clock old new came) keys
    (subst (λ (x : Message). Comes set r a key x number clock old new came) messages h))

-- who joins comes to what that arrival is
pub joins-comes : (set : RouteSet) (r : Row) (a : ℕ) (key : List ℕ) (m : Message) (number clock : ℕ) (old new : Table) (answer : Arrived)
    → Joins set r a key m number clock old new answer → Comes set r a key m number clock old new (outcome answer)
joins-comes set r a key m number clock old new answer h = by_closed answer.closed h
  where
    by_closed : (o : Option Closed) → Joins set r a key m number clock old new (record { group = answer.group; closed = o })
        → Comes set r a key m number clock old new (outcome (record { group = answer.group; closed = o }))
    by_closed None h = h
    by_closed (Some closed) h = (answer.group, h)

-- The queues behind an entry by which an exchange ends.
use Rattle.std.proofs.Common.{◌≡◌, ℕ, true, false, List, ◌∷◌, Some, is_some, sym, ap, subst, ◌∙◌}
use Rattle.eip_exchange.specs.declared.birth.Birth.{Birth}
use Rattle.eip_exchange.specs.declared.birth.Origin.{Origin}
use Rattle.eip_exchange.specs.declared.birth.Origin.TheVariants as from
use Rattle.eip_exchange.specs.declared.end.End.{End}
use Rattle.eip_exchange.specs.declared.message.Message.{Message}
use Rattle.eip_route.specs.declared.route.RouteSet.{RouteSet}
use Rattle.eip_frames.specs.Fate.{Ends}
use Rattle.eip_ledger.specs.declared.entry.Entry.{Entry}
use Rattle.eip_ledger.specs.declared.entry.Kind.{Kind}
use Rattle.eip_seda.specs.Consuming.{QueueView}
use Rattle.eip_history.specs.Plan.{Plan}
use Rattle.eip_history.specs.Own.{Past, numbered}
use Rattle.eip_history.specs.Births.{births, fate}
use Rattle.eip_history.specs.Place.{ended, end_of, is_born_into}
use Rattle.eip_history.specs.Rules.{KeepsRules}
use Rattle.eip_history.proofs.Places.{ended-is}
use Rattle.eip_history.proofs.Unborn.{birth-stays}
use Rattle.eip_plan.specs.Plan.{plan_of}
use Rattle.eip_tables.specs.declared.row.Born.{Born}
use Rattle.eip_tables.specs.declared.row.Born.TheVariants as made
use Rattle.eip_tables.specs.Queues.{QueuesStand, MayLeave, Leaves}
use Rattle.eip_tables.specs.Rows.{ComesFrom}
use Rattle.eip_table_laws.proofs.QueueCalls.{IsLeaving, queues-apart, queues-left, queues-busy}
use Rattle.eip_table_laws.proofs.RowPlaces.{born-origin}

-- an exchange whose fate is an end behind an entry has ended there
pub ends-some : (s : Plan) (e : Entry) (past : Past) (x : ℕ) (b : Birth) (n : End) (m : Message) → numbered (births s past) x ≡ Some b → fate s (e ∷ past) b ≡ Ends n m → is_some (ended s (e ∷ past) x) ≡ true
ends-some s e past x b n m at h = ap is_some (ended-is s (e ∷ past) x b (birth-stays s e past x b at) ∙ ap end_of h)

not-into : (q : ℕ) (o : Origin) (r : ℕ) (i : List ℕ) → o ≡ from.Source r i → is_born_into q o ≡ false
not-into q o r i h = ap (is_born_into q) h

module _ {set : RouteSet} {past : Past} (workers limit w x : ℕ) (k : Kind) (b : Birth) (queues : List QueueView) (of : IsLeaving x k)
    (legal : KeepsRules (plan_of set) workers limit ((record { worker = w; kind = k }) ∷ past)) (at : numbered (births (plan_of set) past) x ≡ Some b)
    (gone : is_some (ended (plan_of set) ((record { worker = w; kind = k }) ∷ past) x) ≡ true) (st : QueuesStand set past queues) where
  -- its consumer has been counted
  pub may-leave : (o : Born) → ComesFrom (plan_of set) past o b → MayLeave o queues
  may-leave (made.Item i) h = tt
  may-leave (made.Part y j) h = tt
  may-leave (made.Group y c) h = tt
  may-leave (made.Copy q) h = queues-busy set workers limit w x q k past b queues of legal at h gone st

  pub queues-ended : (o : Born) (new : List QueueView) → ComesFrom (plan_of set) past o b → Leaves o queues new → QueuesStand set ((record { worker = w; kind = k }) ∷ past) new
  queues-ended (made.Item i) new h l =
      subst (λ (qs : List QueueView). QueuesStand set ((record { worker = w; kind = k }) ∷ past) qs) (sym l)
      (queues-apart set workers limit w x k past b queues of legal at (λ q. not-into q b.origin h.source h.item (born-origin (plan_of set) past i b h)) st)
  queues-ended (made.Part y j) new h l =
      subst (λ (qs : List QueueView). QueuesStand set ((record { worker = w; kind = k }) ∷ past) qs) (sym l)
      (queues-apart set workers limit w x k past b queues of legal at (λ q. ap (is_born_into q) h) st)
  queues-ended (made.Group y c) new h l =
      subst (λ (qs : List QueueView). QueuesStand set ((record { worker = w; kind = k }) ∷ past) qs) (sym l)
      (queues-apart set workers limit w x k past b queues of legal at (λ q. ap (is_born_into q) h) st)
  queues-ended (made.Copy q) new h l = queues-left set workers limit w x q k past b queues new of legal at h gone l st

-- Owners are workers, and a past stays owned where each entry is its owner's.
use Rattle.std.proofs.Common.{ℕ, ◌≤◌, [], ◌∷◌, arith}
use Rattle.eip_ledger.specs.declared.entry.Entry.{Entry}
use Rattle.eip_history.specs.Plan.{Plan}
use Rattle.eip_history.specs.Own.{Past}
use Rattle.eip_history.specs.Owner.{owner, Outlets, outlet_in, IsOwner, IsOwned}

-- the owner is one of the workers
pub owner-within : (workers e : ℕ) → 1 ≤ workers → (1 ≤ owner workers e) × (owner workers e ≤ workers)
owner-within workers e l = (omega arith, omega (arith, l))

pub owned-none : (s : Plan) (o : Outlets) (workers : ℕ) → IsOwned s o workers []
unfolding IsOwned
owned-none s o workers = tt

pub owned-add : (s : Plan) (o : Outlets) (workers : ℕ) (e : Entry) (past : Past) → IsOwned s o workers past
    → IsOwner workers e.worker (outlet_in s o past e.kind) → IsOwned s o workers (e ∷ past)
unfolding IsOwned
owned-add s o workers e past h g = (h, g)

pub owned-tail : (s : Plan) (o : Outlets) (workers : ℕ) (e : Entry) (past : Past) → IsOwned s o workers (e ∷ past) → IsOwned s o workers past
unfolding IsOwned
owned-tail s o workers e past h = h.0

pub owned-newest : (s : Plan) (o : Outlets) (workers : ℕ) (e : Entry) (past : Past) → IsOwned s o workers (e ∷ past)
    → IsOwner workers e.worker (outlet_in s o past e.kind)
unfolding IsOwned
owned-newest s o workers e past h = h.1

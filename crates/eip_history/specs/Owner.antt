-- Which worker a lane or an inlet belongs to, and that each made its own entries.
use Rattle.std.specs.Prelude.{ℕ, ◌≡◌, ◌+◌, ◌%◌, true, [], ◌∷◌, Option, Some, None}
use Rattle.eip_exchange.specs.declared.birth.Birth.{Birth}
use Rattle.eip_exchange.specs.declared.birth.Origin.{Origin}
use Rattle.eip_exchange.specs.declared.birth.Origin.TheVariants as from
use Rattle.eip_frames.specs.declared.request.Request.{Request}
use Rattle.eip_frames.specs.declared.request.Request.TheVariants.{Send, Finish}
use Rattle.eip_frames.specs.declared.request.Target.{Target}
use Rattle.eip_ledger.specs.declared.entry.Kind.{Kind}
use Rattle.eip_ledger.specs.declared.entry.Kind.TheVariants.{Pull, Answer}
use Rattle.eip_history.specs.Plan.{Plan}
use Rattle.eip_history.specs.Own.{Past}
use Rattle.eip_history.specs.Births.{Asked, asked}

-- the owner of the lane or inlet with index e, where the workers are numbered from 1
abbrev pub owner : ℕ → ℕ → ℕ
owner workers e = e % workers + 1

-- the indices, from 0, of the inlet of a source's route and of the lane that a target is sent on
pub record Outlets : Type 0 where
  pub inlet : ℕ → ℕ
  pub lane : Target → ℕ

-- the inlet that an exchange came in by
abbrev pub inlet_from : Outlets → Origin → Option ℕ
inlet_from o (from.Source route item) = Some (o.inlet route)
inlet_from o _ = None

-- the lane of a Send, or the inlet that a Finish with commit tells
abbrev pub outlet_for : Outlets → Birth → Request → Option ℕ
outlet_for o b (Send t m) = Some (o.lane t)
outlet_for o b (Finish e m true) = inlet_from o b.origin
outlet_for o b _ = None

-- none where nobody asks
abbrev pub outlet_by : Outlets → Option Asked → Option ℕ
outlet_by o (Some k) = outlet_for o k.birth k.request
outlet_by o None = None

-- the lane or inlet that an entry was made on
abbrev pub outlet_in : Plan → Outlets → Past → Kind → Option ℕ
outlet_in s o past (Pull t) = Some (o.inlet t)
outlet_in s o past (Answer x a) = outlet_by o (asked s past x)
outlet_in s o past _ = None

-- the worker is the owner of the lane or inlet, if there is one
abbrev pub IsOwner : ℕ → ℕ → Option ℕ → Type 0
IsOwner workers w (Some e) = w ≡ owner workers e
IsOwner workers w None = Unit {0}

-- each Pull, and each answer to a Send or to a Finish with commit, is an entry of the owner
unfoldable pub IsOwned : Plan → Outlets → ℕ → Past → Type 0
IsOwned s o workers [] = Unit {0}
IsOwned s o workers (e ∷ past) = IsOwned s o workers past × IsOwner workers e.worker (outlet_in s o past e.kind)

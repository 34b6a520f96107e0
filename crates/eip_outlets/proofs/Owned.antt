-- The test of an owner is the rule of it.
use Rattle.std.proofs.Common.{◌≡◌, ℕ, Bool, true, false, Option, Some, None, refl}
use Rattle.std.proofs.lemmas.Bool.{eqb-true}
use Rattle.eip_exchange.specs.declared.birth.Birth.{Birth}
use Rattle.eip_exchange.specs.declared.birth.Origin.{Origin}
use Rattle.eip_exchange.specs.declared.birth.Origin.TheVariants as from
use Rattle.eip_frames.specs.declared.request.Request.{Request}
use Rattle.eip_frames.specs.declared.request.Request.TheVariants.{Finish}
use Rattle.eip_history.specs.Owner.{owner, Outlets, outlet_for, IsOwner}
use Rattle.eip_outlets.specs.Outlets.{is_owner, route_from, outlet_from}

pub owner-is : (workers w : ℕ) (o : Option ℕ) → is_owner workers w o ≡ true → IsOwner workers w o
owner-is workers w (Some e) h = eqb-true w (owner workers e) h
owner-is workers w None h = tt

-- the outlet of an exchange's request, by where the exchange comes from
pub outlet-from : (o : Outlets) (b : Birth) (q : Request) → outlet_from o (route_from b.origin) q ≡ outlet_for o b q
outlet-from o b (Finish e m commit) = by_origin b.origin refl commit
  where
    by_origin : (r : Origin) → b.origin ≡ r → (v : Bool) → outlet_from o (route_from b.origin) (Finish e m v) ≡ outlet_for o b (Finish e m v)
    by_origin (from.Source t item) same true = rw same refl
    by_origin (from.Queue t) same true = rw same refl
    by_origin (from.Part parent index) same true = rw same refl
    by_origin (from.Group group) same true = rw same refl
    by_origin (from.Source t item) same false = rw same refl
    by_origin (from.Queue t) same false = rw same refl
    by_origin (from.Part parent index) same false = rw same refl
    by_origin (from.Group group) same false = rw same refl
outlet-from o b q = refl

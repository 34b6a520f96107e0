-- A valid set can be run over all that is handed in, with whose names it was read.
use Rattle.std.proofs.Common.{◌≡◌, ◌≤◌, Bool, true, false, cond, length, Option, Some, None, refl}
use Rattle.std.specs.Prelude.{nat_lt}
use Rattle.std.proofs.lemmas.Bool.{ltb-false}
use Rattle.eip_route.specs.Faults.{or_else, set_fault}
use Rattle.eip_route.specs.Valid.{IsValid}
use Rattle.eip_route.specs.declared.fault.SetFault.{SetFault}
use Rattle.eip_route.specs.declared.fault.SetFault.TheVariants.{TooManyRoutes}
use Rattle.eip_route.specs.declared.route.Names.{Names}
use Rattle.eip_route.specs.declared.route.RouteSet.{RouteSet}
use Rattle.eip_core.specs.Doors.{CanRun}

-- ---- the set

-- a set that can be run, of few routes
pub record Runs (set : RouteSet) (names : Names) : Type 0 where
  pub can_run : CanRun set names
  pub few : length set.routes ≤ 256

few-routes : (set : RouteSet) → set_fault set ≡ None → length set.routes ≤ 256
unfolding set_fault
few-routes set h = by_count _ (nat_lt 256 (length set.routes)) h (ltb-false 256 (length set.routes))
  where
    by_count : (later : Option SetFault) (b : Bool) → or_else (cond b (Some TooManyRoutes) None) later ≡ None → (b ≡ false → length set.routes ≤ 256) → length set.routes ≤ 256
    by_count later true h few = absurd (cc h)
    by_count later false h few = few refl

pub valid-runs : (n : Names) (set : RouteSet) → IsValid set → set.names ≡ n → Runs set n
valid-runs n set valid same = record { can_run = record { valid = valid; named = same }; few = few-routes set valid.checked }

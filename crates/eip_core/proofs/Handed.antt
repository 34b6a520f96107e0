-- A set that can be run has an inlet for each of its sources, and each lane that it names.
use Rattle.std.proofs.Common.{◌≡◌, ℕ, zero, suc, ◌+◌, ◌&&◌, ◌||◌, Bool, true, false, cond, List, [], ◌∷◌, Option, Some, None, refl, subst, arith}
use Rattle.std.specs.Prelude.{All, bytes_eq, is_some}
use Rattle.std.specs.Option.{IsSome}
use Rattle.std.specs.List.{slice_get, position_from}
use Rattle.std.proofs.lemmas.Bool.{and_parts}
use Rattle.eip_text.specs.Names.{is_name}
use Rattle.eip_uri.specs.Inlets.{inlet_of}
use Rattle.eip_uri.specs.Ranges.{is_uri}
use Rattle.eip_uri.specs.Sides.{is_consumer}
use Rattle.eip_route.specs.Goals.{is_among}
use Rattle.eip_route.specs.Valid.{is_given_among, is_source, is_route}
use Rattle.eip_route.specs.declared.route.Names.{Names}
use Rattle.eip_route.specs.declared.route.Route.{Route}
use Rattle.eip_route.specs.declared.route.RouteSet.{RouteSet}
use Rattle.eip_plan.specs.Plan.{is_source_route, plan_of}
use Rattle.eip_core.specs.Doors.{inlet_named, inlet_at, HasInlets, HasLanes, CanRun}

-- ---- what is handed in is found

among-named : (name : List ℕ) (names : List (List ℕ)) (k : ℕ) → is_among name names ≡ true → IsSome (position_from (λ m. bytes_eq m name) k names)
among-named name [] k h = absurd (cc h)
among-named name (x ∷ xs) k h = by_first (bytes_eq x name) h (among-named name xs (k + 1))
  where
    by_first : (b : Bool) → (b || is_among name xs) ≡ true → (is_among name xs ≡ true → IsSome (position_from (λ m. bytes_eq m name) (k + 1) xs))
        → IsSome (cond b (Some k) (position_from (λ m. bytes_eq m name) (k + 1) xs))
    by_first true h later = refl
    by_first false h later = later h

-- ---- sources

given-named : (inlets : List (List ℕ)) (o : Option (List ℕ)) → is_some o ≡ true → is_given_among o inlets ≡ true → IsSome (inlet_named inlets o)
given-named inlets None s h = absurd (cc s)
given-named inlets (Some name) s h = among-named name inlets 0 h

-- a route that is read by an inlet has it
inlets-of : (n : Names) (rs : List Route) (t : ℕ) → All (λ (r : Route). is_route n r ≡ true) rs → is_source_route (slice_get rs t) ≡ true → IsSome (inlet_at n.inlets (slice_get rs t))
inlets-of n [] t valid source = absurd (cc source)
inlets-of n (r ∷ rs) zero valid source =
    let begins = (and_parts (is_name r.id) (is_source n r.from) (valid 0 r (omega arith))).1 in
    given-named n.inlets (inlet_of r.from) source (and_parts (is_uri r.from && is_consumer r.from) (is_given_among (inlet_of r.from) n.inlets) begins).1
inlets-of n (r ∷ rs) (suc t) valid source = inlets-of n rs t (λ k d inside. valid (suc k) d (omega (arith, inside))) source

has-inlets : (n : Names) (set : RouteSet) → All (λ (r : Route). is_route n r ≡ true) set.routes → HasInlets set n.inlets
unfolding plan_of
has-inlets n set valid t is = inlets-of n set.routes t valid is.1

-- ---- lanes

has-lanes : (set : RouteSet) → HasLanes set set.names.lanes
has-lanes set name h = among-named name set.names.lanes 0 h

-- ---- the set

pub runs-inlets : {set : RouteSet} {names : Names} → CanRun set names → HasInlets set names.inlets
runs-inlets {set} can = subst (λ (n : Names). HasInlets set n.inlets) can.named (has-inlets set.names set can.valid.routes)

pub runs-lanes : {set : RouteSet} {names : Names} → CanRun set names → HasLanes set names.lanes
runs-lanes {set} can = subst (λ (n : Names). HasLanes set n.lanes) can.named (has-lanes set)

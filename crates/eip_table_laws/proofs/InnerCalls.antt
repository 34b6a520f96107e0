-- What an exchange that was looked at asks for, and what is made of it.
use Rattle.std.proofs.Common.{◌≡◌, ◌≢◌, ℕ, ◌-◌, true, false, List, Option, Some, refl, ap, map, arith}
use Rattle.std.specs.List.{slice_get}
use Rattle.eip_route.specs.declared.route.RouteSet.{RouteSet}
use Rattle.eip_frames.specs.declared.request.Request.{Request}
use Rattle.eip_frames.specs.declared.request.Request.TheVariants as request
use Rattle.eip_frames.specs.Fits.{is_outside}
use Rattle.eip_history.specs.Own.{Past}
use Rattle.eip_history.specs.Births.{asked, Asked as HasAsked}
use Rattle.eip_history.specs.Rules.{outside_asked}
use Rattle.eip_plan.specs.Plan.{plan_of}
use Rattle.eip_ledger.specs.declared.place.Place.TheVariants as place_is
use Rattle.eip_history.specs.Place.{place}
use Rattle.eip_tables.specs.Row.{Row}
use Rattle.eip_tables.specs.State.{known_of}
use Rattle.eip_tables.specs.Stands.{Tables, Stands}
use Rattle.eip_table_laws.proofs.LookCalls.{known-state}
use Rattle.eip_table_laws.proofs.OwnCalls.{asked-there}
use Rattle.eip_tables.specs.declared.asking.Asked.TheVariants as kind
use Rattle.eip_tables.specs.Offers.{AsksOffer, AsksCall}
use Rattle.eip_tables.specs.Asking.{asked_kind, is_outside_kind, AsksLine, AsksEnd, AsksParts, AsksEnds, AsksMoment, AsksGroup, AsksKey}

pub kind-outside : (q : Request) → is_outside_kind (asked_kind q) ≡ is_outside q
kind-outside (request.Finish e m true) = refl
kind-outside (request.Finish e m false) = refl
kind-outside _ = refl

pub kind-known : (q : Request) → asked_kind q ≢ kind.Unknown
kind-known (request.Finish e m true) h = cc h
kind-known (request.Finish e m false) h = cc h
kind-known _ h = cc h

pub kind-line : (known : List (Option Request)) (x : ℕ) (q : Request) → slice_get known (x - 1) ≡ Some (Some q) → asked_kind q ≡ kind.Line → AsksLine known x
kind-line known x (request.Log n t) at h = record { name = n; text = t; asks = at }
kind-line known x (request.Finish e m true) at h = absurd (cc h)
kind-line known x (request.Finish e m false) at h = absurd (cc h)
kind-line known x (request.Send t m) at h = absurd (cc h)
kind-line known x (request.Process n m) at h = absurd (cc h)
kind-line known x (request.Test n m) at h = absurd (cc h)
kind-line known x _ at h = absurd (cc h)

pub kind-end : (known : List (Option Request)) (x : ℕ) (q : Request) → slice_get known (x - 1) ≡ Some (Some q) → asked_kind q ≡ kind.End → AsksEnd known x
kind-end known x (request.Finish e m false) at h = record { end = e; message = m; asks = at }
kind-end known x (request.Finish e m true) at h = absurd (cc h)
kind-end known x (request.Log n t) at h = absurd (cc h)
kind-end known x (request.Send t m) at h = absurd (cc h)
kind-end known x (request.Process n m) at h = absurd (cc h)
kind-end known x (request.Test n m) at h = absurd (cc h)
kind-end known x _ at h = absurd (cc h)

pub kind-copy : (known : List (Option Request)) (x : ℕ) (q : Request) → slice_get known (x - 1) ≡ Some (Some q) → asked_kind q ≡ kind.Copy → AsksOffer known x
kind-copy known x (request.Offer u d m) at h = record { queue = u; discard = d; message = m; asks = at }
kind-copy known x (request.Finish e m true) at h = absurd (cc h)
kind-copy known x (request.Finish e m false) at h = absurd (cc h)
kind-copy known x (request.Send t m) at h = absurd (cc h)
kind-copy known x (request.Process n m) at h = absurd (cc h)
kind-copy known x (request.Test n m) at h = absurd (cc h)
kind-copy known x _ at h = absurd (cc h)

pub kind-route : (known : List (Option Request)) (x : ℕ) (q : Request) → slice_get known (x - 1) ≡ Some (Some q) → asked_kind q ≡ kind.Route → AsksCall known x
kind-route known x (request.Call r) at h = record { route = r; asks = at }
kind-route known x (request.Finish e m true) at h = absurd (cc h)
kind-route known x (request.Finish e m false) at h = absurd (cc h)
kind-route known x (request.Send t m) at h = absurd (cc h)
kind-route known x (request.Process n m) at h = absurd (cc h)
kind-route known x (request.Test n m) at h = absurd (cc h)
kind-route known x _ at h = absurd (cc h)

pub kind-parts : (known : List (Option Request)) (x : ℕ) (q : Request) → slice_get known (x - 1) ≡ Some (Some q) → asked_kind q ≡ kind.Parts → AsksParts known x
kind-parts known x (request.Spawn seeds) at h = record { seeds = seeds; asks = at }
kind-parts known x (request.Finish e m true) at h = absurd (cc h)
kind-parts known x (request.Finish e m false) at h = absurd (cc h)
kind-parts known x (request.Send t m) at h = absurd (cc h)
kind-parts known x (request.Process n m) at h = absurd (cc h)
kind-parts known x (request.Test n m) at h = absurd (cc h)
kind-parts known x _ at h = absurd (cc h)

pub kind-ends : (known : List (Option Request)) (x : ℕ) (q : Request) → slice_get known (x - 1) ≡ Some (Some q) → asked_kind q ≡ kind.Ends → AsksEnds known x
kind-ends known x (request.Join first count) at h = record { first = first; count = count; asks = at }
kind-ends known x (request.Finish e m true) at h = absurd (cc h)
kind-ends known x (request.Finish e m false) at h = absurd (cc h)
kind-ends known x (request.Send t m) at h = absurd (cc h)
kind-ends known x (request.Process n m) at h = absurd (cc h)
kind-ends known x (request.Test n m) at h = absurd (cc h)
kind-ends known x _ at h = absurd (cc h)

pub kind-moment : (known : List (Option Request)) (x : ℕ) (q : Request) → slice_get known (x - 1) ≡ Some (Some q) → asked_kind q ≡ kind.Moment → AsksMoment known x
kind-moment known x (request.Wait ticks) at h = record { ticks = ticks; asks = at }
kind-moment known x (request.Finish e m true) at h = absurd (cc h)
kind-moment known x (request.Finish e m false) at h = absurd (cc h)
kind-moment known x (request.Send t m) at h = absurd (cc h)
kind-moment known x (request.Process n m) at h = absurd (cc h)
kind-moment known x (request.Test n m) at h = absurd (cc h)
kind-moment known x _ at h = absurd (cc h)

pub kind-group : (known : List (Option Request)) (x : ℕ) (q : Request) → slice_get known (x - 1) ≡ Some (Some q) → asked_kind q ≡ kind.Group → AsksGroup known x
kind-group known x (request.Arrive a key m) at h = record { aggregator = a; key = key; message = m; asks = at }
kind-group known x (request.Finish e m true) at h = absurd (cc h)
kind-group known x (request.Finish e m false) at h = absurd (cc h)
kind-group known x (request.Send t m) at h = absurd (cc h)
kind-group known x (request.Process n m) at h = absurd (cc h)
kind-group known x (request.Test n m) at h = absurd (cc h)
kind-group known x _ at h = absurd (cc h)

pub kind-key : (known : List (Option Request)) (x : ℕ) (q : Request) → slice_get known (x - 1) ≡ Some (Some q) → asked_kind q ≡ kind.Key → AsksKey known x
kind-key known x (request.Idem r key eager remove) at h = record { repository = r; key = key; eager = eager; remove = remove; asks = at }
kind-key known x (request.Finish e m true) at h = absurd (cc h)
kind-key known x (request.Finish e m false) at h = absurd (cc h)
kind-key known x (request.Send t m) at h = absurd (cc h)
kind-key known x (request.Process n m) at h = absurd (cc h)
kind-key known x (request.Test n m) at h = absurd (cc h)
kind-key known x _ at h = absurd (cc h)

pub outside-of : (o : Option HasAsked) (k : HasAsked) (q : Request) → o ≡ Some k → k.request ≡ q → outside_asked o ≡ is_outside q
outside-of o k q h e = rw h (ap is_outside e)

-- what is known of a Ready exchange is what it asks
pub asks-outside : {set : RouteSet} {workers limit : ℕ} {past : Past} (t : Tables) (x : ℕ) (r : Row) → Stands set workers limit past t → place (plan_of set) past x ≡ Some place_is.Ready → slice_get t.rows (x - 1) ≡ Some r
    → (q : Request) → slice_get (map known_of t.rows) (x - 1) ≡ Some (Some q) → outside_asked (asked (plan_of set) past x) ≡ is_outside q
asks-outside {set} {workers} {limit} {past} t x r st ready row q at =
    let k = known-state t.rows (x - 1) r q row at in
    let a = asked-there t 0 x st (omega arith) k.0 r ready row q k.1 in
    outside-of (asked (plan_of set) past x) a.0 q a.1 a.2

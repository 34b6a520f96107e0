-- What the bytes of a route file are: the places at which they are judged, and the set that they give.
use Rattle.std.specs.Prelude.{◌≡◌, ◌⊎◌, ℕ, Bool, nat_lt, length, List, [], ◌∷◌, codes, Option, Some, None, Result, Ok, Err, if◌then◌else◌}
use Rattle.eip_text.specs.Causes.{Rises}
use Rattle.eip_text.specs.Json.{Json, null, json_read}
use Rattle.eip_route.specs.Nest.{flat_set}
use Rattle.eip_route.specs.Valid.{IsValid}
use Rattle.eip_route.specs.declared.route.Names.{Names}
use Rattle.eip_route.specs.declared.route.RouteSet.{RouteSet}
use Rattle.eip_simple_read.specs.Builds.{Told, added, built, Begins}
use Rattle.eip_route_faults.specs.Sites.{Site, wrong, first_fault, Stops, cause_failures, Starves, patterns_at, RefusesAfter}
use Rattle.eip_route_grammar.specs.declared.fault.Cause.{Cause}
use Rattle.eip_route_grammar.specs.declared.fault.Cause.TheVariants as cause
use Rattle.eip_route_grammar.specs.declared.fault.RouteFault.{RouteFault}
use Rattle.eip_route_file.specs.Later.{file_sites}
use Rattle.eip_route_values.specs.Sets.{nest}
use Rattle.eip_route_json.specs.declared.read.RouteRefusal.{RouteRefusal}
use Rattle.eip_route_json.specs.declared.read.RouteRefusal.TheVariants as refusal

-- the whole file is wrong
abbrev pub whole_file : Cause → List Site
whole_file c = (codes "$", wrong c) ∷ []

abbrev pub tree_sites : Names → Option Json → List Site
tree_sites n None = whole_file cause.NotJson
tree_sites n (Some t) = file_sites n t

-- more bytes than a route file may have
abbrev pub is_too_long : List ℕ → Bool
is_too_long bytes = nat_lt 1048576 (length bytes)

-- the places at which bytes are judged
unfoldable pub byte_sites : Names → List ℕ → List Site
byte_sites n bytes = if is_too_long bytes then whole_file cause.TooLong else tree_sites n (json_read bytes)

abbrev pub tree_set : Names → Option Json → RouteSet
tree_set n None = flat_set n (nest null)
tree_set n (Some t) = flat_set n (nest t)

-- the set that bytes without a fault give
unfoldable pub set_of : Names → List ℕ → RouteSet
set_of n bytes = tree_set n (json_read bytes)

-- a fault that is found at places, with the count of patterns' faults before and after: the first one, or that of a refused pattern that comes
-- before it
abbrev pub Finds : List Site → ℕ → ℕ → RouteFault → Type 0
Finds at before after f = ((first_fault at ≡ Some f) × (after ≡ before)) ⊎ (Stops at f × Rises (cause_failures f.cause) before after)

-- an answer to what is judged at these places and gives this set: the set where nothing is wrong, which is valid; else a fault that is found; or
-- want of memory, with the count as before, unless memory was wanting to tell the fault of a refused pattern
abbrev pub ReadsAt : List Site → RouteSet → ℕ → ℕ → Result RouteSet RouteRefusal → Type 0
ReadsAt at set before after (Ok s) = (first_fault at ≡ None) × (s ≡ set) × (after ≡ before) × IsValid s
ReadsAt at set before after (Err (refusal.Refused f)) = Finds at before after f
ReadsAt at set before after (Err refusal.NoMemory) = Starves at before after

-- What a builder of patterns was asked for, by an answer to what is judged at these places: for each pattern once, in their order. All were built, up to
-- the first fault; or all up to the one whose refusal is the answer. For want of memory it may be fewer.
abbrev pub AsksFor : List Site → Told → Told → Result RouteSet RouteRefusal → Type 0
AsksFor at before after (Ok s) = after ≡ added before (built (patterns_at at))
AsksFor at before after (Err (refusal.Refused f)) = ((first_fault at ≡ Some f) × (after ≡ added before (built (patterns_at at)))) ⊎ RefusesAfter at f before after
AsksFor at before after (Err refusal.NoMemory) = Begins (patterns_at at) before after

-- a refusal of the whole file for a cause, or want of memory
abbrev pub Refuses : Cause → RouteRefusal → Type 0
Refuses c (refusal.Refused f) = f ≡ record { path = codes "$"; cause = c }
Refuses c refusal.NoMemory = Unit {0}

-- What is wrong with a whole route file: its form, how many routes there are, and what stands twice in it.
use Rattle.std.specs.Prelude.{ℕ, ◌+◌, ◌-◌, Bool, true, false, ◌||◌, nat_eq, List, [], ◌∷◌, ◌++◌, codes, bytes_eq, Option, Some, None, Result, Ok, Err, if◌then◌else◌}
use Rattle.std.specs.List.{list_any}
use Rattle.eip_text.specs.Json.{Json, word, list, object, Items, no_items, item, Members, no_members, member}
use Rattle.eip_uri.specs.declared.uri.Uri.{Uri}
use Rattle.eip_uri.specs.declared.fault.UriFault.{UriFault}
use Rattle.eip_uri.specs.Reading.{read}
use Rattle.eip_route.specs.declared.route.Names.{Names}
use Rattle.eip_route.specs.Faults.{same_consumer}
use Rattle.eip_route_grammar.specs.Keys.{is_spelled}
use Rattle.eip_route_grammar.specs.Texts.{own_id}
use Rattle.eip_route_grammar.specs.Causes.{or_else}
use Rattle.eip_route_grammar.specs.Objects.{value_at, parameters_of, when}
use Rattle.eip_route_grammar.specs.Paths.{index_step}
use Rattle.eip_route_faults.specs.Sites.{Site, wrong, found, under, items_sites, first_fault}
use Rattle.eip_route_grammar.specs.declared.fault.Cause.{Cause}
use Rattle.eip_route_grammar.specs.declared.fault.Cause.TheVariants as cause
use Rattle.eip_route_grammar.specs.declared.fault.RouteFault.{RouteFault}
use Rattle.eip_route_file.specs.declared.head.Head.{Head}
use Rattle.eip_route_grammar.specs.declared.keys.Key.{Key}
use Rattle.eip_route_grammar.specs.declared.keys.Key.TheVariants as key
use Rattle.eip_route_grammar.specs.declared.table.Kind.TheVariants as kind

-- ---- items

-- the key of an object of one key
abbrev pub sole_key : Json → Option (List ℕ)
sole_key (object (member k t no_members)) = Some k
sole_key _ = None

abbrev pub is_key : Key → Option (List ℕ) → Bool
is_key k None = false
is_key k (Some name) = is_spelled k name

-- an item that is a route
abbrev pub is_route : Json → Bool
is_route t = is_key key.Route (sole_key t) || is_key key.From (sole_key t)

-- an item that is an error handler
abbrev pub is_handler : Json → Bool
is_handler t = is_key key.ErrorHandler (sole_key t)

-- there are more routes than so many
abbrev pub too_many : ℕ → Items → Bool
too_many left no_items = false
too_many left (item t ts) = if is_route t then (if nat_eq left 0 then true else too_many (left - 1) ts) else too_many left ts

-- ---- error handlers

abbrev pub at_step : List ℕ → Cause → RouteFault
at_step path c = record { path = path; cause = c }

-- the first error handler from the item of this index on, where one was met before
abbrev pub second_handler : ℕ → Bool → Items → Option RouteFault
second_handler i met no_items = None
second_handler i met (item t ts) = if is_handler t then (if met then Some (at_step (index_step i) cause.DoubleErrorHandler) else second_handler (i + 1) true ts) else second_handler (i + 1) met ts

-- ---- routes

abbrev pub uri_of : Result Uri UriFault → Option Uri
uri_of (Ok u) = Some u
uri_of (Err e) = None

abbrev pub uri_at : Option Json → List (List ℕ × List ℕ) → Option Uri
uri_at (Some (word w)) ps = uri_of (read w ps)
uri_at _ ps = None

-- the endpoint of a `from`
abbrev pub uri_in : Members → Option Uri
uri_in ms = uri_at (value_at key.Uri ms) (parameters_of ms)

abbrev pub members_in : Option Json → Members
members_in (Some (object ms)) = ms
members_in _ = no_members

abbrev pub id_at : ℕ → Option Json → List ℕ
id_at position (Some (word w)) = w
id_at position _ = own_id position

-- what is compared of the object of a `route`, and of that of a `from`
abbrev pub route_head : ℕ → ℕ → Members → Head
route_head i position ms = record { index = i; whole = true; id = id_at position (value_at key.Id ms); from = uri_in (members_in (value_at key.From ms)) }

abbrev pub from_head : ℕ → ℕ → Members → Head
from_head i position ms = record { index = i; whole = false; id = own_id position; from = uri_in ms }

abbrev pub head_of : ℕ → ℕ → List ℕ → Json → Option Head
head_of i position k t = if is_spelled key.Route k then Some (route_head i position (members_in (Some t))) else (if is_spelled key.From k then Some (from_head i position (members_in (Some t))) else None)

-- an item's, where it is a route
abbrev pub head_at : ℕ → ℕ → Json → Option Head
head_at i position (object (member k t no_members)) = head_of i position k t
head_at i position _ = None

abbrev pub then_heads : Option Head → ℕ → (ℕ → List Head) → List Head
then_heads None position later = later position
then_heads (Some h) position later = h ∷ later (position + 1)

-- the routes among the items, from these numbers on
abbrev pub heads : ℕ → ℕ → Items → List Head
heads i position no_items = []
heads i position (item t ts) = then_heads (head_at i position t) position (λ next. heads (i + 1) next ts)

abbrev pub same_from : Option Uri → Option Uri → Bool
same_from (Some u) (Some v) = same_consumer u v
same_from _ _ = false

-- whether an earlier route has its id, and its endpoint
abbrev pub is_id_taken : Head → List Head → Bool
is_id_taken h before = list_any (λ x. bytes_eq x.id h.id) before

abbrev pub is_from_taken : Head → List Head → Bool
is_from_taken h before = list_any (λ x. same_from x.from h.from) before

abbrev pub head_path : Head → List ℕ
head_path h = index_step h.index ++ (if h.whole then codes ".route" else codes ".from")

abbrev pub uri_path : Head → List ℕ
uri_path h = index_step h.index ++ (if h.whole then codes ".route.from.uri" else codes ".from.uri")

abbrev pub head_fault : List Head → Head → Option RouteFault
head_fault before h = if is_id_taken h before then Some (at_step (head_path h) cause.DoubleRouteId) else (if is_from_taken h before then Some (at_step (uri_path h) cause.SecondConsumer) else None)

-- the first route of which something stands in an earlier one
abbrev pub second_route : List Head → List Head → Option RouteFault
second_route before [] = None
second_route before (h ∷ hs) = or_else (head_fault before h) (second_route (before ++ h ∷ []) hs)

-- ---- the file

-- what is wrong once nothing is wrong in the items
abbrev pub later_fault : Items → Option RouteFault
later_fault ts = or_else (second_handler 0 false ts) (second_route [] (heads 0 1 ts))

abbrev pub as_sites : Option RouteFault → List Site
as_sites None = []
as_sites (Some f) = (f.path, wrong f.cause) ∷ []

abbrev pub items_in : Json → Option Items
items_in (list ts) = Some ts
items_in _ = None

-- the places of a list of items, which are not too many routes
abbrev pub list_file : Names → Items → List Site
list_file n ts = items_sites n 0 kind.Item 0 ts ++ as_sites (later_fault ts)

-- the places of a list of items
abbrev pub items_file : Names → Items → List Site
items_file n ts = found (when (too_many 256 ts) cause.TooManyRoutes) ++ list_file n ts

abbrev pub whole_file : Names → Option Items → List Site
whole_file n None = found (Some cause.WrongKind)
whole_file n (Some ts) = items_file n ts

abbrev pub whole_sites : Names → Json → List Site
whole_sites n t = whole_file n (items_in t)

-- the places of a route file, where these names are handed in
unfoldable pub file_sites : Names → Json → List Site
file_sites n t = under (codes "$") (whole_sites n t)

-- the first fault of a route file; the text of each `regex` counts as a good pattern
unfoldable pub file_fault : Names → Json → Option RouteFault
file_fault n t = first_fault (file_sites n t)

-- What building takes of a file with which nothing is wrong was read.
use Rattle.std.proofs.Common.{ℕ, ◌≡◌, ◌+◌, ◌≤◌, true, List, [], ◌∷◌, ◌++◌, Option, Some, None, refl, arith, codes}
use Rattle.eip_text.specs.Json.{Json, list, object, Items, no_items, item, Members}
use Rattle.eip_route.specs.declared.route.Names.{Names}
use Rattle.eip_route_grammar.specs.Keys.{spelled, dashed, is_spelled}
use Rattle.eip_route_grammar.specs.Table.{rows}
use Rattle.eip_route_grammar.specs.Objects.{value_at, parameters_of, when}
use Rattle.eip_route_grammar.specs.Paths.{index_step}
use Rattle.eip_route_grammar.specs.declared.fault.Cause.TheVariants as cause
use Rattle.eip_route_grammar.specs.declared.keys.Key.TheVariants as key
use Rattle.eip_route_grammar.specs.declared.table.Kind.{Kind}
use Rattle.eip_route_grammar.specs.declared.table.Kind.TheVariants as kind
use Rattle.eip_route_grammar.specs.declared.table.Row.TheVariants as row
use Rattle.eip_route_faults.specs.Sites.{found, under, sites_at, items_sites, members_sites, first_fault, entries_at}
use Rattle.eip_route_file.specs.Later.{file_sites, as_sites, later_fault, too_many}
use Rattle.eip_route_values.specs.Leaves.{members_given, members_at, members_in}
use Rattle.eip_route_values.specs.Taken.{stock, Holds, in_given, in_object, in_route_steps, in_whole_route, in_route, in_clauses, in_routes, in_file}
use Rattle.eip_route_values.proofs.Taking.{occurs, occurs_append, enough_held}
use Rattle.eip_route_validity.proofs.fitting.Faultless.{IsFaultless, append_none, under_none, first_item}
use Rattle.eip_route_validity.proofs.fitting.Keyed.{HasRow}
use Rattle.eip_route_validity.proofs.fitting.Values.{with_object}
use Rattle.eip_route_validity.proofs.fitting.StepTables.{from_steps}
use Rattle.eip_route_validity.proofs.fitting.Marks.{stands, stands_append, stands_under, all_read}
use Rattle.eip_route_validity.proofs.fitting.KeySites.{at_key, are_apart, keys_within}
use Rattle.eip_route_validity.proofs.fitting.Taken.{within_object, members_of_object, value_within, list_taken}
use Rattle.eip_route_validity.proofs.filed.Tables.{for_route, for_from, for_clause, route_from, route_steps, clause_steps}

-- ---- an item

item_route : HasRow kind.Item (row.One key.Route kind.Route)
unfolding spelled dashed is_spelled rows
item_route = (refl, refl)

item_from : HasRow kind.Item (row.One key.From kind.From)
unfolding spelled dashed is_spelled rows
item_from = (refl, refl)

item_clause : HasRow kind.Item (row.One key.OnException kind.OnException)
unfolding spelled dashed is_spelled rows
item_clause = (refl, refl)

items_apart : are_apart (key.OnException ∷ key.Route ∷ key.From ∷ []) ≡ true
unfolding spelled dashed is_spelled
items_apart = refl

route_apart : are_apart (key.Steps ∷ key.From ∷ []) ≡ true
unfolding spelled dashed is_spelled
route_apart = refl

-- the `steps` of an object
steps_at_taken : (w : List ℕ) (n : Names) (d : ℕ) (ps : List (List ℕ × List ℕ)) (v : Kind) (ms : Members) → HasRow v (row.May key.Steps kind.Steps) → first_fault (members_sites n d ps v ms) ≡ None
    → occurs w (in_given (value_at key.Steps ms)) ≤ at_key w n d ps v key.Steps ms
steps_at_taken w n d ps v ms h e = value_within w n d ps v (row.May key.Steps kind.Steps) ms in_given h refl (λ t f. list_taken w n d ps kind.Steps t refl f) e

steps_in_taken : (w : List ℕ) (n : Names) (d : ℕ) (ps : List (List ℕ × List ℕ)) (v : Kind) (ms : Members) → HasRow v (row.May key.Steps kind.Steps) → first_fault (members_sites n d (parameters_of ms) v ms) ≡ None
    → occurs w (in_given (value_at key.Steps ms)) ≤ stands w (sites_at n d ps v (object ms))
steps_in_taken w n d ps v ms h e = omega (arith, steps_at_taken w n d (parameters_of ms) v ms h e, keys_within w n d (parameters_of ms) v (key.Steps ∷ []) ms refl, within_object w n d ps v ms)

clause_taken : (w : List ℕ) (n : Names) (d : ℕ) (ps : List (List ℕ × List ℕ)) (t : Json) → IsFaultless n d ps kind.OnException t → occurs w (in_object (members_given (Some t))) ≤ stands w (sites_at n d ps kind.OnException t)
clause_taken w n d ps t e =
    with_object (λ x. occurs w (in_object (members_given (Some x))) ≤ stands w (sites_at n d ps kind.OnException x)) n d ps kind.OnException t for_clause e
    (λ ms o. steps_in_taken w n d ps kind.OnException ms clause_steps o.members)

from_taken : (w : List ℕ) (n : Names) (d : ℕ) (ps : List (List ℕ × List ℕ)) (t : Json) → IsFaultless n d ps kind.From t → occurs w (in_object (members_given (Some t))) ≤ stands w (sites_at n d ps kind.From t)
from_taken w n d ps t e =
    with_object (λ x. occurs w (in_object (members_given (Some x))) ≤ stands w (sites_at n d ps kind.From x)) n d ps kind.From t for_from e
    (λ ms o. steps_in_taken w n d ps kind.From ms from_steps o.members)

-- a route's own steps, and those of its `from`
either_steps : (w : List ℕ) (o : Option Json) (from : Option Members) → occurs w (in_route_steps o from) ≤ occurs w (in_given o) + occurs w (in_object from)
either_steps w (Some t) from = omega arith
either_steps w None from = omega arith

abbrev whole_in : Option Members → List (List ℕ)
whole_in None = []
whole_in (Some ms) = in_whole_route ms

route_taken : (w : List ℕ) (n : Names) (d : ℕ) (ps : List (List ℕ × List ℕ)) (t : Json) → IsFaultless n d ps kind.Route t → occurs w (whole_in (members_given (Some t))) ≤ stands w (sites_at n d ps kind.Route t)
route_taken w n d ps t e =
    with_object (λ x. occurs w (whole_in (members_given (Some x))) ≤ stands w (sites_at n d ps kind.Route x)) n d ps kind.Route t for_route e
    (λ ms o. omega (
      arith,
      either_steps w (value_at key.Steps ms) (members_at key.From ms),
      steps_at_taken w n d (parameters_of ms) kind.Route ms route_steps o.members,
      value_within w n d (parameters_of ms) kind.Route (row.Must key.From kind.From) ms (λ o. in_object (members_given o)) route_from refl (λ t f. from_taken w n d (parameters_of ms) t f) o.members,
      keys_within w n d (parameters_of ms) kind.Route (key.Steps ∷ key.From ∷ []) ms route_apart,
      within_object w n d ps kind.Route ms,
    ))

either_route : (w : List ℕ) (o from : Option Members) → occurs w (in_route o from) ≤ occurs w (whole_in o) + occurs w (in_object from)
either_route w (Some ms) from = omega arith
either_route w None from = omega arith

item_taken : (w : List ℕ) (n : Names) (t : Json) → IsFaultless n 0 [] kind.Item t
    → occurs w (in_object (members_in key.OnException t)) + occurs w (in_route (members_in key.Route t) (members_in key.From t)) ≤ stands w (sites_at n 0 [] kind.Item t)
item_taken w n (object ms) e =
    let m = members_of_object n 0 [] kind.Item ms e in
    let ps = parameters_of ms in
    omega (
      arith,
      either_route w (members_given (value_at key.Route ms)) (members_given (value_at key.From ms)),
      value_within w n 0 ps kind.Item (row.One key.OnException kind.OnException) ms (λ o. in_object (members_given o)) item_clause refl (λ t f. clause_taken w n 0 ps t f) m,
      value_within w n 0 ps kind.Item (row.One key.Route kind.Route) ms (λ o. whole_in (members_given o)) item_route refl (λ t f. route_taken w n 0 ps t f) m,
      value_within w n 0 ps kind.Item (row.One key.From kind.From) ms (λ o. in_object (members_given o)) item_from refl (λ t f. from_taken w n 0 ps t f) m,
      keys_within w n 0 ps kind.Item (key.OnException ∷ key.Route ∷ key.From ∷ []) ms items_apart,
      within_object w n 0 [] kind.Item ms,
    )
item_taken w n t e = omega arith

-- ---- the file

items_taken : (w : List ℕ) (n : Names) (k : ℕ) (ts : Items) → first_fault (items_sites n 0 kind.Item k ts) ≡ None → occurs w (in_clauses ts) + occurs w (in_routes ts) ≤ stands w (items_sites n 0 kind.Item k ts)
unfolding sites_at
items_taken w n k no_items e = omega arith
items_taken w n k (item t ts) e =
    let h = first_item n 0 kind.Item k t ts e in
    let here = sites_at n 0 [] kind.Item t in
    omega (
      arith,
      occurs_append w (in_object (members_in key.OnException t)) (in_clauses ts),
      occurs_append w (in_route (members_in key.Route t) (members_in key.From t)) (in_routes ts),
      item_taken w n t h.0,
      items_taken w n (k + 1) ts h.1,
      stands_append w (under (index_step k) here) (items_sites n 0 kind.Item (k + 1) ts),
      stands_under w (index_step k) here,
    )

file_taken : (w : List ℕ) (n : Names) (t : Json) → first_fault (file_sites n t) ≡ None → occurs w (in_file t) ≤ stands w (file_sites n t)
unfolding file_sites
file_taken w n (list ts) e =
    let many = found (when (too_many 256 ts) cause.TooManyRoutes) in
    let items = items_sites n 0 kind.Item 0 ts in
    let last = as_sites (later_fault ts) in
    let h = append_none many (items ++ last) (under_none (codes "$") (many ++ (items ++ last)) e) in
    let g = append_none items last h.1 in
    omega (
      arith,
      occurs_append w (in_clauses ts) (in_routes ts),
      items_taken w n 0 ts g.0,
      stands_under w (codes "$") (many ++ (items ++ last)),
      stands_append w many (items ++ last),
      stands_append w items last,
    )
file_taken w n t e = omega arith

-- each predicate that is taken was read
pub file_held : (n : Names) (t : Json) → first_fault (file_sites n t) ≡ None → Holds (in_file t) (entries_at (file_sites n t))
file_held n t e = enough_held (in_file t) (stock (entries_at (file_sites n t))) (λ w. omega (arith, file_taken w n t e, all_read w (file_sites n t) e))

-- What building takes of the clauses and the routes of a file, one item behind the other.
use Rattle.std.proofs.Common.{◌≡◌, ℕ, ◌+◌, ◌<◌, true, List, length, get_or, drop, Option, Some, refl, sym, subst}
use Rattle.eip_text.specs.Json.{Json, Members, json, items_json}
use Rattle.eip_text.specs.declared.tree.Tree.{Tree}
use Rattle.eip_route_grammar.specs.Objects.{value_at}
use Rattle.eip_route_grammar.specs.declared.keys.Key.TheVariants as key
use Rattle.eip_route_values.specs.Leaves.{members_in}
use Rattle.eip_route_values.specs.Taken.{spent, holds, in_given, in_object, in_clauses, in_route, in_routes}
use Rattle.eip_route_blocks.proofs.Held.{item_left, item_held, items_held}

-- ---- clauses

abbrev pub by_clause : Json → List (List ℕ)
by_clause t = in_object (members_in key.OnException t)

pub clause_left : (ts : List Tree) (i : ℕ) (x : Tree) (whole now after : List ℕ → ℕ) → x ≡ get_or ts i x → i < length ts → whole ≡ spent (in_clauses (items_json (drop i ts))) now
    → after ≡ spent (by_clause (json x)) now → whole ≡ spent (in_clauses (items_json (drop (i + 1) ts))) after
clause_left = item_left by_clause in_clauses (λ t ts. refl)

pub clause_held : (ts : List Tree) (i : ℕ) (x : Tree) (now : List ℕ → ℕ) → x ≡ get_or ts i x → i < length ts → holds (in_clauses (items_json (drop i ts))) now ≡ true → holds (by_clause (json x)) now ≡ true
clause_held = item_held by_clause in_clauses (λ t ts. refl)

pub clauses_held : (ts : List Tree) (i : ℕ) (x : Tree) (now after : List ℕ → ℕ) → x ≡ get_or ts i x → i < length ts → holds (in_clauses (items_json (drop i ts))) now ≡ true
    → after ≡ spent (by_clause (json x)) now → holds (in_clauses (items_json (drop (i + 1) ts))) after ≡ true
clauses_held = items_held by_clause in_clauses (λ t ts. refl)

-- the steps of a clause that is there
pub steps_held : (o : Option Members) (ms : Members) (now : List ℕ → ℕ) → Some ms ≡ o → holds (in_object o) now ≡ true → holds (in_given (value_at key.Steps ms)) now ≡ true
steps_held o ms now some h = subst (λ (v : Option Members). holds (in_object v) now ≡ true) (sym some) h

-- ---- routes

abbrev pub by_route : Json → List (List ℕ)
by_route t = in_route (members_in key.Route t) (members_in key.From t)

pub route_left : (ts : List Tree) (i : ℕ) (x : Tree) (whole now after : List ℕ → ℕ) → x ≡ get_or ts i x → i < length ts → whole ≡ spent (in_routes (items_json (drop i ts))) now
    → after ≡ spent (by_route (json x)) now → whole ≡ spent (in_routes (items_json (drop (i + 1) ts))) after
route_left = item_left by_route in_routes (λ t ts. refl)

pub route_held : (ts : List Tree) (i : ℕ) (x : Tree) (now : List ℕ → ℕ) → x ≡ get_or ts i x → i < length ts → holds (in_routes (items_json (drop i ts))) now ≡ true → holds (by_route (json x)) now ≡ true
route_held = item_held by_route in_routes (λ t ts. refl)

pub routes_held : (ts : List Tree) (i : ℕ) (x : Tree) (now after : List ℕ → ℕ) → x ≡ get_or ts i x → i < length ts → holds (in_routes (items_json (drop i ts))) now ≡ true
    → after ≡ spent (by_route (json x)) now → holds (in_routes (items_json (drop (i + 1) ts))) after ≡ true
routes_held = items_held by_route in_routes (λ t ts. refl)

-- What an item of a route file says: a route, the error handler or a clause.
use Rattle.std.proofs.Common.{ℕ, ◌≡◌, ◌≤◌, Bool, true, false, List, ◌∷◌, Option, Some, None}
use Rattle.eip_text.specs.Json.{Json}
use Rattle.eip_text.specs.Names.{is_name}
use Rattle.eip_route.specs.Nest.{NestedClause, NestedRoute}
use Rattle.eip_route.specs.declared.route.Handler.{Handler}
use Rattle.eip_route.specs.declared.route.Names.{Names}
use Rattle.eip_route_grammar.specs.declared.keys.Key.TheVariants as key
use Rattle.eip_route_file.specs.Later.{is_route, head_at}
use Rattle.eip_route_file.specs.declared.head.Head.{Head}
use Rattle.eip_route_values.specs.Leaves.{members_in}
use Rattle.eip_route_values.specs.Sets.{with_clause, handler_or, route_given}
use Rattle.eip_route_validity.specs.Fit.{SourceFits, AreBatched, BlockFits, ClauseFits, HandlerFits}

-- a route by its position, with what is compared of it by its item's index and its position
pub data Part : Type 0 where
  a_route : (ℕ → NestedRoute) → (ℕ → ℕ → Head) → Part
  a_handler : Handler → Part
  a_clause : NestedClause → Part

abbrev pub counts : Part → Bool
counts (a_route r h) = true
counts (a_handler h) = false
counts (a_clause c) = false

abbrev pub route_in : ℕ → Part → Option NestedRoute
route_in k (a_route r h) = Some (r k)
route_in k (a_handler h) = None
route_in k (a_clause c) = None

abbrev pub head_in : ℕ → ℕ → Part → Option Head
head_in i k (a_route r h) = Some (h i k)
head_in i k (a_handler h) = None
head_in i k (a_clause c) = None

abbrev pub handler_else : Part → Handler → Handler
handler_else (a_route r h) later = later
handler_else (a_handler h) later = h
handler_else (a_clause c) later = later

abbrev pub clause_before : Part → List NestedClause → List NestedClause
clause_before (a_route r h) cs = cs
clause_before (a_handler h) cs = cs
clause_before (a_clause c) cs = c ∷ cs

-- an item says this
pub record Says (t : Json) (e : Part) : Type 0 where
  pub counted : is_route t ≡ counts e
  pub route : (k : ℕ) → route_given k (members_in key.Route t) (members_in key.From t) ≡ route_in k e
  pub head : (i k : ℕ) → head_at i k t ≡ head_in i k e
  pub handler : (later : Handler) → handler_or (members_in key.ErrorHandler t) later ≡ handler_else e later
  pub clause : (cs : List NestedClause) → with_clause (members_in key.OnException t) cs ≡ clause_before e cs

-- what is compared of a route is its own
abbrev pub IsHead : Head → NestedRoute → Type 0
IsHead h r = (h.id ≡ r.id) × (h.from ≡ Some r.from)

-- a route that fits wherever it may stand
pub record RouteSaid (n : Names) (r : ℕ → NestedRoute) (h : ℕ → ℕ → Head) : Type 0 where
  pub id : (k : ℕ) → k ≤ 256 → is_name (r k).id ≡ true
  pub from : (k : ℕ) → SourceFits n (r k).from
  pub steps : (k : ℕ) → BlockFits n 0 (r k).steps
  pub batched : (k : ℕ) → AreBatched (r k).steps
  pub head : (i k : ℕ) → IsHead (h i k) (r k)

abbrev pub PartFits : Names → Part → Type 0
PartFits n (a_route r h) = RouteSaid n r h
PartFits n (a_handler h) = HandlerFits n h
PartFits n (a_clause c) = ClauseFits n c

-- an item that says something that fits
pub record Fitting (n : Names) (t : Json) : Type 0 where
  pub part : Part
  pub says : Says t part
  pub fits : PartFits n part

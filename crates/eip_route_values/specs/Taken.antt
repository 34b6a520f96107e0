-- The texts of the predicates that building takes out of those that were read, in the order in which it takes them.
use Rattle.std.specs.Prelude.{◌≡◌, ℕ, ◌+◌, ◌-◌, Bool, true, ◌&&◌, nat_lt, List, [], ◌∷◌, ◌++◌, bytes_eq, Option, Some, None, if◌then◌else◌}
use Rattle.eip_text.specs.Json.{Json, list, object, Items, no_items, item, Members, no_members, member}
use Rattle.eip_route_grammar.specs.Keys.{is_spelled}
use Rattle.eip_route_grammar.specs.Objects.{value_at}
use Rattle.eip_route_grammar.specs.declared.keys.Key.{Key}
use Rattle.eip_route_grammar.specs.declared.keys.Key.TheVariants as key
use Rattle.eip_route_grammar.specs.declared.known.Entry.{Entry}
use Rattle.eip_route_values.specs.Leaves.{expression_of, members_at, members_in}
use Rattle.eip_route_values.specs.Nesting.{items_given, step_key, places}
use Rattle.eip_route_values.specs.declared.places.Place.{Place}
use Rattle.eip_route_values.specs.declared.places.Place.TheVariants as place

-- ---- what is known

-- how often each text is known
unfoldable pub stock : List Entry → List ℕ → ℕ
stock [] w = 0
stock (e ∷ es) w = (if bytes_eq e.text w then 1 else 0) + stock es w

-- where this text was taken once
unfoldable pub without : List ℕ → (List ℕ → ℕ) → List ℕ → ℕ
without t s w = s w - (if bytes_eq t w then 1 else 0)

-- where each of these texts was taken, one behind the other
abbrev pub spent : List (List ℕ) → (List ℕ → ℕ) → List ℕ → ℕ
spent [] s = s
spent (t ∷ ts) s = spent ts (without t s)

-- each of these texts is known when it is taken
abbrev pub holds : List (List ℕ) → (List ℕ → ℕ) → Bool
holds [] s = true
holds (t ∷ ts) s = nat_lt 0 (s t) && holds ts (without t s)

abbrev pub Holds : List (List ℕ) → List Entry → Type 0
Holds ts known = holds ts (stock known) ≡ true

-- these texts were taken, and nothing else
abbrev pub Spends : List (List ℕ) → List Entry → List Entry → Type 0
Spends ts before after = stock after ≡ spent ts (stock before)

-- ---- by a step itself

-- by a value that may be absent
abbrev pub by_value : Option Json → List (List ℕ)
by_value None = []
by_value (Some t) = expression_of t ∷ []

abbrev pub by_plain_check : Members → List (List ℕ)
by_plain_check ms = by_value (value_at key.Simple ms)

abbrev pub by_check_from : Option Members → Members → List (List ℕ)
by_check_from (Some inner) ms = by_plain_check inner
by_check_from None ms = by_plain_check ms

abbrev pub by_check : Members → List (List ℕ)
by_check ms = by_check_from (members_at key.Expression ms) ms

-- by a check that may be absent
abbrev pub by_given_check : Option Members → List (List ℕ)
by_given_check None = []
by_given_check (Some ms) = by_check ms

abbrev pub by_completion : Option Members → List (List ℕ)
by_completion None = []
by_completion (Some ms) = by_plain_check ms

-- by the check of a catch
abbrev pub by_catch : Members → List (List ℕ)
by_catch ms = by_given_check (members_at key.OnWhen ms)

-- by an object, and by each of a list
abbrev pub by_object : (Members → List (List ℕ)) → Json → List (List ℕ)
by_object f (object ms) = f ms
by_object f _ = []

abbrev pub by_each : (Members → List (List ℕ)) → Items → List (List ℕ)
by_each f no_items = []
by_each f (item t ts) = by_object f t ++ by_each f ts

-- by an object with these members
abbrev pub by_step : Key → Members → List (List ℕ)
by_step key.Choice ms = by_each by_check (items_given (value_at key.When ms))
by_step key.Filter ms = by_check ms
by_step key.Aggregate ms = by_completion (members_at key.CompletionPredicate ms)
by_step key.DoTry ms = by_each by_catch (items_given (value_at key.DoCatch ms))
by_step _ ms = []

-- ---- by the steps that it holds, and by steps that nest

abbrev pub at_place : List (List ℕ) → (Key → List (List ℕ)) → (Key → List (List ℕ)) → Place → List (List ℕ)
at_place steps each_of one_of (place.Each k) = each_of k
at_place steps each_of one_of (place.One k) = one_of k
at_place steps each_of one_of _ = steps

abbrev pub at_places : (Place → List (List ℕ)) → List Place → List (List ℕ)
at_places at [] = []
at_places at (p ∷ ps) = at p ++ at_places at ps

abbrev pub if_known : Option Key → (Key → List (List ℕ)) → List (List ℕ)
if_known None ts = []
if_known (Some k) ts = ts k

abbrev mutual
  -- a list of steps
  pub in_list : Json → List (List ℕ)
  in_list (list ts) = in_steps ts
  in_list _ = []

  pub in_steps : Items → List (List ℕ)
  in_steps no_items = []
  in_steps (item t ts) = in_step t ++ in_steps ts

  pub in_step : Json → List (List ℕ)
  in_step (object ms) = in_only ms
  in_step _ = []

  pub in_only : Members → List (List ℕ)
  in_only no_members = []
  in_only (member k t ms) = in_value (step_key k) t

  -- first by the steps that it holds
  pub in_value : Option Key → Json → List (List ℕ)
  in_value v (object ms) = if_known v (λ k. at_places (at_place (in_own ms) (λ q. in_each_of q ms) (λ q. in_one_of q ms)) (places k) ++ by_step k ms)
  in_value v _ = []

  -- the `steps` of an object
  pub in_own : Members → List (List ℕ)
  in_own no_members = []
  in_own (member k t ms) = if is_spelled key.Steps k then in_list t else in_own ms

  -- and of an object by its value
  pub in_inner : Json → List (List ℕ)
  in_inner (object ms) = in_own ms
  in_inner _ = []

  -- the `steps` of each object in the list of a key
  pub in_each_of : Key → Members → List (List ℕ)
  in_each_of q no_members = []
  in_each_of q (member k t ms) = if is_spelled q k then in_each_list t else in_each_of q ms

  pub in_each_list : Json → List (List ℕ)
  in_each_list (list ts) = in_each ts
  in_each_list _ = []

  pub in_each : Items → List (List ℕ)
  in_each no_items = []
  in_each (item t ts) = in_inner t ++ in_each ts

  -- the `steps` of the object of a key, where it is there
  pub in_one_of : Key → Members → List (List ℕ)
  in_one_of q no_members = []
  in_one_of q (member k t ms) = if is_spelled q k then in_inner t else in_one_of q ms

-- what an object with these members holds at a place
abbrev pub in_place : Members → Place → List (List ℕ)
in_place ms = at_place (in_own ms) (λ q. in_each_of q ms) (λ q. in_one_of q ms)

-- and by all of it: first by the steps that it holds
abbrev pub in_step_of : Key → Members → List (List ℕ)
in_step_of k ms = at_places (in_place ms) (places k) ++ by_step k ms

-- ---- by clauses and routes

abbrev pub in_given : Option Json → List (List ℕ)
in_given None = []
in_given (Some t) = in_list t

-- the `steps` of an object that may be absent
abbrev pub in_object : Option Members → List (List ℕ)
in_object None = []
in_object (Some ms) = in_given (value_at key.Steps ms)

-- the steps of a route, else those of its `from`
abbrev pub in_route_steps : Option Json → Option Members → List (List ℕ)
in_route_steps (Some t) from = in_list t
in_route_steps None from = in_object from

abbrev pub in_whole_route : Members → List (List ℕ)
in_whole_route ms = in_route_steps (value_at key.Steps ms) (members_at key.From ms)

abbrev pub in_route : Option Members → Option Members → List (List ℕ)
in_route (Some ms) from = in_whole_route ms
in_route None from = in_object from

abbrev pub in_clauses : Items → List (List ℕ)
in_clauses no_items = []
in_clauses (item t ts) = in_object (members_in key.OnException t) ++ in_clauses ts

abbrev pub in_routes : Items → List (List ℕ)
in_routes no_items = []
in_routes (item t ts) = in_route (members_in key.Route t) (members_in key.From t) ++ in_routes ts

-- the predicates of a file: first those of its clauses
abbrev pub in_items : Items → List (List ℕ)
in_items ts = in_clauses ts ++ in_routes ts

abbrev pub in_file : Json → List (List ℕ)
in_file (list ts) = in_items ts
in_file _ = []

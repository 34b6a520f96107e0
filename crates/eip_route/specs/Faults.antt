-- What is wrong with a set of routes, and which of it comes first.
use Rattle.std.specs.Prelude.{ℕ, zero, suc, Bool, true, false, ◌||◌, ◌&&◌, ◌+◌, cond, nat_le, nat_lt, nat_eq, min, length, List, [], ◌∷◌, ◌++◌, Option, Some, None, option_map, slice_get, bytes_eq}
use Rattle.eip_exchange.specs.declared.setting.Clause.{Clause}
use Rattle.eip_uri.specs.declared.uri.Uri.{Uri}
use Rattle.eip_uri.specs.declared.uri.Uri.TheVariants as uri
use Rattle.eip_route.specs.Nest.{last_number, step_numbers}
use Rattle.eip_route.specs.declared.fault.SetFault.{SetFault}
use Rattle.eip_route.specs.declared.fault.SetFault.TheVariants.{TooManyRoutes, BadBlock, TooNested, SecondConsumer, DoubleRouteId, BothHandledAndContinued}
use Rattle.eip_route.specs.declared.nesting.Wanted.{Wanted}
use Rattle.eip_route.specs.declared.nesting.Wanted.TheVariants as wanted
use Rattle.eip_route.specs.declared.route.Block.{Block}
use Rattle.eip_route.specs.declared.route.Route.{Route}
use Rattle.eip_route.specs.declared.route.RouteSet.{RouteSet}
use Rattle.eip_route.specs.declared.step.Step.{Step}

abbrev pub or_else : {A : Type 0} → Option A → Option A → Option A
or_else None b = b
or_else (Some a) b = Some a

-- what the first number gives that gives something
abbrev pub first_some : (ℕ → Option ℕ) → List ℕ → Option ℕ
first_some f [] = None
first_some f (n ∷ ns) = or_else (f n) (first_some f ns)

-- ---- the numbers of the blocks that stand in something, in their order

abbrev pub steps_numbers : List Step → List ℕ
steps_numbers [] = []
steps_numbers (s ∷ ss) = step_numbers s ++ steps_numbers ss

abbrev pub clauses_numbers : List Clause → List ℕ
clauses_numbers [] = []
clauses_numbers (c ∷ cs) = last_number c.block ++ clauses_numbers cs

abbrev pub routes_numbers : List Route → List ℕ
routes_numbers [] = []
routes_numbers (r ∷ rs) = r.block ∷ routes_numbers rs

-- those that stand in no step: the clauses' and the routes'
abbrev pub outer_numbers : RouteSet → List ℕ
outer_numbers s = clauses_numbers s.clauses ++ routes_numbers s.routes

-- ---- blocks

-- a number that is below the least one allowed, or of no block
abbrev pub bad_number : List Block → ℕ → ℕ → Option ℕ
bad_number bs least n = cond (nat_le least n && nat_lt n (length bs)) None (Some n)

-- in the steps of the blocks from number k on
abbrev pub bad_from : List Block → ℕ → List Block → Option ℕ
bad_from all k [] = None
bad_from all k (b ∷ bs) = or_else (first_some (bad_number all (k + 1)) (steps_numbers b.steps)) (bad_from all (k + 1) bs)

-- the first number of a block that is missing or not greater than that of the block in which its step stands
abbrev pub bad_block : RouteSet → Option ℕ
bad_block s = or_else (first_some (bad_number s.blocks 0) (outer_numbers s)) (bad_from s.blocks 0 s.blocks)

abbrev pub steps_of : Option Block → List Step
steps_of None = []
steps_of (Some b) = b.steps

-- the first block, of block n and then of those nested in it, that stands in more blocks than are left
unfoldable pub too_nested : List Block → ℕ → ℕ → Option ℕ
too_nested bs zero n = Some n
too_nested bs (suc left) n = first_some (too_nested bs left) (steps_numbers (steps_of (slice_get bs n)))

-- the first block that stands more than 16 deep, itself included
abbrev pub nested_too_deep : RouteSet → Option ℕ
nested_too_deep s = first_some (too_nested s.blocks 16) (outer_numbers s)

-- what is looked for at the number of a block
abbrev pub found : List Block → Wanted → ℕ → Option ℕ
found bs (wanted.Bad least) n = bad_number bs least n
found bs (wanted.Deep left) n = too_nested bs left n

-- ---- routes and clauses

-- whether both are one consumer: one direct or seda name, one folder, one port, standard input, or the load generator
abbrev pub same_consumer : Uri → Uri → Bool
same_consumer (uri.Direct a) (uri.Direct b) = bytes_eq a b
same_consumer (uri.Seda a size consumers discard) (uri.Seda b others more drops) = bytes_eq a b
same_consumer (uri.File a after failed exist) (uri.File b then fails is) = bytes_eq a b
same_consumer uri.StreamIn uri.StreamIn = true
same_consumer (uri.Listen a) (uri.Listen b) = nat_eq a b
same_consumer (uri.Load a) (uri.Load b) = true
same_consumer _ _ = false

abbrev pub is_consumed : Uri → List Route → Bool
is_consumed u [] = false
is_consumed u (r ∷ rs) = same_consumer r.from u || is_consumed u rs

abbrev pub is_id : List ℕ → List Route → Bool
is_id id [] = false
is_id id (r ∷ rs) = bytes_eq r.id id || is_id id rs

-- the first of the routes from number k on whose consumer one before has
abbrev pub second_consumer : List Route → ℕ → List Route → Option ℕ
second_consumer before k [] = None
second_consumer before k (r ∷ rs) = cond (is_consumed r.from before) (Some k) (second_consumer (before ++ r ∷ []) (k + 1) rs)

-- the first of the routes from number k on whose id one before has
abbrev pub double_id : List Route → ℕ → List Route → Option ℕ
double_id before k [] = None
double_id before k (r ∷ rs) = cond (is_id r.id before) (Some k) (double_id (before ++ r ∷ []) (k + 1) rs)

-- the number behind this one, at most 4,294,967,295
abbrev pub next_number : ℕ → ℕ
next_number k = min (k + 1) 4294967295

-- the first of the clauses from number k on that is both handled and continued
abbrev pub both : ℕ → List Clause → Option ℕ
both k [] = None
both k (c ∷ cs) = cond (c.handled && c.continued) (Some k) (both (next_number k) cs)

-- ---- the first fault

abbrev pub too_many_routes : RouteSet → Option SetFault
too_many_routes s = cond (nat_lt 256 (length s.routes)) (Some TooManyRoutes) None

unfoldable pub set_fault : RouteSet → Option SetFault
set_fault s = or_else (too_many_routes s)
    (or_else (option_map BadBlock (bad_block s))
    (or_else (option_map TooNested (nested_too_deep s))
    (or_else (option_map SecondConsumer (second_consumer [] 0 s.routes))
    (or_else (option_map DoubleRouteId (double_id [] 0 s.routes))
    (option_map BothHandledAndContinued (both 0 s.clauses))))))

-- A file that fits is printed with the keys of each object in order, and nests far less deep than a text may.
use Rattle.std.proofs.Common.{◌≡◌, ℕ, suc, ◌≤◌, Bool, true, List, [], ◌∷◌, Option, Some, None, All, refl, arith, codes}
use Rattle.eip_exchange.specs.declared.setting.Policy.{Policy}
use Rattle.eip_text.specs.Json.{Json}
use Rattle.eip_text.specs.JsonText.{IsCanonical, nesting}
use Rattle.eip_uri.specs.Printed.{printed}
use Rattle.eip_uri.specs.declared.uri.Uri.{Uri}
use Rattle.eip_route.specs.Nest.{NestedClause, NestedRoute, NestedSet}
use Rattle.eip_route.specs.Valid.{is_policy}
use Rattle.eip_route.specs.declared.route.Handler.{Handler}
use Rattle.eip_route.specs.declared.route.Names.{Names}
use Rattle.eip_route_validity.specs.Fit.{ClauseFits, RouteFits, SetFits}
use Rattle.eip_route_canonical.specs.Canonical.{Pairs, list_of, policy_in, clause_json, route_json, default_items, dead_items, handler_items, clauses_json, routes_json, set_items, last_json}
use Rattle.eip_route_roundtrip.proofs.Ordered.{Good, deeper, word_good, AllGood, no_good, more_good, list_good, both_good, Run, join, single, object_good, alone_good, set_in}
use Rattle.eip_route_roundtrip.proofs.OrderedParts.{words_good, policy_in_order, MayBeGood, steps_in}
use Rattle.eip_route_roundtrip.proofs.OrderedSteps.{Levels, block_good, last_good}

-- ---- clauses

clause_good : {n : ℕ} (names : List (List ℕ)) (p : Policy) (handled continued : Bool) (o : Option Json) → is_policy p ≡ true → MayBeGood (suc n) o
    → Good (suc (suc (suc n))) (clause_json names p handled continued o)
unfolding clause_json
clause_good names p handled continued o h g =
    alone_good (codes "onException") (object_good (join (join (join (join (set_in (codes "continued") continued) (single (codes "exception") (list_good (words_good names))) refl) (set_in (codes "handled") handled) refl) (policy_in_order p h) refl) (steps_in o g) refl) refl)

first : Levels 0 83
first = record { inside = omega arith; enough = omega arith }

clauses_good : (n : Names) (cs : List NestedClause) → All (ClauseFits n) cs → AllGood 82 (clauses_json cs)
clauses_good n [] h = no_good
clauses_good n (c ∷ cs) h =
    let fits : ClauseFits n c = h 0 c (omega arith) in
    more_good (deeper (clause_good {n = 78} c.names c.policy c.handled c.continued (last_json c.steps) fits.policy (last_good n 0 83 c.steps first fits.steps fits.batched)) (omega arith)) (clauses_good n cs (λ k d l. h (suc k) d (omega arith)))

-- ---- routes

route_good : {n : ℕ} (id : List ℕ) (from : Uri) {j : Json} → Good n j → Good (suc (suc (suc n))) (route_json id from j)
unfolding route_json
route_good id from g =
    alone_good (codes "route") (object_good (join (single (codes "from") (object_good (join (single (codes "steps") g) (single (codes "uri") (word_good (printed from))) refl) refl)) (single (codes "id") (word_good id)) refl) refl)

routes_good : (n : Names) (rs : List NestedRoute) → All (RouteFits n) rs → AllGood 82 (routes_json rs)
routes_good n [] h = no_good
routes_good n (r ∷ rs) h =
    let fits : RouteFits n r = h 0 r (omega arith) in
    more_good (deeper (route_good r.id r.from (block_good n 0 83 r.steps first fits.steps fits.batched)) (omega arith)) (routes_good n rs (λ k d l. h (suc k) d (omega arith)))

-- ---- the handler

default_good : {n : ℕ} (ms : Pairs) → Run n (codes "redeliveryPolicy") (codes "redeliveryPolicy") ms → AllGood (suc (suc (suc n))) (default_items ms)
default_good [] h = no_good
default_good (m ∷ ms) h = more_good (alone_good (codes "errorHandler") (alone_good (codes "defaultErrorHandler") (object_good h refl))) no_good

dead_good : {n : ℕ} (o : Option Uri) (ms : Pairs) → Run n (codes "redeliveryPolicy") (codes "redeliveryPolicy") ms → AllGood (suc (suc (suc n))) (dead_items o ms)
dead_good None ms h = default_good ms h
dead_good (Some u) ms h =
    more_good (alone_good (codes "errorHandler") (alone_good (codes "deadLetterChannel") (object_good (join (single (codes "deadLetterUri") (word_good (printed u))) h refl) refl))) no_good

handler_good : {n : ℕ} (h : Handler) → is_policy h.policy ≡ true → AllGood (suc (suc (suc (suc n)))) (handler_items h)
unfolding handler_items
handler_good h fits = dead_good h.dead (policy_in h.policy) (policy_in_order h.policy fits)

-- ---- the whole

set_good : (n : Names) (x : NestedSet) → SetFits n x → Good 83 (list_of (set_items x))
set_good n x h = list_good (both_good _ (both_good _ (handler_good {n = 78} x.handler h.handler.policy) (clauses_good n x.clauses h.clauses)) (routes_good n x.routes h.routes))

pub set_canonical : (n : Names) (x : NestedSet) → SetFits n x → IsCanonical (list_of (set_items x))
set_canonical n x h = (set_good n x h).canonical

pub set_shallow : (n : Names) (x : NestedSet) → SetFits n x → nesting (list_of (set_items x)) ≤ 127
set_shallow n x h = omega (arith, (set_good n x h).shallow)

-- A set of routes that is printed is read again.
use Rattle.std.proofs.Common.{◌≡◌, ℕ, ◌+◌, ◌^◌, Bool, true, false, List, [], ◌∷◌, ◌++◌, Option, Some, None, option_map, refl, ap, ◌∙◌, append_assoc, arith}
use Rattle.std.specs.Prelude.{All, ◌&&◌, codes}
use Rattle.std.proofs.lemmas.Bool.{and_parts}
use Rattle.std.proofs.lemmas.List.Elements.{All-head, All-tail}
use Rattle.eip_text.specs.Json.{Json, items_of, Members, members_of}
use Rattle.eip_exchange.specs.declared.setting.Policy.{Policy}
use Rattle.eip_uri.specs.Printed.{printed}
use Rattle.eip_uri.specs.declared.uri.Uri.{Uri}
use Rattle.eip_route.specs.Nest.{NestedSteps, NestedLast, NestedClause, NestedRoute, NestedSet, none, more, no_last, last}
use Rattle.eip_uri.specs.Ranges.{is_uri}
use Rattle.eip_route.specs.Valid.{is_policy, is_given_between}
use Rattle.eip_route.specs.declared.route.Handler.{Handler}
use Rattle.eip_route.specs.declared.route.Names.{Names}
use Rattle.eip_route_grammar.specs.Keys.{is_spelled, spelled, dashed}
use Rattle.eip_route_grammar.specs.Objects.{value_at, outcome, plainly}
use Rattle.eip_route_grammar.specs.declared.keys.Key.TheVariants as key
use Rattle.eip_route_validity.specs.Fit.{LastBatched, LastFits, LastHasSteps, ClauseFits, DeadFits, HandlerFits, RouteFits, SetFits}
use Rattle.eip_route_values.specs.Leaves.{exceptions_given, small_count_at, count_at, count_of, policy_in, policy_given, policy_at, members_given, text_given, text_at}
use Rattle.eip_route_values.specs.Nesting.{nest_steps}
use Rattle.eip_route_values.specs.Parts.{endpoint}
use Rattle.eip_route_values.specs.Sets.{where_filled, clause_steps, clause_in, clauses_of, default_handler, dead_letter_in, handler_in, routes_of, nest}
use Rattle.eip_route_canonical.specs.Canonical.{Pairs, object_of, list_of, where_any, steps_json, last_json, clause_json, route_json, policy_pairs, default_items, dead_items, handler_items, clauses_json, routes_json, set_items}
use Rattle.eip_route_canonical.specs.Canonical as printed_form
use Rattle.eip_route_roundtrip.proofs.Again.{steps_again}
use Rattle.eip_route_roundtrip.proofs.Objects.{set_value, backing_value, object_value, policy_slots, policy_puts, dead_slots, dead_puts, clause_slots, clause_puts}
use Rattle.eip_route_roundtrip.proofs.Parts.{words_again, endpoint_again, number_again}
use Rattle.eip_route_roundtrip.proofs.Slots.{Slot, filled, value_filled}

-- ---- policies

backing_again : (o : Option Bool) → option_map (λ t. plainly (Some t)) (backing_value o) ≡ o
backing_again None = refl
backing_again (Some b) = refl

policy_by : (ms : Members) (p : Policy) → small_count_at key.MaximumRedeliveries ms ≡ p.maximum → count_at key.RedeliveryDelay ms ≡ p.delay → count_at key.BackOffMultiplier ms ≡ p.multiplier
    → option_map (λ t. plainly (Some t)) (value_at key.UseExponentialBackOff ms) ≡ p.backing_off → count_at key.MaximumRedeliveryDelay ms ≡ p.greatest → policy_in ms ≡ p
policy_by ms p maximum delay multiplier backing greatest =
    λ i. record { maximum = maximum i; delay = delay i; multiplier = multiplier i; backing_off = backing i; greatest = greatest i }

policy_slots_again : (p : Policy) → is_policy p ≡ true → policy_in (members_of (filled (policy_slots p))) ≡ p
unfolding is_spelled spelled dashed
policy_slots_again p h =
    let ss : List Slot = policy_slots p in
    let parts = and_parts (is_given_between 0 1000 p.maximum && is_given_between 0 1000000000 p.delay) (is_given_between 1 100 p.multiplier && is_given_between 0 1000000000 p.greatest) h in
    let front = and_parts (is_given_between 0 1000 p.maximum) (is_given_between 0 1000000000 p.delay) parts.0 in
    let rear = and_parts (is_given_between 1 100 p.multiplier) (is_given_between 0 1000000000 p.greatest) parts.1 in
    policy_by (members_of (filled ss)) p
    (ap (option_map (count_of (2 ^ 32))) (value_filled key.MaximumRedeliveries ss) ∙ number_again (2 ^ 32) 0 1000 p.maximum (omega arith) front.0)
    (ap (option_map (count_of (2 ^ 64))) (value_filled key.RedeliveryDelay ss) ∙ number_again (2 ^ 64) 0 1000000000 p.delay (omega arith) front.1)
    (ap (option_map (count_of (2 ^ 64))) (value_filled key.BackOffMultiplier ss) ∙ number_again (2 ^ 64) 1 100 p.multiplier (omega arith) rear.0)
    (ap (option_map (λ t. plainly (Some t))) (value_filled key.UseExponentialBackOff ss) ∙ backing_again p.backing_off)
    (ap (option_map (count_of (2 ^ 64))) (value_filled key.MaximumRedeliveryDelay ss) ∙ number_again (2 ^ 64) 0 1000000000 p.greatest (omega arith) rear.1)

policy_again : (p : Policy) → is_policy p ≡ true → policy_in (members_of (policy_pairs p)) ≡ p
policy_again p h = ap (λ (ps : Pairs). policy_in (members_of ps)) (policy_puts p).same ∙ policy_slots_again p h

-- a policy that gives no attribute is absent
given_policy : (ps : Pairs) → policy_given (members_given (object_value ps)) ≡ policy_in (members_of ps)
given_policy [] = refl
given_policy (m ∷ ms) = refl

policy_value_again : (p : Policy) → is_policy p ≡ true → policy_given (members_given (object_value (policy_pairs p))) ≡ p
policy_value_again p h = given_policy (policy_pairs p) ∙ policy_again p h

-- ---- clauses

pub outcome_again : (b : Bool) → outcome (set_value b) ≡ b
outcome_again true = refl
outcome_again false = refl

steps_filled : (ss x : NestedSteps) → LastHasSteps (last ss) → x ≡ ss → where_filled x ≡ last ss
steps_filled none x h e = absurd h
steps_filled (more s ss) x h e = ap where_filled e

clause_steps_again : (n : Names) (l : NestedLast) → LastHasSteps l → LastFits n 0 l → LastBatched l → clause_steps (last_json l) ≡ l
clause_steps_again n no_last h f g = refl
clause_steps_again n (last ss) h f g = steps_filled ss (nest_steps (items_of (steps_json ss))) h (steps_again n 1 ss f.1 g)

clause_by : (ms : Members) (c : NestedClause) → exceptions_given (value_at key.Exception ms) ≡ c.names → policy_at ms ≡ c.policy → outcome (value_at key.Handled ms) ≡ c.handled
    → outcome (value_at key.Continued ms) ≡ c.continued → clause_steps (value_at key.Steps ms) ≡ c.steps → clause_in ms ≡ c
clause_by ms c names policy handled continued steps =
    λ i. record { names = names i; policy = policy i; handled = handled i; continued = continued i; steps = steps i }

slots_of : NestedClause → List Slot
slots_of c = clause_slots c.names c.policy c.handled c.continued (last_json c.steps)

clause_again : (n : Names) (c : NestedClause) → ClauseFits n c → clause_in (members_of (filled (slots_of c))) ≡ c
unfolding is_spelled spelled dashed slots_of
clause_again n c fits =
    let ss : List Slot = slots_of c in
    clause_by (members_of (filled ss)) c
    (ap exceptions_given (value_filled key.Exception ss) ∙ words_again c.names)
    (ap (λ (o : Option Json). policy_given (members_given o)) (value_filled key.RedeliveryPolicy ss) ∙ policy_value_again c.policy fits.policy)
    (ap outcome (value_filled key.Handled ss) ∙ outcome_again c.handled)
    (ap outcome (value_filled key.Continued ss) ∙ outcome_again c.continued)
    (ap clause_steps (value_filled key.Steps ss) ∙ clause_steps_again n c.steps fits.filled fits.steps fits.batched)

same_clauses : (c e : NestedClause) (cs es : List NestedClause) → c ≡ e → cs ≡ es → c ∷ cs ≡ e ∷ es
same_clauses c e cs es p q = cc

clauses_again : (n : Names) (cs : List NestedClause) (qs : List Json) → All (ClauseFits n) cs → clauses_of (items_of qs) ≡ [] → clauses_of (items_of (clauses_json cs ++ qs)) ≡ cs
unfolding clause_json is_spelled spelled dashed slots_of
clauses_again n [] qs f e = e
clauses_again n (c ∷ cs) qs f e =
    same_clauses _ c (clauses_of (items_of (clauses_json cs ++ qs))) cs
    (ap (λ (ps : Pairs). clause_in (members_of ps)) (clause_puts c.names c.policy c.handled c.continued (last_json c.steps)).same ∙ clause_again n c (All-head (ClauseFits n) c cs f))
    (clauses_again n cs qs (All-tail (ClauseFits n) c cs f) e)

-- clauses are neither routes nor handlers
clauses_no_routes : (k : ℕ) (cs : List NestedClause) (qs : List Json) → routes_of k (items_of (clauses_json cs ++ qs)) ≡ routes_of k (items_of qs)
unfolding clause_json is_spelled spelled dashed
clauses_no_routes k [] qs = refl
clauses_no_routes k (c ∷ cs) qs = clauses_no_routes k cs qs

clauses_no_handler : (cs : List NestedClause) (qs : List Json) → handler_in (items_of (clauses_json cs ++ qs)) ≡ handler_in (items_of qs)
unfolding clause_json is_spelled spelled dashed
clauses_no_handler [] qs = refl
clauses_no_handler (c ∷ cs) qs = clauses_no_handler cs qs

-- ---- routes

route_by : (r : NestedRoute) (u : Uri) (ss : NestedSteps) → u ≡ r.from → ss ≡ r.steps → record { id = r.id; from = u; steps = ss } ≡ r
route_by r u ss p q = λ i. record { id = r.id; from = p i; steps = q i }

same_routes : (r t : NestedRoute) (rs ts : List NestedRoute) → r ≡ t → rs ≡ ts → r ∷ rs ≡ t ∷ ts
same_routes r t rs ts p q = cc

routes_again : (n : Names) (k : ℕ) (rs : List NestedRoute) → All (RouteFits n) rs → routes_of k (items_of (routes_json rs)) ≡ rs
unfolding route_json is_spelled spelled dashed
routes_again n k [] f = refl
routes_again n k (r ∷ rs) f =
    let fits : RouteFits n r = All-head (RouteFits n) r rs f in
    same_routes _ r (routes_of (k + 1) (items_of (routes_json rs))) rs
    (route_by r (endpoint (printed r.from) []) (nest_steps (items_of (steps_json r.steps))) (endpoint_again r.from fits.from.0) (steps_again n 1 r.steps fits.steps.1 fits.batched))
    (routes_again n (k + 1) rs (All-tail (RouteFits n) r rs f))

routes_no_clauses : (rs : List NestedRoute) → clauses_of (items_of (routes_json rs)) ≡ []
unfolding route_json is_spelled spelled dashed
routes_no_clauses [] = refl
routes_no_clauses (r ∷ rs) = routes_no_clauses rs

routes_no_handler : (rs : List NestedRoute) → handler_in (items_of (routes_json rs)) ≡ default_handler
unfolding route_json is_spelled spelled dashed
routes_no_handler [] = refl
routes_no_handler (r ∷ rs) = routes_no_handler rs

-- ---- the error handler

-- by the members of its policy
default_again : (ps : Pairs) (p : Policy) (qs : List Json) → policy_in (members_of ps) ≡ p → handler_in (items_of qs) ≡ default_handler
    → handler_in (items_of (default_items (where_any (codes "redeliveryPolicy") ps) ++ qs)) ≡ record { dead = None; policy = p }
unfolding is_spelled spelled dashed
default_again [] p qs e h = h ∙ ap (λ (q : Policy). record { dead = None; policy = q }) e
default_again (m ∷ ms) p qs e h = ap (λ (q : Policy). record { dead = None; policy = q }) e

dead_by : (ms : Members) (u : Uri) (p : Policy) → endpoint (text_at key.DeadLetterUri ms) [] ≡ u → policy_at ms ≡ p → dead_letter_in ms ≡ record { dead = Some u; policy = p }
dead_by ms u p e q = λ i. record { dead = Some (e i); policy = q i }

dead_again : (u : Uri) (p : Policy) → is_uri u ≡ true → is_policy p ≡ true → dead_letter_in (members_of (filled (dead_slots u p))) ≡ record { dead = Some u; policy = p }
unfolding is_spelled spelled dashed
dead_again u p h g =
    let ss : List Slot = dead_slots u p in
    dead_by (members_of (filled ss)) u p
    (ap (λ (o : Option Json). endpoint (text_given o) []) (value_filled key.DeadLetterUri ss) ∙ endpoint_again u h)
    (ap (λ (o : Option Json). policy_given (members_given o)) (value_filled key.RedeliveryPolicy ss) ∙ policy_value_again p g)

dead_items_again : (n : Names) (dead : Option Uri) (p : Policy) (qs : List Json) → DeadFits n dead → is_policy p ≡ true → handler_in (items_of qs) ≡ default_handler
    → handler_in (items_of (dead_items dead (printed_form.policy_in p) ++ qs)) ≡ record { dead = dead; policy = p }
unfolding is_spelled spelled dashed
dead_items_again n None p qs f g e = default_again (policy_pairs p) p qs (policy_again p g) e
dead_items_again n (Some u) p qs f g e = ap (λ (ps : Pairs). dead_letter_in (members_of ps)) (dead_puts u p).same ∙ dead_again u p f.0 g

handler_again : (n : Names) (h : Handler) (qs : List Json) → HandlerFits n h → handler_in (items_of qs) ≡ default_handler → handler_in (items_of (handler_items h ++ qs)) ≡ h
unfolding handler_items
handler_again n h qs f e = dead_items_again n h.dead h.policy qs f.dead f.policy e

-- a handler is neither a route nor a clause
dead_no_routes : (k : ℕ) (dead : Option Uri) (ps : Pairs) (qs : List Json) → routes_of k (items_of (dead_items dead ps ++ qs)) ≡ routes_of k (items_of qs)
unfolding is_spelled spelled dashed
dead_no_routes k None [] qs = refl
dead_no_routes k None (m ∷ ms) qs = refl
dead_no_routes k (Some u) ps qs = refl

dead_no_clauses : (dead : Option Uri) (ps : Pairs) (qs : List Json) → clauses_of (items_of (dead_items dead ps ++ qs)) ≡ clauses_of (items_of qs)
unfolding is_spelled spelled dashed
dead_no_clauses None [] qs = refl
dead_no_clauses None (m ∷ ms) qs = refl
dead_no_clauses (Some u) ps qs = refl

-- ---- the whole

set_by : (x : NestedSet) (s : NestedSet) → s.routes ≡ x.routes → s.handler ≡ x.handler → s.clauses ≡ x.clauses → s ≡ x
set_by x s p q r = λ i. record { routes = p i; handler = q i; clauses = r i }

-- what is printed of nested steps is read as the same
pub nested_again : (n : Names) (x : NestedSet) → SetFits n x → nest (list_of (set_items x)) ≡ x
unfolding handler_items
nested_again n x fits =
    let rear : List Json = routes_json x.routes in
    let later : List Json = clauses_json x.clauses ++ rear in
    ap (λ (js : List Json). nest (list_of js)) (append_assoc (handler_items x.handler) (clauses_json x.clauses) rear)
    ∙ set_by x (nest (list_of (handler_items x.handler ++ later)))
    (dead_no_routes 1 x.handler.dead (printed_form.policy_in x.handler.policy) later ∙ (clauses_no_routes 1 x.clauses rear ∙ routes_again n 1 x.routes fits.routes))
    (handler_again n x.handler later fits.handler (clauses_no_handler x.clauses rear ∙ routes_no_handler x.routes))
    (dead_no_clauses x.handler.dead (printed_form.policy_in x.handler.policy) later ∙ clauses_again n x.clauses rear fits.clauses (routes_no_clauses x.routes))

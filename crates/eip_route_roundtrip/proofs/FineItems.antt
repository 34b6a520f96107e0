-- The items of a file that are printed have no fault.
use Rattle.std.proofs.Common.{◌≡◌, ℕ, Bool, true, false, ◌&&◌, cond, List, [], ◌∷◌, ◌++◌, Option, Some, None, refl, ap, ◌∙◌}
use Rattle.std.specs.Prelude.{All, codes}
use Rattle.std.proofs.lemmas.Bool.{and_parts}
use Rattle.std.proofs.lemmas.List.Elements.{All-head, All-tail}
use Rattle.eip_text.specs.Json.{Json, word, items_of, Members, members_of}
use Rattle.eip_exchange.specs.declared.setting.Policy.{Policy}
use Rattle.eip_uri.specs.Printed.{printed}
use Rattle.eip_uri.specs.declared.uri.Uri.{Uri}
use Rattle.eip_route.specs.Nest.{NestedClause, NestedRoute, NestedSet}
use Rattle.eip_route.specs.Valid.{is_policy, is_given_between}
use Rattle.eip_route.specs.declared.route.Handler.{Handler}
use Rattle.eip_route.specs.declared.route.Names.{Names}
use Rattle.eip_route_grammar.specs.Keys.{is_spelled, spelled, dashed}
use Rattle.eip_route_grammar.specs.Objects.{value_at, outcome}
use Rattle.eip_route_grammar.specs.Table.{rows, rule_of, shape_of}
use Rattle.eip_route_grammar.specs.declared.fault.Cause.TheVariants as cause
use Rattle.eip_route_grammar.specs.declared.keys.Key.TheVariants as key
use Rattle.eip_route_grammar.specs.declared.table.Kind.{Kind}
use Rattle.eip_route_grammar.specs.declared.table.Kind.TheVariants as kind
use Rattle.eip_route_grammar.specs.declared.table.Rule.TheVariants as rule
use Rattle.eip_route_validity.specs.Fit.{ClauseFits, DeadFits, HandlerFits, RouteFits, SetFits}
use Rattle.eip_route_canonical.specs.Canonical.{Pairs, object_of, list_of, one, where_any, steps_json, last_json, clause_json, route_json, policy_pairs, policy_in, default_items, dead_items, handler_items, clauses_json, routes_json}
use Rattle.eip_route_roundtrip.proofs.Fine.{Fine, MayBeFine, ItemsFine, no_items_fine, item_fine, object_fine, alone_fine}
use Rattle.eip_route_roundtrip.proofs.Frames.{block_fine, exceptions_fine}
use Rattle.eip_route_roundtrip.proofs.FineNested.{steps_fine, last_fine}
use Rattle.eip_route_roundtrip.proofs.Leaves.{named_fine}
use Rattle.eip_route_roundtrip.proofs.Keyed.{keys_fine}
use Rattle.eip_route_roundtrip.proofs.Objects.{object_value, policy_slots, policy_puts, dead_slots, dead_puts, clause_slots, clause_puts}
use Rattle.eip_route_roundtrip.proofs.Batches.{given_fine}
use Rattle.eip_route_roundtrip.proofs.Sets.{outcome_again}
use Rattle.eip_route_roundtrip.proofs.Slots.{Slot, sure, filled, value_filled, put_one, ◌and◌}
use Rattle.eip_route_roundtrip.proofs.Values.{target_fine, source_fine, set_fine, backing_fine, number_fine}

-- ---- policies

policy_object_fine : (n : Names) (d : ℕ) (p : Policy) → is_policy p ≡ true → Fine n d [] kind.RedeliveryPolicy (object_of (policy_pairs p))
unfolding shape_of rows rule_of is_spelled spelled dashed
policy_object_fine n d p h =
    let parts = and_parts (is_given_between 0 1000 p.maximum && is_given_between 0 1000000000 p.delay) (is_given_between 1 100 p.multiplier && is_given_between 0 1000000000 p.greatest) h in
    let front = and_parts (is_given_between 0 1000 p.maximum) (is_given_between 0 1000000000 p.delay) parts.0 in
    let rear = and_parts (is_given_between 1 100 p.multiplier) (is_given_between 0 1000000000 p.greatest) parts.1 in
    object_fine n d [] kind.RedeliveryPolicy (policy_pairs p) (policy_slots p) (policy_puts p) (record { own = keys_fine (rows kind.RedeliveryPolicy) (policy_slots p) refl refl; parameters = refl }) (
      number_fine n d [] (kind.Leaf (rule.Count 1 100)) 1 100 p.multiplier refl rear.0,
      (
        number_fine n d [] (kind.Leaf (rule.Count 0 1000)) 0 1000 p.maximum refl front.0,
        (
          number_fine n d [] (kind.Leaf (rule.Count 0 1000000000)) 0 1000000000 p.greatest refl rear.1,
          (
            number_fine n d [] (kind.Leaf (rule.Count 0 1000000000)) 0 1000000000 p.delay refl front.1,
            (backing_fine n d [] (kind.Leaf rule.Flag) p.backing_off refl, tt),
          ),
        ),
      ),
    ) refl

policy_fine : (n : Names) (d : ℕ) (p : Policy) → is_policy p ≡ true → MayBeFine n d [] kind.RedeliveryPolicy (object_value (policy_pairs p))
policy_fine n d p h = given_fine n d kind.RedeliveryPolicy (policy_pairs p) (policy_object_fine n d p h)

-- ---- clauses

not_both : (ms : Members) (a b : Bool) → outcome (value_at key.Handled ms) ≡ a → outcome (value_at key.Continued ms) ≡ b → (a && b) ≡ false
    → cond (outcome (value_at key.Handled ms) && outcome (value_at key.Continued ms)) (Some cause.BothHandledAndContinued) None ≡ None
not_both ms a b p q h = (λ i. cond (p i && q i) (Some cause.BothHandledAndContinued) None) ∙ ap (λ (t : Bool). cond t (Some cause.BothHandledAndContinued) None) h

clause_fine : (n : Names) (c : NestedClause) → ClauseFits n c → Fine n 0 [] kind.Item (clause_json c.names c.policy c.handled c.continued (last_json c.steps))
unfolding clause_json shape_of rows rule_of is_spelled spelled dashed
clause_fine n c fits =
    let ss : List Slot = clause_slots c.names c.policy c.handled c.continued (last_json c.steps) in
    alone_fine n 0 [] kind.Item (codes "onException") _ refl refl
    (object_fine n 0 [] kind.OnException _ ss (clause_puts c.names c.policy c.handled c.continued (last_json c.steps)) (record { own = keys_fine (rows kind.OnException) ss refl refl; parameters = refl }) (
      set_fine n 0 [] kind.Outcome c.continued refl,
      (
        exceptions_fine n 0 c.names fits.names,
        (
          set_fine n 0 [] kind.Outcome c.handled refl,
          (policy_fine n 0 c.policy fits.policy, (last_fine n 0 c.steps fits.steps fits.batched, tt)),
        ),
      ),
    )
    (not_both (members_of (filled ss)) c.handled c.continued (ap outcome (value_filled key.Handled ss) ∙ outcome_again c.handled) (ap outcome (value_filled key.Continued ss) ∙ outcome_again c.continued) fits.one))

clauses_fine : (n : Names) (cs : List NestedClause) (qs : List Json) → All (ClauseFits n) cs → ItemsFine n 0 kind.Item (items_of qs) → ItemsFine n 0 kind.Item (items_of (clauses_json cs ++ qs))
clauses_fine n [] qs f h = h
clauses_fine n (c ∷ cs) qs f h =
    item_fine n 0 kind.Item (clause_json c.names c.policy c.handled c.continued (last_json c.steps)) (items_of (clauses_json cs ++ qs))
    (clause_fine n c (All-head (ClauseFits n) c cs f)) (clauses_fine n cs qs (All-tail (ClauseFits n) c cs f) h)

-- ---- routes

abbrev from_slots : Json → Uri → List Slot
from_slots steps u = sure (codes "steps") steps ∷ sure (codes "uri") (word (printed u)) ∷ []

abbrev route_slots : Json → List ℕ → List Slot
route_slots from id = sure (codes "from") from ∷ sure (codes "id") (word id) ∷ []

route_fine : (n : Names) (r : NestedRoute) → RouteFits n r → Fine n 0 [] kind.Item (route_json r.id r.from (list_of (steps_json r.steps)))
unfolding route_json shape_of rows rule_of is_spelled spelled dashed filled
route_fine n r fits =
    let steps : Json = list_of (steps_json r.steps) in
    let from : Json = object_of (one (codes "steps") steps ++ one (codes "uri") (word (printed r.from))) in
    alone_fine n 0 [] kind.Item (codes "route") _ refl refl
    (object_fine n 0 [] kind.Route (one (codes "from") from ++ one (codes "id") (word r.id)) (route_slots from r.id) (put_one and put_one)
    (record { own = keys_fine (rows kind.Route) (route_slots from r.id) refl refl; parameters = refl }) (
      object_fine n 0 [] kind.From (one (codes "steps") steps ++ one (codes "uri") (word (printed r.from))) (from_slots steps r.from) (put_one and put_one)
          (record { own = keys_fine (rows kind.From) (from_slots steps r.from) refl refl; parameters = refl })
          (block_fine n 0 [] (items_of (steps_json r.steps)) fits.steps.0 (steps_fine n 1 r.steps fits.steps.1 fits.batched), (source_fine n 0 [] (kind.Leaf rule.Consumer) r.from refl refl fits.from, tt)) refl,
      (named_fine n 0 r.id fits.id, tt),
    ) refl)

routes_fine : (n : Names) (rs : List NestedRoute) → All (RouteFits n) rs → ItemsFine n 0 kind.Item (items_of (routes_json rs))
routes_fine n [] f = no_items_fine n 0 kind.Item
routes_fine n (r ∷ rs) f =
    item_fine n 0 kind.Item (route_json r.id r.from (list_of (steps_json r.steps))) (items_of (routes_json rs)) (route_fine n r (All-head (RouteFits n) r rs f)) (routes_fine n rs (All-tail (RouteFits n) r rs f))

-- ---- the error handler

default_fine : (n : Names) (ps : Pairs) (qs : List Json) → Fine n 0 [] kind.RedeliveryPolicy (object_of ps) → ItemsFine n 0 kind.Item (items_of qs)
    → ItemsFine n 0 kind.Item (items_of (default_items (where_any (codes "redeliveryPolicy") ps) ++ qs))
unfolding shape_of rows is_spelled spelled dashed
default_fine n [] qs h hs = hs
default_fine n (m ∷ ms) qs h hs =
    item_fine n 0 kind.Item _ (items_of qs)
    (alone_fine n 0 [] kind.Item (codes "errorHandler") _ refl refl
    (alone_fine n 0 [] kind.ErrorHandler (codes "defaultErrorHandler") _ refl refl
    (alone_fine n 0 [] kind.DefaultErrorHandler (codes "redeliveryPolicy") (object_of (m ∷ ms)) refl refl h))) hs

dead_fine : (n : Names) (dead : Option Uri) (p : Policy) (qs : List Json) → DeadFits n dead → is_policy p ≡ true → ItemsFine n 0 kind.Item (items_of qs)
    → ItemsFine n 0 kind.Item (items_of (dead_items dead (policy_in p) ++ qs))
unfolding shape_of rows rule_of is_spelled spelled dashed
dead_fine n None p qs f h hs = default_fine n (policy_pairs p) qs (policy_object_fine n 0 p h) hs
dead_fine n (Some u) p qs f h hs =
    item_fine n 0 kind.Item _ (items_of qs)
    (alone_fine n 0 [] kind.Item (codes "errorHandler") _ refl refl
    (alone_fine n 0 [] kind.ErrorHandler (codes "deadLetterChannel") _ refl refl
    (object_fine n 0 [] kind.DeadLetterChannel _ (dead_slots u p) (dead_puts u p) (record { own = keys_fine (rows kind.DeadLetterChannel) (dead_slots u p) refl refl; parameters = refl })
    (target_fine n 0 [] (kind.Leaf rule.Producer) u refl refl f, (policy_fine n 0 p h, tt)) refl))) hs

handler_fine : (n : Names) (h : Handler) (qs : List Json) → HandlerFits n h → ItemsFine n 0 kind.Item (items_of qs) → ItemsFine n 0 kind.Item (items_of (handler_items h ++ qs))
unfolding handler_items
handler_fine n h qs f hs = dead_fine n h.dead h.policy qs f.dead f.policy hs

-- ---- all items

pub items_fine : (n : Names) (x : NestedSet) → SetFits n x → ItemsFine n 0 kind.Item (items_of (handler_items x.handler ++ (clauses_json x.clauses ++ routes_json x.routes)))
items_fine n x fits =
    handler_fine n x.handler (clauses_json x.clauses ++ routes_json x.routes) fits.handler (clauses_fine n x.clauses (routes_json x.routes) fits.clauses (routes_fine n x.routes fits.routes))

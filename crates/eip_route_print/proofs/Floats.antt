-- No number in the canonical form has a fraction.
use Rattle.std.proofs.Common.{◌≡◌, ℕ, Bool, true, false, cond, ◌||◌, List, [], ◌∷◌, ◌++◌, refl, Option, Some, None}
use Rattle.std.specs.Prelude.{codes, pos, nat_eq}
use Rattle.eip_simple_read.specs.Spelling.{template_text, predicate_text}
use Rattle.eip_uri.specs.Printed.{printed}
use Rattle.eip_exchange.specs.declared.setting.How.{How}
use Rattle.eip_exchange.specs.declared.setting.How.TheVariants as how
use Rattle.eip_exchange.specs.declared.setting.Key.{Key}
use Rattle.eip_exchange.specs.declared.setting.Key.TheVariants as key
use Rattle.eip_exchange.specs.declared.setting.Policy.{Policy}
use Rattle.eip_exchange.specs.declared.setting.Strategy.{Strategy}
use Rattle.eip_exchange.specs.declared.setting.Strategy.TheVariants as strategy
use Rattle.eip_simple_read.specs.declared.tree.Predicate.{Predicate}
use Rattle.eip_simple_read.specs.declared.tree.Template.{Template}
use Rattle.eip_text.specs.Json.{Json, flag, whole, word, object, Members, no_members, member, items_of, members_of}
use Rattle.eip_text.specs.JsonText.{has_float, items_have_float, members_have_float}
use Rattle.eip_uri.specs.declared.uri.Uri.{Uri}
use Rattle.eip_route.specs.Nest.{Gathering, Frame, chooses, filters, splits, multicasts, aggregates, runs_once, tries, Catching, NestedStep, NestedSteps, NestedGroups, NestedLast, NestedClause, NestedRoute, leaf, holds, none, more, no_group, group, no_last, last, rest_of, past, un_clauses, un_routes}
use Rattle.eip_route.specs.Valid.{is_batch_strategy}
use Rattle.eip_route.specs.declared.route.Handler.{Handler}
use Rattle.eip_route.specs.declared.route.RouteSet.{RouteSet}
use Rattle.eip_route.specs.declared.step.Check.{Check}
use Rattle.eip_route.specs.declared.step.Check.TheVariants as check
use Rattle.eip_route.specs.declared.step.Expr.{Expr}
use Rattle.eip_route.specs.declared.step.Expr.TheVariants as expr
use Rattle.eip_route.specs.declared.step.Fan.{Fan}
use Rattle.eip_route.specs.declared.step.Step.{Step}
use Rattle.eip_route.specs.declared.step.Step.TheVariants as step
use Rattle.eip_route_canonical.specs.Canonical.{order_pairs, where_other, batch_pairs, config_pairs, batch_json, behind, object_members, members_first, resequence_json, splits_json, Pairs, object_of, list_of, one, alone, where_set, where_unset, given_word, given_number, where_any, constant_pairs, named_pairs, simple_pairs, expr_pairs, check_pairs, strategy_text, this_strategy, strategy_pairs, group_pairs, predicate_pairs, delimiter_pairs, is_comma, json_path, token_pairs, backing_pairs, policy_pairs, policy_in, set_body_json, named_value_json, set_json, log_json, throw_json, guarded_json, choice_json, split_json, multicast_json, recipients_json, aggregate_json, idempotent_json, nested_pairs, when_pairs, catch_json, catches_pairs, try_json, first_json, all_json, cases_json, catches_json, last_steps, frame_json, leaf_json, steps_json, step_json, groups_json, last_json, words, steps_pairs, clause_json, route_json, default_items, dead_items, handler_items, clauses_json, routes_json}

either : (a b : Bool) → a ≡ false → b ≡ false → a || b ≡ false
either true b h i = h
either false b h i = i

later : (b x y : Bool) → b || x ≡ false → (x ≡ false → y ≡ false) → b || y ≡ false
later true x y h f = h
later false x y h f = f h

Bare : Json → Type 0
Bare j = has_float j ≡ false

Plain : Pairs → Type 0
Plain ms = members_have_float (members_of ms) ≡ false

Whole : List Json → Type 0
Whole js = items_have_float (items_of js) ≡ false

nothing : Plain []
unfolding Plain
nothing = refl

single : (k : List ℕ) (j : Json) → Bare j → Plain (one k j)
unfolding Plain Bare
single k j h = either (has_float j) false h refl

join : (ms ns : Pairs) → Plain ms → Plain ns → Plain (ms ++ ns)
unfolding Plain
join [] ns h i = i
join (m ∷ ms) ns h i = later (has_float m.1) _ _ h (λ e. join ms ns e i)

object_plain : (ms : Pairs) → Plain ms → Bare (object_of ms)
unfolding Plain Bare
object_plain ms h = h

abbrev MayBeBare : Option Json → Type 0
MayBeBare None = Unit {0}
MayBeBare (Some j) = Bare j

of_word : (k w : List ℕ) → Plain (one k (word w))
unfolding Plain
of_word k w = refl

of_flag : (k : List ℕ) (b : Bool) → Plain (one k (flag b))
unfolding Plain
of_flag k b = refl

of_number : (k : List ℕ) (n : ℕ) → Plain (one k (whole (pos n)))
unfolding Plain
of_number k n = refl

bare_word : (w : List ℕ) → Bare (word w)
unfolding Bare
bare_word w = refl

alone_plain : (k : List ℕ) (j : Json) → Bare j → Bare (alone k j)
alone_plain k j h = object_plain (one k j) (single k j h)

no_items : Whole []
unfolding Whole
no_items = refl

items : (j : Json) (js : List Json) → Bare j → Whole js → Whole (j ∷ js)
unfolding Whole Bare
items j js h i = either (has_float j) (items_have_float (items_of js)) h i

list_plain : (js : List Json) → Whole js → Bare (list_of js)
unfolding Whole Bare
list_plain js h = h

append : (js ks : List Json) → Whole js → Whole ks → Whole (js ++ ks)
unfolding Whole
append [] ks h i = i
append (j ∷ js) ks h i = later (has_float j) _ _ h (λ e. append js ks e i)

-- ---- members

unless : (b : Bool) (ms : Pairs) → Plain ms → Plain (cond b [] ms)
unless true ms h = nothing
unless false ms h = h

set_plain : (k : List ℕ) (b : Bool) → Plain (where_set k b)
set_plain k true = of_flag k true
set_plain k false = nothing

unset_plain : (k : List ℕ) (b : Bool) → Plain (where_unset k b)
unset_plain k true = nothing
unset_plain k false = of_flag k false

word_plain : (k : List ℕ) (o : Option (List ℕ)) → Plain (given_word k o)
word_plain k None = nothing
word_plain k (Some w) = of_word k w

number_plain : (k : List ℕ) (o : Option ℕ) → Plain (given_number k o)
number_plain k None = nothing
number_plain k (Some n) = of_number k n

any_plain : (k : List ℕ) (ms : Pairs) → Plain ms → Plain (where_any k ms)
any_plain k [] h = nothing
any_plain k (m ∷ ms) h = single k (object_of (m ∷ ms)) (object_plain (m ∷ ms) h)

constant_plain : (e : Expr) → Plain (constant_pairs e)
constant_plain (expr.Constant text) = of_word (codes "constant") text
constant_plain (expr.Simple t) = nothing
constant_plain (expr.Header name) = nothing
constant_plain (expr.Property name) = nothing

named_plain : (e : Expr) → Plain (named_pairs e)
named_plain (expr.Constant text) = nothing
named_plain (expr.Simple t) = nothing
named_plain (expr.Header name) = of_word (codes "header") name
named_plain (expr.Property name) = of_word (codes "exchangeProperty") name

simple_plain : (e : Expr) → Plain (simple_pairs e)
simple_plain (expr.Constant text) = nothing
simple_plain (expr.Simple t) = of_word (codes "simple") (template_text t)
simple_plain (expr.Header name) = nothing
simple_plain (expr.Property name) = nothing

expr_plain : (e : Expr) → Bare (object_of (expr_pairs e))
expr_plain e = object_plain _ (join _ _ (join _ _ (constant_plain e) (named_plain e)) (simple_plain e))

check_plain : (c : Check) → Plain (check_pairs c)
check_plain (check.Simple p) = of_word (codes "simple") (predicate_text p)
check_plain (check.Fixed b) = of_flag (codes "constant") b
check_plain (check.Stored name) = of_word (codes "ref") name

this_plain : (s : Strategy) → Plain (this_strategy s)
this_plain s = of_word (codes "aggregationStrategy") (strategy_text s)

strategy_plain : (o : Option Strategy) → Plain (strategy_pairs o)
strategy_plain None = nothing
strategy_plain (Some s) = this_plain s

group_plain : (s : Strategy) → Plain (group_pairs s)
group_plain strategy.Original = this_plain strategy.Original
group_plain strategy.Latest = nothing
group_plain (strategy.Joined d) = this_plain (strategy.Joined d)
group_plain strategy.Grouped = this_plain strategy.Grouped
group_plain strategy.Sum = this_plain strategy.Sum
group_plain strategy.Batch = this_plain strategy.Batch

predicate_plain : (o : Option Predicate) → Plain (predicate_pairs o)
predicate_plain None = nothing
predicate_plain (Some p) = single (codes "completionPredicate") _ (alone_plain (codes "simple") _ (bare_word (predicate_text p)))

delimiter_plain : (d : List ℕ) → Plain (delimiter_pairs d)
delimiter_plain d = unless (is_comma d) _ (of_word (codes "delimiter") d)

path_plain : (h : How) → Plain (json_path h)
path_plain (how.Token token) = nothing
path_plain how.JsonArray = of_word (codes "jsonpath") (codes "$[*]")
path_plain (how.Batch k) = nothing

token_plain : (h : How) → Plain (token_pairs h)
token_plain (how.Token token) = of_word (codes "tokenize") token
token_plain how.JsonArray = nothing
token_plain (how.Batch k) = nothing

backing_plain : (o : Option Bool) → Plain (backing_pairs o)
backing_plain None = nothing
backing_plain (Some b) = of_flag (codes "useExponentialBackOff") b

policy_plain : (p : Policy) → Plain (policy_in p)
unfolding policy_pairs
policy_plain p = any_plain (codes "redeliveryPolicy") _ (join _ _ (join _ _ (join _ _ (join _ _ (number_plain (codes "backOffMultiplier") p.multiplier) (number_plain (codes "maximumRedeliveries") p.maximum)) (number_plain (codes "maximumRedeliveryDelay") p.greatest)) (number_plain (codes "redeliveryDelay") p.delay)) (backing_plain p.backing_off))

-- ---- steps

body_plain : (e : Expr) → Bare (set_body_json e)
unfolding set_body_json
body_plain e = alone_plain (codes "setBody") _ (expr_plain e)

named_value_plain : (k name : List ℕ) (e : Expr) → Bare (named_value_json k name e)
unfolding named_value_json
named_value_plain k name e = alone_plain k _ (object_plain _ (join _ _ (join _ _ (join _ _ (constant_plain e) (named_plain e)) (of_word (codes "name") name)) (simple_plain e)))

log_plain : (o : Option (List ℕ)) (m : Template) → Bare (log_json o m)
unfolding log_json Bare
log_plain None m = refl
log_plain (Some name) m = refl

throw_plain : (kind : List ℕ) (m : Template) → Bare (throw_json kind m)
unfolding throw_json Bare
throw_plain kind m = refl

guarded_plain : (c : Check) (j : Json) → Bare j → Bare (guarded_json c j)
unfolding guarded_json
guarded_plain c j h = object_plain _ (join _ _ (check_plain c) (single (codes "steps") j h))

choice_plain : (ms : Pairs) (j : Json) → Plain ms → Bare j → Bare (choice_json ms j)
unfolding choice_json
choice_plain ms j h i = alone_plain (codes "choice") _ (object_plain _ (join ms _ h (single (codes "when") j i)))

split_plain : (h : How) (fan : Fan) (j : Json) → Bare j → Bare (split_json h fan j)
unfolding split_json
split_plain h fan j i = alone_plain (codes "split") _ (object_plain _ (join _ _ (join _ _ (join _ _ (join _ _ (join _ _ (join _ _ (strategy_plain fan.strategy) (path_plain h)) (set_plain (codes "parallelProcessing") fan.parallel)) (set_plain (codes "shareUnitOfWork") fan.share)) (single (codes "steps") j i)) (set_plain (codes "stopOnException") fan.stop)) (token_plain h)))

multicast_plain : (fan : Fan) (j : Json) → Bare j → Bare (multicast_json fan j)
unfolding multicast_json
multicast_plain fan j i = alone_plain (codes "multicast") _ (object_plain _ (join _ _ (join _ _ (join _ _ (join _ _ (strategy_plain fan.strategy) (set_plain (codes "parallelProcessing") fan.parallel)) (set_plain (codes "shareUnitOfWork") fan.share)) (single (codes "steps") j i)) (set_plain (codes "stopOnException") fan.stop)))

recipients_plain : (e : Expr) (d : List ℕ) (fan : Fan) → Bare (recipients_json e d fan)
unfolding recipients_json
recipients_plain e d fan = alone_plain (codes "recipientList") _ (object_plain _ (join _ _ (join _ _ (join _ _ (join _ _ (join _ _ (join _ _ (join _ _ (strategy_plain fan.strategy) (constant_plain e)) (delimiter_plain d)) (named_plain e)) (set_plain (codes "parallelProcessing") fan.parallel)) (set_plain (codes "shareUnitOfWork") fan.share)) (simple_plain e)) (set_plain (codes "stopOnException") fan.stop)))

aggregate_plain : (g : Gathering) (j : Json) → Bare j → Bare (aggregate_json g j)
unfolding aggregate_json
aggregate_plain g j i = alone_plain (codes "aggregate") _ (object_plain _ (join _ _ (join _ _ (join _ _ (join _ _ (join _ _ (join _ _ (group_plain g.strategy) (predicate_plain g.predicate)) (number_plain (codes "completionSize") g.size)) (number_plain (codes "completionTimeout") g.timeout)) (single (codes "correlationExpression") _ (expr_plain g.key))) (set_plain (codes "forceCompletionOnStop") g.force)) (single (codes "steps") j i)))

idempotent_plain : (e : Expr) (o : Option (List ℕ)) (skip eager remove : Bool) (j : Json) → Bare j → Bare (idempotent_json e o skip eager remove j)
unfolding idempotent_json
idempotent_plain e o skip eager remove j i = alone_plain (codes "idempotentConsumer") _ (object_plain _ (join _ _ (join _ _ (join _ _ (join _ _ (join _ _ (join _ _ (join _ _ (constant_plain e) (unset_plain (codes "eager") eager)) (named_plain e)) (word_plain (codes "idempotentRepository") o)) (unset_plain (codes "removeOnFailure") remove)) (simple_plain e)) (unset_plain (codes "skipDuplicate") skip)) (single (codes "steps") j i)))

words_plain : (ws : List (List ℕ)) → Whole (words ws)
words_plain [] = no_items
words_plain (w ∷ ws) = items (word w) (words ws) (bare_word w) (words_plain ws)

nested_plain : (k : List ℕ) (o : Option Json) → MayBeBare o → Plain (nested_pairs k o)
nested_plain k None h = nothing
nested_plain k (Some j) h = single k _ (alone_plain (codes "steps") j h)

when_plain : (o : Option Check) → Plain (when_pairs o)
when_plain None = nothing
when_plain (Some c) = single (codes "onWhen") _ (object_plain _ (check_plain c))

catch_plain : (names : List (List ℕ)) (o : Option Check) (j : Json) → Bare j → Bare (catch_json names o j)
unfolding catch_json
catch_plain names o j h = object_plain _ (join _ _ (join _ _ (single (codes "exception") _ (list_plain (words names) (words_plain names))) (when_plain o)) (single (codes "steps") j h))

catches_plain : (js : List Json) → Whole js → Plain (catches_pairs js)
catches_plain [] h = nothing
catches_plain (j ∷ js) h = single (codes "doCatch") _ (list_plain (j ∷ js) h)

try_plain : (js : List Json) (o : Option Json) (j : Json) → Whole js → MayBeBare o → Bare j → Bare (try_json js o j)
unfolding try_json
try_plain js o j h i k = alone_plain (codes "doTry") _ (object_plain _ (join _ _ (join _ _ (catches_plain js h) (nested_plain (codes "doFinally") o i)) (single (codes "steps") j k)))

-- ---- a resequencer

other_plain : (k : List ℕ) (default : ℕ) (o : Option ℕ) → Plain (where_other k default o)
other_plain k default None = nothing
other_plain k default (Some n) = unless (nat_eq n default) (one k (whole (pos n))) (of_number k n)

order_plain : (k : Key) → Plain (order_pairs k)
order_plain key.Body = of_word (codes "simple") (codes "${body}")
order_plain (key.Header name) = of_word (codes "header") name
order_plain (key.Property name) = of_word (codes "exchangeProperty") name

batch_plain : (k : Key) (j : Json) → Bare j → Bare (batch_json k j)
unfolding batch_json
batch_plain k j h = object_plain _ (join _ _ (order_plain k) (single (codes "steps") j h))

splits_plain : (h : How) (fan : Fan) (j : Json) → Bare j → Bare (splits_json h fan j)
splits_plain (how.Token token) fan j i = split_plain (how.Token token) fan j i
splits_plain how.JsonArray fan j i = split_plain how.JsonArray fan j i
splits_plain (how.Batch k) fan j i = batch_plain k j i

-- members, as those of an object
MembersPlain : Members → Type 0
MembersPlain ms = members_have_float ms ≡ false

behind_plain : (ms ns : Members) → MembersPlain ms → MembersPlain ns → MembersPlain (behind ms ns)
unfolding MembersPlain
behind_plain no_members ns h i = i
behind_plain (member k j ms) ns h i = later (has_float j) _ _ h (λ e. behind_plain ms ns e i)

first_of : (b c : Bool) → b || c ≡ false → b ≡ false
first_of true c h = h
first_of false c h = refl

object_members_plain : (j : Json) → has_float j ≡ false → MembersPlain (object_members j)
unfolding MembersPlain
object_members_plain (object ms) h = h
object_members_plain _ h = refl

first_members_plain : (js : List Json) → Whole js → MembersPlain (members_first js)
unfolding MembersPlain Whole
first_members_plain [] h = refl
first_members_plain (j ∷ js) h = object_members_plain j (first_of (has_float j) (items_have_float (items_of js)) h)

config_plain : (g : Gathering) → Plain (config_pairs g)
unfolding batch_pairs
config_plain g = any_plain (codes "batchConfig") (batch_pairs g) (join _ _ (other_plain (codes "batchSize") 100 g.size) (other_plain (codes "batchTimeout") 1000 g.timeout))

members_bare : (ms : Members) → MembersPlain ms → Bare (object ms)
unfolding MembersPlain Bare
members_bare ms h = h

pairs_members : (ps : Pairs) → Plain ps → MembersPlain (members_of ps)
unfolding MembersPlain Plain
pairs_members ps h = h

resequence_plain : (g : Gathering) (js : List Json) → Whole js → Bare (resequence_json g js)
unfolding resequence_json
resequence_plain g js h =
    alone_plain (codes "resequence") _ (members_bare _ (behind_plain (members_of (config_pairs g)) (members_first js) (pairs_members (config_pairs g) (config_plain g)) (first_members_plain js h)))

any_aggregate_plain : (b : Bool) (g : Gathering) (js : List Json) → Whole js → Bare (cond b (resequence_json g js) (aggregate_json g (list_of js)))
any_aggregate_plain true g js h = resequence_plain g js h
any_aggregate_plain false g js h = aggregate_plain g (list_of js) (list_plain js h)

-- ---- by the printed steps of each group

abbrev AllWhole : List (List Json) → Type 0
AllWhole [] = Unit {0}
AllWhole (js ∷ gs) = Whole js × AllWhole gs

first_whole : (gs : List (List Json)) → AllWhole gs → Whole (first_json gs)
first_whole [] h = no_items
first_whole (js ∷ gs) h = h.0

first_plain : (gs : List (List Json)) → AllWhole gs → Bare (list_of (first_json gs))
first_plain [] h = list_plain [] no_items
first_plain (js ∷ gs) h = list_plain js h.0

rest_plain : (gs : List (List Json)) → AllWhole gs → AllWhole (rest_of gs)
rest_plain [] h = tt
rest_plain (js ∷ gs) h = h.1

past_plain : {A : Type 0} (cs : List A) (gs : List (List Json)) → AllWhole gs → AllWhole (past cs gs)
past_plain [] gs h = h
past_plain (c ∷ cs) gs h = past_plain cs (rest_of gs) (rest_plain gs h)

all_plain : (gs : List (List Json)) → AllWhole gs → Whole (all_json gs)
all_plain [] h = no_items
all_plain (js ∷ gs) h = append js (all_json gs) h.0 (all_plain gs h.1)

cases_plain : (cs : List Check) (gs : List (List Json)) → AllWhole gs → Whole (cases_json cs gs)
cases_plain [] gs h = no_items
cases_plain (c ∷ cs) gs h = items _ (cases_json cs (rest_of gs)) (guarded_plain c _ (first_plain gs h)) (cases_plain cs (rest_of gs) (rest_plain gs h))

last_plain : (l : Bool) (gs : List (List Json)) → AllWhole gs → MayBeBare (last_steps l gs)
last_plain false gs h = tt
last_plain true gs h = first_plain gs h

catch_list_plain : (cs : List Catching) (gs : List (List Json)) → AllWhole gs → Whole (catches_json cs gs)
catch_list_plain [] gs h = no_items
catch_list_plain (c ∷ cs) gs h = items _ (catches_json cs (rest_of gs)) (catch_plain c.names c.when _ (first_plain gs h)) (catch_list_plain cs (rest_of gs) (rest_plain gs h))

frame_plain : (f : Frame) (gs : List (List Json)) → AllWhole gs → Bare (frame_json f gs)
frame_plain (chooses cs l) gs h = choice_plain _ _ (nested_plain (codes "otherwise") (last_steps l (past cs gs)) (last_plain l (past cs gs) (past_plain cs gs h))) (list_plain (cases_json cs gs) (cases_plain cs gs h))
frame_plain (filters c) gs h = alone_plain (codes "filter") _ (guarded_plain c _ (first_plain gs h))
frame_plain (splits how fan) gs h = splits_plain how fan _ (first_plain gs h)
frame_plain (multicasts fan) gs h = multicast_plain fan _ (list_plain (all_json gs) (all_plain gs h))
frame_plain (aggregates g) gs h = any_aggregate_plain (is_batch_strategy g.strategy) g (first_json gs) (first_whole gs h)
frame_plain (runs_once e o skip eager remove) gs h = idempotent_plain e o skip eager remove _ (first_plain gs h)
frame_plain (tries cs l) gs h =
    let others = rest_plain gs h in
    try_plain (catches_json cs (rest_of gs)) (last_steps l (past cs (rest_of gs))) (list_of (first_json gs)) (catch_list_plain cs (rest_of gs) others) (last_plain l (past cs (rest_of gs)) (past_plain cs (rest_of gs) others)) (first_plain gs h)

leaf_plain : (s : Step) → Bare (leaf_json s)
leaf_plain (step.SetBody e) = body_plain e
leaf_plain (step.SetHeader name e) = named_value_plain (codes "setHeader") name e
leaf_plain (step.SetProperty name e) = named_value_plain (codes "setProperty") name e
leaf_plain (step.RemoveHeader name) = alone_plain (codes "removeHeader") _ (bare_word name)
leaf_plain (step.To u) = alone_plain (codes "to") _ (bare_word (printed u))
leaf_plain (step.Log name message) = log_plain name message
leaf_plain (step.Throw kind message) = throw_plain kind message
leaf_plain (step.Process name) = alone_plain (codes "process") _ (bare_word name)
leaf_plain (step.Recipients e d fan) = recipients_plain e d fan
leaf_plain _ = object_plain [] nothing

mutual
  steps_plain : (ss : NestedSteps) → Whole (steps_json ss)
  steps_plain none = no_items
  steps_plain (more s ss) = items (step_json s) (steps_json ss) (step_plain s) (steps_plain ss)

  step_plain : (s : NestedStep) → Bare (step_json s)
  step_plain (leaf s) = leaf_plain s
  step_plain (holds f gs) = frame_plain f (groups_json gs) (groups_plain gs)

  groups_plain : (gs : NestedGroups) → AllWhole (groups_json gs)
  groups_plain no_group = tt
  groups_plain (group ss gs) = (steps_plain ss, groups_plain gs)

-- ---- the file

clause_steps_plain : (l : NestedLast) → Plain (steps_pairs (last_json l))
clause_steps_plain no_last = nothing
clause_steps_plain (last ss) = single (codes "steps") _ (list_plain (steps_json ss) (steps_plain ss))

clause_plain : (names : List (List ℕ)) (p : Policy) (handled continued : Bool) (l : NestedLast) → Bare (clause_json names p handled continued (last_json l))
unfolding clause_json
clause_plain names p handled continued l = alone_plain (codes "onException") _ (object_plain _ (join _ _ (join _ _ (join _ _ (join _ _ (set_plain (codes "continued") continued) (single (codes "exception") _ (list_plain (words names) (words_plain names)))) (set_plain (codes "handled") handled)) (policy_plain p)) (clause_steps_plain l)))

route_plain : (id : List ℕ) (from : Uri) (ss : NestedSteps) → Bare (route_json id from (list_of (steps_json ss)))
unfolding route_json
route_plain id from ss = alone_plain (codes "route") _ (object_plain _ (join _ _ (single (codes "from") _ (object_plain _ (join _ _ (single (codes "steps") _ (list_plain (steps_json ss) (steps_plain ss))) (of_word (codes "uri") (printed from))))) (of_word (codes "id") id)))

clauses_plain : (cs : List NestedClause) → Whole (clauses_json cs)
clauses_plain [] = no_items
clauses_plain (c ∷ cs) = items _ (clauses_json cs) (clause_plain c.names c.policy c.handled c.continued c.steps) (clauses_plain cs)

routes_plain : (rs : List NestedRoute) → Whole (routes_json rs)
routes_plain [] = no_items
routes_plain (r ∷ rs) = items _ (routes_json rs) (route_plain r.id r.from r.steps) (routes_plain rs)

default_plain : (ms : Pairs) → Plain ms → Whole (default_items ms)
default_plain [] h = no_items
default_plain (m ∷ ms) h = items _ [] (alone_plain (codes "errorHandler") _ (alone_plain (codes "defaultErrorHandler") _ (object_plain (m ∷ ms) h))) no_items

dead_plain : (o : Option Uri) (ms : Pairs) → Plain ms → Whole (dead_items o ms)
dead_plain None ms h = default_plain ms h
dead_plain (Some u) ms h = items _ [] (alone_plain (codes "errorHandler") _ (alone_plain (codes "deadLetterChannel") _ (object_plain _ (join _ ms (of_word (codes "deadLetterUri") (printed u)) h)))) no_items

handler_plain : (h : Handler) → Whole (handler_items h)
unfolding handler_items
handler_plain h = dead_plain h.dead (policy_in h.policy) (policy_plain h.policy)

bare_set : (s : RouteSet) → Bare (set_json s)
unfolding set_json
bare_set s = list_plain _ (append _ _ (append _ _ (handler_plain s.handler) (clauses_plain (un_clauses s.blocks s.clauses))) (routes_plain (un_routes s.blocks s.routes)))

pub floatless : (s : RouteSet) → has_float (set_json s) ≡ false
unfolding Bare
floatless s = bare_set s

-- The canonical route file of a set: keys in camelCase and in byte order, what has its default left out.
use Rattle.std.specs.Prelude.{ℕ, pos, Bool, true, false, cond, bytes_eq, nat_eq, List, [], ◌∷◌, ◌++◌, Option, Some, None, codes}
use Rattle.eip_exchange.specs.declared.setting.How.{How}
use Rattle.eip_exchange.specs.declared.setting.How.TheVariants as how
use Rattle.eip_exchange.specs.declared.setting.Key.{Key}
use Rattle.eip_exchange.specs.declared.setting.Key.TheVariants as key
use Rattle.eip_exchange.specs.declared.setting.Policy.{Policy}
use Rattle.eip_exchange.specs.declared.setting.Strategy.{Strategy}
use Rattle.eip_exchange.specs.declared.setting.Strategy.TheVariants as strategy
use Rattle.eip_simple_read.specs.Spelling.{template_text, predicate_text}
use Rattle.eip_simple_read.specs.declared.tree.Predicate.{Predicate}
use Rattle.eip_simple_read.specs.declared.tree.Template.{Template}
use Rattle.eip_text.specs.Json.{Json, flag, whole, word, list, object, Members, no_members, member, items_of, members_of}
use Rattle.eip_text.specs.JsonText.{json_text}
use Rattle.eip_uri.specs.Printed.{printed}
use Rattle.eip_uri.specs.declared.uri.Uri.{Uri}
use Rattle.eip_route.specs.Nest.{Gathering, Frame, chooses, filters, splits, multicasts, aggregates, runs_once, tries, Catching, NestedStep, NestedSteps, NestedGroups, NestedLast, NestedClause, NestedRoute, NestedSet, leaf, holds, none, more, no_group, group, no_last, last, rest_of, past, held, un_set}
use Rattle.eip_route.specs.Valid.{is_batch_strategy}
use Rattle.eip_route.specs.declared.route.Handler.{Handler}
use Rattle.eip_route.specs.declared.route.RouteSet.{RouteSet}
use Rattle.eip_route.specs.declared.step.Check.{Check}
use Rattle.eip_route.specs.declared.step.Check.TheVariants as check
use Rattle.eip_route.specs.declared.step.Expr.{Expr}
use Rattle.eip_route.specs.declared.step.Expr.TheVariants as expr
use Rattle.eip_route.specs.declared.step.Fan.{Fan}
use Rattle.eip_route.specs.declared.step.Step.{Step}
use Rattle.eip_route.specs.declared.step.Step.TheVariants as step

-- ---- the members of an object, in their order

abbrev pub Pairs : Type 0
Pairs = List (List ℕ × Json)

abbrev pub object_of : Pairs → Json
object_of ms = object (members_of ms)

abbrev pub list_of : List Json → Json
list_of js = list (items_of js)

abbrev pub one : List ℕ → Json → Pairs
one k j = (k, j) ∷ []

-- an object of one member
abbrev pub alone : List ℕ → Json → Json
alone k j = object_of (one k j)

abbrev pub words : List (List ℕ) → List Json
words [] = []
words (w ∷ ws) = word w ∷ words ws

-- a flag whose default is false, and one whose default is true
abbrev pub where_set : List ℕ → Bool → Pairs
where_set k b = cond b (one k (flag true)) []

abbrev pub where_unset : List ℕ → Bool → Pairs
where_unset k b = cond b [] (one k (flag false))

-- what is given
abbrev pub given_word : List ℕ → Option (List ℕ) → Pairs
given_word k None = []
given_word k (Some w) = one k (word w)

abbrev pub given_number : List ℕ → Option ℕ → Pairs
given_number k None = []
given_number k (Some n) = one k (whole (pos n))

abbrev pub is_none : Pairs → Bool
is_none [] = true
is_none (m ∷ ms) = false

-- an object, where it has a member
abbrev pub where_any : List ℕ → Pairs → Pairs
where_any k [] = []
where_any k (m ∷ ms) = one k (object_of (m ∷ ms))

-- ---- what steps are made of

-- an expression's one member: a constant, a header or property, or a template
abbrev pub constant_pairs : Expr → Pairs
constant_pairs (expr.Constant text) = one (codes "constant") (word text)
constant_pairs _ = []

abbrev pub named_pairs : Expr → Pairs
named_pairs (expr.Header name) = one (codes "header") (word name)
named_pairs (expr.Property name) = one (codes "exchangeProperty") (word name)
named_pairs _ = []

abbrev pub simple_pairs : Expr → Pairs
simple_pairs (expr.Simple template) = one (codes "simple") (word (template_text template))
simple_pairs _ = []

abbrev pub expr_pairs : Expr → Pairs
expr_pairs e = constant_pairs e ++ named_pairs e ++ simple_pairs e

abbrev pub check_pairs : Check → Pairs
check_pairs (check.Simple predicate) = one (codes "simple") (word (predicate_text predicate))
check_pairs (check.Fixed b) = one (codes "constant") (flag b)
check_pairs (check.Stored name) = one (codes "ref") (word name)

-- the delimiter of a joined strategy and of a list where none is given
unfoldable pub is_comma : List ℕ → Bool
is_comma d = bytes_eq d (codes ",")

abbrev pub joined_text : List ℕ → List ℕ
joined_text between = cond (is_comma between) (codes "joined") (codes "joined:" ++ between)

unfoldable pub strategy_text : Strategy → List ℕ
strategy_text strategy.Original = codes "original"
strategy_text strategy.Latest = codes "latest"
strategy_text (strategy.Joined between) = joined_text between
strategy_text strategy.Grouped = codes "grouped"
strategy_text strategy.Sum = codes "sum"
strategy_text strategy.Batch = codes "batch"

abbrev pub this_strategy : Strategy → Pairs
this_strategy s = one (codes "aggregationStrategy") (word (strategy_text s))

abbrev pub strategy_pairs : Option Strategy → Pairs
strategy_pairs None = []
strategy_pairs (Some s) = this_strategy s

-- of an aggregator, whose default is the latest message
abbrev pub group_pairs : Strategy → Pairs
group_pairs strategy.Latest = []
group_pairs s = this_strategy s

abbrev pub predicate_pairs : Option Predicate → Pairs
predicate_pairs None = []
predicate_pairs (Some p) = one (codes "completionPredicate") (alone (codes "simple") (word (predicate_text p)))

abbrev pub delimiter_pairs : List ℕ → Pairs
delimiter_pairs d = cond (is_comma d) [] (one (codes "delimiter") (word d))

abbrev pub json_path : How → Pairs
json_path (how.Token token) = []
json_path how.JsonArray = one (codes "jsonpath") (word (codes "$[*]"))
json_path (how.Batch k) = []

abbrev pub token_pairs : How → Pairs
token_pairs (how.Token token) = one (codes "tokenize") (word token)
token_pairs how.JsonArray = []
token_pairs (how.Batch k) = []

abbrev pub backing_pairs : Option Bool → Pairs
backing_pairs None = []
backing_pairs (Some b) = one (codes "useExponentialBackOff") (flag b)

unfoldable pub policy_pairs : Policy → Pairs
policy_pairs p = given_number (codes "backOffMultiplier") p.multiplier
    ++ given_number (codes "maximumRedeliveries") p.maximum
    ++ given_number (codes "maximumRedeliveryDelay") p.greatest
    ++ given_number (codes "redeliveryDelay") p.delay
    ++ backing_pairs p.backing_off

-- a policy, where it gives an attribute
abbrev pub policy_in : Policy → Pairs
policy_in p = where_any (codes "redeliveryPolicy") (policy_pairs p)

-- ---- the steps, each by its own parts and the JSON values of what is nested in it

unfoldable pub set_body_json : Expr → Json
set_body_json e = alone (codes "setBody") (object_of (expr_pairs e))

-- of `setHeader` or `setProperty`
unfoldable pub named_value_json : List ℕ → List ℕ → Expr → Json
named_value_json key name e = alone key (object_of (constant_pairs e ++ named_pairs e ++ one (codes "name") (word name) ++ simple_pairs e))

unfoldable pub log_json : Option (List ℕ) → Template → Json
log_json None message = alone (codes "log") (word (template_text message))
log_json (Some name) message = alone (codes "log") (object_of (one (codes "logName") (word name) ++ one (codes "message") (word (template_text message))))

unfoldable pub throw_json : List ℕ → Template → Json
throw_json kind message = alone (codes "throwException") (object_of (one (codes "exceptionType") (word kind) ++ one (codes "message") (word (template_text message))))

-- a step that is written as a text
abbrev pub text_json : List ℕ → List ℕ → Json
text_json key text = alone key (word text)

-- of a `filter` and of a case of a choice
unfoldable pub guarded_json : Check → Json → Json
guarded_json check steps = object_of (check_pairs check ++ one (codes "steps") steps)

unfoldable pub choice_json : Pairs → Json → Json
choice_json otherwise cases = alone (codes "choice") (object_of (otherwise ++ one (codes "when") cases))

unfoldable pub split_json : How → Fan → Json → Json
split_json how fan steps = alone (codes "split") (object_of (strategy_pairs fan.strategy
    ++ json_path how
    ++ where_set (codes "parallelProcessing") fan.parallel
    ++ where_set (codes "shareUnitOfWork") fan.share
    ++ one (codes "steps") steps
    ++ where_set (codes "stopOnException") fan.stop
    ++ token_pairs how))

unfoldable pub multicast_json : Fan → Json → Json
multicast_json fan steps = alone (codes "multicast") (object_of (strategy_pairs fan.strategy
    ++ where_set (codes "parallelProcessing") fan.parallel
    ++ where_set (codes "shareUnitOfWork") fan.share
    ++ one (codes "steps") steps
    ++ where_set (codes "stopOnException") fan.stop))

unfoldable pub recipients_json : Expr → List ℕ → Fan → Json
recipients_json e delimiter fan = alone (codes "recipientList") (object_of (strategy_pairs fan.strategy
    ++ constant_pairs e
    ++ delimiter_pairs delimiter
    ++ named_pairs e
    ++ where_set (codes "parallelProcessing") fan.parallel
    ++ where_set (codes "shareUnitOfWork") fan.share
    ++ simple_pairs e
    ++ where_set (codes "stopOnException") fan.stop))

unfoldable pub aggregate_json : Gathering → Json → Json
aggregate_json g steps = alone (codes "aggregate") (object_of (group_pairs g.strategy
    ++ predicate_pairs g.predicate
    ++ given_number (codes "completionSize") g.size
    ++ given_number (codes "completionTimeout") g.timeout
    ++ one (codes "correlationExpression") (object_of (expr_pairs g.key))
    ++ where_set (codes "forceCompletionOnStop") g.force
    ++ one (codes "steps") steps))

unfoldable pub idempotent_json : Expr → Option (List ℕ) → Bool → Bool → Bool → Json → Json
idempotent_json e name skip eager remove steps = alone (codes "idempotentConsumer") (object_of (constant_pairs e
    ++ where_unset (codes "eager") eager
    ++ named_pairs e
    ++ given_word (codes "idempotentRepository") name
    ++ where_unset (codes "removeOnFailure") remove
    ++ simple_pairs e
    ++ where_unset (codes "skipDuplicate") skip
    ++ one (codes "steps") steps))

-- steps that may be absent, in an object of their own
abbrev pub nested_pairs : List ℕ → Option Json → Pairs
nested_pairs k None = []
nested_pairs k (Some steps) = one k (alone (codes "steps") steps)

-- what a catch asks of a fault's message
abbrev pub when_pairs : Option Check → Pairs
when_pairs None = []
when_pairs (Some c) = one (codes "onWhen") (object_of (check_pairs c))

unfoldable pub catch_json : List (List ℕ) → Option Check → Json → Json
catch_json names check steps = object_of (one (codes "exception") (list_of (words names)) ++ when_pairs check ++ one (codes "steps") steps)

-- the key `doCatch`, where there is a catch
abbrev pub catches_pairs : List Json → Pairs
catches_pairs [] = []
catches_pairs (j ∷ js) = one (codes "doCatch") (list_of (j ∷ js))

unfoldable pub try_json : List Json → Option Json → Json → Json
try_json catches finish steps = alone (codes "doTry") (object_of (catches_pairs catches ++ nested_pairs (codes "doFinally") finish ++ one (codes "steps") steps))

-- what a resequencer puts its messages in order by
abbrev pub order_pairs : Key → Pairs
order_pairs key.Body = one (codes "simple") (word (codes "${body}"))
order_pairs (key.Header name) = one (codes "header") (word name)
order_pairs (key.Property name) = one (codes "exchangeProperty") (word name)

-- a number, where it isn't the default
abbrev pub where_other : List ℕ → ℕ → Option ℕ → Pairs
where_other k default None = []
where_other k default (Some n) = cond (nat_eq n default) [] (one k (whole (pos n)))

unfoldable pub batch_pairs : Gathering → Pairs
batch_pairs g = where_other (codes "batchSize") 100 g.size ++ where_other (codes "batchTimeout") 1000 g.timeout

abbrev pub config_pairs : Gathering → Pairs
config_pairs g = where_any (codes "batchConfig") (batch_pairs g)

-- The split of a batch is printed as the members that it gives to its resequencer: the aggregator puts its own before them.
unfoldable pub batch_json : Key → Json → Json
batch_json k steps = object_of (order_pairs k ++ one (codes "steps") steps)

abbrev pub behind : Members → Members → Members
behind no_members ns = ns
behind (member k j ms) ns = member k j (behind ms ns)

-- the members of an object
abbrev pub object_members : Json → Members
object_members (object ms) = ms
object_members _ = no_members

-- and of the first of these
abbrev pub members_first : List Json → Members
members_first [] = no_members
members_first (j ∷ js) = object_members j

unfoldable pub resequence_json : Gathering → List Json → Json
resequence_json g js = alone (codes "resequence") (object (behind (members_of (config_pairs g)) (members_first js)))

abbrev pub splits_json : How → Fan → Json → Json
splits_json (how.Batch k) fan steps = batch_json k steps
splits_json h fan steps = split_json h fan steps

-- ---- by the printed steps of each group

abbrev pub first_json : List (List Json) → List Json
first_json [] = []
first_json (js ∷ gs) = js

-- those of all groups, one behind the other
abbrev pub all_json : List (List Json) → List Json
all_json [] = []
all_json (js ∷ gs) = js ++ all_json gs

-- each case with a group
abbrev pub cases_json : List Check → List (List Json) → List Json
cases_json [] gs = []
cases_json (c ∷ cs) gs = guarded_json c (list_of (first_json gs)) ∷ cases_json cs (rest_of gs)

-- the steps of the last group, where it is there
abbrev pub last_steps : Bool → List (List Json) → Option Json
last_steps false gs = None
last_steps true gs = Some (list_of (first_json gs))

-- each catch with a group
abbrev pub catches_json : List Catching → List (List Json) → List Json
catches_json [] gs = []
catches_json (c ∷ cs) gs = catch_json c.names c.when (list_of (first_json gs)) ∷ catches_json cs (rest_of gs)

abbrev pub frame_json : Frame → List (List Json) → Json
frame_json (chooses cs l) gs = choice_json (nested_pairs (codes "otherwise") (last_steps l (past cs gs))) (list_of (cases_json cs gs))
frame_json (filters check) gs = alone (codes "filter") (guarded_json check (list_of (first_json gs)))
frame_json (splits h fan) gs = splits_json h fan (list_of (first_json gs))
frame_json (multicasts fan) gs = multicast_json fan (list_of (all_json gs))
frame_json (aggregates g) gs = cond (is_batch_strategy g.strategy) (resequence_json g (first_json gs)) (aggregate_json g (list_of (first_json gs)))
frame_json (runs_once e name skip eager remove) gs = idempotent_json e name skip eager remove (list_of (first_json gs))
frame_json (tries cs l) gs = try_json (catches_json cs (rest_of gs)) (last_steps l (past cs (rest_of gs))) (list_of (first_json gs))

-- a step without blocks
abbrev pub leaf_json : Step → Json
leaf_json (step.SetBody e) = set_body_json e
leaf_json (step.SetHeader name e) = named_value_json (codes "setHeader") name e
leaf_json (step.SetProperty name e) = named_value_json (codes "setProperty") name e
leaf_json (step.RemoveHeader name) = text_json (codes "removeHeader") name
leaf_json (step.To u) = text_json (codes "to") (printed u)
leaf_json (step.Log name message) = log_json name message
leaf_json (step.Throw kind message) = throw_json kind message
leaf_json (step.Process name) = text_json (codes "process") name
leaf_json (step.Recipients e delimiter fan) = recipients_json e delimiter fan
leaf_json _ = object_of []

abbrev pub held_json : Step → Option (Frame × List ℕ) → List (List Json) → Json
held_json s None gs = leaf_json s
held_json s (Some r) gs = frame_json r.0 gs

-- a step, where these are the printed steps of its blocks
unfoldable pub step_with : Step → List (List Json) → Json
step_with s gs = held_json s (held s) gs

-- ---- nested

abbrev mutual
  pub steps_json : NestedSteps → List Json
  steps_json none = []
  steps_json (more s ss) = step_json s ∷ steps_json ss

  pub step_json : NestedStep → Json
  step_json (leaf s) = leaf_json s
  step_json (holds f gs) = frame_json f (groups_json gs)

  pub groups_json : NestedGroups → List (List Json)
  groups_json no_group = []
  groups_json (group ss gs) = steps_json ss ∷ groups_json gs

abbrev pub last_json : NestedLast → Option Json
last_json no_last = None
last_json (last ss) = Some (list_of (steps_json ss))

-- ---- the file

abbrev pub steps_pairs : Option Json → Pairs
steps_pairs None = []
steps_pairs (Some steps) = one (codes "steps") steps

-- of a clause, by its own parts and its steps
unfoldable pub clause_json : List (List ℕ) → Policy → Bool → Bool → Option Json → Json
clause_json names policy handled continued steps = alone (codes "onException") (object_of (where_set (codes "continued") continued
    ++ one (codes "exception") (list_of (words names))
    ++ where_set (codes "handled") handled
    ++ policy_in policy
    ++ steps_pairs steps))

unfoldable pub route_json : List ℕ → Uri → Json → Json
route_json id from steps = alone (codes "route") (object_of (
    one (codes "from") (object_of (one (codes "steps") steps ++ one (codes "uri") (word (printed from))))
    ++ one (codes "id") (word id)))

-- the default handler stands in the file only where its policy gives an attribute
abbrev pub default_items : Pairs → List Json
default_items [] = []
default_items (m ∷ ms) = alone (codes "errorHandler") (alone (codes "defaultErrorHandler") (object_of (m ∷ ms))) ∷ []

abbrev pub dead_items : Option Uri → Pairs → List Json
dead_items None policy = default_items policy
dead_items (Some u) policy = alone (codes "errorHandler") (alone (codes "deadLetterChannel") (object_of (one (codes "deadLetterUri") (word (printed u)) ++ policy))) ∷ []

unfoldable pub handler_items : Handler → List Json
handler_items h = dead_items h.dead (policy_in h.policy)

abbrev pub clauses_json : List NestedClause → List Json
clauses_json [] = []
clauses_json (c ∷ cs) = clause_json c.names c.policy c.handled c.continued (last_json c.steps) ∷ clauses_json cs

abbrev pub routes_json : List NestedRoute → List Json
routes_json [] = []
routes_json (r ∷ rs) = route_json r.id r.from (list_of (steps_json r.steps)) ∷ routes_json rs

abbrev pub set_items : NestedSet → List Json
set_items s = handler_items s.handler ++ clauses_json s.clauses ++ routes_json s.routes

unfoldable pub set_json : RouteSet → Json
set_json s = list_of (set_items (un_set s))

-- the text of a set's file: compact, with a line feed
unfoldable pub canonical_text : RouteSet → List ℕ
canonical_text s = json_text (set_json s) ++ 10 ∷ []

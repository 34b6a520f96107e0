-- The slots of each object that is printed, but for those of steps: a leaf's stand in Leaves, a frame's in FramesAgain.
use Rattle.std.proofs.Common.{ℕ, pos, Bool, true, false, cond, List, [], ◌∷◌, ◌++◌, Option, Some, None}
use Rattle.std.specs.Prelude.{codes, nat_eq}
use Rattle.eip_text.specs.Json.{Json, flag, whole, word}
use Rattle.eip_exchange.specs.declared.setting.How.{How}
use Rattle.eip_exchange.specs.declared.setting.How.TheVariants as how
use Rattle.eip_exchange.specs.declared.setting.Key as setting
use Rattle.eip_exchange.specs.declared.setting.Key.TheVariants as order
use Rattle.eip_exchange.specs.declared.setting.Policy.{Policy}
use Rattle.eip_exchange.specs.declared.setting.Strategy.{Strategy}
use Rattle.eip_exchange.specs.declared.setting.Strategy.TheVariants as strategy
use Rattle.eip_simple_read.specs.Spelling.{template_text, predicate_text}
use Rattle.eip_simple_read.specs.declared.tree.Predicate.{Predicate}
use Rattle.eip_uri.specs.Printed.{printed}
use Rattle.eip_uri.specs.declared.uri.Uri.{Uri}
use Rattle.eip_route.specs.declared.step.Check.{Check}
use Rattle.eip_route.specs.declared.step.Expr.{Expr}
use Rattle.eip_route.specs.declared.step.Expr.TheVariants as expr
use Rattle.eip_route_canonical.specs.Canonical.{Pairs, object_of, list_of, one, alone, where_set, where_unset, given_word, given_number, where_any, constant_pairs, named_pairs, simple_pairs, expr_pairs, is_comma, strategy_text, strategy_pairs, group_pairs, predicate_pairs, json_path, token_pairs, backing_pairs, policy_pairs, policy_in, check_pairs, nested_pairs, when_pairs, catches_pairs, words, steps_pairs, order_pairs, where_other}
use Rattle.eip_route_roundtrip.proofs.Slots.{Slot, sure, maybe, Puts, put_none, put_one, put_given, ◌and◌}

-- ---- values that may be absent

abbrev pub set_value : Bool → Option Json
set_value b = cond b (Some (flag true)) None

abbrev pub unset_value : Bool → Option Json
unset_value b = cond b None (Some (flag false))

abbrev pub word_value : Option (List ℕ) → Option Json
word_value None = None
word_value (Some w) = Some (word w)

abbrev pub number_value : Option ℕ → Option Json
number_value None = None
number_value (Some n) = Some (whole (pos n))

abbrev pub strategy_value : Option Strategy → Option Json
strategy_value None = None
strategy_value (Some s) = Some (word (strategy_text s))

abbrev pub group_value : Strategy → Option Json
group_value strategy.Latest = None
group_value s = Some (word (strategy_text s))

abbrev pub completion_value : Option Predicate → Option Json
completion_value None = None
completion_value (Some p) = Some (alone (codes "simple") (word (predicate_text p)))

abbrev pub delimiter_value : List ℕ → Option Json
delimiter_value d = cond (is_comma d) None (Some (word d))

abbrev pub backing_value : Option Bool → Option Json
backing_value None = None
backing_value (Some b) = Some (flag b)

-- a number, where it isn't the default
abbrev pub other_value : ℕ → Option ℕ → Option Json
other_value default None = None
other_value default (Some n) = cond (nat_eq n default) None (Some (whole (pos n)))

abbrev pub object_value : Pairs → Option Json
object_value [] = None
object_value (m ∷ ms) = Some (object_of (m ∷ ms))

abbrev pub nested_value : Option Json → Option Json
nested_value None = None
nested_value (Some steps) = Some (alone (codes "steps") steps)

abbrev pub when_value : Option Check → Option Json
when_value None = None
when_value (Some c) = Some (object_of (check_pairs c))

abbrev pub catches_value : List Json → Option Json
catches_value [] = None
catches_value (j ∷ js) = Some (list_of (j ∷ js))

-- ---- slots

abbrev pub must : List ℕ → Json → List Slot
must k j = sure k j ∷ []

abbrev pub may : List ℕ → Option Json → List Slot
may k o = maybe k o ∷ []

-- ---- parts that are there in one of several ways

abbrev pub constant_slots : Expr → List Slot
constant_slots (expr.Constant text) = sure (codes "constant") (word text) ∷ []
constant_slots _ = []

abbrev pub named_slots : Expr → List Slot
named_slots (expr.Header name) = sure (codes "header") (word name) ∷ []
named_slots (expr.Property name) = sure (codes "exchangeProperty") (word name) ∷ []
named_slots _ = []

abbrev pub simple_slots : Expr → List Slot
simple_slots (expr.Simple template) = sure (codes "simple") (word (template_text template)) ∷ []
simple_slots _ = []

abbrev pub path_slots : How → List Slot
path_slots (how.Token token) = []
path_slots how.JsonArray = sure (codes "jsonpath") (word (codes "$[*]")) ∷ []
path_slots (how.Batch k) = []

abbrev pub token_slots : How → List Slot
token_slots (how.Token token) = sure (codes "tokenize") (word token) ∷ []
token_slots how.JsonArray = []
token_slots (how.Batch k) = []

abbrev pub order_slots : setting.Key → List Slot
order_slots order.Body = sure (codes "simple") (word (codes "${body}")) ∷ []
order_slots (order.Header name) = sure (codes "header") (word name) ∷ []
order_slots (order.Property name) = sure (codes "exchangeProperty") (word name) ∷ []

-- ---- what each part puts

pub put_set : {k : List ℕ} (b : Bool) → Puts (where_set k b) (maybe k (set_value b) ∷ [])
put_set true = put_given
put_set false = put_given

pub put_unset : {k : List ℕ} (b : Bool) → Puts (where_unset k b) (maybe k (unset_value b) ∷ [])
put_unset true = put_given
put_unset false = put_given

pub put_word : {k : List ℕ} (o : Option (List ℕ)) → Puts (given_word k o) (maybe k (word_value o) ∷ [])
put_word None = put_given
put_word (Some w) = put_given

pub put_number : {k : List ℕ} (o : Option ℕ) → Puts (given_number k o) (maybe k (number_value o) ∷ [])
put_number None = put_given
put_number (Some n) = put_given

put_object : {k : List ℕ} (ps : Pairs) → Puts (where_any k ps) (maybe k (object_value ps) ∷ [])
put_object [] = put_given
put_object (m ∷ ms) = put_given

pub put_strategy : (s : Option Strategy) → Puts (strategy_pairs s) (maybe (codes "aggregationStrategy") (strategy_value s) ∷ [])
put_strategy None = put_given
put_strategy (Some s) = put_given

pub put_group : (s : Strategy) → Puts (group_pairs s) (maybe (codes "aggregationStrategy") (group_value s) ∷ [])
put_group strategy.Latest = put_given
put_group strategy.Original = put_given
put_group (strategy.Joined between) = put_given
put_group strategy.Grouped = put_given
put_group strategy.Sum = put_given
put_group strategy.Batch = put_given

pub put_completion : (o : Option Predicate) → Puts (predicate_pairs o) (maybe (codes "completionPredicate") (completion_value o) ∷ [])
put_completion None = put_given
put_completion (Some t) = put_given

pub put_delimiter : (d : List ℕ) (b : Bool) → Puts (cond b [] (one (codes "delimiter") (word d))) (maybe (codes "delimiter") (cond b None (Some (word d))) ∷ [])
put_delimiter d true = put_given
put_delimiter d false = put_given

put_backing : (o : Option Bool) → Puts (backing_pairs o) (maybe (codes "useExponentialBackOff") (backing_value o) ∷ [])
put_backing None = put_given
put_backing (Some b) = put_given

pub put_nested : {k : List ℕ} (o : Option Json) → Puts (nested_pairs k o) (maybe k (nested_value o) ∷ [])
put_nested None = put_given
put_nested (Some s) = put_given

pub put_when : (o : Option Check) → Puts (when_pairs o) (maybe (codes "onWhen") (when_value o) ∷ [])
put_when None = put_given
put_when (Some c) = put_given

pub put_catches : (js : List Json) → Puts (catches_pairs js) (maybe (codes "doCatch") (catches_value js) ∷ [])
put_catches [] = put_given
put_catches (j ∷ js) = put_given

put_steps : (o : Option Json) → Puts (steps_pairs o) (maybe (codes "steps") o ∷ [])
put_steps None = put_given
put_steps (Some s) = put_given

pub put_constant : (e : Expr) → Puts (constant_pairs e) (constant_slots e)
put_constant (expr.Constant text) = put_one
put_constant (expr.Simple template) = put_none
put_constant (expr.Header name) = put_none
put_constant (expr.Property name) = put_none

pub put_named : (e : Expr) → Puts (named_pairs e) (named_slots e)
put_named (expr.Header name) = put_one
put_named (expr.Property name) = put_one
put_named (expr.Simple template) = put_none
put_named (expr.Constant text) = put_none

pub put_simple : (e : Expr) → Puts (simple_pairs e) (simple_slots e)
put_simple (expr.Simple template) = put_one
put_simple (expr.Constant text) = put_none
put_simple (expr.Header name) = put_none
put_simple (expr.Property name) = put_none

pub put_path : (h : How) → Puts (json_path h) (path_slots h)
put_path (how.Token token) = put_none
put_path how.JsonArray = put_one
put_path (how.Batch k) = put_none

pub put_token : (h : How) → Puts (token_pairs h) (token_slots h)
put_token (how.Token token) = put_one
put_token how.JsonArray = put_none
put_token (how.Batch k) = put_none

put_order : (k : setting.Key) → Puts (order_pairs k) (order_slots k)
put_order order.Body = put_one
put_order (order.Header name) = put_one
put_order (order.Property name) = put_one

other_by : {k : List ℕ} (b : Bool) (n : ℕ) → Puts (cond b [] (one k (whole (pos n)))) (maybe k (cond b None (Some (whole (pos n)))) ∷ [])
other_by true n = put_given
other_by false n = put_given

put_other : {k : List ℕ} (default n : ℕ) → Puts (where_other k default (Some n)) (maybe k (other_value default (Some n)) ∷ [])
put_other default n = other_by (nat_eq n default) n

-- ---- the objects of expressions and batches

abbrev pub expr_slots : Expr → List Slot
expr_slots e = constant_slots e ++ named_slots e ++ simple_slots e

pub expr_puts : (e : Expr) → Puts (expr_pairs e) (expr_slots e)
expr_puts e = put_constant e and put_named e and put_simple e

abbrev pub config_slots : ℕ → ℕ → List Slot
config_slots size timeout = may (codes "batchSize") (other_value 100 (Some size)) ++ may (codes "batchTimeout") (other_value 1000 (Some timeout))

pub config_puts : (size timeout : ℕ) → Puts (where_other (codes "batchSize") 100 (Some size) ++ where_other (codes "batchTimeout") 1000 (Some timeout)) (config_slots size timeout)
config_puts size timeout = put_other 100 size and put_other 1000 timeout

abbrev pub resequence_slots : Pairs → setting.Key → Json → List Slot
resequence_slots config k steps = may (codes "batchConfig") (object_value config) ++ (order_slots k ++ must (codes "steps") steps)

pub resequence_puts : (config : Pairs) (k : setting.Key) (steps : Json) → Puts (where_any (codes "batchConfig") config ++ (order_pairs k ++ one (codes "steps") steps)) (resequence_slots config k steps)
resequence_puts config k steps = put_object config and (put_order k and put_one)

-- ---- the objects of a file

abbrev pub policy_slots : Policy → List Slot
policy_slots p = may (codes "backOffMultiplier") (number_value p.multiplier)
    ++ may (codes "maximumRedeliveries") (number_value p.maximum)
    ++ may (codes "maximumRedeliveryDelay") (number_value p.greatest)
    ++ may (codes "redeliveryDelay") (number_value p.delay)
    ++ may (codes "useExponentialBackOff") (backing_value p.backing_off)

pub policy_puts : (p : Policy) → Puts (policy_pairs p) (policy_slots p)
unfolding policy_pairs
policy_puts p = put_number p.multiplier and put_number p.maximum and put_number p.greatest and put_number p.delay and put_backing p.backing_off

abbrev pub dead_slots : Uri → Policy → List Slot
dead_slots u p = must (codes "deadLetterUri") (word (printed u)) ++ may (codes "redeliveryPolicy") (object_value (policy_pairs p))

pub dead_puts : (u : Uri) (p : Policy) → Puts (one (codes "deadLetterUri") (word (printed u)) ++ policy_in p) (dead_slots u p)
dead_puts u p = put_one and put_object (policy_pairs p)

abbrev pub clause_slots : List (List ℕ) → Policy → Bool → Bool → Option Json → List Slot
clause_slots names policy handled continued steps = may (codes "continued") (set_value continued)
    ++ must (codes "exception") (list_of (words names))
    ++ may (codes "handled") (set_value handled)
    ++ may (codes "redeliveryPolicy") (object_value (policy_pairs policy))
    ++ may (codes "steps") steps

pub clause_puts : (names : List (List ℕ)) (policy : Policy) (handled continued : Bool) (steps : Option Json) → Puts (where_set (codes "continued") continued
    ++ one (codes "exception") (list_of (words names))
    ++ where_set (codes "handled") handled
    ++ policy_in policy
    ++ steps_pairs steps) (clause_slots names policy handled continued steps)
clause_puts names policy handled continued steps = put_set continued and put_one and put_set handled and put_object (policy_pairs policy) and put_steps steps

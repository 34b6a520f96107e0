-- What steps are made of is printed with its keys in order.
use Rattle.std.proofs.Common.{◌≡◌, ℕ, suc, ◌^◌, ◌<◌, ◌≤◌, Bool, true, false, cond, List, [], ◌∷◌, Option, Some, None, refl, inl, inr, arith, codes, leb-true}
use Rattle.std.proofs.lemmas.Bool.{and_parts}
use Rattle.std.specs.Prelude.{pos, ◌&&◌, nat_le}
use Rattle.eip_exchange.specs.declared.setting.How.{How}
use Rattle.eip_exchange.specs.declared.setting.How.TheVariants as how
use Rattle.eip_exchange.specs.declared.setting.Policy.{Policy}
use Rattle.eip_exchange.specs.declared.setting.Strategy.{Strategy}
use Rattle.eip_exchange.specs.declared.setting.Strategy.TheVariants as strategy
use Rattle.eip_simple_read.specs.Spelling.{template_text, predicate_text}
use Rattle.eip_simple_read.specs.declared.tree.Predicate.{Predicate}
use Rattle.eip_text.specs.Json.{Json, flag, whole, word}
use Rattle.eip_route.specs.Valid.{is_given_between, is_policy}
use Rattle.eip_route.specs.declared.step.Check.{Check}
use Rattle.eip_route.specs.declared.step.Check.TheVariants as check
use Rattle.eip_route.specs.declared.step.Expr.{Expr}
use Rattle.eip_route.specs.declared.step.Expr.TheVariants as expr
use Rattle.eip_route_canonical.specs.Canonical.{object_of, one, given_number, constant_pairs, named_pairs, simple_pairs, expr_pairs, check_pairs, strategy_text, this_strategy, strategy_pairs, group_pairs, predicate_pairs, delimiter_pairs, is_comma, json_path, token_pairs, backing_pairs, policy_pairs, policy_in, nested_pairs, when_pairs, catches_pairs, words, steps_pairs}
use Rattle.eip_route_roundtrip.proofs.Ordered.{Good, deeper, word_good, flag_good, AllGood, no_good, more_good, list_good, Run, join, within, single, nothing, absent, object_good, alone_good, any_in}

-- ---- expressions and checks

pub constant_in : {n : ℕ} (e : Expr) → Run n (codes "constant") (codes "constant") (constant_pairs e)
constant_in (expr.Simple t) = absent (codes "constant")
constant_in (expr.Constant text) = single (codes "constant") (word_good text)
constant_in (expr.Header name) = absent (codes "constant")
constant_in (expr.Property name) = absent (codes "constant")

pub named_in : {n : ℕ} (e : Expr) → Run n (codes "exchangeProperty") (codes "header") (named_pairs e)
named_in (expr.Simple t) = nothing (codes "exchangeProperty") (codes "header") (inr refl)
named_in (expr.Constant text) = nothing (codes "exchangeProperty") (codes "header") (inr refl)
named_in (expr.Header name) = within (codes "exchangeProperty") (codes "header") (codes "header") (word name) (inr refl) (inl refl) (word_good name)
named_in (expr.Property name) = within (codes "exchangeProperty") (codes "header") (codes "exchangeProperty") (word name) (inl refl) (inr refl) (word_good name)

pub simple_in : {n : ℕ} (e : Expr) → Run n (codes "simple") (codes "simple") (simple_pairs e)
simple_in (expr.Simple t) = single (codes "simple") (word_good (template_text t))
simple_in (expr.Constant text) = absent (codes "simple")
simple_in (expr.Header name) = absent (codes "simple")
simple_in (expr.Property name) = absent (codes "simple")

pub expr_good : {n : ℕ} (e : Expr) → Good (suc n) (object_of (expr_pairs e))
expr_good e = object_good (join (join (constant_in e) (named_in e) refl) (simple_in e) refl) refl

pub check_in : {n : ℕ} (c : Check) → Run n (codes "constant") (codes "simple") (check_pairs c)
check_in (check.Simple p) = within (codes "constant") (codes "simple") (codes "simple") (word (predicate_text p)) (inr refl) (inl refl) (word_good (predicate_text p))
check_in (check.Fixed b) = within (codes "constant") (codes "simple") (codes "constant") (flag b) (inl refl) (inr refl) (flag_good b)
check_in (check.Stored name) = within (codes "constant") (codes "simple") (codes "ref") (word name) (inr refl) (inr refl) (word_good name)

-- ---- settings

this_in : {n : ℕ} (s : Strategy) → Run n (codes "aggregationStrategy") (codes "aggregationStrategy") (this_strategy s)
this_in s = single (codes "aggregationStrategy") (word_good (strategy_text s))

pub strategy_in : {n : ℕ} (o : Option Strategy) → Run n (codes "aggregationStrategy") (codes "aggregationStrategy") (strategy_pairs o)
strategy_in None = absent (codes "aggregationStrategy")
strategy_in (Some s) = this_in s

pub group_in : {n : ℕ} (s : Strategy) → Run n (codes "aggregationStrategy") (codes "aggregationStrategy") (group_pairs s)
group_in strategy.Original = this_in strategy.Original
group_in strategy.Latest = absent (codes "aggregationStrategy")
group_in (strategy.Joined between) = this_in (strategy.Joined between)
group_in strategy.Grouped = this_in strategy.Grouped
group_in strategy.Sum = this_in strategy.Sum
group_in strategy.Batch = this_in strategy.Batch

pub predicate_in : {n : ℕ} (o : Option Predicate) → Run (suc n) (codes "completionPredicate") (codes "completionPredicate") (predicate_pairs o)
predicate_in None = absent (codes "completionPredicate")
predicate_in (Some p) = single (codes "completionPredicate") (alone_good (codes "simple") (word_good (predicate_text p)))

unless : {n : ℕ} (b : Bool) (k w : List ℕ) → Run n k k (cond b [] (one k (word w)))
unless true k w = absent k
unless false k w = single k (word_good w)

pub delimiter_in : {n : ℕ} (d : List ℕ) → Run n (codes "delimiter") (codes "delimiter") (delimiter_pairs d)
delimiter_in d = unless (is_comma d) (codes "delimiter") d

pub path_in : {n : ℕ} (h : How) → Run n (codes "jsonpath") (codes "jsonpath") (json_path h)
path_in (how.Token token) = absent (codes "jsonpath")
path_in how.JsonArray = single (codes "jsonpath") (word_good (codes "$[*]"))
path_in (how.Batch k) = absent (codes "jsonpath")

pub token_in : {n : ℕ} (h : How) → Run n (codes "tokenize") (codes "tokenize") (token_pairs h)
token_in (how.Token token) = single (codes "tokenize") (word_good token)
token_in how.JsonArray = absent (codes "tokenize")
token_in (how.Batch k) = absent (codes "tokenize")

-- ---- numbers

pub number_good : {n : ℕ} (m : ℕ) → m < 2 ^ 64 → Good n (whole (pos m))
number_good m h = record { canonical = h; shallow = omega arith }

-- a number within a range
pub number_in : {n : ℕ} (k : List ℕ) (low high : ℕ) (o : Option ℕ) → high < 2 ^ 64 → is_given_between low high o ≡ true → Run n k k (given_number k o)
number_in k low high None small h = absent k
number_in k low high (Some m) small h =
    let top : m ≤ high = leb-true m high (and_parts (nat_le low m) (nat_le m high) h).1 in
    single k (number_good m (omega arith))

backing_in : {n : ℕ} (o : Option Bool) → Run n (codes "useExponentialBackOff") (codes "useExponentialBackOff") (backing_pairs o)
backing_in None = absent (codes "useExponentialBackOff")
backing_in (Some b) = single (codes "useExponentialBackOff") (flag_good b)

policy_run : {n : ℕ} (p : Policy) → is_policy p ≡ true → Run n (codes "backOffMultiplier") (codes "useExponentialBackOff") (policy_pairs p)
unfolding policy_pairs
policy_run p h =
    let halves = and_parts (is_given_between 0 1000 p.maximum && is_given_between 0 1000000000 p.delay) _ h in
    let front = and_parts (is_given_between 0 1000 p.maximum) _ halves.0 in
    let back = and_parts (is_given_between 1 100 p.multiplier) _ halves.1 in
    join (join (join (join
    (number_in (codes "backOffMultiplier") 1 100 p.multiplier (omega arith) back.0)
    (number_in (codes "maximumRedeliveries") 0 1000 p.maximum (omega arith) front.0) refl)
    (number_in (codes "maximumRedeliveryDelay") 0 1000000000 p.greatest (omega arith) back.1) refl)
    (number_in (codes "redeliveryDelay") 0 1000000000 p.delay (omega arith) front.1) refl)
    (backing_in p.backing_off) refl

pub policy_in_order : {n : ℕ} (p : Policy) → is_policy p ≡ true → Run (suc n) (codes "redeliveryPolicy") (codes "redeliveryPolicy") (policy_in p)
policy_in_order p h = any_in (codes "redeliveryPolicy") (policy_pairs p) (policy_run p h) refl

-- ---- what is nested, where it is there

abbrev pub MayBeGood : ℕ → Option Json → Type 0
MayBeGood n None = Unit {0}
MayBeGood n (Some j) = Good n j

pub nested_in : {n : ℕ} (k : List ℕ) (o : Option Json) → MayBeGood n o → Run (suc (suc n)) k k (nested_pairs k o)
nested_in k None h = absent k
nested_in k (Some steps) h = single k (alone_good (codes "steps") (deeper h (omega arith)))

pub when_in : {n : ℕ} (o : Option Check) → Run (suc n) (codes "onWhen") (codes "onWhen") (when_pairs o)
when_in None = absent (codes "onWhen")
when_in (Some c) = single (codes "onWhen") (object_good (check_in c) refl)

pub catches_in : {n : ℕ} (js : List Json) → AllGood n js → Run (suc n) (codes "doCatch") (codes "doCatch") (catches_pairs js)
catches_in [] h = absent (codes "doCatch")
catches_in (j ∷ js) h = single (codes "doCatch") (list_good h)

pub words_good : {n : ℕ} (ws : List (List ℕ)) → AllGood n (words ws)
words_good [] = no_good
words_good (w ∷ ws) = more_good (word_good w) (words_good ws)

pub steps_in : {n : ℕ} (o : Option Json) → MayBeGood n o → Run n (codes "steps") (codes "steps") (steps_pairs o)
steps_in None h = absent (codes "steps")
steps_in (Some steps) h = single (codes "steps") h

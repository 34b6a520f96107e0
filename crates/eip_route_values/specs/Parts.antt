-- What the parts of a step say: templates, predicates, endpoints, expressions, checks, and how parts run.
use Rattle.std.specs.Prelude.{ℕ, false, List, [], codes, Option, Some, None, unwrap_or, Result, Ok, Err}
use Rattle.eip_text.specs.Json.{Json, word, object, Members}
use Rattle.eip_exchange.specs.declared.setting.How.{How}
use Rattle.eip_exchange.specs.declared.setting.How.TheVariants as how
use Rattle.eip_exchange.specs.declared.setting.Key.{Key}
use Rattle.eip_exchange.specs.declared.setting.Key.TheVariants as order
use Rattle.eip_exchange.specs.declared.setting.Strategy.{Strategy}
use Rattle.eip_exchange.specs.declared.setting.Strategy.TheVariants as strategy
use Rattle.eip_simple_read.specs.Meaning.{template_of, predicate_of}
use Rattle.eip_simple_read.specs.declared.fault.SimpleFault.{SimpleFault}
use Rattle.eip_simple_read.specs.declared.tree.Predicate.{Predicate}
use Rattle.eip_simple_read.specs.declared.tree.Template.{Template}
use Rattle.eip_uri.specs.Reading.{read}
use Rattle.eip_uri.specs.declared.fault.UriFault.{UriFault}
use Rattle.eip_uri.specs.declared.uri.Uri.{Uri}
use Rattle.eip_uri.specs.declared.uri.Uri.TheVariants as uri
use Rattle.eip_route.specs.declared.step.Check.{Check}
use Rattle.eip_route.specs.declared.step.Check.TheVariants as check
use Rattle.eip_route.specs.declared.step.Expr.{Expr}
use Rattle.eip_route.specs.declared.step.Expr.TheVariants as expr
use Rattle.eip_route.specs.declared.step.Fan.{Fan}
use Rattle.eip_route.specs.Nest.{Gathering, batching}
use Rattle.eip_route_grammar.specs.Objects.{value_at, parameters_of, fixed}
use Rattle.eip_route_grammar.specs.Texts.{unhashed, strategy_of, key_of}
use Rattle.eip_route_grammar.specs.declared.keys.Key.TheVariants as key
use Rattle.eip_route_values.specs.Leaves.{members_at, text_of, text_given, text_at, expression_of, constant_of, flag_at, small_count_at, count_at}

-- ---- templates and predicates of Simple

abbrev pub template_or_empty : Result Template SimpleFault → Template
template_or_empty (Ok t) = t
template_or_empty (Err e) = record { parts = [] }

-- the template that a text spells
abbrev pub template : List ℕ → Template
template w = template_or_empty (template_of w)

abbrev pub predicate_or_empty : Result Predicate SimpleFault → Predicate
predicate_or_empty (Ok p) = p
predicate_or_empty (Err e) = record { any = [] }

-- the predicate that a text spells
abbrev pub predicate : List ℕ → Predicate
predicate w = predicate_or_empty (predicate_of w)

-- ---- endpoints

abbrev pub uri_or_input : Result Uri UriFault → Uri
uri_or_input (Ok u) = u
uri_or_input (Err e) = uri.StreamIn

-- the endpoint of a URI and its parameters
abbrev pub endpoint : List ℕ → List (List ℕ × List ℕ) → Uri
endpoint w ps = uri_or_input (read w ps)

-- the endpoint of an object with `uri` and `parameters`
abbrev pub endpoint_in : Members → Uri
endpoint_in ms = endpoint (text_at key.Uri ms) (parameters_of ms)

-- ---- expressions

-- by the value of one of `simple`, `constant`, `header` and `exchangeProperty`
abbrev pub expr_given : Option Json → Option Json → Option Json → Option Json → Expr
expr_given (Some t) constant header property = expr.Simple (template (expression_of t))
expr_given None (Some t) header property = expr.Constant (constant_of t)
expr_given None None (Some t) property = expr.Header (text_of t)
expr_given None None None property = expr.Property (text_given property)

abbrev pub plain_expr_in : Members → Expr
plain_expr_in ms = expr_given (value_at key.Simple ms) (value_at key.Constant ms) (value_at key.Header ms) (value_at key.ExchangeProperty ms)

-- one of these keys, or an object with one as `expression`
abbrev pub expr_from : Option Members → Members → Expr
expr_from (Some inner) ms = plain_expr_in inner
expr_from None ms = plain_expr_in ms

abbrev pub expr_in : Members → Expr
expr_in ms = expr_from (members_at key.Expression ms) ms

-- an object with an expression
abbrev pub expr_of : Option Members → Expr
expr_of (Some ms) = expr_in ms
expr_of None = expr.Property []

-- ---- checks

-- by the value of one of `simple`, `constant` and `ref`
abbrev pub check_given : Option Json → Option Json → Option Json → Check
check_given (Some t) constant stored = check.Simple (predicate (expression_of t))
check_given None (Some t) stored = check.Fixed (fixed (Some t))
check_given None None stored = check.Stored (unhashed (text_given stored))

abbrev pub plain_check_in : Members → Check
plain_check_in ms = check_given (value_at key.Simple ms) (value_at key.Constant ms) (value_at key.Ref ms)

-- one of these keys, or an object with one as `expression`
abbrev pub check_from : Option Members → Members → Check
check_from (Some inner) ms = plain_check_in inner
check_from None ms = plain_check_in ms

abbrev pub check_in : Members → Check
check_in ms = check_from (members_at key.Expression ms) ms

-- ---- fan-outs

-- the strategy of a name, which may have a number sign in front
abbrev pub strategy_given : Option Json → Option Strategy
strategy_given None = None
strategy_given (Some t) = strategy_of (unhashed (text_of t))

abbrev pub fan_in : Members → Fan
fan_in ms = record {
  strategy = strategy_given (value_at key.AggregationStrategy ms);
  parallel = flag_at false key.ParallelProcessing ms;
  stop = flag_at false key.StopOnException ms;
  share = flag_at false key.ShareUnitOfWork ms;
}

-- a text, or an object that has it as its `token`
abbrev pub token_of : Json → List ℕ
token_of (word w) = w
token_of (object ms) = text_at key.Token ms
token_of _ = []

-- by `tokenize`, else by the elements of an array
abbrev pub how_given : Option Json → How
how_given (Some t) = how.Token (token_of t)
how_given None = how.JsonArray

-- ---- other settings

abbrev pub delimiter_given : Option Json → List ℕ
delimiter_given None = codes ","
delimiter_given (Some t) = text_of t

-- a predicate that may be absent
abbrev pub completion_given : Option Json → Option Predicate
completion_given None = None
completion_given (Some t) = Some (predicate (expression_of t))

abbrev pub completion_of : Option Members → Option Predicate
completion_of None = None
completion_of (Some ms) = completion_given (value_at key.Simple ms)

abbrev pub gathering_in : Members → Gathering
gathering_in ms = record {
  key = expr_of (members_at key.CorrelationExpression ms);
  strategy = unwrap_or (strategy_given (value_at key.AggregationStrategy ms)) strategy.Latest;
  predicate = completion_of (members_at key.CompletionPredicate ms);
  size = small_count_at key.CompletionSize ms;
  timeout = count_at key.CompletionTimeout ms;
  force = flag_at false key.ForceCompletionOnStop ms;
}

-- by the value of one of `simple`, `header` and `exchangeProperty`
abbrev pub order_key_given : Option Json → Option Json → Option Json → Key
order_key_given (Some t) header property = unwrap_or (key_of (template (expression_of t))) order.Body
order_key_given None (Some t) property = order.Header (text_of t)
order_key_given None None property = order.Property (text_given property)

-- what a resequencer puts its messages in order by
abbrev pub order_key_in : Members → Key
order_key_in ms = order_key_given (value_at key.Simple ms) (value_at key.Header ms) (value_at key.ExchangeProperty ms)

abbrev pub batch_size : Option Members → ℕ
batch_size None = 100
batch_size (Some ms) = unwrap_or (small_count_at key.BatchSize ms) 100

abbrev pub batch_timeout : Option Members → ℕ
batch_timeout None = 1000
batch_timeout (Some ms) = unwrap_or (count_at key.BatchTimeout ms) 1000

-- how it gathers them
abbrev pub batching_in : Members → Gathering
batching_in ms = batching (batch_size (members_at key.BatchConfig ms)) (batch_timeout (members_at key.BatchConfig ms))

-- the name of a repository that may be absent
abbrev pub repository_given : Option Json → Option (List ℕ)
repository_given None = None
repository_given (Some t) = Some (unhashed (text_of t))

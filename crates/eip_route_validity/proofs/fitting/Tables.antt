-- Which keys the tables have, and of which kinds their values are to be.
use Rattle.std.proofs.Common.{◌≡◌, Bool, ◌||◌, false, is_some, refl}
use Rattle.eip_text.specs.Json.{Members}
use Rattle.eip_route_grammar.specs.Keys.{spelled, dashed, is_spelled}
use Rattle.eip_route_grammar.specs.Table.{rows}
use Rattle.eip_route_grammar.specs.Objects.{value_at}
use Rattle.eip_route_grammar.specs.declared.keys.Key.TheVariants as key
use Rattle.eip_route_grammar.specs.declared.table.Kind.{Kind}
use Rattle.eip_route_grammar.specs.declared.table.Kind.TheVariants as kind
use Rattle.eip_route_grammar.specs.declared.table.Row.TheVariants as row
use Rattle.eip_route_grammar.specs.declared.table.Rule.TheVariants as rule
use Rattle.eip_route_validity.proofs.fitting.Keyed.{HasRow}
use Rattle.eip_route_validity.proofs.fitting.Groups.{has_one}

-- ---- expressions

abbrev pub is_plain_value : Members → Bool
is_plain_value ms = is_some (value_at key.Simple ms) || (is_some (value_at key.Constant ms) || (is_some (value_at key.Header ms) || (is_some (value_at key.ExchangeProperty ms) || false)))

abbrev pub is_value : Members → Bool
is_value ms = is_some (value_at key.Simple ms) || (is_some (value_at key.Constant ms) || (is_some (value_at key.Header ms) || (is_some (value_at key.ExchangeProperty ms) || (is_some (value_at key.Expression ms) || false))))

-- the keys of an expression that stands in no object of its own
pub record HasPlainValues (v : Kind) : Type 0 where
  pub simple : HasRow v (row.One key.Simple kind.Simple)
  pub constant : HasRow v (row.One key.Constant kind.Constant)
  pub header : HasRow v (row.One key.Header (kind.Leaf rule.Name))
  pub property : HasRow v (row.One key.ExchangeProperty (kind.Leaf rule.Name))

-- and of one that may stand in one
pub record HasValues (v : Kind) : Type 0 where
  pub plain : HasPlainValues v
  pub expression : HasRow v (row.One key.Expression kind.Expression)
  pub one : (ms : Members) → has_one (rows v) ms ≡ is_value ms

pub expression_values : HasPlainValues kind.Expression
unfolding spelled dashed is_spelled rows
expression_values = record { simple = (refl, refl); constant = (refl, refl); header = (refl, refl); property = (refl, refl) }

pub expression_one : (ms : Members) → has_one (rows kind.Expression) ms ≡ is_plain_value ms
unfolding rows
expression_one ms = refl

plain_of_value : HasPlainValues kind.Value
unfolding spelled dashed is_spelled rows
plain_of_value = record { simple = (refl, refl); constant = (refl, refl); header = (refl, refl); property = (refl, refl) }

pub value_values : HasValues kind.Value
unfolding spelled dashed is_spelled rows
value_values = record { plain = plain_of_value; expression = (refl, refl); one = λ ms. refl }

-- ---- checks

abbrev pub is_plain_check : Members → Bool
is_plain_check ms = is_some (value_at key.Simple ms) || (is_some (value_at key.Constant ms) || (is_some (value_at key.Ref ms) || false))

abbrev pub is_check : Members → Bool
is_check ms = is_some (value_at key.Simple ms) || (is_some (value_at key.Constant ms) || (is_some (value_at key.Ref ms) || (is_some (value_at key.Expression ms) || false)))

pub record HasPlainChecks (v : Kind) : Type 0 where
  pub simple : HasRow v (row.One key.Simple kind.Condition)
  pub constant : HasRow v (row.One key.Constant kind.Fixed)
  pub stored : HasRow v (row.One key.Ref (kind.Leaf rule.StoredPredicate))

pub test_checks : HasPlainChecks kind.Test
unfolding spelled dashed is_spelled rows
test_checks = record { simple = (refl, refl); constant = (refl, refl); stored = (refl, refl) }

pub test_one : (ms : Members) → has_one (rows kind.Test) ms ≡ is_plain_check ms
unfolding rows
test_one ms = refl

-- and of a check that may stand in an object of its own
pub record HasChecks (v : Kind) : Type 0 where
  pub plain : HasPlainChecks v
  pub expression : HasRow v (row.One key.Expression kind.Test)
  pub one : (ms : Members) → has_one (rows v) ms ≡ is_check ms

plain_of_case : HasPlainChecks kind.Case
unfolding spelled dashed is_spelled rows
plain_of_case = record { simple = (refl, refl); constant = (refl, refl); stored = (refl, refl) }

pub case_checks : HasChecks kind.Case
unfolding spelled dashed is_spelled rows
case_checks = record { plain = plain_of_case; expression = (refl, refl); one = λ ms. refl }

plain_of_when : HasPlainChecks kind.OnWhen
unfolding spelled dashed is_spelled rows
plain_of_when = record { simple = (refl, refl); constant = (refl, refl); stored = (refl, refl) }

pub when_checks : HasChecks kind.OnWhen
unfolding spelled dashed is_spelled rows
when_checks = record { plain = plain_of_when; expression = (refl, refl); one = λ ms. refl }

-- ---- texts in objects of their own

pub simple_text : HasRow kind.Simple (row.Must key.Expression (kind.Leaf rule.Template))
unfolding spelled dashed is_spelled rows
simple_text = (refl, refl)

pub condition_text : HasRow kind.Condition (row.Must key.Expression (kind.Leaf rule.Predicate))
unfolding spelled dashed is_spelled rows
condition_text = (refl, refl)

pub completion_condition : HasRow kind.CompletionPredicate (row.Must key.Simple kind.Condition)
unfolding spelled dashed is_spelled rows
completion_condition = (refl, refl)

pub token_text : HasRow kind.Tokenize (row.Must key.Token (kind.Leaf rule.Filled))
unfolding spelled dashed is_spelled rows
token_text = (refl, refl)

-- ---- redelivery

pub policy_maximum : HasRow kind.RedeliveryPolicy (row.May key.MaximumRedeliveries (kind.Leaf (rule.Count 0 1000)))
unfolding spelled dashed is_spelled rows
policy_maximum = (refl, refl)

pub policy_delay : HasRow kind.RedeliveryPolicy (row.May key.RedeliveryDelay (kind.Leaf (rule.Count 0 1000000000)))
unfolding spelled dashed is_spelled rows
policy_delay = (refl, refl)

pub policy_multiplier : HasRow kind.RedeliveryPolicy (row.May key.BackOffMultiplier (kind.Leaf (rule.Count 1 100)))
unfolding spelled dashed is_spelled rows
policy_multiplier = (refl, refl)

pub policy_greatest : HasRow kind.RedeliveryPolicy (row.May key.MaximumRedeliveryDelay (kind.Leaf (rule.Count 0 1000000000)))
unfolding spelled dashed is_spelled rows
policy_greatest = (refl, refl)

-- Expressions, checks, endpoints and policies with which nothing is wrong fit.
use Rattle.std.proofs.Common.{ℕ, ◌≡◌, ◌^◌, Bool, true, false, cond, ◌&&◌, ◌||◌, List, Option, Some, None, is_some, bytes_eq, codes, refl, sym, ◌∙◌, subst, ltb-true}
use Rattle.std.proofs.lemmas.Bool.{and_from, true≢false}
use Rattle.eip_text.specs.Cuts.{behind}
use Rattle.eip_text.specs.Json.{Json, Members}
use Rattle.eip_exchange.specs.declared.setting.Strategy.{Strategy}
use Rattle.eip_exchange.specs.declared.setting.Strategy.TheVariants as strategy
use Rattle.eip_route.specs.declared.route.Names.{Names}
use Rattle.eip_route.specs.Valid.{is_filled, is_policy, is_token, is_fan_strategy, is_fan, is_given_between}
use Rattle.eip_route_grammar.specs.Table.{rule_of, list_of, shape_of}
use Rattle.eip_route_grammar.specs.Objects.{value_at, parameters_of}
use Rattle.eip_route_grammar.specs.Texts.{unhashed, joined_by, strategy_of}
use Rattle.eip_route_grammar.specs.declared.keys.Key.TheVariants as key
use Rattle.eip_route_grammar.specs.declared.table.Kind.{Kind}
use Rattle.eip_route_grammar.specs.declared.table.Kind.TheVariants as kind
use Rattle.eip_route_grammar.specs.declared.table.Row.TheVariants as row
use Rattle.eip_route_grammar.specs.declared.table.Rule.TheVariants as rule
use Rattle.eip_route_validity.specs.Fit.{TemplateFits, PredicateFits, ExprFits, CheckFits, TargetFits, SourceFits}
use Rattle.eip_route_values.specs.Leaves.{members_given, text_given, expression_of, policy_in, policy_given, policy_at, text_of}
use Rattle.eip_route_values.specs.Parts.{template, predicate, endpoint, endpoint_in, expr_given, plain_expr_in, expr_from, expr_in, expr_of, check_given, plain_check_in, check_from, check_in, token_of, how_given, strategy_given, fan_in}
use Rattle.eip_route_validity.proofs.fitting.Faultless.{IsFaultless, ObjectFits}
use Rattle.eip_route_validity.proofs.fitting.Keyed.{HasRow, MayFit, not_missed, value_fits, with_must, with_may}
use Rattle.eip_route_validity.proofs.fitting.Groups.{one_is_there}
use Rattle.eip_route_validity.proofs.fitting.Values.{with_text_or_object, with_object, for_expression, for_value, for_test, for_policy}
use Rattle.eip_route_validity.proofs.fitting.Tables as tables
use Rattle.eip_route_validity.proofs.fitting.Tables.{HasPlainValues, HasValues, HasPlainChecks, HasChecks, is_plain_value, is_plain_check}
use Rattle.eip_route_validity.proofs.fitting.StepTables.{from_uri, to_uri}
use Rattle.eip_route_validity.proofs.fitting.Leaves.{template_word, template_leaf, predicate_word, predicate_leaf, target_leaf, source_leaf, name_leaf, stored_leaf, filled_word, filled_leaf, given_count}
use Rattle.std.specs.Prelude.{nat_lt, length}
use Rattle.eip_route_grammar.specs.declared.fault.Cause.TheVariants as cause

-- ---- texts, maybe in objects of their own

pub simple_fits : (n : Names) (d : ℕ) (ps : List (List ℕ × List ℕ)) (t : Json) → IsFaultless n d ps kind.Simple t → TemplateFits (template (expression_of t))
unfolding rule_of list_of shape_of
simple_fits n d ps t e =
    with_text_or_object (λ x. TemplateFits (template (expression_of x))) n d ps kind.Simple t ((λ b. refl), (λ z. refl)) refl refl e
    (λ w h. template_word w h)
    (λ ms o. with_must (λ x. TemplateFits (template (text_given x))) n d kind.Simple key.Expression (kind.Leaf rule.Template) ms tables.simple_text o (λ u h. template_leaf n d (parameters_of ms) u h))

pub condition_fits : (n : Names) (d : ℕ) (ps : List (List ℕ × List ℕ)) (t : Json) → IsFaultless n d ps kind.Condition t → PredicateFits (predicate (expression_of t))
unfolding rule_of list_of shape_of
condition_fits n d ps t e =
    with_text_or_object (λ x. PredicateFits (predicate (expression_of x))) n d ps kind.Condition t ((λ b. refl), (λ z. refl)) refl refl e
    (λ w h. predicate_word w h)
    (λ ms o. with_must (λ x. PredicateFits (predicate (text_given x))) n d kind.Condition key.Expression (kind.Leaf rule.Predicate) ms tables.condition_text o (λ u h. predicate_leaf n d (parameters_of ms) u h))

token_fits : (n : Names) (d : ℕ) (ps : List (List ℕ × List ℕ)) (t : Json) → IsFaultless n d ps kind.Tokenize t → is_filled (token_of t) ≡ true
unfolding rule_of list_of shape_of
token_fits n d ps t e =
    with_text_or_object (λ x. is_filled (token_of x) ≡ true) n d ps kind.Tokenize t ((λ b. refl), (λ z. refl)) refl refl e
    (λ w h. filled_word w (not_missed (nat_lt 0 (length w)) cause.BadValue h))
    (λ ms o. with_must (λ x. is_filled (text_given x) ≡ true) n d kind.Tokenize key.Token (kind.Leaf rule.Filled) ms tables.token_text o (λ u h. filled_leaf n d (parameters_of ms) u h))

pub how_fits : (n : Names) (d : ℕ) (ps : List (List ℕ × List ℕ)) (o : Option Json) → MayFit n d ps kind.Tokenize o → is_token (how_given o) ≡ true
how_fits n d ps None e = refl
how_fits n d ps (Some t) e = token_fits n d ps t e

-- ---- fan-outs

-- no text is the name of a batch
abbrev IsForFan : Option Strategy → Type 0
IsForFan o = is_fan_strategy o ≡ true

joined_for_fan : (o : Option (List ℕ)) → IsForFan (joined_by o)
joined_for_fan None = refl
joined_for_fan (Some text) = refl

either_for_fan : (b : Bool) (o p : Option Strategy) → IsForFan o → IsForFan p → IsForFan (cond b o p)
either_for_fan true o p e f = e
either_for_fan false o p e f = f

named_strategy : (w : List ℕ) → IsForFan (strategy_of w)
unfolding strategy_of
named_strategy w =
    either_for_fan (bytes_eq w (codes "original")) (Some strategy.Original) _ refl
    (either_for_fan (bytes_eq w (codes "latest")) (Some strategy.Latest) _ refl
    (either_for_fan (bytes_eq w (codes "joined")) (Some (strategy.Joined (codes ","))) _ refl
    (either_for_fan (bytes_eq w (codes "grouped")) (Some strategy.Grouped) _ refl
    (either_for_fan (bytes_eq w (codes "sum")) (Some strategy.Sum) (joined_by (behind (codes "joined:") w)) refl (joined_for_fan (behind (codes "joined:") w))))))

pub given_strategy : (o : Option Json) → is_fan_strategy (strategy_given o) ≡ true
given_strategy None = refl
given_strategy (Some t) = named_strategy (unhashed (text_of t))

pub fan_fits : (ms : Members) → is_fan (fan_in ms) ≡ true
fan_fits ms = given_strategy (value_at key.AggregationStrategy ms)

-- ---- expressions

plain_by : (n : Names) (d : ℕ) (ps : List (List ℕ × List ℕ)) (s c h p : Option Json) → MayFit n d ps kind.Simple s → MayFit n d ps (kind.Leaf rule.Name) h → MayFit n d ps (kind.Leaf rule.Name) p
    → (is_some s || (is_some c || (is_some h || (is_some p || false)))) ≡ true → ExprFits (expr_given s c h p)
plain_by n d ps (Some t) c h p e f g one = simple_fits n d ps t e
plain_by n d ps None (Some t) h p e f g one = tt
plain_by n d ps None None (Some t) p e f g one = name_leaf n d ps t f
plain_by n d ps None None None (Some t) e f g one = name_leaf n d ps t g
plain_by n d ps None None None None e f g one = absurd (true≢false (sym one))

plain_fits : (n : Names) (d : ℕ) (v : Kind) (ms : Members) → HasPlainValues v → ObjectFits n d v ms → is_plain_value ms ≡ true → ExprFits (plain_expr_in ms)
plain_fits n d v ms k o one =
    plain_by n d (parameters_of ms) (value_at key.Simple ms) (value_at key.Constant ms) (value_at key.Header ms) (value_at key.ExchangeProperty ms)
    (value_fits n d (parameters_of ms) v (row.One key.Simple kind.Simple) ms k.simple o.members)
    (value_fits n d (parameters_of ms) v (row.One key.Header (kind.Leaf rule.Name)) ms k.header o.members)
    (value_fits n d (parameters_of ms) v (row.One key.ExchangeProperty (kind.Leaf rule.Name)) ms k.property o.members)
    one

inner_expr_fits : (n : Names) (d : ℕ) (ps : List (List ℕ × List ℕ)) (ms : Members) (t : Json) → IsFaultless n d ps kind.Expression t → ExprFits (expr_from (members_given (Some t)) ms)
inner_expr_fits n d ps ms t e =
    with_object (λ x. ExprFits (expr_from (members_given (Some x)) ms)) n d ps kind.Expression t for_expression e
    (λ inner o. plain_fits n d kind.Expression inner tables.expression_values o
    (sym (tables.expression_one inner) ∙ one_is_there kind.Expression key.Simple kind.Simple inner tables.expression_values.simple o.keys))

without_last : (a b c d e : Bool) → e ≡ false → (a || (b || (c || (d || (e || false))))) ≡ true → (a || (b || (c || (d || false)))) ≡ true
without_last a b c d e p q = subst (λ (x : Bool). (a || (b || (c || (d || (x || false))))) ≡ true) p q

expr_by : (n : Names) (d : ℕ) (ps : List (List ℕ × List ℕ)) (ms : Members) (o : Option Json) → MayFit n d ps kind.Expression o → (is_some o ≡ false → ExprFits (plain_expr_in ms)) → ExprFits (expr_from (members_given o) ms)
expr_by n d ps ms None e f = f refl
expr_by n d ps ms (Some t) e f = inner_expr_fits n d ps ms t e

pub expr_fits : (n : Names) (d : ℕ) (v : Kind) (ms : Members) → HasValues v → ObjectFits n d v ms → ExprFits (expr_in ms)
expr_fits n d v ms k o =
    expr_by n d (parameters_of ms) ms (value_at key.Expression ms) (value_fits n d (parameters_of ms) v (row.One key.Expression kind.Expression) ms k.expression o.members)
    (λ no. plain_fits n d v ms k.plain o
    (without_last (is_some (value_at key.Simple ms)) (is_some (value_at key.Constant ms)) (is_some (value_at key.Header ms)) (is_some (value_at key.ExchangeProperty ms)) (is_some (value_at key.Expression ms)) no
    (sym (k.one ms) ∙ one_is_there v key.Simple kind.Simple ms k.plain.simple o.keys)))

-- an object with an expression
pub value_expr_fits : (n : Names) (d : ℕ) (ps : List (List ℕ × List ℕ)) (t : Json) → IsFaultless n d ps kind.Value t → ExprFits (expr_of (members_given (Some t)))
value_expr_fits n d ps t e =
    with_object (λ x. ExprFits (expr_of (members_given (Some x)))) n d ps kind.Value t for_value e (λ ms o. expr_fits n d kind.Value ms tables.value_values o)

-- ---- checks

plain_check_by : (n : Names) (d : ℕ) (ps : List (List ℕ × List ℕ)) (s c r : Option Json) → MayFit n d ps kind.Condition s → MayFit n d ps (kind.Leaf rule.StoredPredicate) r
    → (is_some s || (is_some c || (is_some r || false))) ≡ true → CheckFits n (check_given s c r)
plain_check_by n d ps (Some t) c r e f one = condition_fits n d ps t e
plain_check_by n d ps None (Some t) r e f one = tt
plain_check_by n d ps None None (Some t) e f one = stored_leaf n d ps t f
plain_check_by n d ps None None None e f one = absurd (true≢false (sym one))

plain_check_fits : (n : Names) (d : ℕ) (v : Kind) (ms : Members) → HasPlainChecks v → ObjectFits n d v ms → is_plain_check ms ≡ true → CheckFits n (plain_check_in ms)
plain_check_fits n d v ms k o one =
    plain_check_by n d (parameters_of ms) (value_at key.Simple ms) (value_at key.Constant ms) (value_at key.Ref ms)
    (value_fits n d (parameters_of ms) v (row.One key.Simple kind.Condition) ms k.simple o.members)
    (value_fits n d (parameters_of ms) v (row.One key.Ref (kind.Leaf rule.StoredPredicate)) ms k.stored o.members)
    one

inner_check_fits : (n : Names) (d : ℕ) (ps : List (List ℕ × List ℕ)) (ms : Members) (t : Json) → IsFaultless n d ps kind.Test t → CheckFits n (check_from (members_given (Some t)) ms)
inner_check_fits n d ps ms t e =
    with_object (λ x. CheckFits n (check_from (members_given (Some x)) ms)) n d ps kind.Test t for_test e
    (λ inner o. plain_check_fits n d kind.Test inner tables.test_checks o
    (sym (tables.test_one inner) ∙ one_is_there kind.Test key.Simple kind.Condition inner tables.test_checks.simple o.keys))

without_other : (a b c d : Bool) → d ≡ false → (a || (b || (c || (d || false)))) ≡ true → (a || (b || (c || false))) ≡ true
without_other a b c d p q = subst (λ (x : Bool). (a || (b || (c || (x || false)))) ≡ true) p q

check_by : (n : Names) (d : ℕ) (ps : List (List ℕ × List ℕ)) (ms : Members) (o : Option Json) → MayFit n d ps kind.Test o → (is_some o ≡ false → CheckFits n (plain_check_in ms)) → CheckFits n (check_from (members_given o) ms)
check_by n d ps ms None e f = f refl
check_by n d ps ms (Some t) e f = inner_check_fits n d ps ms t e

pub check_fits : (n : Names) (d : ℕ) (v : Kind) (ms : Members) → HasChecks v → ObjectFits n d v ms → CheckFits n (check_in ms)
check_fits n d v ms k o =
    check_by n d (parameters_of ms) ms (value_at key.Expression ms) (value_fits n d (parameters_of ms) v (row.One key.Expression kind.Test) ms k.expression o.members)
    (λ no. plain_check_fits n d v ms k.plain o
    (without_other (is_some (value_at key.Simple ms)) (is_some (value_at key.Constant ms)) (is_some (value_at key.Ref ms)) (is_some (value_at key.Expression ms)) no
    (sym (k.one ms) ∙ one_is_there v key.Simple kind.Condition ms k.plain.simple o.keys)))

-- ---- endpoints

pub target_in : (n : Names) (d : ℕ) (ms : Members) → ObjectFits n d kind.To ms → TargetFits n (endpoint_in ms)
target_in n d ms o = with_must (λ x. TargetFits n (endpoint (text_given x) (parameters_of ms))) n d kind.To key.Uri (kind.Leaf rule.Producer) ms to_uri o (λ t e. target_leaf n d (parameters_of ms) t e)

pub source_in : (n : Names) (d : ℕ) (ms : Members) → ObjectFits n d kind.From ms → SourceFits n (endpoint_in ms)
source_in n d ms o = with_must (λ x. SourceFits n (endpoint (text_given x) (parameters_of ms))) n d kind.From key.Uri (kind.Leaf rule.Consumer) ms from_uri o (λ t e. source_leaf n d (parameters_of ms) t e)

-- ---- redelivery

policy_in_fits : (n : Names) (d : ℕ) (ms : Members) → ObjectFits n d kind.RedeliveryPolicy ms → is_policy (policy_in ms) ≡ true
policy_in_fits n d ms o =
    let p = policy_in ms in
    and_from (is_given_between 0 1000 p.maximum && is_given_between 0 1000000000 p.delay) (is_given_between 1 100 p.multiplier && is_given_between 0 1000000000 p.greatest)
    (and_from (is_given_between 0 1000 p.maximum) (is_given_between 0 1000000000 p.delay)
    (given_count n d (parameters_of ms) (2 ^ 32) 0 1000 (value_at key.MaximumRedeliveries ms) (ltb-true 1000 (2 ^ 32) refl)
    (value_fits n d (parameters_of ms) kind.RedeliveryPolicy (row.May key.MaximumRedeliveries (kind.Leaf (rule.Count 0 1000))) ms tables.policy_maximum o.members))
    (given_count n d (parameters_of ms) (2 ^ 64) 0 1000000000 (value_at key.RedeliveryDelay ms) (ltb-true 1000000000 (2 ^ 64) refl)
    (value_fits n d (parameters_of ms) kind.RedeliveryPolicy (row.May key.RedeliveryDelay (kind.Leaf (rule.Count 0 1000000000))) ms tables.policy_delay o.members)))
    (and_from (is_given_between 1 100 p.multiplier) (is_given_between 0 1000000000 p.greatest)
    (given_count n d (parameters_of ms) (2 ^ 64) 1 100 (value_at key.BackOffMultiplier ms) (ltb-true 100 (2 ^ 64) refl)
    (value_fits n d (parameters_of ms) kind.RedeliveryPolicy (row.May key.BackOffMultiplier (kind.Leaf (rule.Count 1 100))) ms tables.policy_multiplier o.members))
    (given_count n d (parameters_of ms) (2 ^ 64) 0 1000000000 (value_at key.MaximumRedeliveryDelay ms) (ltb-true 1000000000 (2 ^ 64) refl)
    (value_fits n d (parameters_of ms) kind.RedeliveryPolicy (row.May key.MaximumRedeliveryDelay (kind.Leaf (rule.Count 0 1000000000))) ms tables.policy_greatest o.members)))

given_policy_fits : (n : Names) (d : ℕ) (ps : List (List ℕ × List ℕ)) (t : Json) → IsFaultless n d ps kind.RedeliveryPolicy t → is_policy (policy_given (members_given (Some t))) ≡ true
given_policy_fits n d ps t e = with_object (λ x. is_policy (policy_given (members_given (Some x))) ≡ true) n d ps kind.RedeliveryPolicy t for_policy e (λ ms o. policy_in_fits n d ms o)

pub policy_fits : (n : Names) (d : ℕ) (v : Kind) (ms : Members) → HasRow v (row.May key.RedeliveryPolicy kind.RedeliveryPolicy) → ObjectFits n d v ms → is_policy (policy_at ms) ≡ true
policy_fits n d v ms h o =
    with_may (λ x. is_policy (policy_given (members_given x)) ≡ true) n d v (row.May key.RedeliveryPolicy kind.RedeliveryPolicy) ms h o refl (λ t e. given_policy_fits n d (parameters_of ms) t e)

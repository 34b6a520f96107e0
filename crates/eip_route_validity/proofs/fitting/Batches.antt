-- A batch with which nothing is wrong fits: what its messages are put in order by, its size and its timeout.
use Rattle.std.proofs.Common.{ℕ, ◌≡◌, ◌+◌, ◌<◌, ◌^◌, Bool, true, false, ◌||◌, List, [], ◌∷◌, Option, Some, None, is_some, Result, Ok, Err, refl, sym, ◌∙◌, subst, arith, ltb-true}
use Rattle.std.specs.Prelude.{unwrap_or}
use Rattle.std.proofs.lemmas.Bool.{and_from, and_parts, true≢false}
use Rattle.eip_text.specs.Json.{Json, Members}
use Rattle.eip_exchange.specs.declared.setting.How.TheVariants as how
use Rattle.eip_exchange.specs.declared.setting.Key as setting
use Rattle.eip_exchange.specs.declared.setting.Key.TheVariants as order
use Rattle.eip_simple_read.specs.declared.fault.SimpleFault.{SimpleFault}
use Rattle.eip_simple_read.specs.declared.tree.Function.TheVariants as function
use Rattle.eip_simple_read.specs.declared.tree.Part.{Part}
use Rattle.eip_simple_read.specs.declared.tree.Part.TheVariants as part
use Rattle.eip_simple_read.specs.declared.tree.Template.{Template}
use Rattle.eip_simple_read.specs.Meaning.{template_of}
use Rattle.eip_simple_read.specs.Spelling.{are_parts}
use Rattle.eip_simple_read.proofs.Laws.{read_template_fits}
use Rattle.eip_text.specs.Names.{is_name}
use Rattle.eip_uri.specs.Ranges.{is_between}
use Rattle.eip_route.specs.Nest.{NestedSteps, aggregates, batch_groups, batching, group, holds, no_group, plain_fan, splits}
use Rattle.eip_route.specs.Valid.{is_given_between, is_key}
use Rattle.eip_route.specs.declared.route.Names.{Names}
use Rattle.eip_route_grammar.specs.Objects.{value_at, parameters_of}
use Rattle.eip_route_grammar.specs.Table.{rows, rule_of, list_of, shape_of}
use Rattle.eip_route_grammar.specs.Texts.{key_of, key_of_parts}
use Rattle.eip_route_grammar.specs.declared.keys.Key.TheVariants as key
use Rattle.eip_route_grammar.specs.declared.table.Kind.TheVariants as kind
use Rattle.eip_route_grammar.specs.declared.table.Row.TheVariants as row
use Rattle.eip_route_grammar.specs.declared.table.Rule.TheVariants as rule
use Rattle.eip_route_values.specs.Leaves.{members_given, expression_of, small_count_at, count_at}
use Rattle.eip_route_values.specs.Parts.{template_or_empty, order_key_given, order_key_in, batch_size, batch_timeout, batching_in}
use Rattle.eip_route_validity.specs.Fit.{BatchingFits, StepsFit, StepFits}
use Rattle.eip_route_validity.proofs.fitting.Faultless.{ObjectFits}
use Rattle.eip_route_validity.proofs.fitting.Groups.{has_one, one_is_there}
use Rattle.eip_route_validity.proofs.fitting.Keyed.{MayFit, value_fits}
use Rattle.eip_route_validity.proofs.fitting.Leaves.{given_count, name_leaf}
use Rattle.eip_route_validity.proofs.fitting.StepTables as tables
use Rattle.eip_route_validity.proofs.fitting.Values.{IsForObjects, with_object}

-- ---- what the messages are put in order by

key_fits : (ps : List Part) → are_parts ps ≡ true → is_key (unwrap_or (key_of_parts ps) order.Body) ≡ true
key_fits [] h = refl
key_fits (part.Plain t ∷ []) h = refl
key_fits (part.Call function.Body ∷ []) h = refl
key_fits (part.Call (function.Header x) ∷ []) h = (and_parts (is_name x) true h).0
key_fits (part.Call (function.Property x) ∷ []) h = (and_parts (is_name x) true h).0
key_fits (part.Call function.ExchangeId ∷ []) h = refl
key_fits (part.Call function.RouteId ∷ []) h = refl
key_fits (part.Call function.ExceptionMessage ∷ []) h = refl
key_fits (p ∷ q ∷ ps) h = refl

template_key : (w : List ℕ) (r : Result Template SimpleFault) → template_of w ≡ r → is_key (unwrap_or (key_of (template_or_empty r)) order.Body) ≡ true
template_key w (Ok t) e = key_fits t.parts (read_template_fits w t e)
template_key w (Err x) e = refl

order_by : (n : Names) (d : ℕ) (ps : List (List ℕ × List ℕ)) (s h p : Option Json) → MayFit n d ps (kind.Leaf rule.Name) h → MayFit n d ps (kind.Leaf rule.Name) p → (is_some s || (is_some h || (is_some p || false))) ≡ true
    → is_key (order_key_given s h p) ≡ true
order_by n d ps (Some t) h p f g one = template_key (expression_of t) (template_of (expression_of t)) refl
order_by n d ps None (Some t) p f g one = name_leaf n d ps t f
order_by n d ps None None (Some t) f g one = name_leaf n d ps t g
order_by n d ps None None None f g one = absurd (true≢false (sym one))

is_ordered : Members → Bool
is_ordered ms = is_some (value_at key.Simple ms) || (is_some (value_at key.Header ms) || (is_some (value_at key.ExchangeProperty ms) || false))

ordered_one : (ms : Members) → has_one (rows kind.Resequence) ms ≡ is_ordered ms
unfolding rows is_ordered
ordered_one ms = refl

pub order_fits : (n : Names) (d : ℕ) (ms : Members) → ObjectFits n d kind.Resequence ms → is_key (order_key_in ms) ≡ true
unfolding is_ordered
order_fits n d ms o =
    order_by n d (parameters_of ms) (value_at key.Simple ms) (value_at key.Header ms) (value_at key.ExchangeProperty ms)
    (value_fits n d (parameters_of ms) kind.Resequence (row.One key.Header (kind.Leaf rule.Name)) ms tables.order_header o.members)
    (value_fits n d (parameters_of ms) kind.Resequence (row.One key.ExchangeProperty (kind.Leaf rule.Name)) ms tables.order_property o.members)
    (sym (ordered_one ms) ∙ one_is_there kind.Resequence key.Simple kind.OrderKey ms tables.order_simple o.keys)

-- ---- when it is complete

or_default : (low high default : ℕ) (o : Option ℕ) → is_given_between low high o ≡ true → is_between low high default ≡ true → is_between low high (unwrap_or o default) ≡ true
or_default low high default None h e = e
or_default low high default (Some n) h e = h

for_config : IsForObjects kind.BatchConfig
unfolding rule_of list_of shape_of
for_config = record { no_rule = refl; no_list = refl; keyed = refl }

size_fits : (n : Names) (d : ℕ) (ps : List (List ℕ × List ℕ)) (o : Option Json) → MayFit n d ps kind.BatchConfig o → is_between 1 1000 (batch_size (members_given o)) ≡ true
size_fits n d ps None e = refl
size_fits n d ps (Some t) e =
    with_object (λ x. is_between 1 1000 (batch_size (members_given (Some x))) ≡ true) n d ps kind.BatchConfig t for_config e
    (λ ms o. or_default 1 1000 100 (small_count_at key.BatchSize ms)
    (given_count n d (parameters_of ms) (2 ^ 32) 1 1000 (value_at key.BatchSize ms) (ltb-true 1000 (2 ^ 32) refl)
    (value_fits n d (parameters_of ms) kind.BatchConfig (row.May key.BatchSize (kind.Leaf (rule.Count 1 1000))) ms tables.batch_size o.members)) refl)

timeout_fits : (n : Names) (d : ℕ) (ps : List (List ℕ × List ℕ)) (o : Option Json) → MayFit n d ps kind.BatchConfig o → is_between 1 1000000000 (batch_timeout (members_given o)) ≡ true
timeout_fits n d ps None e = refl
timeout_fits n d ps (Some t) e =
    with_object (λ x. is_between 1 1000000000 (batch_timeout (members_given (Some x))) ≡ true) n d ps kind.BatchConfig t for_config e
    (λ ms o. or_default 1 1000000000 1000 (count_at key.BatchTimeout ms)
    (given_count n d (parameters_of ms) (2 ^ 64) 1 1000000000 (value_at key.BatchTimeout ms) (ltb-true 1000000000 (2 ^ 64) refl)
    (value_fits n d (parameters_of ms) kind.BatchConfig (row.May key.BatchTimeout (kind.Leaf (rule.Count 1 1000000000))) ms tables.batch_timeout o.members)) refl)

pub batching_fits : (n : Names) (d : ℕ) (ms : Members) → ObjectFits n d kind.Resequence ms → BatchingFits (batching_in ms)
batching_fits n d ms o =
    let config = value_fits n d (parameters_of ms) kind.Resequence (row.May key.BatchConfig kind.BatchConfig) ms tables.batch_config o.members in
    record {
      size = batch_size (members_given (value_at key.BatchConfig ms));
      timeout = batch_timeout (members_given (value_at key.BatchConfig ms));
      is = refl;
      small = size_fits n d (parameters_of ms) (value_at key.BatchConfig ms) config;
      soon = timeout_fits n d (parameters_of ms) (value_at key.BatchConfig ms) config;
    }

-- ---- the whole: two blocks, one in the other

pub batch_step_fits : (n : Names) (d size timeout : ℕ) (k : setting.Key) (ss : NestedSteps) → BatchingFits (batching size timeout) → is_key k ≡ true → d < 15 → StepsFit n (d + 2) ss
    → StepFits n d (holds (aggregates (batching size timeout)) (batch_groups k ss))
batch_step_fits n d size timeout k ss g o l f =
    let deep : d + 2 ≡ d + 1 + 1 = omega arith in
    let split : StepFits n (d + 1) (holds (splits (how.Batch k) plain_fan) (group ss no_group)) = (record { setting = and_from _ _ o refl; number = refl; suit = tt }, ((omega (arith, l), subst (λ (x : ℕ). StepsFit n x ss) deep f), tt)) in
    (record { setting = g; number = refl; suit = tt }, ((omega (arith, l), (split, tt)), tt))

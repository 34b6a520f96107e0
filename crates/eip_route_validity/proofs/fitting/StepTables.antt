-- Which keys the tables of the steps have, and of which kinds their values are to be.
use Rattle.std.proofs.Common.{◌≡◌, List, [], ◌∷◌, refl}
use Rattle.eip_route_grammar.specs.Keys.{spelled, dashed, is_spelled}
use Rattle.eip_route_grammar.specs.Table.{rows, key_in, kind_in}
use Rattle.eip_route_grammar.specs.declared.keys.Key.{Key}
use Rattle.eip_route_grammar.specs.declared.keys.Key.TheVariants as key
use Rattle.eip_route_grammar.specs.declared.table.Kind.{Kind}
use Rattle.eip_route_grammar.specs.declared.table.Kind.TheVariants as kind
use Rattle.eip_route_grammar.specs.declared.table.Row.{Row}
use Rattle.eip_route_grammar.specs.declared.table.Row.TheVariants as row
use Rattle.eip_route_grammar.specs.declared.table.Rule.TheVariants as rule
use Rattle.eip_route_validity.proofs.fitting.Keyed.{HasRow, Lacks}
use Rattle.eip_route_validity.proofs.fitting.Tables.{HasPlainValues, HasValues}

-- ---- the kinds of steps

-- what the value of a step's key is to be; `kind.Step` for any other key
abbrev pub step_kind : Key → Kind
step_kind key.SetBody = kind.Value
step_kind key.SetHeader = kind.NamedValue
step_kind key.SetProperty = kind.NamedValue
step_kind key.RemoveHeader = kind.RemoveHeader
step_kind key.To = kind.To
step_kind key.Log = kind.Log
step_kind key.ThrowException = kind.ThrowException
step_kind key.Process = kind.Process
step_kind key.Choice = kind.Choice
step_kind key.Filter = kind.Case
step_kind key.Split = kind.Split
step_kind key.Multicast = kind.Multicast
step_kind key.RecipientList = kind.RecipientList
step_kind key.Aggregate = kind.Aggregate
step_kind key.IdempotentConsumer = kind.IdempotentConsumer
step_kind key.DoTry = kind.Try
step_kind key.Resequence = kind.Resequence
step_kind _ = kind.Step

abbrev pub IsStepKey : Key → Type 0
IsStepKey k = step_kind k ≡ kind.Step → ⊥

abbrev pub IsStepRow : Row → Type 0
IsStepRow r = (kind_in r ≡ step_kind (key_in r)) × IsStepKey (key_in r)

abbrev pub AreStepRows : List Row → Type 0
AreStepRows [] = Unit {0}
AreStepRows (r ∷ rs) = IsStepRow r × AreStepRows rs

of_step : (k : Key) → (step_kind k ≡ kind.Step → ⊥) → IsStepRow (row.One k (step_kind k))
of_step k other = (refl, other)

pub step_rows : AreStepRows (rows kind.Step)
unfolding rows
step_rows = (
  of_step key.SetBody (λ (e : kind.Value ≡ kind.Step). cc),
  (
    of_step key.SetHeader (λ (e : kind.NamedValue ≡ kind.Step). cc),
    (
      of_step key.SetProperty (λ (e : kind.NamedValue ≡ kind.Step). cc),
      (
        of_step key.RemoveHeader (λ (e : kind.RemoveHeader ≡ kind.Step). cc),
        (
          of_step key.To (λ (e : kind.To ≡ kind.Step). cc),
          (
            of_step key.Log (λ (e : kind.Log ≡ kind.Step). cc),
            (
              of_step key.ThrowException (λ (e : kind.ThrowException ≡ kind.Step). cc),
              (
                of_step key.Process (λ (e : kind.Process ≡ kind.Step). cc),
                (
                  of_step key.Choice (λ (e : kind.Choice ≡ kind.Step). cc),
                  (
                    of_step key.Filter (λ (e : kind.Case ≡ kind.Step). cc),
                    (
                      of_step key.Split (λ (e : kind.Split ≡ kind.Step). cc),
                      (
                        of_step key.Multicast (λ (e : kind.Multicast ≡ kind.Step). cc),
                        (
                          of_step key.RecipientList (λ (e : kind.RecipientList ≡ kind.Step). cc),
                          (
                            of_step key.Aggregate (λ (e : kind.Aggregate ≡ kind.Step). cc),
                            (
                              of_step key.IdempotentConsumer (λ (e : kind.IdempotentConsumer ≡ kind.Step). cc),
                              (
                                of_step key.DoTry (λ (e : kind.Try ≡ kind.Step). cc),
                                (of_step key.Resequence (λ (e : kind.Resequence ≡ kind.Step). cc), tt),
                              ),
                            ),
                          ),
                        ),
                      ),
                    ),
                  ),
                ),
              ),
            ),
          ),
        ),
      ),
    ),
  ),
)

pub step_parameters : Lacks kind.Step key.Parameters
unfolding spelled dashed is_spelled rows
step_parameters = (refl, refl)

-- ---- steps

pub from_steps : HasRow kind.From (row.May key.Steps kind.Steps)
unfolding spelled dashed is_spelled rows
from_steps = (refl, refl)

pub case_steps : HasRow kind.Case (row.Must key.Steps kind.Steps)
unfolding spelled dashed is_spelled rows
case_steps = (refl, refl)

pub nested_steps : HasRow kind.Nested (row.Must key.Steps kind.Steps)
unfolding spelled dashed is_spelled rows
nested_steps = (refl, refl)

pub split_steps : HasRow kind.Split (row.Must key.Steps kind.Steps)
unfolding spelled dashed is_spelled rows
split_steps = (refl, refl)

pub multicast_steps : HasRow kind.Multicast (row.Must key.Steps kind.Branches)
unfolding spelled dashed is_spelled rows
multicast_steps = (refl, refl)

pub aggregate_steps : HasRow kind.Aggregate (row.Must key.Steps kind.Steps)
unfolding spelled dashed is_spelled rows
aggregate_steps = (refl, refl)

pub idempotent_steps : HasRow kind.IdempotentConsumer (row.Must key.Steps kind.Steps)
unfolding spelled dashed is_spelled rows
idempotent_steps = (refl, refl)

pub try_steps : HasRow kind.Try (row.Must key.Steps kind.Steps)
unfolding spelled dashed is_spelled rows
try_steps = (refl, refl)

pub try_catches : HasRow kind.Try (row.May key.DoCatch kind.Catches)
unfolding spelled dashed is_spelled rows
try_catches = (refl, refl)

pub try_last : HasRow kind.Try (row.May key.DoFinally kind.Nested)
unfolding spelled dashed is_spelled rows
try_last = (refl, refl)

pub catch_steps : HasRow kind.Catch (row.Must key.Steps kind.Steps)
unfolding spelled dashed is_spelled rows
catch_steps = (refl, refl)

pub catch_exceptions : HasRow kind.Catch (row.Must key.Exception kind.Exceptions)
unfolding spelled dashed is_spelled rows
catch_exceptions = (refl, refl)

pub catch_when : HasRow kind.Catch (row.May key.OnWhen kind.OnWhen)
unfolding spelled dashed is_spelled rows
catch_when = (refl, refl)

pub choice_when : HasRow kind.Choice (row.Must key.When kind.Cases)
unfolding spelled dashed is_spelled rows
choice_when = (refl, refl)

pub choice_otherwise : HasRow kind.Choice (row.May key.Otherwise kind.Nested)
unfolding spelled dashed is_spelled rows
choice_otherwise = (refl, refl)

-- ---- endpoints and names

pub from_uri : HasRow kind.From (row.Must key.Uri (kind.Leaf rule.Consumer))
unfolding spelled dashed is_spelled rows
from_uri = (refl, refl)

pub to_uri : HasRow kind.To (row.Must key.Uri (kind.Leaf rule.Producer))
unfolding spelled dashed is_spelled rows
to_uri = (refl, refl)

pub named_name : HasRow kind.NamedValue (row.Must key.Name (kind.Leaf rule.Name))
unfolding spelled dashed is_spelled rows
named_name = (refl, refl)

pub removed_name : HasRow kind.RemoveHeader (row.Must key.Name (kind.Leaf rule.Name))
unfolding spelled dashed is_spelled rows
removed_name = (refl, refl)

pub process_name : HasRow kind.Process (row.Must key.Ref (kind.Leaf rule.Processor))
unfolding spelled dashed is_spelled rows
process_name = (refl, refl)

pub log_name : HasRow kind.Log (row.May key.LogName (kind.Leaf rule.Name))
unfolding spelled dashed is_spelled rows
log_name = (refl, refl)

pub idempotent_repository : HasRow kind.IdempotentConsumer (row.May key.IdempotentRepository (kind.Leaf rule.Repository))
unfolding spelled dashed is_spelled rows
idempotent_repository = (refl, refl)

-- ---- settings

pub log_message : HasRow kind.Log (row.Must key.Message (kind.Leaf rule.Template))
unfolding spelled dashed is_spelled rows
log_message = (refl, refl)

pub thrown_type : HasRow kind.ThrowException (row.Must key.ExceptionType (kind.Leaf rule.ExceptionType))
unfolding spelled dashed is_spelled rows
thrown_type = (refl, refl)

pub thrown_message : HasRow kind.ThrowException (row.Must key.Message (kind.Leaf rule.Template))
unfolding spelled dashed is_spelled rows
thrown_message = (refl, refl)

pub split_token : HasRow kind.Split (row.One key.Tokenize kind.Tokenize)
unfolding spelled dashed is_spelled rows
split_token = (refl, refl)

pub recipients_delimiter : HasRow kind.RecipientList (row.May key.Delimiter (kind.Leaf rule.Filled))
unfolding spelled dashed is_spelled rows
recipients_delimiter = (refl, refl)

-- ---- groups

pub group_key : HasRow kind.Aggregate (row.Must key.CorrelationExpression kind.Value)
unfolding spelled dashed is_spelled rows
group_key = (refl, refl)

pub group_strategy : HasRow kind.Aggregate (row.May key.AggregationStrategy (kind.Leaf rule.GroupStrategy))
unfolding spelled dashed is_spelled rows
group_strategy = (refl, refl)

pub group_size : HasRow kind.Aggregate (row.May key.CompletionSize (kind.Leaf (rule.Count 1 1000000)))
unfolding spelled dashed is_spelled rows
group_size = (refl, refl)

pub group_timeout : HasRow kind.Aggregate (row.May key.CompletionTimeout (kind.Leaf (rule.Count 1 1000000000)))
unfolding spelled dashed is_spelled rows
group_timeout = (refl, refl)

pub group_predicate : HasRow kind.Aggregate (row.May key.CompletionPredicate kind.CompletionPredicate)
unfolding spelled dashed is_spelled rows
group_predicate = (refl, refl)

-- ---- batches

pub batch_steps : HasRow kind.Resequence (row.Must key.Steps kind.BatchSteps)
unfolding spelled dashed is_spelled rows
batch_steps = (refl, refl)

pub batch_config : HasRow kind.Resequence (row.May key.BatchConfig kind.BatchConfig)
unfolding spelled dashed is_spelled rows
batch_config = (refl, refl)

pub batch_size : HasRow kind.BatchConfig (row.May key.BatchSize (kind.Leaf (rule.Count 1 1000)))
unfolding spelled dashed is_spelled rows
batch_size = (refl, refl)

pub batch_timeout : HasRow kind.BatchConfig (row.May key.BatchTimeout (kind.Leaf (rule.Count 1 1000000000)))
unfolding spelled dashed is_spelled rows
batch_timeout = (refl, refl)

pub order_simple : HasRow kind.Resequence (row.One key.Simple kind.OrderKey)
unfolding spelled dashed is_spelled rows
order_simple = (refl, refl)

pub order_header : HasRow kind.Resequence (row.One key.Header (kind.Leaf rule.Name))
unfolding spelled dashed is_spelled rows
order_header = (refl, refl)

pub order_property : HasRow kind.Resequence (row.One key.ExchangeProperty (kind.Leaf rule.Name))
unfolding spelled dashed is_spelled rows
order_property = (refl, refl)

pub order_text : HasRow kind.OrderKey (row.Must key.Expression (kind.Leaf rule.OrderKey))
unfolding spelled dashed is_spelled rows
order_text = (refl, refl)

-- ---- expressions among the keys of a step

plain_of_named : HasPlainValues kind.NamedValue
unfolding spelled dashed is_spelled rows
plain_of_named = record { simple = (refl, refl); constant = (refl, refl); header = (refl, refl); property = (refl, refl) }

pub named_values : HasValues kind.NamedValue
unfolding spelled dashed is_spelled rows
named_values = record { plain = plain_of_named; expression = (refl, refl); one = λ ms. refl }

plain_of_recipients : HasPlainValues kind.RecipientList
unfolding spelled dashed is_spelled rows
plain_of_recipients = record { simple = (refl, refl); constant = (refl, refl); header = (refl, refl); property = (refl, refl) }

pub recipients_values : HasValues kind.RecipientList
unfolding spelled dashed is_spelled rows
recipients_values = record { plain = plain_of_recipients; expression = (refl, refl); one = λ ms. refl }

plain_of_idempotent : HasPlainValues kind.IdempotentConsumer
unfolding spelled dashed is_spelled rows
plain_of_idempotent = record { simple = (refl, refl); constant = (refl, refl); header = (refl, refl); property = (refl, refl) }

pub idempotent_values : HasValues kind.IdempotentConsumer
unfolding spelled dashed is_spelled rows
idempotent_values = record { plain = plain_of_idempotent; expression = (refl, refl); one = λ ms. refl }

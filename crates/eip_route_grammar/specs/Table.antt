-- What each value of a route file is to be: the keys of the objects, the items of the lists, and the rules for all else.
use Rattle.std.specs.Prelude.{ℕ, Bool, true, false, List, [], ◌∷◌, ◌++◌, Option, Some, None, if◌then◌else◌}
use Rattle.eip_route_grammar.specs.Keys.{is_spelled}
use Rattle.eip_route_grammar.specs.declared.keys.Key.{Key}
use Rattle.eip_route_grammar.specs.declared.keys.Key.TheVariants as key
use Rattle.eip_route_grammar.specs.declared.table.Rule.{Rule}
use Rattle.eip_route_grammar.specs.declared.table.Rule.TheVariants as rule
use Rattle.eip_route_grammar.specs.declared.table.Kind.{Kind}
use Rattle.eip_route_grammar.specs.declared.table.Kind.TheVariants as kind
use Rattle.eip_route_grammar.specs.declared.table.Row.{Row}
use Rattle.eip_route_grammar.specs.declared.table.Row.TheVariants as row
use Rattle.eip_route_grammar.specs.declared.table.Shape.{Shape}
use Rattle.eip_route_grammar.specs.declared.table.Shape.TheVariants as shape
use Rattle.eip_route_grammar.specs.declared.table.Listed.{Listed}
use Rattle.eip_route_grammar.specs.declared.table.Nests.{Nests}
use Rattle.eip_route_grammar.specs.declared.table.Nests.TheVariants as nests

-- ---- keys

-- texts without effect, which most objects may have
abbrev pub notes : List Row
notes = row.May key.Description (kind.Leaf rule.Word) ∷ row.May key.Id (kind.Leaf rule.Word) ∷ []

-- an expression
abbrev pub plain_values : List Row
plain_values = row.One key.Simple kind.Simple ∷ row.One key.Constant kind.Constant ∷ row.One key.Header (kind.Leaf rule.Name) ∷ row.One key.ExchangeProperty (kind.Leaf rule.Name) ∷ []

-- an expression, maybe in an object of its own
abbrev pub values : List Row
values = plain_values ++ (row.One key.Expression kind.Expression ∷ [])

-- what is asked of a message
abbrev pub plain_tests : List Row
plain_tests = row.One key.Simple kind.Condition ∷ row.One key.Constant kind.Fixed ∷ row.One key.Ref (kind.Leaf rule.StoredPredicate) ∷ []

-- the same, maybe in an object of its own
abbrev pub tests : List Row
tests = plain_tests ++ (row.One key.Expression kind.Test ∷ [])

-- how parts run and become one message
abbrev pub fan : List Row
fan = row.May key.AggregationStrategy (kind.Leaf rule.Strategy) ∷ row.May key.ParallelProcessing (kind.Leaf rule.Flag) ∷ row.May key.StopOnException (kind.Leaf rule.Flag) ∷ row.May key.ShareUnitOfWork (kind.Leaf rule.Flag) ∷ []

-- the keys of an object of this kind, in the order in which missing ones are told
unfoldable pub rows : Kind → List Row
rows kind.Item = row.One key.Route kind.Route ∷ row.One key.From kind.From ∷ row.One key.ErrorHandler kind.ErrorHandler ∷ row.One key.OnException kind.OnException ∷ []
rows kind.Route = row.May key.Id (kind.Leaf rule.Name) ∷ row.May key.Description (kind.Leaf rule.Word) ∷ row.Must key.From kind.From ∷ row.May key.Steps kind.Steps ∷ []
rows kind.From = notes ++ (row.Must key.Uri (kind.Leaf rule.Consumer) ∷ row.May key.Parameters kind.Parameters ∷ row.May key.Steps kind.Steps ∷ [])
rows kind.ErrorHandler = notes ++ (row.One key.DeadLetterChannel kind.DeadLetterChannel ∷ row.One key.DefaultErrorHandler kind.DefaultErrorHandler ∷ [])
rows kind.DeadLetterChannel = notes ++ (row.Must key.DeadLetterUri (kind.Leaf rule.Producer) ∷ row.May key.RedeliveryPolicy kind.RedeliveryPolicy ∷ [])
rows kind.DefaultErrorHandler = notes ++ (row.May key.RedeliveryPolicy kind.RedeliveryPolicy ∷ [])
rows kind.RedeliveryPolicy = notes ++ (row.May key.MaximumRedeliveries (kind.Leaf (rule.Count 0 1000)) ∷ row.May key.RedeliveryDelay (kind.Leaf (rule.Count 0 1000000000)) ∷ row.May key.BackOffMultiplier (kind.Leaf (rule.Count 1 100)) ∷ row.May key.UseExponentialBackOff (kind.Leaf rule.Flag) ∷ row.May key.MaximumRedeliveryDelay (kind.Leaf (rule.Count 0 1000000000)) ∷ [])
rows kind.OnException = notes ++ (row.Must key.Exception kind.Exceptions ∷ row.May key.RedeliveryPolicy kind.RedeliveryPolicy ∷ row.May key.Handled kind.Outcome ∷ row.May key.Continued kind.Outcome ∷ row.May key.Steps kind.Steps ∷ [])
rows kind.Outcome = notes ++ (row.Must key.Constant kind.Fixed ∷ [])
rows kind.Step = row.One key.SetBody kind.Value ∷ row.One key.SetHeader kind.NamedValue ∷ row.One key.SetProperty kind.NamedValue ∷ row.One key.RemoveHeader kind.RemoveHeader ∷ row.One key.To kind.To ∷ row.One key.Log kind.Log ∷ row.One key.ThrowException kind.ThrowException ∷ row.One key.Process kind.Process ∷ row.One key.Choice kind.Choice ∷ row.One key.Filter kind.Case ∷ row.One key.Split kind.Split ∷ row.One key.Multicast kind.Multicast ∷ row.One key.RecipientList kind.RecipientList ∷ row.One key.Aggregate kind.Aggregate ∷ row.One key.IdempotentConsumer kind.IdempotentConsumer ∷ row.One key.DoTry kind.Try ∷ row.One key.Resequence kind.Resequence ∷ []
rows kind.Value = notes ++ values
rows kind.Expression = notes ++ plain_values
rows kind.NamedValue = notes ++ (row.Must key.Name (kind.Leaf rule.Name) ∷ values)
rows kind.RemoveHeader = notes ++ (row.Must key.Name (kind.Leaf rule.Name) ∷ [])
rows kind.To = notes ++ (row.Must key.Uri (kind.Leaf rule.Producer) ∷ row.May key.Parameters kind.Parameters ∷ [])
rows kind.Log = notes ++ (row.Must key.Message (kind.Leaf rule.Template) ∷ row.May key.LogName (kind.Leaf rule.Name) ∷ row.May key.LoggingLevel (kind.Leaf rule.Level) ∷ [])
rows kind.ThrowException = notes ++ (row.Must key.ExceptionType (kind.Leaf rule.ExceptionType) ∷ row.Must key.Message (kind.Leaf rule.Template) ∷ [])
rows kind.Process = notes ++ (row.Must key.Ref (kind.Leaf rule.Processor) ∷ [])
rows kind.Choice = notes ++ (row.Must key.When kind.Cases ∷ row.May key.Otherwise kind.Nested ∷ [])
rows kind.Case = notes ++ (tests ++ (row.Must key.Steps kind.Steps ∷ []))
rows kind.Test = notes ++ plain_tests
rows kind.Nested = notes ++ (row.Must key.Steps kind.Steps ∷ [])
rows kind.Split = notes ++ (row.One key.Tokenize kind.Tokenize ∷ row.One key.Jsonpath (kind.Leaf rule.WholeArray) ∷ (fan ++ (row.Must key.Steps kind.Steps ∷ [])))
rows kind.Tokenize = notes ++ (row.Must key.Token (kind.Leaf rule.Filled) ∷ [])
rows kind.Multicast = notes ++ (fan ++ (row.Must key.Steps kind.Branches ∷ []))
rows kind.RecipientList = notes ++ (values ++ (row.May key.Delimiter (kind.Leaf rule.Filled) ∷ fan))
rows kind.Aggregate = notes ++ (row.Must key.CorrelationExpression kind.Value ∷ row.May key.AggregationStrategy (kind.Leaf rule.GroupStrategy) ∷ row.May key.CompletionSize (kind.Leaf (rule.Count 1 1000000)) ∷ row.May key.CompletionTimeout (kind.Leaf (rule.Count 1 1000000000)) ∷ row.May key.CompletionPredicate kind.CompletionPredicate ∷ row.May key.ForceCompletionOnStop (kind.Leaf rule.Flag) ∷ row.Must key.Steps kind.Steps ∷ [])
rows kind.CompletionPredicate = notes ++ (row.Must key.Simple kind.Condition ∷ [])
rows kind.IdempotentConsumer = notes ++ (values ++ (row.May key.IdempotentRepository (kind.Leaf rule.Repository) ∷ row.May key.Eager (kind.Leaf rule.Flag) ∷ row.May key.SkipDuplicate (kind.Leaf rule.Flag) ∷ row.May key.RemoveOnFailure (kind.Leaf rule.Flag) ∷ row.Must key.Steps kind.Steps ∷ []))
rows kind.Try = notes ++ (row.Must key.Steps kind.Steps ∷ row.May key.DoCatch kind.Catches ∷ row.May key.DoFinally kind.Nested ∷ [])
rows kind.Catch = notes ++ (row.Must key.Exception kind.Exceptions ∷ row.May key.OnWhen kind.OnWhen ∷ row.Must key.Steps kind.Steps ∷ [])
rows kind.OnWhen = notes ++ tests
rows kind.Resequence = notes ++ (row.One key.Simple kind.OrderKey ∷ row.One key.Header (kind.Leaf rule.Name) ∷ row.One key.ExchangeProperty (kind.Leaf rule.Name) ∷ row.May key.BatchConfig kind.BatchConfig ∷ row.Must key.Steps kind.BatchSteps ∷ [])
rows kind.BatchConfig = notes ++ (row.May key.BatchSize (kind.Leaf (rule.Count 1 1000)) ∷ row.May key.BatchTimeout (kind.Leaf (rule.Count 1 1000000000)) ∷ [])
rows kind.OrderKey = notes ++ (row.Must key.Expression (kind.Leaf rule.OrderKey) ∷ [])
rows kind.Simple = notes ++ (row.Must key.Expression (kind.Leaf rule.Template) ∷ [])
rows kind.Condition = notes ++ (row.Must key.Expression (kind.Leaf rule.Predicate) ∷ [])
rows kind.Constant = notes ++ (row.Must key.Expression (kind.Leaf rule.Constant) ∷ [])
rows kind.Fixed = notes ++ (row.Must key.Expression (kind.Leaf rule.Flag) ∷ [])
rows _ = []

abbrev pub key_in : Row → Key
key_in (row.Must k v) = k
key_in (row.May k v) = k
key_in (row.One k v) = k

abbrev pub kind_in : Row → Kind
kind_in (row.Must k v) = v
kind_in (row.May k v) = v
kind_in (row.One k v) = v

-- the row of the key that is spelled so
abbrev pub row_for : List ℕ → List Row → Option Row
row_for text [] = None
row_for text (r ∷ rs) = if is_spelled (key_in r) text then Some r else row_for text rs

-- how the keys of an object are judged
unfoldable pub shape_of : Kind → Shape
shape_of kind.Item = shape.Item
shape_of kind.Step = shape.Step
shape_of kind.ErrorHandler = shape.Handler
shape_of kind.Parameters = shape.Free
shape_of kind.Steps = shape.Closed
shape_of kind.BatchSteps = shape.Closed
shape_of kind.Branches = shape.Closed
shape_of kind.Cases = shape.Closed
shape_of kind.Catches = shape.Closed
shape_of kind.Exceptions = shape.Closed
shape_of (kind.Leaf r) = shape.Closed
shape_of _ = shape.Keyed

-- ---- lists

abbrev pub listing : Kind → Nests → Bool → Option Listed
listing v n filled = Some (record { item = v; nests = n; filled = filled })

-- what a list is to hold
unfoldable pub list_of : Kind → Option Listed
list_of kind.Steps = listing kind.Step nests.Block false
list_of kind.BatchSteps = listing kind.Step nests.Batch false
list_of kind.Branches = listing kind.Step nests.Block true
list_of kind.Cases = listing kind.Case nests.Nowhere true
list_of kind.Catches = listing kind.Catch nests.Nowhere false
list_of kind.Exceptions = listing (kind.Leaf rule.Word) nests.Nowhere true
list_of _ = None

-- ---- all else

-- what a text, a number or a truth value is to be
unfoldable pub rule_of : Kind → Option Rule
rule_of (kind.Leaf r) = Some r
rule_of kind.RemoveHeader = Some rule.Name
rule_of kind.To = Some rule.Producer
rule_of kind.Log = Some rule.Template
rule_of kind.Process = Some rule.Processor
rule_of kind.Tokenize = Some rule.Filled
rule_of kind.OrderKey = Some rule.OrderKey
rule_of kind.Simple = Some rule.Template
rule_of kind.Condition = Some rule.Predicate
rule_of kind.Constant = Some rule.Constant
rule_of kind.Fixed = Some rule.Flag
rule_of kind.Outcome = Some rule.Flag
rule_of kind.Exceptions = Some rule.Word
rule_of _ = None

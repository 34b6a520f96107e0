-- The rules for texts, numbers and truth values: what is wrong with one.
use Rattle.std.specs.Prelude.{ℕ, ℤ, pos, negsuc, Bool, false, not, ◌&&◌, ◌||◌, nat_le, nat_lt, List, length, bytes_eq, codes, Option, Some, None, is_some, Result, Ok, Err, if◌then◌else◌}
use Rattle.eip_text.specs.Names.{is_name}
use Rattle.eip_text.specs.Numbers.{whole_of}
use Rattle.eip_uri.specs.declared.uri.Uri.{Uri}
use Rattle.eip_uri.specs.declared.fault.UriFault.{UriFault}
use Rattle.eip_uri.specs.declared.fault.UriFault.TheVariants as uri_fault
use Rattle.eip_uri.specs.Inlets.{inlet_of}
use Rattle.eip_uri.specs.Options.{is_level}
use Rattle.eip_uri.specs.Reading.{read}
use Rattle.eip_uri.specs.Sides.{is_consumer, is_producer}
use Rattle.eip_simple_read.specs.declared.fault.SimpleFault.{SimpleFault}
use Rattle.eip_simple_read.specs.declared.fault.SimpleFault.TheVariants as simple_fault
use Rattle.eip_simple_read.specs.declared.tree.Template.{Template}
use Rattle.eip_simple_read.specs.Meaning.{template_of}
use Rattle.eip_route.specs.Goals.{is_among, lane_of}
use Rattle.eip_route.specs.Valid.{is_kind}
use Rattle.eip_route.specs.declared.route.Names.{Names}
use Rattle.eip_route_grammar.specs.Causes.{or_else}
use Rattle.eip_route_grammar.specs.Texts.{unhashed, last_segment, strategy_of, key_of}
use Rattle.eip_route_grammar.specs.declared.fault.Cause.{Cause}
use Rattle.eip_route_grammar.specs.declared.fault.Cause.TheVariants as cause
use Rattle.eip_route_grammar.specs.declared.table.Rule.{Rule}
use Rattle.eip_route_grammar.specs.declared.table.Rule.TheVariants as rule

-- a cause, unless the test holds
abbrev pub unless : Bool → Cause → Option Cause
unless ok c = if ok then None else Some c

-- ---- names

abbrev pub name_cause : List ℕ → Option Cause
name_cause w = unless (is_name w) cause.BadName

-- what is handed in under this name
abbrev pub handed_in : List ℕ → List (List ℕ) → Option Cause
handed_in name names = unless (is_among name names) (cause.NotRegistered name)

-- a Name under which something is handed in
abbrev pub registered : List ℕ → List (List ℕ) → Option Cause
registered name names = or_else (name_cause name) (handed_in name names)

-- ---- endpoints

-- what is wrong with a URI
abbrev pub uri_cause : UriFault → Option Cause
uri_cause uri_fault.UnknownScheme = Some cause.UnknownScheme
uri_cause (uri_fault.BadUri at) = Some (cause.BadUri at)
uri_cause (uri_fault.UnknownOption name) = Some (cause.UnknownOption name)
uri_cause (uri_fault.BadOption name) = Some (cause.BadOption name)
uri_cause (uri_fault.DoubleOption name) = Some (cause.DoubleOption name)
uri_cause uri_fault.NoMemory = None

-- a lane or inlet that is needed is handed in
abbrev pub served : Option (List ℕ) → List (List ℕ) → Option Cause
served None names = None
served (Some name) names = handed_in name names

-- a route may begin there
abbrev pub consumer_cause : Names → Uri → Option Cause
consumer_cause n u = if is_consumer u then served (inlet_of u) n.inlets else Some cause.NotConsumer

-- messages may go there
abbrev pub producer_cause : Names → Uri → Option Cause
producer_cause n u = if is_producer u then served (lane_of u) n.lanes else Some cause.NotProducer

-- a fault of reading, or else of what was read
abbrev pub read_cause : (Uri → Option Cause) → Result Uri UriFault → Option Cause
read_cause judge (Ok u) = judge u
read_cause judge (Err e) = uri_cause e

-- ---- templates

abbrev pub simple_cause : SimpleFault → Option Cause
simple_cause (simple_fault.BadSimple at) = Some (cause.BadSimple at)
simple_cause (simple_fault.UnknownFunction at) = Some (cause.UnknownFunction at)
simple_cause (simple_fault.BadPattern at) = Some (cause.BadPattern at)
simple_cause (simple_fault.PatternTooLarge at) = Some (cause.PatternTooLarge at)
simple_cause simple_fault.NoMemory = None

abbrev pub spelled_cause : {A : Type 0} → Result A SimpleFault → Option Cause
spelled_cause (Ok x) = None
spelled_cause (Err e) = simple_cause e

-- a template that is a part of the message and nothing else
abbrev pub key_cause : Result Template SimpleFault → Option Cause
key_cause (Ok t) = unless (is_some (key_of t)) cause.BadValue
key_cause (Err e) = simple_cause e

-- ---- numbers and truth values

abbrev pub is_within : ℕ → ℕ → ℤ → Bool
is_within low high (pos n) = nat_le low n && nat_le n high
is_within low high (negsuc n) = false

abbrev pub is_count : ℕ → ℕ → Option ℤ → Bool
is_count low high None = false
is_count low high (Some z) = is_within low high z

abbrev pub is_true : List ℕ → Bool
is_true w = bytes_eq w (codes "true")

abbrev pub is_flag : List ℕ → Bool
is_flag w = is_true w || bytes_eq w (codes "false")

-- ---- strategies

abbrev pub is_strategy : List ℕ → Bool
is_strategy w = is_some (strategy_of w)

abbrev pub is_group_strategy : List ℕ → Bool
is_group_strategy w = not (bytes_eq w (codes "original")) && is_strategy w

-- ---- the rules

-- what is wrong with a text, where these names are handed in, and these parameters stand beside it; a predicate is judged where it stands
abbrev pub word_cause : Names → List (List ℕ × List ℕ) → Rule → List ℕ → Option Cause
word_cause n ps rule.Word w = None
word_cause n ps rule.Name w = name_cause w
word_cause n ps rule.Repository w = name_cause (unhashed w)
word_cause n ps rule.Processor w = registered (unhashed w) n.processors
word_cause n ps rule.StoredPredicate w = registered (unhashed w) n.predicates
word_cause n ps rule.Consumer w = read_cause (consumer_cause n) (read w ps)
word_cause n ps rule.Producer w = read_cause (producer_cause n) (read w ps)
word_cause n ps rule.Template w = spelled_cause (template_of w)
word_cause n ps rule.OrderKey w = key_cause (template_of w)
word_cause n ps rule.Predicate w = None
word_cause n ps rule.Constant w = None
word_cause n ps rule.Flag w = unless (is_flag w) cause.BadValue
word_cause n ps (rule.Count low high) w = unless (is_count low high (whole_of w)) cause.BadValue
word_cause n ps rule.Filled w = unless (nat_lt 0 (length w)) cause.BadValue
word_cause n ps rule.WholeArray w = unless (bytes_eq w (codes "$[*]")) cause.BadValue
word_cause n ps rule.Strategy w = unless (is_strategy (unhashed w)) cause.BadValue
word_cause n ps rule.GroupStrategy w = unless (is_group_strategy (unhashed w)) cause.BadValue
word_cause n ps rule.ExceptionType w = unless (is_kind (last_segment w)) cause.BadName
word_cause n ps rule.Level w = unless (is_level w) cause.BadValue

-- what is wrong with a whole number
abbrev pub whole_cause : Option Rule → ℤ → Option Cause
whole_cause (Some rule.Constant) z = None
whole_cause (Some (rule.Count low high)) z = unless (is_within low high z) cause.BadValue
whole_cause _ z = Some cause.WrongKind

-- what is wrong with a truth value
abbrev pub flag_cause : Option Rule → Bool → Option Cause
flag_cause (Some rule.Constant) b = None
flag_cause (Some rule.Flag) b = None
flag_cause _ b = Some cause.WrongKind

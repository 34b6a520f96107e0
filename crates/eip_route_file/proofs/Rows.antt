-- Worked rows of the first fault, by computing.
use Rattle.std.proofs.Common.{◌≡◌, ℕ, List, [], ◌∷◌, Option, None, Some, refl}
use Rattle.std.specs.Fmt.{digits}
use Rattle.std.specs.Prelude.{codes, pos}
use Rattle.eip_text.specs.Json.{Json, null, whole, word, list, object, no_items, item, no_members, member}
use Rattle.eip_text.specs.Counts.{count_of}
use Rattle.eip_text.specs.Names.{is_name}
use Rattle.eip_uri.specs.Options.{has, values_of}
use Rattle.eip_uri.specs.Reading.{scheme_of, plain, with_options, read}
use Rattle.eip_simple_read.specs.Reading.{named, function_behind, template, quoted, numeral, side_at, symbol, named_operator, operator_at, spaced, gap, pattern_at, test_at, joint_at, tests_at, all_tests}
use Rattle.eip_simple_read.specs.Reading as reading
use Rattle.eip_simple_read.specs.Meaning.{template_of, predicate_of}
use Rattle.eip_route.specs.declared.route.Names.{Names}
use Rattle.eip_route_grammar.specs.Keys.{spelled, dashed, is_spelled}
use Rattle.eip_route_grammar.specs.Table.{rows, rule_of, list_of, shape_of}
use Rattle.eip_route_faults.specs.Sites.{sites_at, first_fault}
use Rattle.eip_route_grammar.specs.declared.fault.Cause.{Cause}
use Rattle.eip_route_grammar.specs.declared.fault.Cause.TheVariants as cause
use Rattle.eip_route_grammar.specs.declared.fault.RouteFault.{RouteFault}
use Rattle.eip_route_file.specs.Later.{file_sites, file_fault}

-- ---- trees

-- `[T]`
abbrev alone : Json → Json
alone t = list (item t no_items)

-- `{"KEY":T}`
abbrev one : List ℕ → Json → Json
one k t = object (member k t no_members)

-- `{"KEY":T,"KEY":T}`
abbrev two : List ℕ → Json → List ℕ → Json → Json
two k t j u = object (member k t (member j u no_members))

-- `[{"from":{"steps":STEPS,"uri":URI}}]`
abbrev from_with : Json → List ℕ → Json
from_with steps u = alone (one (codes "from") (two (codes "steps") steps (codes "uri") (word u)))

-- `[{"from":{"steps":[STEP],"uri":"stream:in"}}]`
abbrev step_file : Json → Json
step_file s = from_with (alone s) (codes "stream:in")

-- the inlet `stream` is handed in, and nothing else
abbrev names : Names
names = record { lanes = []; inlets = codes "stream" ∷ []; processors = []; predicates = [] }

abbrev fault : List ℕ → Cause → Option RouteFault
fault path c = Some (record { path = path; cause = c })

-- ---- the file and its items

no_list : file_fault names null ≡ fault (codes "$") cause.WrongKind
unfolding file_fault file_sites first_fault
no_list = refl

no_object : file_fault names (alone (list no_items)) ≡ fault (codes "$[0]") cause.WrongKind
unfolding digits file_fault file_sites first_fault sites_at rows rule_of list_of shape_of spelled dashed is_spelled
no_object = refl

unknown_item : file_fault names (alone (one (codes "rout") null)) ≡ fault (codes "$[0]") (cause.UnknownKey (codes "rout"))
unfolding digits file_fault file_sites first_fault sites_at rows rule_of list_of shape_of spelled dashed is_spelled
unknown_item = refl

two_keys : file_fault names (alone (two (codes "from") null (codes "route") null)) ≡ fault (codes "$[0]") cause.NotOneKey
unfolding digits file_fault file_sites first_fault sites_at rows rule_of list_of shape_of spelled dashed is_spelled
two_keys = refl

no_uri : file_fault names (alone (one (codes "from") (object no_members))) ≡ fault (codes "$[0].from") (cause.MissingKey (codes "uri"))
unfolding digits file_fault file_sites first_fault sites_at rows rule_of list_of shape_of spelled dashed is_spelled
no_uri = refl

-- ---- endpoints

no_consumer : file_fault names (from_with (list no_items) (codes "log:x")) ≡ fault (codes "$[0].from.uri") cause.NotConsumer
unfolding digits file_fault file_sites first_fault sites_at rows rule_of list_of shape_of spelled dashed is_spelled read scheme_of plain with_options is_name
no_consumer = refl

no_inlet : file_fault names (from_with (list no_items) (codes "load:3")) ≡ fault (codes "$[0].from.uri") (cause.NotRegistered (codes "load"))
unfolding digits file_fault file_sites first_fault sites_at rows rule_of list_of shape_of spelled dashed is_spelled read scheme_of plain with_options is_name count_of
no_inlet = refl

option_beside : file_fault names (alone (one (codes "from") (two (codes "parameters") (one (codes "sise") (word (codes "3"))) (codes "uri") (word (codes "seda:q"))))) ≡ fault (codes "$[0].from.uri") (cause.UnknownOption (codes "sise"))
unfolding digits file_fault file_sites first_fault sites_at rows rule_of list_of shape_of spelled dashed is_spelled read scheme_of plain with_options is_name values_of has
option_beside = refl

-- ---- steps

faultless : file_fault names (step_file (one (codes "setBody") (one (codes "constant") (word (codes "hi"))))) ≡ None
unfolding digits file_fault file_sites first_fault sites_at rows rule_of list_of shape_of spelled dashed is_spelled read scheme_of plain with_options is_name
faultless = refl

unknown_step : file_fault names (step_file (one (codes "filter") (two (codes "simple") (word (codes "${body} == 'x'")) (codes "steps") (alone (one (codes "shout") (word (codes "y"))))))) ≡ fault (codes "$[0].from.steps[0].filter.steps[0]") (cause.UnknownStep (codes "shout"))
unfolding digits file_fault file_sites first_fault sites_at rows rule_of list_of shape_of spelled dashed is_spelled read scheme_of plain with_options is_name named function_behind template quoted numeral reading.word side_at symbol named_operator operator_at spaced gap pattern_at test_at joint_at tests_at all_tests predicate_of
unknown_step = refl

no_value : file_fault names (step_file (one (codes "setBody") (object no_members))) ≡ fault (codes "$[0].from.steps[0].setBody") (cause.MissingKey (codes "expression"))
unfolding digits file_fault file_sites first_fault sites_at rows rule_of list_of shape_of spelled dashed is_spelled
no_value = refl

two_values : file_fault names (step_file (one (codes "set-body") (two (codes "constant") (word []) (codes "simple") (word [])))) ≡ fault (codes "$[0].from.steps[0].set-body") (cause.DoubleKey (codes "simple"))
unfolding digits file_fault file_sites first_fault sites_at rows rule_of list_of shape_of spelled dashed is_spelled
two_values = refl

bad_template : file_fault names (step_file (one (codes "log") (word (codes "a${body")))) ≡ fault (codes "$[0].from.steps[0].log") (cause.BadSimple 1)
unfolding digits file_fault file_sites first_fault sites_at rows rule_of list_of shape_of spelled dashed is_spelled named function_behind template template_of is_name
bad_template = refl

no_completion : file_fault names (step_file (one (codes "aggregate") (two (codes "correlationExpression") (one (codes "constant") (whole (pos 1))) (codes "steps") (list no_items)))) ≡ fault (codes "$[0].from.steps[0].aggregate") cause.NoCompletion
unfolding digits file_fault file_sites first_fault sites_at rows rule_of list_of shape_of spelled dashed is_spelled
no_completion = refl

-- ---- what stands twice

twice : file_fault names (list (item (one (codes "from") (one (codes "uri") (word (codes "stream:in")))) (item (one (codes "from") (one (codes "uri") (word (codes "stream:in")))) no_items))) ≡ fault (codes "$[1].from.uri") cause.SecondConsumer
unfolding digits file_fault file_sites first_fault sites_at rows rule_of list_of shape_of spelled dashed is_spelled read scheme_of plain with_options is_name
twice = refl

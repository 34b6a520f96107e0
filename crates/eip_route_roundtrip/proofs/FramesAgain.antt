-- A step that holds blocks is read again as its frame, with what its groups are read as.
use Rattle.std.proofs.Common.{◌≡◌, ℕ, ◌+◌, ◌^◌, Bool, true, false, List, [], ◌∷◌, length, Option, Some, None, is_some, option_map, refl, ap, subst, ◌∙◌, arith, cond, ◌++◌, ◌-◌, codes}
use Rattle.std.specs.Prelude.{unwrap_or}
use Rattle.std.proofs.lemmas.Bool.{and_parts}
use Rattle.eip_text.specs.Json.{Json, items_of, Members, members_of}
use Rattle.eip_exchange.specs.declared.setting.How.{How}
use Rattle.eip_exchange.specs.declared.setting.Key as setting
use Rattle.eip_route.specs.Nest.{Gathering, Frame, chooses, filters, splits, multicasts, aggregates, runs_once, tries, Catching, NestedSteps, NestedGroups, holds, none, more, no_group, group, count, of_last, rest_of, past}
use Rattle.eip_route.specs.Valid.{is_fan, is_given_name, is_token, is_filled, is_split, is_batch_strategy}
use Rattle.eip_route.specs.declared.route.Names.{Names}
use Rattle.eip_route.specs.declared.step.Check.{Check}
use Rattle.eip_route.specs.declared.step.Expr.{Expr}
use Rattle.eip_route.specs.declared.step.Fan.{Fan}
use Rattle.eip_route_grammar.specs.Keys.{is_spelled, spelled, dashed}
use Rattle.eip_route_grammar.specs.Objects.{value_at}
use Rattle.eip_route_grammar.specs.Table.{rows}
use Rattle.eip_route_validity.specs.Fit.{ExprFits, CheckFits, MayCheckFit, ChecksFit, CatchesFit, GatheringFits, AnyGatheringFits, is_parts, gathers, AreBranches, FrameHolds}
use Rattle.eip_route_values.specs.Leaves.{texts_of, flag_given, flag_at, count_of, small_count_at, count_at, members_given}
use Rattle.eip_route_values.specs.Nesting.{nest_list, nest_steps, nest_step, nest_in, nest_inner, nest_each, nest_branches, nest_branch_list, nest_branches_in, followed, case_check, checks_of, catching_of, catchings_of}
use Rattle.eip_route_values.specs.Parts.{expr_in, expr_of, check_in as check_read, fan_in, how_given, gathering_in, strategy_given, completion_of, repository_given}
use Rattle.eip_route_values.specs.Sets.{steps_given}
use Rattle.eip_route_canonical.specs.Canonical.{Pairs, object_of, list_of, alone, expr_pairs, check_pairs, words, guarded_json, choice_json, nested_pairs, catch_json, try_json, split_json, splits_json, multicast_json, aggregate_json, resequence_json, idempotent_json, first_json, all_json, cases_json, catches_json, last_steps, frame_json, steps_json, step_json, groups_json, one, where_set, where_unset, given_word, given_number, constant_pairs, named_pairs, simple_pairs, strategy_pairs, group_pairs, predicate_pairs, json_path, token_pairs, when_pairs, catches_pairs}
use Rattle.eip_route_roundtrip.proofs.Nested.{steps_slot, branches_slot}
use Rattle.eip_route_roundtrip.proofs.Objects.{set_value, unset_value, word_value, strategy_value, expr_puts, number_value, completion_value, nested_value, catches_value, when_value, constant_slots, group_value, may, must, named_slots, path_slots, put_catches, put_completion, put_constant, put_group, put_named, put_nested, put_number, put_path, put_set, put_simple, put_strategy, put_token, put_unset, put_when, put_word, simple_slots, token_slots}
use Rattle.eip_route_roundtrip.proofs.Parts.{words_again, predicate_again, unhashed_name, set_again, unset_again, number_again, group_again, fan_again, expr_slot, simple_again, plain_expr_again, completion_again, repository_again}
use Rattle.eip_route_roundtrip.proofs.Slots.{Slot, filled, slot_at, value_filled, put_one, ◌and◌, Puts}
use Rattle.eip_route_roundtrip.proofs.Leaves.{object_step}
use Rattle.eip_exchange.specs.declared.setting.How.TheVariants as how
use Rattle.eip_exchange.specs.declared.setting.Strategy.TheVariants as strategy
use Rattle.eip_route.specs.declared.step.Check.TheVariants as check
use Rattle.eip_route.specs.declared.step.Expr.TheVariants as expr
use Rattle.eip_route_grammar.specs.declared.keys.Key.TheVariants as key

-- ---- the slots of their objects

abbrev pub choice_slots : Option Json → Json → List Slot
choice_slots otherwise cases = may (codes "otherwise") (nested_value otherwise) ++ must (codes "when") cases

pub choice_puts : (otherwise : Option Json) (cases : Json) → Puts (nested_pairs (codes "otherwise") otherwise ++ one (codes "when") cases) (choice_slots otherwise cases)
choice_puts otherwise cases = put_nested otherwise and put_one

abbrev pub split_slots : How → Fan → Json → List Slot
split_slots h fan steps = may (codes "aggregationStrategy") (strategy_value fan.strategy)
    ++ path_slots h
    ++ may (codes "parallelProcessing") (set_value fan.parallel)
    ++ may (codes "shareUnitOfWork") (set_value fan.share)
    ++ must (codes "steps") steps
    ++ may (codes "stopOnException") (set_value fan.stop)
    ++ token_slots h

pub split_puts : (h : How) (fan : Fan) (steps : Json) → Puts (strategy_pairs fan.strategy
    ++ json_path h
    ++ where_set (codes "parallelProcessing") fan.parallel
    ++ where_set (codes "shareUnitOfWork") fan.share
    ++ one (codes "steps") steps
    ++ where_set (codes "stopOnException") fan.stop
    ++ token_pairs h) (split_slots h fan steps)
split_puts h fan steps = put_strategy fan.strategy and put_path h and put_set fan.parallel and put_set fan.share and put_one and put_set fan.stop and put_token h

abbrev pub multicast_slots : Fan → Json → List Slot
multicast_slots fan steps = may (codes "aggregationStrategy") (strategy_value fan.strategy)
    ++ may (codes "parallelProcessing") (set_value fan.parallel)
    ++ may (codes "shareUnitOfWork") (set_value fan.share)
    ++ must (codes "steps") steps
    ++ may (codes "stopOnException") (set_value fan.stop)

pub multicast_puts : (fan : Fan) (steps : Json) → Puts (strategy_pairs fan.strategy
    ++ where_set (codes "parallelProcessing") fan.parallel
    ++ where_set (codes "shareUnitOfWork") fan.share
    ++ one (codes "steps") steps
    ++ where_set (codes "stopOnException") fan.stop) (multicast_slots fan steps)
multicast_puts fan steps = put_strategy fan.strategy and put_set fan.parallel and put_set fan.share and put_one and put_set fan.stop

abbrev pub aggregate_slots : Gathering → Json → List Slot
aggregate_slots g steps = may (codes "aggregationStrategy") (group_value g.strategy)
    ++ may (codes "completionPredicate") (completion_value g.predicate)
    ++ may (codes "completionSize") (number_value g.size)
    ++ may (codes "completionTimeout") (number_value g.timeout)
    ++ must (codes "correlationExpression") (object_of (expr_pairs g.key))
    ++ may (codes "forceCompletionOnStop") (set_value g.force)
    ++ must (codes "steps") steps

pub aggregate_puts : (g : Gathering) (steps : Json) → Puts (group_pairs g.strategy
    ++ predicate_pairs g.predicate
    ++ given_number (codes "completionSize") g.size
    ++ given_number (codes "completionTimeout") g.timeout
    ++ one (codes "correlationExpression") (object_of (expr_pairs g.key))
    ++ where_set (codes "forceCompletionOnStop") g.force
    ++ one (codes "steps") steps) (aggregate_slots g steps)
aggregate_puts g steps = put_group g.strategy and put_completion g.predicate and put_number g.size and put_number g.timeout and put_one and put_set g.force and put_one

abbrev pub idempotent_slots : Expr → Option (List ℕ) → Bool → Bool → Bool → Json → List Slot
idempotent_slots e name skip eager remove steps = constant_slots e
    ++ may (codes "eager") (unset_value eager)
    ++ named_slots e
    ++ may (codes "idempotentRepository") (word_value name)
    ++ may (codes "removeOnFailure") (unset_value remove)
    ++ simple_slots e
    ++ may (codes "skipDuplicate") (unset_value skip)
    ++ must (codes "steps") steps

pub idempotent_puts : (e : Expr) (name : Option (List ℕ)) (skip eager remove : Bool) (steps : Json) → Puts (constant_pairs e
    ++ where_unset (codes "eager") eager
    ++ named_pairs e
    ++ given_word (codes "idempotentRepository") name
    ++ where_unset (codes "removeOnFailure") remove
    ++ simple_pairs e
    ++ where_unset (codes "skipDuplicate") skip
    ++ one (codes "steps") steps) (idempotent_slots e name skip eager remove steps)
idempotent_puts e name skip eager remove steps =
    put_constant e and put_unset eager and put_named e and put_word name and put_unset remove and put_simple e and put_unset skip and put_one

abbrev pub catch_slots : List (List ℕ) → Option Check → Json → List Slot
catch_slots names check steps = must (codes "exception") (list_of (words names)) ++ may (codes "onWhen") (when_value check) ++ must (codes "steps") steps

pub catch_puts : (names : List (List ℕ)) (check : Option Check) (steps : Json) → Puts (one (codes "exception") (list_of (words names)) ++ when_pairs check ++ one (codes "steps") steps) (catch_slots names check steps)
catch_puts names check steps = put_one and put_when check and put_one

abbrev pub try_slots : List Json → Option Json → Json → List Slot
try_slots catches finish steps = may (codes "doCatch") (catches_value catches) ++ may (codes "doFinally") (nested_value finish) ++ must (codes "steps") steps

pub try_puts : (catches : List Json) (finish : Option Json) (steps : Json) → Puts (catches_pairs catches ++ nested_pairs (codes "doFinally") finish ++ one (codes "steps") steps) (try_slots catches finish steps)
try_puts catches finish steps = put_catches catches and put_nested finish and put_one

-- ---- choices and filters

abbrev last_group : Option Json → NestedGroups
last_group None = no_group
last_group (Some steps) = group (nest_list steps) no_group

choice_again : (otherwise : Option Json) (cases : List Json) → nest_step (choice_json (nested_pairs (codes "otherwise") otherwise) (list_of cases))
    ≡ holds (chooses (checks_of (items_of cases)) (is_some otherwise)) (followed (nest_each (items_of cases)) (last_group otherwise))
unfolding choice_json rows is_spelled spelled dashed
choice_again None cases = refl
choice_again (Some steps) cases = refl

case_check_again : (n : Names) (c : Check) (steps : Json) → CheckFits n c → case_check (guarded_json c steps) ≡ c
unfolding guarded_json is_spelled spelled dashed
case_check_again n (check.Simple p) steps fits = ap check.Simple (predicate_again p fits)
case_check_again n (check.Fixed b) steps fits = refl
case_check_again n (check.Stored name) steps fits = ap check.Stored (unhashed_name name fits.0)

case_again : (c : Check) (steps : Json) → nest_inner (guarded_json c steps) ≡ nest_list steps
unfolding guarded_json is_spelled spelled dashed
case_again (check.Simple p) steps = refl
case_again (check.Fixed b) steps = refl
case_again (check.Stored name) steps = refl

filter_again : (n : Names) (c : Check) (steps : Json) → CheckFits n c → nest_step (alone (codes "filter") (guarded_json c steps)) ≡ holds (filters c) (group (nest_list steps) no_group)
unfolding guarded_json rows is_spelled spelled dashed
filter_again n (check.Simple p) steps fits = ap (λ (c : Check). holds (filters c) (group (nest_list steps) no_group)) (ap check.Simple (predicate_again p fits))
filter_again n (check.Fixed b) steps fits = refl
filter_again n (check.Stored name) steps fits = ap (λ (c : Check). holds (filters c) (group (nest_list steps) no_group)) (ap check.Stored (unhashed_name name fits.0))

-- ---- splits and multicasts

record SplitAt (h : How) (fan : Fan) (steps : Json) : Type 0 where
  strategy : slot_at key.AggregationStrategy (split_slots h fan steps) ≡ strategy_value fan.strategy
  parallel : slot_at key.ParallelProcessing (split_slots h fan steps) ≡ set_value fan.parallel
  share : slot_at key.ShareUnitOfWork (split_slots h fan steps) ≡ set_value fan.share
  stop : slot_at key.StopOnException (split_slots h fan steps) ≡ set_value fan.stop
  steps_value : steps_given (slot_at key.Steps (split_slots h fan steps)) ≡ nest_list steps
  how : how_given (slot_at key.Tokenize (split_slots h fan steps)) ≡ h

split_at : (h : How) (fan : Fan) (steps : Json) → is_token h ≡ true → SplitAt h fan steps
unfolding is_spelled spelled dashed
split_at (how.Token token) fan steps t = record { strategy = refl; parallel = refl; share = refl; stop = refl; steps_value = refl; how = refl }
split_at how.JsonArray fan steps t = record { strategy = refl; parallel = refl; share = refl; stop = refl; steps_value = refl; how = refl }
split_at (how.Batch k) fan steps t = absurd cc

split_by : (ms : Members) (h : How) (fan : Fan) (ss : NestedSteps) → how_given (value_at key.Tokenize ms) ≡ h → fan_in ms ≡ fan → nest_in ms ≡ ss
    → holds (splits (how_given (value_at key.Tokenize ms)) (fan_in ms)) (group (nest_in ms) no_group) ≡ holds (splits h fan) (group ss no_group)
split_by ms h fan ss p q r = cc

split_again : (h : How) (fan : Fan) (steps : Json) → is_token h ≡ true → is_fan fan ≡ true → nest_step (split_json h fan steps) ≡ holds (splits h fan) (group (nest_list steps) no_group)
unfolding split_json rows is_spelled spelled dashed
split_again h fan steps t f =
    let ss : List Slot = split_slots h fan steps in
    let at : SplitAt h fan steps = split_at h fan steps t in
    ap (object_step (codes "split")) (split_puts h fan steps).same
    ∙ split_by (members_of (filled ss)) h fan (nest_list steps) (ap how_given (value_filled key.Tokenize ss) ∙ at.how)
    (fan_again (members_of (filled ss)) fan (value_filled key.AggregationStrategy ss ∙ at.strategy) (value_filled key.ParallelProcessing ss ∙ at.parallel) (value_filled key.ShareUnitOfWork ss ∙ at.share) (value_filled key.StopOnException ss ∙ at.stop) f)
    (steps_slot ss ∙ at.steps_value)

all_followed : (gs : NestedGroups) → followed gs no_group ≡ gs
all_followed no_group = refl
all_followed (group ss gs) = ap (group ss) (all_followed gs)

multicast_by : (ms : Members) (fan : Fan) (gs : NestedGroups) → fan_in ms ≡ fan → followed (nest_branches_in ms) no_group ≡ gs → holds (multicasts (fan_in ms)) (followed (nest_branches_in ms) no_group) ≡ holds (multicasts fan) gs
multicast_by ms fan gs q r = cc

multicast_again : (fan : Fan) (steps : Json) → is_fan fan ≡ true → nest_step (multicast_json fan steps) ≡ holds (multicasts fan) (nest_branch_list steps)
unfolding multicast_json rows is_spelled spelled dashed
multicast_again fan steps f =
    let ss : List Slot = multicast_slots fan steps in
    ap (object_step (codes "multicast")) (multicast_puts fan steps).same
    ∙ multicast_by (members_of (filled ss)) fan (nest_branch_list steps)
    (fan_again (members_of (filled ss)) fan (value_filled key.AggregationStrategy ss) (value_filled key.ParallelProcessing ss) (value_filled key.ShareUnitOfWork ss) (value_filled key.StopOnException ss) f)
    (all_followed (nest_branches_in (members_of (filled ss))) ∙ branches_slot ss)

-- ---- aggregators

expr_given_again : (e : Expr) → ExprFits e → expr_of (members_given (Some (object_of (expr_pairs e)))) ≡ e
expr_given_again e fits = ap (λ (ps : Pairs). expr_in (members_of ps)) (expr_puts e).same ∙ plain_expr_again e fits

gathering_by : (ms : Members) (g : Gathering) → expr_of (members_given (value_at key.CorrelationExpression ms)) ≡ g.key
    → unwrap_or (strategy_given (value_at key.AggregationStrategy ms)) strategy.Latest ≡ g.strategy
    → completion_of (members_given (value_at key.CompletionPredicate ms)) ≡ g.predicate
    → small_count_at key.CompletionSize ms ≡ g.size → count_at key.CompletionTimeout ms ≡ g.timeout → flag_at false key.ForceCompletionOnStop ms ≡ g.force → gathering_in ms ≡ g
gathering_by ms g key strategy predicate size timeout force =
    λ i. record { key = key i; strategy = strategy i; predicate = predicate i; size = size i; timeout = timeout i; force = force i }

gathering_again : (g : Gathering) (steps : Json) → GatheringFits g → gathering_in (members_of (filled (aggregate_slots g steps))) ≡ g
unfolding is_spelled spelled dashed
gathering_again g steps fits =
    let ss : List Slot = aggregate_slots g steps in
    gathering_by (members_of (filled ss)) g
    (ap (λ (o : Option Json). expr_of (members_given o)) (value_filled key.CorrelationExpression ss) ∙ expr_given_again g.key fits.key)
    (ap (λ (o : Option Json). unwrap_or (strategy_given o) strategy.Latest) (value_filled key.AggregationStrategy ss) ∙ group_again g.strategy fits.strategy)
    (ap (λ (o : Option Json). completion_of (members_given o)) (value_filled key.CompletionPredicate ss) ∙ completion_again g.predicate fits.predicate)
    (ap (option_map (count_of (2 ^ 32))) (value_filled key.CompletionSize ss) ∙ number_again (2 ^ 32) 1 1000000 g.size (omega arith) fits.size)
    (ap (option_map (count_of (2 ^ 64))) (value_filled key.CompletionTimeout ss) ∙ number_again (2 ^ 64) 1 1000000000 g.timeout (omega arith) fits.timeout)
    (ap (flag_given false) (value_filled key.ForceCompletionOnStop ss) ∙ set_again g.force)

aggregate_by : (ms : Members) (g : Gathering) (ss : NestedSteps) → gathering_in ms ≡ g → nest_in ms ≡ ss → holds (aggregates (gathering_in ms)) (group (nest_in ms) no_group) ≡ holds (aggregates g) (group ss no_group)
aggregate_by ms g ss p q = cc

aggregate_again : (g : Gathering) (steps : Json) → GatheringFits g → nest_step (aggregate_json g steps) ≡ holds (aggregates g) (group (nest_list steps) no_group)
unfolding aggregate_json rows is_spelled spelled dashed
aggregate_again g steps fits =
    let ss : List Slot = aggregate_slots g steps in
    ap (object_step (codes "aggregate")) (aggregate_puts g steps).same
    ∙ aggregate_by (members_of (filled ss)) g (nest_list steps) (gathering_again g steps fits) (steps_slot ss)

-- ---- steps that run once

record OnceAt (e : Expr) (name : Option (List ℕ)) (skip eager remove : Bool) (steps : Json) : Type 0 where
  repository : slot_at key.IdempotentRepository (idempotent_slots e name skip eager remove steps) ≡ word_value name
  skip_value : slot_at key.SkipDuplicate (idempotent_slots e name skip eager remove steps) ≡ unset_value skip
  eager_value : slot_at key.Eager (idempotent_slots e name skip eager remove steps) ≡ unset_value eager
  remove_value : slot_at key.RemoveOnFailure (idempotent_slots e name skip eager remove steps) ≡ unset_value remove
  steps_value : steps_given (slot_at key.Steps (idempotent_slots e name skip eager remove steps)) ≡ nest_list steps

once_at : (e : Expr) (name : Option (List ℕ)) (skip eager remove : Bool) (steps : Json) → OnceAt e name skip eager remove steps
unfolding is_spelled spelled dashed
once_at (expr.Simple t) name skip eager remove steps = record { repository = refl; skip_value = refl; eager_value = refl; remove_value = refl; steps_value = refl }
once_at (expr.Constant w) name skip eager remove steps = record { repository = refl; skip_value = refl; eager_value = refl; remove_value = refl; steps_value = refl }
once_at (expr.Header w) name skip eager remove steps = record { repository = refl; skip_value = refl; eager_value = refl; remove_value = refl; steps_value = refl }
once_at (expr.Property w) name skip eager remove steps = record { repository = refl; skip_value = refl; eager_value = refl; remove_value = refl; steps_value = refl }

once_expr_again : (e : Expr) (name : Option (List ℕ)) (skip eager remove : Bool) (steps : Json) → ExprFits e → expr_in (members_of (filled (idempotent_slots e name skip eager remove steps))) ≡ e
unfolding is_spelled spelled dashed
once_expr_again (expr.Simple t) name skip eager remove steps fits = expr_slot (idempotent_slots (expr.Simple t) name skip eager remove steps) (expr.Simple t) refl (simple_again t fits)
once_expr_again (expr.Constant w) name skip eager remove steps fits = expr_slot (idempotent_slots (expr.Constant w) name skip eager remove steps) (expr.Constant w) refl refl
once_expr_again (expr.Header w) name skip eager remove steps fits = expr_slot (idempotent_slots (expr.Header w) name skip eager remove steps) (expr.Header w) refl refl
once_expr_again (expr.Property w) name skip eager remove steps fits = expr_slot (idempotent_slots (expr.Property w) name skip eager remove steps) (expr.Property w) refl refl

once_by : (ms : Members) (e : Expr) (name : Option (List ℕ)) (skip eager remove : Bool) (ss : NestedSteps) → expr_in ms ≡ e → repository_given (value_at key.IdempotentRepository ms) ≡ name
    → flag_at true key.SkipDuplicate ms ≡ skip → flag_at true key.Eager ms ≡ eager → flag_at true key.RemoveOnFailure ms ≡ remove → nest_in ms ≡ ss
    → holds (runs_once (expr_in ms) (repository_given (value_at key.IdempotentRepository ms)) (flag_at true key.SkipDuplicate ms) (flag_at true key.Eager ms) (flag_at true key.RemoveOnFailure ms)) (group (nest_in ms) no_group) ≡ holds (runs_once e name skip eager remove) (group ss no_group)
once_by ms e name skip eager remove ss p q r s t u = cc

once_again : (e : Expr) (name : Option (List ℕ)) (skip eager remove : Bool) (steps : Json) → ExprFits e → is_given_name name ≡ true → nest_step (idempotent_json e name skip eager remove steps) ≡ holds (runs_once e name skip eager remove) (group (nest_list steps) no_group)
unfolding idempotent_json rows is_spelled spelled dashed
once_again e name skip eager remove steps fits h =
    let ss : List Slot = idempotent_slots e name skip eager remove steps in
    let at : OnceAt e name skip eager remove steps = once_at e name skip eager remove steps in
    ap (object_step (codes "idempotentConsumer")) (idempotent_puts e name skip eager remove steps).same
    ∙ once_by (members_of (filled ss)) e name skip eager remove (nest_list steps) (once_expr_again e name skip eager remove steps fits)
    (ap repository_given (value_filled key.IdempotentRepository ss ∙ at.repository) ∙ repository_again name h)
    (ap (flag_given true) (value_filled key.SkipDuplicate ss ∙ at.skip_value) ∙ unset_again skip)
    (ap (flag_given true) (value_filled key.Eager ss ∙ at.eager_value) ∙ unset_again eager)
    (ap (flag_given true) (value_filled key.RemoveOnFailure ss ∙ at.remove_value) ∙ unset_again remove)
    (steps_slot ss ∙ at.steps_value)

-- ---- tries

try_again : (catches : List Json) (finish : Option Json) (steps : Json) → nest_step (try_json catches finish steps)
    ≡ holds (tries (catchings_of (items_of catches)) (is_some finish)) (group (nest_list steps) (followed (nest_each (items_of catches)) (last_group finish)))
unfolding try_json rows is_spelled spelled dashed
try_again [] None steps = refl
try_again [] (Some last) steps = refl
try_again (c ∷ cs) None steps = refl
try_again (c ∷ cs) (Some last) steps = refl

asked_again : (n : Names) (c : Check) → CheckFits n c → check_read (members_of (check_pairs c)) ≡ c
unfolding is_spelled spelled dashed
asked_again n (check.Simple p) fits = ap check.Simple (predicate_again p fits)
asked_again n (check.Fixed b) fits = refl
asked_again n (check.Stored name) fits = ap check.Stored (unhashed_name name fits.0)

same_catching : (names others : List (List ℕ)) (c d : Option Check) → names ≡ others → c ≡ d → ◌≡◌ {A = Catching} (record { names = names; when = c }) (record { names = others; when = d })
same_catching names others c d p q = λ i. record { names = p i; when = q i }

catching_by : (n : Names) (names : List (List ℕ)) (o : Option Check) (steps : Json) → MayCheckFit n o → catching_of (catch_json names o steps) ≡ record { names = names; when = o }
unfolding catch_json is_spelled spelled dashed
catching_by n names None steps fits = same_catching (texts_of (items_of (words names))) names None None (words_again names) refl
catching_by n names (Some c) steps fits = same_catching (texts_of (items_of (words names))) names (Some (check_read (members_of (check_pairs c)))) (Some c) (words_again names) (ap Some (asked_again n c fits))

catching_again : (n : Names) (c : Catching) (steps : Json) → MayCheckFit n c.when → catching_of (catch_json c.names c.when steps) ≡ c
catching_again n c steps fits = catching_by n c.names c.when steps fits

catch_again : (names : List (List ℕ)) (o : Option Check) (steps : Json) → nest_inner (catch_json names o steps) ≡ nest_list steps
unfolding catch_json is_spelled spelled dashed
catch_again names None steps = refl
catch_again names (Some c) steps = refl

-- ---- all of them, where each group's steps are read again

abbrev pub GroupsAgain : NestedGroups → Type 0
GroupsAgain no_group = Unit {0}
GroupsAgain (group ss gs) = (nest_steps (items_of (steps_json ss)) ≡ ss) × GroupsAgain gs

same_group : (ss ts : NestedSteps) (gs hs : NestedGroups) → ss ≡ ts → gs ≡ hs → group ss gs ≡ group ts hs
same_group ss ts gs hs p q = λ i. group (p i) (q i)

same_checks : (c d : Check) (cs ds : List Check) → c ≡ d → cs ≡ ds → c ∷ cs ≡ d ∷ ds
same_checks c d cs ds p q = λ i. p i ∷ q i

same_choice : (cs ds : List Check) (l m : Bool) (gs hs : NestedGroups) → cs ≡ ds → l ≡ m → gs ≡ hs → holds (chooses cs l) gs ≡ holds (chooses ds m) hs
same_choice cs ds l m gs hs p q r = λ i. holds (chooses (p i) (q i)) (r i)

-- the one group of a frame
sole_again : (gs : NestedGroups) → count gs ≡ 1 → GroupsAgain gs → group (nest_list (list_of (first_json (groups_json gs)))) no_group ≡ gs
sole_again no_group h a = absurd (omega arith)
sole_again (group ss no_group) h a = ap (λ (ts : NestedSteps). group ts no_group) a.0
sole_again (group ss (group ts gs)) h a = absurd (omega arith)

branches_again : (gs : NestedGroups) → AreBranches gs → GroupsAgain gs → nest_branches (items_of (all_json (groups_json gs))) ≡ gs
branches_again no_group h a = refl
branches_again (group none gs) h a = absurd h
branches_again (group (more s none) gs) h a = same_group (more (nest_step (step_json s)) none) (more s none) (nest_branches (items_of (all_json (groups_json gs)))) gs a.0 (branches_again gs h a.1)
branches_again (group (more s (more t ss)) gs) h a = absurd h

checks_again : (n : Names) (cs : List Check) (gs : List (List Json)) → ChecksFit n cs → checks_of (items_of (cases_json cs gs)) ≡ cs
checks_again n [] gs f = refl
checks_again n (c ∷ cs) gs f = same_checks (case_check (guarded_json c (list_of (first_json gs)))) c (checks_of (items_of (cases_json cs (rest_of gs)))) cs (case_check_again n c (list_of (first_json gs)) f.0) (checks_again n cs (rest_of gs) f.1)

same_catches : (c d : Catching) (cs ds : List Catching) → c ≡ d → cs ≡ ds → c ∷ cs ≡ d ∷ ds
same_catches c d cs ds p q = λ i. p i ∷ q i

same_try : (cs ds : List Catching) (l m : Bool) (ss ts : NestedSteps) (gs hs : NestedGroups) → cs ≡ ds → l ≡ m → ss ≡ ts → gs ≡ hs → holds (tries cs l) (group ss gs) ≡ holds (tries ds m) (group ts hs)
same_try cs ds l m ss ts gs hs p q r t = λ i. holds (tries (p i) (q i)) (group (r i) (t i))

catchings_again : (n : Names) (cs : List Catching) (gs : List (List Json)) → CatchesFit n cs → catchings_of (items_of (catches_json cs gs)) ≡ cs
catchings_again n [] gs f = refl
catchings_again n (c ∷ cs) gs f =
    same_catches (catching_of (catch_json c.names c.when (list_of (first_json gs)))) c (catchings_of (items_of (catches_json cs (rest_of gs)))) cs (catching_again n c (list_of (first_json gs)) f.0.1) (catchings_again n cs (rest_of gs) f.1)

last_there : (l : Bool) (gs : List (List Json)) → is_some (last_steps l gs) ≡ l
last_there true gs = refl
last_there false gs = refl

last_again : (l : Bool) (gs : NestedGroups) → count gs ≡ of_last l → GroupsAgain gs → last_group (last_steps l (groups_json gs)) ≡ gs
last_again true gs h a = sole_again gs h a
last_again false no_group h a = refl
last_again false (group ss gs) h a = absurd (omega arith)

cases_again : (cs : List Check) (l : Bool) (gs : NestedGroups) → count gs ≡ length cs + of_last l → GroupsAgain gs
    → followed (nest_each (items_of (cases_json cs (groups_json gs)))) (last_group (last_steps l (past cs (groups_json gs)))) ≡ gs
cases_again [] l gs h a = last_again l gs (omega arith) a
cases_again (c ∷ cs) l no_group h a = absurd (omega arith)
cases_again (c ∷ cs) l (group ss gs) h a =
    same_group (nest_inner (guarded_json c (list_of (steps_json ss)))) ss (followed (nest_each (items_of (cases_json cs (groups_json gs)))) (last_group (last_steps l (past cs (groups_json gs))))) gs
    (case_again c (list_of (steps_json ss)) ∙ a.0) (cases_again cs l gs (omega arith) a.1)

catches_again : (cs : List Catching) (l : Bool) (gs : NestedGroups) → count gs ≡ length cs + of_last l → GroupsAgain gs
    → followed (nest_each (items_of (catches_json cs (groups_json gs)))) (last_group (last_steps l (past cs (groups_json gs)))) ≡ gs
catches_again [] l gs h a = last_again l gs (omega arith) a
catches_again (c ∷ cs) l no_group h a = absurd (omega arith)
catches_again (c ∷ cs) l (group ss gs) h a =
    same_group (nest_inner (catch_json c.names c.when (list_of (steps_json ss)))) ss (followed (nest_each (items_of (catches_json cs (groups_json gs)))) (last_group (last_steps l (past cs (groups_json gs))))) gs
    (catch_again c.names c.when (list_of (steps_json ss)) ∙ a.0) (catches_again cs l gs (omega arith) a.1)

-- a split by itself
splits_again : (h : How) (fan : Fan) (steps : Json) → is_split h fan ≡ true → is_parts (splits h fan) ≡ false → nest_step (splits_json h fan steps) ≡ holds (splits h fan) (group (nest_list steps) no_group)
splits_again (how.Token token) fan steps f o = let p = and_parts (is_filled token) (is_fan fan) f in split_again (how.Token token) fan steps p.0 p.1
splits_again how.JsonArray fan steps f o = split_again how.JsonArray fan steps refl (and_parts true (is_fan fan) f).1
splits_again (how.Batch k) fan steps f o = absurd cc

-- the setting of an aggregator that gathers no batches
pub other_gathering : (g : Gathering) → is_batch_strategy g.strategy ≡ false → AnyGatheringFits (is_batch_strategy g.strategy) g → GatheringFits g
other_gathering g o f = subst (λ (b : Bool). AnyGatheringFits b g) o f

pub frame_again : (n : Names) (f : Frame) (gs : NestedGroups) → FrameHolds n f gs → is_parts f ≡ false → gathers f ≡ false → GroupsAgain gs → nest_step (frame_json f (groups_json gs)) ≡ holds f gs
frame_again n (chooses cs l) gs h p o a =
    choice_again (last_steps l (past cs (groups_json gs))) (cases_json cs (groups_json gs))
    ∙ same_choice (checks_of (items_of (cases_json cs (groups_json gs)))) cs (is_some (last_steps l (past cs (groups_json gs)))) l (followed (nest_each (items_of (cases_json cs (groups_json gs)))) (last_group (last_steps l (past cs (groups_json gs))))) gs
    (checks_again n cs (groups_json gs) h.setting.1) (last_there l (past cs (groups_json gs))) (cases_again cs l gs h.number a)
frame_again n (filters c) gs h p o a = filter_again n c (list_of (first_json (groups_json gs))) h.setting ∙ ap (holds (filters c)) (sole_again gs h.number a)
frame_again n (splits how fan) gs h p o a = splits_again how fan (list_of (first_json (groups_json gs))) h.setting p ∙ ap (holds (splits how fan)) (sole_again gs h.number a)
frame_again n (multicasts fan) gs h p o a = multicast_again fan (list_of (all_json (groups_json gs))) h.setting ∙ ap (holds (multicasts fan)) (branches_again gs h.suit.1 a)
frame_again n (aggregates g) gs h p o a =
    ap (λ (b : Bool). nest_step (cond b (resequence_json g (first_json (groups_json gs))) (aggregate_json g (list_of (first_json (groups_json gs)))))) o
    ∙ (aggregate_again g (list_of (first_json (groups_json gs))) (other_gathering g o h.setting) ∙ ap (holds (aggregates g)) (sole_again gs h.number a))
frame_again n (runs_once e name skip eager remove) gs h p o a =
    once_again e name skip eager remove (list_of (first_json (groups_json gs))) h.setting.0 h.setting.1 ∙ ap (holds (runs_once e name skip eager remove)) (sole_again gs h.number a)
frame_again n (tries cs l) no_group h p o a = absurd (omega (arith, h.number))
frame_again n (tries cs l) (group ss gs) h p o a =
    try_again (catches_json cs (groups_json gs)) (last_steps l (past cs (groups_json gs))) (list_of (steps_json ss))
    ∙ same_try (catchings_of (items_of (catches_json cs (groups_json gs)))) cs (is_some (last_steps l (past cs (groups_json gs)))) l (nest_list (list_of (steps_json ss))) ss
    (followed (nest_each (items_of (catches_json cs (groups_json gs)))) (last_group (last_steps l (past cs (groups_json gs))))) gs
    (catchings_again n cs (groups_json gs) h.setting) (last_there l (past cs (groups_json gs))) a.0 (catches_again cs l gs (omega (arith, h.number)) a.1)

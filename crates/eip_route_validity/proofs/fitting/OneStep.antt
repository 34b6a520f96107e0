-- A step with which nothing is wrong fits, where the steps that it holds do.
use Rattle.std.proofs.Common.{ℕ, ◌≡◌, ◌+◌, ◌<◌, Bool, true, false, cond, List, [], Option, Some, None, is_some, option_map, length, refl, ap, ◌∙◌, subst, arith, le-leb}
use Rattle.std.proofs.lemmas.Bool.{and_from}
use Rattle.eip_text.specs.Json.{Json, null, flag, whole, float, word, list, object, Items, no_items, item, Members, no_members, member}
use Rattle.eip_text.specs.Names.{is_name}
use Rattle.eip_route.specs.declared.route.Names.{Names}
use Rattle.eip_exchange.specs.declared.setting.How.{How}
use Rattle.eip_exchange.specs.declared.setting.How.TheVariants as how
use Rattle.eip_exchange.specs.declared.setting.Strategy.{Strategy}
use Rattle.eip_exchange.specs.declared.setting.Strategy.TheVariants as strategy
use Rattle.eip_route.specs.Nest.{Gathering, NestedGroups, no_group, group, multicasts, count, of_last}
use Rattle.eip_route.specs.Valid.{is_filled, is_kind, is_token, is_fan, is_split, is_group_strategy, is_batch_strategy}
use Rattle.eip_route.specs.declared.step.Fan.{Fan}
use Rattle.eip_route_grammar.specs.Keys.{is_spelled}
use Rattle.eip_route_grammar.specs.Table.{key_in, kind_in, rule_of, list_of, shape_of, listing}
use Rattle.eip_route_grammar.specs.Objects.{value_at, parameters_of}
use Rattle.eip_route_faults.specs.Sites.{has_none, own_list, items_sites, first_fault}
use Rattle.eip_route_grammar.specs.Texts.{unhashed, last_segment}
use Rattle.eip_route_grammar.specs.declared.keys.Key.{Key}
use Rattle.eip_route_grammar.specs.declared.keys.Key.TheVariants as key
use Rattle.eip_route_grammar.specs.declared.table.Kind.{Kind}
use Rattle.eip_route_grammar.specs.declared.table.Kind.TheVariants as kind
use Rattle.eip_route_grammar.specs.declared.table.Nests.TheVariants as nests
use Rattle.eip_route_grammar.specs.declared.table.Row.{Row}
use Rattle.eip_route_grammar.specs.declared.table.Row.TheVariants as row
use Rattle.eip_route_grammar.specs.declared.table.Rule.TheVariants as rule
use Rattle.eip_route_grammar.specs.declared.table.Shape.TheVariants as shape
use Rattle.eip_route_validity.specs.Fit.{TemplateFits, Registered, ChecksFit, CheckFits, MayCheckFit, CatchFits, CatchesFit, GatheringFits, AnyGatheringFits, Inside, LeafFits, HasGroup, AreBranches, FrameHolds, StepsFit, StepFits, GroupsFit}
use Rattle.eip_route_values.specs.Leaves.{text_given, members_given, exceptions_given}
use Rattle.eip_route_values.specs.Nesting.{said, text_said, with_groups, followed, at_places, nest_at, case_check, checks_of, items_given, checks_in, catching_in, catching_of, catchings_of, catchings_in, nest_in, nest_branches_in, nest_each_in, nest_each_list, nest_each, nest_one_in, nest_inner, places}
use Rattle.eip_route_values.specs.Parts.{template, check_in, fan_in, how_given, gathering_in, batch_size, batch_timeout, order_key_in}
use Rattle.eip_route_validity.proofs.fitting.Faultless.{IsFaultless, WordFits, ObjectFits, first_item}
use Rattle.eip_route_validity.proofs.fitting.Keyed.{HasRow, value_fits, with_must, with_may}
use Rattle.eip_route_validity.proofs.fitting.Values.{IsTextRule, IsForObjects, with_object, for_case, for_nested, for_catch, for_when, IsForLists, with_list, with_text_or_object}
use Rattle.eip_route_validity.proofs.fitting.Tables.{value_values, case_checks, when_checks}
use Rattle.eip_route_validity.proofs.fitting.StepTables as tables
use Rattle.eip_route_validity.proofs.fitting.StepTables.{step_kind, IsStepKey, named_values, recipients_values, idempotent_values}
use Rattle.eip_route_validity.proofs.fitting.Endpoints.{target_fits}
use Rattle.eip_route_validity.proofs.fitting.Leaves.{template_word, template_leaf, name_word, name_leaf, given_name, given_repository, exceptions_filled, registered_word, processor_leaf, thrown_leaf, given_delimiter}
use Rattle.eip_route_validity.proofs.fitting.Parts.{how_fits, fan_fits, expr_fits, check_fits, target_in}
use Rattle.eip_route_validity.proofs.fitting.Gatherings.{gathering_fits}
use Rattle.eip_route_validity.proofs.fitting.Batches.{order_fits, batching_fits, batch_step_fits}

-- ---- what a step holds

-- a kind of objects with `steps`, and of lists of them that aren't empty
pub record IsHolder (u : Kind) : Type 0 where
  pub objects : IsForObjects u
  pub steps : HasRow u (row.Must key.Steps kind.Steps)

pub record AreHolders (w u : Kind) : Type 0 where
  pub lists : IsForLists w
  pub filled : Bool
  pub listed : list_of w ≡ listing u nests.Nowhere filled
  pub holder : IsHolder u

pub case_holds : IsHolder kind.Case
case_holds = record { objects = for_case; steps = tables.case_steps }

pub nested_holds : IsHolder kind.Nested
nested_holds = record { objects = for_nested; steps = tables.nested_steps }

for_cases : IsForLists kind.Cases
unfolding rule_of shape_of
for_cases = record { no_rule = refl; closed = refl }

pub cases_hold : AreHolders kind.Cases kind.Case
unfolding list_of
cases_hold = record { lists = for_cases; filled = true; listed = refl; holder = case_holds }

catch_holds : IsHolder kind.Catch
catch_holds = record { objects = for_catch; steps = tables.catch_steps }

for_catches : IsForLists kind.Catches
unfolding rule_of shape_of
for_catches = record { no_rule = refl; closed = refl }

catches_hold : AreHolders kind.Catches kind.Catch
unfolding list_of
catches_hold = record { lists = for_catches; filled = false; listed = refl; holder = catch_holds }

-- the steps that an object of this kind holds fit, wherever they stand
pub record InnerFit (n : Names) (d : ℕ) (v : Kind) (ms : Members) : Type 0 where
  pub steps : HasRow v (row.Must key.Steps kind.Steps) → Inside d (StepsFit n (d + 1) (nest_in ms))
  pub batch : HasRow v (row.Must key.Steps kind.BatchSteps) → (d < 15) × StepsFit n (d + 2) (nest_in ms)
  pub branches : HasRow v (row.Must key.Steps kind.Branches) → (HasGroup (nest_branches_in ms) × AreBranches (nest_branches_in ms)) × GroupsFit n d (nest_branches_in ms)
  pub each : (r : Row) (u : Kind) → HasRow v r → AreHolders (kind_in r) u → GroupsFit n d (nest_each_in (key_in r) ms)
  pub one : (q : Key) (u : Kind) → HasRow v (row.May q u) → IsHolder u → GroupsFit n d (nest_one_in q ms)

followed_fit : (n : Names) (d : ℕ) (gs hs : NestedGroups) → GroupsFit n d gs → GroupsFit n d hs → GroupsFit n d (followed gs hs)
followed_fit n d no_group hs f g = g
followed_fit n d (group ss gs) hs f g = (f.0, followed_fit n d gs hs f.1 g)

count_followed : (gs hs : NestedGroups) → count (followed gs hs) ≡ count gs + count hs
count_followed no_group hs = omega arith
count_followed (group ss gs) hs = omega (arith, count_followed gs hs)

-- ---- the cases of a choice

count_each : (ts : Items) → count (nest_each ts) ≡ length (checks_of ts)
count_each no_items = refl
count_each (item t ts) = omega (arith, count_each ts)

-- a group for each item of the list, by the value of its key
each_given : Option Json → NestedGroups
each_given None = no_group
each_given (Some t) = nest_each_list t

each_by : (b : Bool) (t : Json) (gs : NestedGroups) (o : Option Json) → gs ≡ each_given o → cond b (nest_each_list t) gs ≡ each_given (cond b (Some t) o)
unfolding each_given
each_by true t gs o e = refl
each_by false t gs o e = e

each_value : (q : Key) (ms : Members) → nest_each_in q ms ≡ each_given (value_at q ms)
unfolding each_given
each_value q no_members = refl
each_value q (member k t ms) = each_by (is_spelled q k) t (nest_each_in q ms) (value_at q ms) (each_value q ms)

count_given : (o : Option Json) → count (each_given o) ≡ length (checks_of (items_given o))
unfolding each_given
count_given None = refl
count_given (Some null) = refl
count_given (Some (flag b)) = refl
count_given (Some (whole z)) = refl
count_given (Some float) = refl
count_given (Some (word w)) = refl
count_given (Some (list ts)) = count_each ts
count_given (Some (object ms)) = refl

count_cases : (ms : Members) → count (nest_each_in key.When ms) ≡ length (checks_in ms)
count_cases ms = ap count (each_value key.When ms) ∙ count_given (value_at key.When ms)

one_by : (b : Bool) (t : Json) (gs : NestedGroups) (o : Option Json) → count gs ≡ of_last (is_some o) → count (cond b (group (nest_inner t) no_group) gs) ≡ of_last (is_some (cond b (Some t) o))
one_by true t gs o e = refl
one_by false t gs o e = e

count_one : (q : Key) (ms : Members) → count (nest_one_in q ms) ≡ of_last (is_some (value_at q ms))
count_one q no_members = refl
count_one q (member k t ms) = one_by (is_spelled q k) t (nest_one_in q ms) (value_at q ms) (count_one q ms)

-- a block for each case and for the last one
count_choice : (ms : Members) → count (at_places (nest_at ms) (places key.Choice)) ≡ length (checks_in ms) + of_last (is_some (value_at key.Otherwise ms))
count_choice ms =
    omega (
      arith,
      count_followed (nest_each_in key.When ms) (followed (nest_one_in key.Otherwise ms) no_group),
      count_followed (nest_one_in key.Otherwise ms) no_group,
      count_cases ms,
      count_one key.Otherwise ms,
    )

check_of_case : (n : Names) (d : ℕ) (ps : List (List ℕ × List ℕ)) (t : Json) → IsFaultless n d ps kind.Case t → CheckFits n (case_check t)
check_of_case n d ps t e = with_object (λ x. CheckFits n (case_check x)) n d ps kind.Case t for_case e (λ ms o. check_fits n d kind.Case ms case_checks o)

checks_of_cases : (n : Names) (d k : ℕ) (ts : Items) → first_fault (items_sites n d kind.Case k ts) ≡ None → ChecksFit n (checks_of ts)
checks_of_cases n d k no_items e = tt
checks_of_cases n d k (item t ts) e = let h = first_item n d kind.Case k t ts e in (check_of_case n d [] t h.0, checks_of_cases n d (k + 1) ts h.1)

has_checks : (d : ℕ) (ts : Items) → own_list d (listing kind.Case nests.Nowhere true) (has_none ts) ≡ None → is_filled (checks_of ts) ≡ true
has_checks d no_items e = absurd cc
has_checks d (item t ts) e = le-leb 1 (length (checks_of (item t ts))) (omega arith)

checks_fit : (n : Names) (d : ℕ) (ps : List (List ℕ × List ℕ)) (t : Json) → IsFaultless n d ps kind.Cases t → (is_filled (checks_of (items_given (Some t))) ≡ true) × ChecksFit n (checks_of (items_given (Some t)))
unfolding list_of
checks_fit n d ps t e =
    with_list (λ x. (is_filled (checks_of (items_given (Some x))) ≡ true) × ChecksFit n (checks_of (items_given (Some x)))) n d ps kind.Cases t for_cases e
    (λ ts o f. (has_checks d ts o, checks_of_cases n d 0 ts f))

checks_at : (n : Names) (d : ℕ) (ms : Members) → ObjectFits n d kind.Choice ms → (is_filled (checks_in ms) ≡ true) × ChecksFit n (checks_in ms)
checks_at n d ms o =
    with_must (λ x. (is_filled (checks_of (items_given x)) ≡ true) × ChecksFit n (checks_of (items_given x))) n d kind.Choice key.When kind.Cases ms tables.choice_when o (λ t e. checks_fit n d (parameters_of ms) t e)

-- ---- the catches of a try

-- what is asked where it is there
given_check : (n : Names) (d : ℕ) (ps : List (List ℕ × List ℕ)) (t : Json) → IsFaultless n d ps kind.OnWhen t → MayCheckFit n (option_map check_in (members_given (Some t)))
given_check n d ps t e = with_object (λ x. MayCheckFit n (option_map check_in (members_given (Some x)))) n d ps kind.OnWhen t for_when e (λ ms o. check_fits n d kind.OnWhen ms when_checks o)

catching_fits : (n : Names) (d : ℕ) (ms : Members) → ObjectFits n d kind.Catch ms → CatchFits n (catching_in ms)
catching_fits n d ms o = (
  with_must (λ x. is_filled (exceptions_given x) ≡ true) n d kind.Catch key.Exception kind.Exceptions ms tables.catch_exceptions o (λ t e. exceptions_filled n d (parameters_of ms) t e),
  with_may (λ x. MayCheckFit n (option_map check_in (members_given x))) n d kind.Catch (row.May key.OnWhen kind.OnWhen) ms tables.catch_when o tt (λ t e. given_check n d (parameters_of ms) t e),
)

catch_fits : (n : Names) (d : ℕ) (ps : List (List ℕ × List ℕ)) (t : Json) → IsFaultless n d ps kind.Catch t → CatchFits n (catching_of t)
catch_fits n d ps t e = with_object (λ x. CatchFits n (catching_of x)) n d ps kind.Catch t for_catch e (λ ms o. catching_fits n d ms o)

catches_of_items : (n : Names) (d k : ℕ) (ts : Items) → first_fault (items_sites n d kind.Catch k ts) ≡ None → CatchesFit n (catchings_of ts)
catches_of_items n d k no_items e = tt
catches_of_items n d k (item t ts) e = let h = first_item n d kind.Catch k t ts e in (catch_fits n d [] t h.0, catches_of_items n d (k + 1) ts h.1)

catches_fit : (n : Names) (d : ℕ) (ps : List (List ℕ × List ℕ)) (t : Json) → IsFaultless n d ps kind.Catches t → CatchesFit n (catchings_of (items_given (Some t)))
unfolding list_of
catches_fit n d ps t e = with_list (λ x. CatchesFit n (catchings_of (items_given (Some x)))) n d ps kind.Catches t for_catches e (λ ts o f. catches_of_items n d 0 ts f)

catches_at : (n : Names) (d : ℕ) (ms : Members) → ObjectFits n d kind.Try ms → CatchesFit n (catchings_in ms)
catches_at n d ms o = with_may (λ x. CatchesFit n (catchings_of (items_given x))) n d kind.Try (row.May key.DoCatch kind.Catches) ms tables.try_catches o tt (λ t e. catches_fit n d (parameters_of ms) t e)

count_caught : (ts : Items) → count (nest_each ts) ≡ length (catchings_of ts)
count_caught no_items = refl
count_caught (item t ts) = omega (arith, count_caught ts)

count_caught_given : (o : Option Json) → count (each_given o) ≡ length (catchings_of (items_given o))
unfolding each_given
count_caught_given None = refl
count_caught_given (Some null) = refl
count_caught_given (Some (flag b)) = refl
count_caught_given (Some (whole z)) = refl
count_caught_given (Some float) = refl
count_caught_given (Some (word w)) = refl
count_caught_given (Some (list ts)) = count_caught ts
count_caught_given (Some (object ms)) = refl

count_catches : (ms : Members) → count (nest_each_in key.DoCatch ms) ≡ length (catchings_in ms)
count_catches ms = ap count (each_value key.DoCatch ms) ∙ count_caught_given (value_at key.DoCatch ms)

-- the first block, one for each catch, and the last one
count_try : (ms : Members) → count (at_places (nest_at ms) (places key.DoTry)) ≡ length (catchings_in ms) + of_last (is_some (value_at key.DoFinally ms)) + 1
count_try ms =
    let others = followed (nest_each_in key.DoCatch ms) (followed (nest_one_in key.DoFinally ms) no_group) in
    let counted : count others ≡ length (catchings_in ms) + of_last (is_some (value_at key.DoFinally ms)) =
    omega (
      arith,
      count_followed (nest_each_in key.DoCatch ms) (followed (nest_one_in key.DoFinally ms) no_group),
      count_followed (nest_one_in key.DoFinally ms) no_group,
      count_catches ms,
      count_one key.DoFinally ms,
    ) in
    ap (λ k. k + 1) counted

-- ---- a step's value is a text or an object

abbrev pub IsStepValue : Json → Type 0
IsStepValue (word w) = Unit {0}
IsStepValue (object ms) = Unit {0}
IsStepValue _ = ⊥

record HasForm (v : Kind) : Type 0 where
  rule : IsTextRule (rule_of v)
  no_list : list_of v ≡ None
  keyed : shape_of v ≡ shape.Keyed

step_form : (k : Key) → IsStepKey k → HasForm (step_kind k)
unfolding rule_of list_of shape_of
step_form key.SetBody known = record { rule = ((λ b. refl), (λ z. refl)); no_list = refl; keyed = refl }
step_form key.SetHeader known = record { rule = ((λ b. refl), (λ z. refl)); no_list = refl; keyed = refl }
step_form key.SetProperty known = record { rule = ((λ b. refl), (λ z. refl)); no_list = refl; keyed = refl }
step_form key.RemoveHeader known = record { rule = ((λ b. refl), (λ z. refl)); no_list = refl; keyed = refl }
step_form key.To known = record { rule = ((λ b. refl), (λ z. refl)); no_list = refl; keyed = refl }
step_form key.Log known = record { rule = ((λ b. refl), (λ z. refl)); no_list = refl; keyed = refl }
step_form key.ThrowException known = record { rule = ((λ b. refl), (λ z. refl)); no_list = refl; keyed = refl }
step_form key.Process known = record { rule = ((λ b. refl), (λ z. refl)); no_list = refl; keyed = refl }
step_form key.Choice known = record { rule = ((λ b. refl), (λ z. refl)); no_list = refl; keyed = refl }
step_form key.Filter known = record { rule = ((λ b. refl), (λ z. refl)); no_list = refl; keyed = refl }
step_form key.Split known = record { rule = ((λ b. refl), (λ z. refl)); no_list = refl; keyed = refl }
step_form key.Multicast known = record { rule = ((λ b. refl), (λ z. refl)); no_list = refl; keyed = refl }
step_form key.RecipientList known = record { rule = ((λ b. refl), (λ z. refl)); no_list = refl; keyed = refl }
step_form key.Aggregate known = record { rule = ((λ b. refl), (λ z. refl)); no_list = refl; keyed = refl }
step_form key.IdempotentConsumer known = record { rule = ((λ b. refl), (λ z. refl)); no_list = refl; keyed = refl }
step_form key.DoTry known = record { rule = ((λ b. refl), (λ z. refl)); no_list = refl; keyed = refl }
step_form key.Resequence known = record { rule = ((λ b. refl), (λ z. refl)); no_list = refl; keyed = refl }
step_form _ known = absurd (known refl)

pub step_keyed : (k : Key) → IsStepKey k → shape_of (step_kind k) ≡ shape.Keyed
step_keyed k known = (step_form k known).keyed

pub step_value : (n : Names) (d : ℕ) (ps : List (List ℕ × List ℕ)) (k : Key) (t : Json) → IsStepKey k → IsFaultless n d ps (step_kind k) t → IsStepValue t
step_value n d ps k t known e = let f = step_form k known in with_text_or_object IsStepValue n d ps (step_kind k) t f.rule f.no_list f.keyed e (λ w h. tt) (λ ms o. tt)

-- ---- a step that a text says

pub text_step_fits : (n : Names) (d : ℕ) (ps : List (List ℕ × List ℕ)) (k : Key) (w : List ℕ) → ps ≡ [] → IsStepKey k → WordFits n ps (rule_of (step_kind k)) w → LeafFits n (text_said k w)
unfolding rule_of
text_step_fits n d ps key.RemoveHeader w alone known h = name_word w h
text_step_fits n d ps key.To w alone known h = target_fits n w [] (subst (λ (qs : List (List ℕ × List ℕ)). WordFits n qs (Some rule.Producer) w) alone h)
text_step_fits n d ps key.Log w alone known h = (refl, template_word w h)
text_step_fits n d ps key.Process w alone known h = registered_word (unhashed w) n.processors h
text_step_fits n d ps key.SetBody w alone known h = absurd h
text_step_fits n d ps key.SetHeader w alone known h = absurd h
text_step_fits n d ps key.SetProperty w alone known h = absurd h
text_step_fits n d ps key.ThrowException w alone known h = absurd h
text_step_fits n d ps key.Choice w alone known h = absurd h
text_step_fits n d ps key.Filter w alone known h = absurd h
text_step_fits n d ps key.Split w alone known h = absurd h
text_step_fits n d ps key.Multicast w alone known h = absurd h
text_step_fits n d ps key.RecipientList w alone known h = absurd h
text_step_fits n d ps key.Aggregate w alone known h = absurd h
text_step_fits n d ps key.IdempotentConsumer w alone known h = absurd h
text_step_fits n d ps key.DoTry w alone known h = absurd h
text_step_fits n d ps key.Resequence w alone known h = absurd h
text_step_fits n d ps _ w alone known h = absurd (known refl)

-- ---- a step that an object says

template_at : (n : Names) (d : ℕ) (v : Kind) (ms : Members) → HasRow v (row.Must key.Message (kind.Leaf rule.Template)) → ObjectFits n d v ms → TemplateFits (template (text_given (value_at key.Message ms)))
template_at n d v ms h o = with_must (λ x. TemplateFits (template (text_given x))) n d v key.Message (kind.Leaf rule.Template) ms h o (λ t e. template_leaf n d (parameters_of ms) t e)

name_at : (n : Names) (d : ℕ) (v : Kind) (ms : Members) → HasRow v (row.Must key.Name (kind.Leaf rule.Name)) → ObjectFits n d v ms → is_name (text_given (value_at key.Name ms)) ≡ true
name_at n d v ms h o = with_must (λ x. is_name (text_given x) ≡ true) n d v key.Name (kind.Leaf rule.Name) ms h o (λ t e. name_leaf n d (parameters_of ms) t e)

thrown_at : (n : Names) (d : ℕ) (ms : Members) → ObjectFits n d kind.ThrowException ms → is_kind (last_segment (text_given (value_at key.ExceptionType ms))) ≡ true
thrown_at n d ms o =
    with_must (λ x. is_kind (last_segment (text_given x)) ≡ true) n d kind.ThrowException key.ExceptionType (kind.Leaf rule.ExceptionType) ms tables.thrown_type o (λ t e. thrown_leaf n d (parameters_of ms) t e)

processor_at : (n : Names) (d : ℕ) (ms : Members) → ObjectFits n d kind.Process ms → Registered (unhashed (text_given (value_at key.Ref ms))) n.processors
processor_at n d ms o =
    with_must (λ x. Registered (unhashed (text_given x)) n.processors) n d kind.Process key.Ref (kind.Leaf rule.Processor) ms tables.process_name o (λ t e. processor_leaf n d (parameters_of ms) t e)

-- nothing stands behind the branches of a multicast
nothing_behind : (gs : NestedGroups) → gs ≡ followed gs no_group
nothing_behind no_group = refl
nothing_behind (group ss gs) = ap (group ss) (nothing_behind gs)

split_fits : (h : How) (fan : Fan) → is_token h ≡ true → is_fan fan ≡ true → is_split h fan ≡ true
split_fits (how.Token token) fan h f = and_from _ _ h f
split_fits how.JsonArray fan h f = and_from _ _ h f
split_fits (how.Batch k) fan h f = absurd (cc)

-- a strategy of a group isn't that of batches
grouping_by : (s : Strategy) (g : Gathering) → is_group_strategy s ≡ true → GatheringFits g → AnyGatheringFits (is_batch_strategy s) g
grouping_by strategy.Original g h f = f
grouping_by strategy.Latest g h f = f
grouping_by (strategy.Joined between) g h f = f
grouping_by strategy.Grouped g h f = f
grouping_by strategy.Sum g h f = f
grouping_by strategy.Batch g h f = absurd (cc)

any_gathering_fits : (g : Gathering) → GatheringFits g → AnyGatheringFits (is_batch_strategy g.strategy) g
any_gathering_fits g f = grouping_by g.strategy g f.strategy f

pub object_step_fits : (n : Names) (d : ℕ) (k : Key) (ms : Members) → IsStepKey k → ObjectFits n d (step_kind k) ms → InnerFit n d (step_kind k) ms → StepFits n d (with_groups (said k ms) (at_places (nest_at ms) (places k)))
object_step_fits n d key.SetBody ms known o i = expr_fits n d kind.Value ms value_values o
object_step_fits n d key.SetHeader ms known o i = (name_at n d kind.NamedValue ms tables.named_name o, expr_fits n d kind.NamedValue ms named_values o)
object_step_fits n d key.SetProperty ms known o i = (name_at n d kind.NamedValue ms tables.named_name o, expr_fits n d kind.NamedValue ms named_values o)
object_step_fits n d key.RemoveHeader ms known o i = name_at n d kind.RemoveHeader ms tables.removed_name o
object_step_fits n d key.To ms known o i = target_in n d ms o
object_step_fits n d key.Log ms known o i = (
  given_name n d (parameters_of ms) (value_at key.LogName ms) (value_fits n d (parameters_of ms) kind.Log (row.May key.LogName (kind.Leaf rule.Name)) ms tables.log_name o.members),
  template_at n d kind.Log ms tables.log_message o,
)
object_step_fits n d key.ThrowException ms known o i = (thrown_at n d ms o, template_at n d kind.ThrowException ms tables.thrown_message o)
object_step_fits n d key.Process ms known o i = processor_at n d ms o
object_step_fits n d key.RecipientList ms known o i = (
  expr_fits n d kind.RecipientList ms recipients_values o,
  (given_delimiter n d (parameters_of ms) (value_at key.Delimiter ms) (value_fits n d (parameters_of ms) kind.RecipientList (row.May key.Delimiter (kind.Leaf rule.Filled)) ms tables.recipients_delimiter o.members), fan_fits ms),
)
object_step_fits n d key.Choice ms known o i = (
  record { setting = checks_at n d ms o; number = count_choice ms; suit = tt },
  followed_fit n d (nest_each_in key.When ms) (followed (nest_one_in key.Otherwise ms) no_group) (i.each (row.Must key.When kind.Cases) kind.Case tables.choice_when cases_hold)
      (followed_fit n d (nest_one_in key.Otherwise ms) no_group (i.one key.Otherwise kind.Nested tables.choice_otherwise nested_holds) tt),
)
object_step_fits n d key.Filter ms known o i = (record { setting = check_fits n d kind.Case ms case_checks o; number = refl; suit = tt }, (i.steps tables.case_steps, tt))
object_step_fits n d key.Split ms known o i = (
  record {
    setting =
        split_fits (how_given (value_at key.Tokenize ms)) (fan_in ms)
        (how_fits n d (parameters_of ms) (value_at key.Tokenize ms) (value_fits n d (parameters_of ms) kind.Split (row.One key.Tokenize kind.Tokenize) ms tables.split_token o.members)) (fan_fits ms);
    number = refl;
    suit = tt;
  },
  (i.steps tables.split_steps, tt),
)
object_step_fits n d key.Multicast ms known o i =
    let b = i.branches tables.multicast_steps in
    let gs = nest_branches_in ms in
    subst (λ x. FrameHolds n (multicasts (fan_in ms)) x × GroupsFit n d x) (nothing_behind gs) (record { setting = fan_fits ms; number = tt; suit = b.0 }, b.1)
object_step_fits n d key.Aggregate ms known o i = (record { setting = any_gathering_fits (gathering_in ms) (gathering_fits n d ms o); number = refl; suit = tt }, (i.steps tables.aggregate_steps, tt))
object_step_fits n d key.IdempotentConsumer ms known o i = (
  record {
    setting = (
      expr_fits n d kind.IdempotentConsumer ms idempotent_values o,
      given_repository n d (parameters_of ms) (value_at key.IdempotentRepository ms)
          (value_fits n d (parameters_of ms) kind.IdempotentConsumer (row.May key.IdempotentRepository (kind.Leaf rule.Repository)) ms tables.idempotent_repository o.members),
    );
    number = refl;
    suit = tt;
  },
  (i.steps tables.idempotent_steps, tt),
)
object_step_fits n d key.DoTry ms known o i = (
  record { setting = catches_at n d ms o; number = count_try ms; suit = tt },
  (
    i.steps tables.try_steps,
    followed_fit n d (nest_each_in key.DoCatch ms) (followed (nest_one_in key.DoFinally ms) no_group) (i.each (row.May key.DoCatch kind.Catches) kind.Catch tables.try_catches catches_hold)
        (followed_fit n d (nest_one_in key.DoFinally ms) no_group (i.one key.DoFinally kind.Nested tables.try_last nested_holds) tt),
  ),
)
object_step_fits n d key.Resequence ms known o i =
    let inner = i.batch tables.batch_steps in
    let config = members_given (value_at key.BatchConfig ms) in
    batch_step_fits n d (batch_size config) (batch_timeout config) (order_key_in ms) (nest_in ms) (batching_fits n d ms o) (order_fits n d ms o) inner.0 inner.1
object_step_fits n d _ ms known o i = absurd (known refl)

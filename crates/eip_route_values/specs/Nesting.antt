-- The steps that a route file's lists of steps say, as they nest. Where a value is of a wrong kind, the file has a fault, and what stands here is a default.
use Rattle.std.specs.Prelude.{ℕ, true, List, [], ◌∷◌, Option, Some, None, is_some, option_map, if◌then◌else◌}
use Rattle.eip_text.specs.Json.{Json, word, list, object, Items, no_items, item, Members, no_members, member}
use Rattle.eip_exchange.specs.declared.setting.Key as order
use Rattle.eip_route.specs.declared.step.Check.{Check}
use Rattle.eip_route.specs.declared.step.Check.TheVariants as check
use Rattle.eip_route.specs.declared.step.Step.{Step}
use Rattle.eip_route.specs.declared.step.Step.TheVariants as step
use Rattle.eip_route.specs.Nest.{Frame, chooses, filters, splits, multicasts, aggregates, runs_once, tries, Catching, NestedStep, NestedSteps, NestedGroups, leaf, holds, none, more, no_group, group, batch_groups, fill}
use Rattle.eip_route_grammar.specs.Keys.{is_spelled}
use Rattle.eip_route_grammar.specs.Objects.{value_at}
use Rattle.eip_route_grammar.specs.Table.{rows, row_for, key_in}
use Rattle.eip_route_grammar.specs.Texts.{unhashed, last_segment}
use Rattle.eip_route_grammar.specs.declared.keys.Key.{Key}
use Rattle.eip_route_grammar.specs.declared.keys.Key.TheVariants as key
use Rattle.eip_route_grammar.specs.declared.table.Kind.TheVariants as kind
use Rattle.eip_route_values.specs.Leaves.{text_of, text_at, exceptions_given, flag_at, members_at}
use Rattle.eip_route_values.specs.Parts.{template, endpoint, endpoint_in, expr_in, check_in, fan_in, how_given, delimiter_given, gathering_in, order_key_in, batching_in, repository_given}
use Rattle.eip_route_values.specs.declared.places.Place.{Place}
use Rattle.eip_route_values.specs.declared.places.Place.TheVariants as place

-- ---- a step by itself

-- what a case of a choice asks
abbrev pub case_check : Json → Check
case_check (object ms) = check_in ms
case_check _ = check.Stored []

abbrev pub checks_of : Items → List Check
checks_of no_items = []
checks_of (item t ts) = case_check t ∷ checks_of ts

-- the items of a list that may be absent
abbrev pub items_given : Option Json → Items
items_given (Some (list ts)) = ts
items_given _ = no_items

-- what the cases of a choice ask
abbrev pub checks_in : Members → List Check
checks_in ms = checks_of (items_given (value_at key.When ms))

-- what a catch takes
abbrev pub catching_in : Members → Catching
catching_in ms = record { names = exceptions_given (value_at key.Exception ms); when = option_map check_in (members_at key.OnWhen ms) }

abbrev pub catching_of : Json → Catching
catching_of (object ms) = catching_in ms
catching_of _ = record { names = []; when = None }

abbrev pub catchings_of : Items → List Catching
catchings_of no_items = []
catchings_of (item t ts) = catching_of t ∷ catchings_of ts

-- what the catches of a try take
abbrev pub catchings_in : Members → List Catching
catchings_in ms = catchings_of (items_given (value_at key.DoCatch ms))

-- what stands for no step
abbrev pub no_step : Step
no_step = step.RemoveHeader []

-- a step that holds no others, by an object with these members
abbrev pub leaf_said : Key → Members → Step
leaf_said key.SetBody ms = step.SetBody (expr_in ms)
leaf_said key.SetHeader ms = step.SetHeader (text_at key.Name ms) (expr_in ms)
leaf_said key.SetProperty ms = step.SetProperty (text_at key.Name ms) (expr_in ms)
leaf_said key.RemoveHeader ms = step.RemoveHeader (text_at key.Name ms)
leaf_said key.To ms = step.To (endpoint_in ms)
leaf_said key.Log ms = step.Log (option_map text_of (value_at key.LogName ms)) (template (text_at key.Message ms))
leaf_said key.ThrowException ms = step.Throw (last_segment (text_at key.ExceptionType ms)) (template (text_at key.Message ms))
leaf_said key.Process ms = step.Process (unhashed (text_at key.Ref ms))
leaf_said key.RecipientList ms = step.Recipients (expr_in ms) (delimiter_given (value_at key.Delimiter ms)) (fan_in ms)
leaf_said _ ms = no_step

-- what an object says but for the steps that it holds: a step, or the frame of one
pub data Said : Type 0 where
  bare : Step → Said
  framed : Frame → Said

-- by an object with these members
abbrev pub said : Key → Members → Said
said key.Choice ms = framed (chooses (checks_in ms) (is_some (value_at key.Otherwise ms)))
said key.Filter ms = framed (filters (check_in ms))
said key.Split ms = framed (splits (how_given (value_at key.Tokenize ms)) (fan_in ms))
said key.Multicast ms = framed (multicasts (fan_in ms))
said key.Aggregate ms = framed (aggregates (gathering_in ms))
said key.IdempotentConsumer ms =
    framed (runs_once (expr_in ms) (repository_given (value_at key.IdempotentRepository ms)) (flag_at true key.SkipDuplicate ms) (flag_at true key.Eager ms) (flag_at true key.RemoveOnFailure ms))
said key.DoTry ms = framed (tries (catchings_in ms) (is_some (value_at key.DoFinally ms)))
said key.Resequence ms = framed (aggregates (batching_in ms))
said k ms = bare (leaf_said k ms)

-- by a text
abbrev pub text_said : Key → List ℕ → Step
text_said key.RemoveHeader w = step.RemoveHeader w
text_said key.To w = step.To (endpoint w [])
text_said key.Log w = step.Log None (template w)
text_said key.Process w = step.Process (unhashed w)
text_said _ w = no_step

-- with the steps that it holds, and with the numbers of their blocks
abbrev pub with_groups : Said → NestedGroups → NestedStep
with_groups (bare s) gs = leaf s
with_groups (framed f) gs = holds f gs

abbrev pub with_numbers : Said → List ℕ → Step
with_numbers (bare s) ns = s
with_numbers (framed f) ns = fill f ns

-- ---- which step a key says, and where the steps that its object holds stand

-- a kind of step goes by its key, in either spelling
abbrev pub step_key : List ℕ → Option Key
step_key text = option_map key_in (row_for text (rows kind.Step))

-- in the order in which their blocks are numbered
abbrev pub places : Key → List Place
places key.Choice = place.Each key.When ∷ place.One key.Otherwise ∷ []
places key.Filter = place.Steps ∷ []
places key.Split = place.Steps ∷ []
places key.Multicast = place.Branches ∷ []
places key.Aggregate = place.Steps ∷ []
places key.IdempotentConsumer = place.Steps ∷ []
places key.DoTry = place.Steps ∷ place.Each key.DoCatch ∷ place.One key.DoFinally ∷ []
places key.Resequence = place.Batch ∷ []
places _ = []

-- ---- the steps that it holds

abbrev pub followed : NestedGroups → NestedGroups → NestedGroups
followed no_group hs = hs
followed (group ss gs) hs = group ss (followed gs hs)

-- one place, where what stands at each is given
abbrev pub at_place : order.Key → NestedSteps → NestedGroups → (Key → NestedGroups) → (Key → NestedGroups) → Place → NestedGroups
at_place o steps branches each_of one_of place.Steps = group steps no_group
at_place o steps branches each_of one_of place.Branches = branches
at_place o steps branches each_of one_of (place.Each k) = each_of k
at_place o steps branches each_of one_of (place.One k) = one_of k
at_place o steps branches each_of one_of place.Batch = batch_groups o steps

-- several places, one behind the other
abbrev pub at_places : (Place → NestedGroups) → List Place → NestedGroups
at_places at [] = no_group
at_places at (p ∷ ps) = followed (at p) (at_places at ps)

abbrev pub if_known : Option Key → (Key → NestedStep) → NestedStep
if_known None s = leaf no_step
if_known (Some k) s = s k

abbrev mutual
  -- a list of steps
  pub nest_list : Json → NestedSteps
  nest_list (list ts) = nest_steps ts
  nest_list _ = none

  pub nest_steps : Items → NestedSteps
  nest_steps no_items = none
  nest_steps (item t ts) = more (nest_step t) (nest_steps ts)

  -- an object with one key, the step's
  pub nest_step : Json → NestedStep
  nest_step (object ms) = nest_only ms
  nest_step _ = leaf no_step

  pub nest_only : Members → NestedStep
  nest_only no_members = leaf no_step
  nest_only (member k t ms) = nest_value (step_key k) t

  pub nest_value : Option Key → Json → NestedStep
  nest_value v (object ms) = if_known v (λ k. with_groups (said k ms) (at_places (at_place (order_key_in ms) (nest_in ms) (nest_branches_in ms) (λ q. nest_each_in q ms) (λ q. nest_one_in q ms)) (places k)))
  nest_value v (word w) = if_known v (λ k. leaf (text_said k w))
  nest_value v _ = leaf no_step

  -- the `steps` of an object
  pub nest_in : Members → NestedSteps
  nest_in no_members = none
  nest_in (member k t ms) = if is_spelled key.Steps k then nest_list t else nest_in ms

  -- and of an object by its value
  pub nest_inner : Json → NestedSteps
  nest_inner (object ms) = nest_in ms
  nest_inner _ = none

  -- each of the `steps` of an object
  pub nest_branches_in : Members → NestedGroups
  nest_branches_in no_members = no_group
  nest_branches_in (member k t ms) = if is_spelled key.Steps k then nest_branch_list t else nest_branches_in ms

  pub nest_branch_list : Json → NestedGroups
  nest_branch_list (list ts) = nest_branches ts
  nest_branch_list _ = no_group

  pub nest_branches : Items → NestedGroups
  nest_branches no_items = no_group
  nest_branches (item t ts) = group (more (nest_step t) none) (nest_branches ts)

  -- the `steps` of each object in the list of a key
  pub nest_each_in : Key → Members → NestedGroups
  nest_each_in q no_members = no_group
  nest_each_in q (member k t ms) = if is_spelled q k then nest_each_list t else nest_each_in q ms

  pub nest_each_list : Json → NestedGroups
  nest_each_list (list ts) = nest_each ts
  nest_each_list _ = no_group

  pub nest_each : Items → NestedGroups
  nest_each no_items = no_group
  nest_each (item t ts) = group (nest_inner t) (nest_each ts)

  -- the `steps` of the object of a key, where it is there
  pub nest_one_in : Key → Members → NestedGroups
  nest_one_in q no_members = no_group
  nest_one_in q (member k t ms) = if is_spelled q k then group (nest_inner t) no_group else nest_one_in q ms

-- what an object with these members holds at a place
abbrev pub nest_at : Members → Place → NestedGroups
nest_at ms = at_place (order_key_in ms) (nest_in ms) (nest_branches_in ms) (λ q. nest_each_in q ms) (λ q. nest_one_in q ms)

-- The steps in an object are those that the value of their key says.
use Rattle.std.proofs.Common.{◌≡◌, Bool, true, false, cond, List, Option, Some, None, refl, ap, ◌∙◌}
use Rattle.eip_text.specs.Json.{Json, Members, no_members, member, members_of}
use Rattle.eip_route.specs.Nest.{NestedSteps, NestedGroups, no_group}
use Rattle.eip_route_grammar.specs.Keys.{is_spelled}
use Rattle.eip_route_grammar.specs.Objects.{value_at}
use Rattle.eip_route_grammar.specs.declared.keys.Key.TheVariants as key
use Rattle.eip_route_values.specs.Nesting.{nest_list, nest_in, nest_branch_list, nest_branches_in}
use Rattle.eip_route_values.specs.Sets.{steps_given}
use Rattle.eip_route_roundtrip.proofs.Slots.{Slot, filled, slot_at, value_filled}

steps_by : (b : Bool) (t : Json) (x : NestedSteps) (o : Option Json) → x ≡ steps_given o → cond b (nest_list t) x ≡ steps_given (cond b (Some t) o)
steps_by true t x o e = refl
steps_by false t x o e = e

pub steps_value : (ms : Members) → nest_in ms ≡ steps_given (value_at key.Steps ms)
steps_value no_members = refl
steps_value (member k t ms) = steps_by (is_spelled key.Steps k) t (nest_in ms) (value_at key.Steps ms) (steps_value ms)

-- each by itself
abbrev pub branches_given : Option Json → NestedGroups
branches_given None = no_group
branches_given (Some t) = nest_branch_list t

branches_by : (b : Bool) (t : Json) (x : NestedGroups) (o : Option Json) → x ≡ branches_given o → cond b (nest_branch_list t) x ≡ branches_given (cond b (Some t) o)
branches_by true t x o e = refl
branches_by false t x o e = e

branches_value : (ms : Members) → nest_branches_in ms ≡ branches_given (value_at key.Steps ms)
branches_value no_members = refl
branches_value (member k t ms) = branches_by (is_spelled key.Steps k) t (nest_branches_in ms) (value_at key.Steps ms) (branches_value ms)

-- the same of an object by its slots

pub steps_slot : (ss : List Slot) → nest_in (members_of (filled ss)) ≡ steps_given (slot_at key.Steps ss)
steps_slot ss = steps_value (members_of (filled ss)) ∙ ap steps_given (value_filled key.Steps ss)

pub branches_slot : (ss : List Slot) → nest_branches_in (members_of (filled ss)) ≡ branches_given (slot_at key.Steps ss)
branches_slot ss = branches_value (members_of (filled ss)) ∙ ap branches_given (value_filled key.Steps ss)

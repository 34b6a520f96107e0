-- Which keys the tables of routes, clauses and handlers have, and of which kinds their values are to be.
use Rattle.std.proofs.Common.{refl}
use Rattle.eip_route_grammar.specs.Keys.{spelled, dashed, is_spelled}
use Rattle.eip_route_grammar.specs.Table.{rows, rule_of, list_of, shape_of}
use Rattle.eip_route_grammar.specs.declared.keys.Key.TheVariants as key
use Rattle.eip_route_grammar.specs.declared.table.Kind.TheVariants as kind
use Rattle.eip_route_grammar.specs.declared.table.Row.TheVariants as row
use Rattle.eip_route_grammar.specs.declared.table.Rule.TheVariants as rule
use Rattle.eip_route_validity.proofs.fitting.Keyed.{HasRow, Lacks}
use Rattle.eip_route_validity.proofs.fitting.Values.{IsForObjects}

-- ---- routes

pub for_route : IsForObjects kind.Route
unfolding rule_of list_of shape_of
for_route = record { no_rule = refl; no_list = refl; keyed = refl }

pub for_from : IsForObjects kind.From
unfolding rule_of list_of shape_of
for_from = record { no_rule = refl; no_list = refl; keyed = refl }

pub route_id : HasRow kind.Route (row.May key.Id (kind.Leaf rule.Name))
unfolding spelled dashed is_spelled rows
route_id = (refl, refl)

pub route_from : HasRow kind.Route (row.Must key.From kind.From)
unfolding spelled dashed is_spelled rows
route_from = (refl, refl)

pub route_steps : HasRow kind.Route (row.May key.Steps kind.Steps)
unfolding spelled dashed is_spelled rows
route_steps = (refl, refl)

-- ---- clauses

pub for_clause : IsForObjects kind.OnException
unfolding rule_of list_of shape_of
for_clause = record { no_rule = refl; no_list = refl; keyed = refl }

pub clause_exceptions : HasRow kind.OnException (row.Must key.Exception kind.Exceptions)
unfolding spelled dashed is_spelled rows
clause_exceptions = (refl, refl)

pub clause_policy : HasRow kind.OnException (row.May key.RedeliveryPolicy kind.RedeliveryPolicy)
unfolding spelled dashed is_spelled rows
clause_policy = (refl, refl)

pub clause_steps : HasRow kind.OnException (row.May key.Steps kind.Steps)
unfolding spelled dashed is_spelled rows
clause_steps = (refl, refl)

-- ---- handlers

pub for_dead_letter : IsForObjects kind.DeadLetterChannel
unfolding rule_of list_of shape_of
for_dead_letter = record { no_rule = refl; no_list = refl; keyed = refl }

pub for_default : IsForObjects kind.DefaultErrorHandler
unfolding rule_of list_of shape_of
for_default = record { no_rule = refl; no_list = refl; keyed = refl }

pub handler_dead_letter : HasRow kind.ErrorHandler (row.One key.DeadLetterChannel kind.DeadLetterChannel)
unfolding spelled dashed is_spelled rows
handler_dead_letter = (refl, refl)

pub handler_default : HasRow kind.ErrorHandler (row.One key.DefaultErrorHandler kind.DefaultErrorHandler)
unfolding spelled dashed is_spelled rows
handler_default = (refl, refl)

pub dead_letter_uri : HasRow kind.DeadLetterChannel (row.Must key.DeadLetterUri (kind.Leaf rule.Producer))
unfolding spelled dashed is_spelled rows
dead_letter_uri = (refl, refl)

pub dead_letter_policy : HasRow kind.DeadLetterChannel (row.May key.RedeliveryPolicy kind.RedeliveryPolicy)
unfolding spelled dashed is_spelled rows
dead_letter_policy = (refl, refl)

pub dead_letter_parameters : Lacks kind.DeadLetterChannel key.Parameters
unfolding spelled dashed is_spelled rows
dead_letter_parameters = (refl, refl)

pub default_policy : HasRow kind.DefaultErrorHandler (row.May key.RedeliveryPolicy kind.RedeliveryPolicy)
unfolding spelled dashed is_spelled rows
default_policy = (refl, refl)

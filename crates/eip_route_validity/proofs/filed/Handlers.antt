-- Error handlers in which nothing is wrong fit.
use Rattle.std.proofs.Common.{ℕ, List, [], Some, None, refl, subst}
use Rattle.eip_text.specs.Json.{Members}
use Rattle.eip_route.specs.declared.route.Names.{Names}
use Rattle.eip_route_grammar.specs.Objects.{parameters_of}
use Rattle.eip_route_grammar.specs.declared.keys.Key.TheVariants as key
use Rattle.eip_route_grammar.specs.declared.table.Kind.TheVariants as kind
use Rattle.eip_route_grammar.specs.declared.table.Row.TheVariants as row
use Rattle.eip_route_grammar.specs.declared.table.Rule.TheVariants as rule
use Rattle.eip_route_values.specs.Leaves.{members_given, members_at, text_given, text_at}
use Rattle.eip_route_values.specs.Parts.{endpoint}
use Rattle.eip_route_values.specs.Sets.{default_handler, dead_letter_in, retrying_in, handler_given, handler_of}
use Rattle.eip_route_validity.specs.Fit.{TargetFits, HandlerFits}
use Rattle.eip_route_validity.proofs.fitting.Faultless.{IsFaultless, ObjectFits}
use Rattle.eip_route_validity.proofs.fitting.Keyed.{with_must, with_may, without_parameters}
use Rattle.eip_route_validity.proofs.fitting.Values.{with_object}
use Rattle.eip_route_validity.proofs.fitting.Leaves.{target_leaf}
use Rattle.eip_route_validity.proofs.fitting.Parts.{policy_fits}
use Rattle.eip_route_validity.proofs.filed.Tables.{for_dead_letter, for_default, handler_dead_letter, handler_default, dead_letter_uri, dead_letter_policy, dead_letter_parameters, default_policy}

dead_fits : (n : Names) (ms : Members) → ObjectFits n 0 kind.DeadLetterChannel ms → TargetFits n (endpoint (text_at key.DeadLetterUri ms) [])
dead_fits n ms o =
    with_must (λ x. TargetFits n (endpoint (text_given x) [])) n 0 kind.DeadLetterChannel key.DeadLetterUri (kind.Leaf rule.Producer) ms dead_letter_uri o
    (λ t e. target_leaf n 0 [] t (subst (λ (ps : List (List ℕ × List ℕ)). IsFaultless n 0 ps (kind.Leaf rule.Producer) t) (without_parameters n 0 kind.DeadLetterChannel ms dead_letter_parameters o) e))

dead_letter_fits : (n : Names) (ms : Members) → ObjectFits n 0 kind.DeadLetterChannel ms → HandlerFits n (dead_letter_in ms)
dead_letter_fits n ms o = record { dead = dead_fits n ms o; policy = policy_fits n 0 kind.DeadLetterChannel ms dead_letter_policy o }

retrying_fits : (n : Names) (ms : Members) → ObjectFits n 0 kind.DefaultErrorHandler ms → HandlerFits n (retrying_in ms)
retrying_fits n ms o = record { dead = tt; policy = policy_fits n 0 kind.DefaultErrorHandler ms default_policy o }

pub default_fits : (n : Names) → HandlerFits n default_handler
default_fits n = record { dead = tt; policy = refl }

other_fits : (n : Names) (ms : Members) → ObjectFits n 0 kind.ErrorHandler ms → HandlerFits n (handler_given None (members_at key.DefaultErrorHandler ms))
other_fits n ms o =
    with_may (λ x. HandlerFits n (handler_given None (members_given x))) n 0 kind.ErrorHandler (row.One key.DefaultErrorHandler kind.DefaultErrorHandler) ms handler_default o (default_fits n)
    (λ t e. with_object (λ y. HandlerFits n (handler_given None (members_given (Some y)))) n 0 (parameters_of ms) kind.DefaultErrorHandler t for_default e (λ inner f. retrying_fits n inner f))

pub handler_of_fits : (n : Names) (ms : Members) → ObjectFits n 0 kind.ErrorHandler ms → HandlerFits n (handler_of ms)
handler_of_fits n ms o =
    let retrying = members_at key.DefaultErrorHandler ms in
    with_may (λ x. HandlerFits n (handler_given (members_given x) retrying)) n 0 kind.ErrorHandler (row.One key.DeadLetterChannel kind.DeadLetterChannel) ms handler_dead_letter o (other_fits n ms o)
    (λ t e. with_object (λ y. HandlerFits n (handler_given (members_given (Some y)) retrying)) n 0 (parameters_of ms) kind.DeadLetterChannel t for_dead_letter e (λ inner f. dead_letter_fits n inner f))

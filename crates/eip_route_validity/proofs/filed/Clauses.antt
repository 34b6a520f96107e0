-- Clauses in which nothing is wrong fit.
use Rattle.std.proofs.Common.{◌≡◌, true, ◌&&◌, Option, Some, None}
use Rattle.eip_text.specs.Json.{Json, Members}
use Rattle.eip_route.specs.Nest.{NestedSteps, none, more}
use Rattle.eip_route.specs.Valid as valid
use Rattle.eip_route.specs.declared.route.Names.{Names}
use Rattle.eip_route_grammar.specs.Objects.{value_at, parameters_of, outcome}
use Rattle.eip_route_grammar.specs.declared.fault.Cause.TheVariants as cause
use Rattle.eip_route_grammar.specs.declared.keys.Key.TheVariants as key
use Rattle.eip_route_grammar.specs.declared.table.Kind.TheVariants as kind
use Rattle.eip_route_grammar.specs.declared.table.Row.TheVariants as row
use Rattle.eip_route_values.specs.Leaves.{exceptions_given}
use Rattle.eip_route_values.specs.Nesting.{nest_list}
use Rattle.eip_route_values.specs.Sets as sets
use Rattle.eip_route_values.specs.Sets.{where_filled, clause_in}
use Rattle.eip_route_validity.specs.Fit.{AreBatched, BlockFits, LastBatched, LastFits, LastHasSteps, ClauseFits}
use Rattle.eip_route_validity.proofs.fitting.Faultless.{ObjectFits}
use Rattle.eip_route_validity.proofs.fitting.Keyed.{fresh_by, with_must, with_may}
use Rattle.eip_route_validity.proofs.fitting.Leaves.{exceptions_filled}
use Rattle.eip_route_validity.proofs.fitting.Parts.{policy_fits}
use Rattle.eip_route_validity.proofs.fitting.Steps.{steps_fit}
use Rattle.eip_route_validity.proofs.fitting.Batched.{list_batched}
use Rattle.eip_route_validity.proofs.filed.Tables.{clause_exceptions, clause_policy, clause_steps}

-- an empty list counts as absent
filled_fits : (n : Names) (ss : NestedSteps) → BlockFits n 0 ss → LastHasSteps (where_filled ss) × LastFits n 0 (where_filled ss)
filled_fits n none b = (tt, tt)
filled_fits n (more s ss) b = (tt, b)

clause_steps_fit : (n : Names) (ms : Members) → ObjectFits n 0 kind.OnException ms → LastHasSteps (sets.clause_steps (value_at key.Steps ms)) × LastFits n 0 (sets.clause_steps (value_at key.Steps ms))
clause_steps_fit n ms o =
    with_may (λ x. LastHasSteps (sets.clause_steps x) × LastFits n 0 (sets.clause_steps x)) n 0 kind.OnException (row.May key.Steps kind.Steps) ms clause_steps o (tt, tt)
    (λ t e. filled_fits n (nest_list t) (steps_fit n 0 (parameters_of ms) t e))

filled_batched : (ss : NestedSteps) → AreBatched ss → LastBatched (where_filled ss)
filled_batched none b = tt
filled_batched (more s ss) b = b

clause_batched : (o : Option Json) → LastBatched (sets.clause_steps o)
clause_batched None = tt
clause_batched (Some t) = filled_batched (nest_list t) (list_batched t)

pub clause_fits : (n : Names) (ms : Members) → ObjectFits n 0 kind.OnException ms → ClauseFits n (clause_in ms)
clause_fits n ms o =
    let s = clause_steps_fit n ms o in
    record {
      names = with_must (λ x. valid.is_filled (exceptions_given x) ≡ true) n 0 kind.OnException key.Exception kind.Exceptions ms clause_exceptions o (λ t e. exceptions_filled n 0 (parameters_of ms) t e);
      policy = policy_fits n 0 kind.OnException ms clause_policy o;
      one = (fresh_by (outcome (value_at key.Handled ms) && outcome (value_at key.Continued ms)) cause.BothHandledAndContinued None o.whole).0;
      filled = s.0;
      steps = s.1;
      batched = clause_batched (value_at key.Steps ms);
    }

-- The key of a step's object says what its value is to be.
use Rattle.std.proofs.Common.{ℕ, ◌≡◌, List, [], ◌∷◌, Option, Some, None, is_some, option_map, ap, ◌∙◌, subst}
use Rattle.eip_text.specs.Json.{Json, no_members, member}
use Rattle.eip_route.specs.declared.route.Names.{Names}
use Rattle.eip_route_grammar.specs.Keys.{is_spelled}
use Rattle.eip_route_grammar.specs.Table.{rows, row_for, key_in}
use Rattle.eip_route_grammar.specs.Objects.{known_one, value_kind, value_kind_in, pairs_in, parameters_of}
use Rattle.eip_route_faults.specs.Sites.{members_sites, first_fault}
use Rattle.eip_route_grammar.specs.declared.fault.Cause.{Cause}
use Rattle.eip_route_grammar.specs.declared.keys.Key.{Key}
use Rattle.eip_route_grammar.specs.declared.keys.Key.TheVariants as key
use Rattle.eip_route_grammar.specs.declared.table.Kind.{Kind}
use Rattle.eip_route_grammar.specs.declared.table.Kind.TheVariants as kind
use Rattle.eip_route_grammar.specs.declared.table.Row.{Row}
use Rattle.eip_route_values.specs.Nesting.{step_key}
use Rattle.eip_route_validity.proofs.fitting.Faultless.{IsFaultless, first_member, known_row}
use Rattle.eip_route_validity.proofs.fitting.Keyed.{absent_known, row_cases}
use Rattle.eip_route_validity.proofs.fitting.StepTables.{step_kind, IsStepKey, IsStepRow, AreStepRows, step_rows, step_parameters}

found_row : (k : List ℕ) (rs : List Row) (r : Row) → AreStepRows rs → row_for k rs ≡ Some r → IsStepRow r
found_row k [] r h e = absurd cc
found_row k (s ∷ rs) r h e = row_cases (is_spelled (key_in s) k) s r (row_for k rs) e (λ b same. subst IsStepRow same h.0) (λ l. found_row k rs r h.1 l)

-- a step in an object of one key
pub record StepIs (n : Names) (d : ℕ) (k : List ℕ) (t : Json) : Type 0 where
  pub step : Key
  pub is : step_key k ≡ Some step
  pub by_key : value_kind kind.Step k ≡ step_kind step
  pub known : IsStepKey step
  pub alone : parameters_of (member k t no_members) ≡ []
  pub faultless : IsFaultless n d (parameters_of (member k t no_members)) (step_kind step) t

pub step_is : (n : Names) (d : ℕ) (k : List ℕ) (t : Json) (c : Cause) → known_one (row_for k (rows kind.Step)) c ≡ None
    → first_fault (members_sites n d (parameters_of (member k t no_members)) kind.Step (member k t no_members)) ≡ None → StepIs n d k t
step_is n d k t c o e =
    let ps = parameters_of (member k t no_members) in
    let r = known_row (row_for k (rows kind.Step)) c o in
    let s = found_row k (rows kind.Step) r.0 step_rows r.1 in
    record {
      step = key_in r.0;
      is = ap (option_map key_in) r.1;
      by_key = ap value_kind_in r.1 ∙ s.0;
      known = s.1;
      alone = ap pairs_in (absent_known kind.Step key.Parameters (member k t no_members) step_parameters (ap is_some r.1, tt));
      faultless =
          subst (λ (x : Kind). IsFaultless n d ps x t) s.0
          (subst (λ (x : Option Row). IsFaultless n d ps (value_kind_in x) t) r.1 (first_member n d ps kind.Step k t no_members e).0);
    }

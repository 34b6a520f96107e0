-- Routes in which nothing is wrong fit.
use Rattle.std.proofs.Common.{ℕ, ◌≡◌, ◌≤◌, true, List, Option, Some, None, refl, ap, arith}
use Rattle.eip_text.specs.Json.{Json, object, Members}
use Rattle.eip_route_validity.proofs.fitting.Batched.{list_batched}
use Rattle.eip_text.specs.Names.{is_name}
use Rattle.eip_uri.specs.Reading.{read}
use Rattle.eip_route.specs.Nest.{none}
use Rattle.eip_route.specs.declared.route.Names.{Names}
use Rattle.eip_route_grammar.specs.Objects.{value_at, parameters_of}
use Rattle.eip_route_faults.specs.Values.{consumer_cause, read_cause}
use Rattle.eip_route_grammar.specs.declared.keys.Key.TheVariants as key
use Rattle.eip_route_grammar.specs.declared.table.Kind.TheVariants as kind
use Rattle.eip_route_grammar.specs.declared.table.Row.TheVariants as row
use Rattle.eip_route_grammar.specs.declared.table.Rule.TheVariants as rule
use Rattle.eip_route_file.specs.Later as later
use Rattle.eip_route_file.specs.Later.{uri_of, uri_at, uri_in, id_at, route_head, from_head}
use Rattle.eip_route_values.specs.Leaves.{members_given, members_at, text_of, text_given}
use Rattle.eip_route_values.specs.Parts.{endpoint, endpoint_in}
use Rattle.eip_route_values.specs.Sets.{id_given, steps_given, steps_or, begins_at, inner_steps, whole_route, from_route}
use Rattle.eip_route_validity.specs.Fit.{SourceFits, AreBatched, BlockFits}
use Rattle.eip_route_validity.proofs.fitting.Faultless.{ObjectFits}
use Rattle.eip_route_validity.proofs.fitting.Keyed.{with_must, with_may}
use Rattle.eip_route_validity.proofs.fitting.Values.{with_text, with_object}
use Rattle.eip_route_validity.proofs.fitting.StepTables.{from_uri, from_steps}
use Rattle.eip_route_validity.proofs.fitting.Endpoints.{read_told, read_by}
use Rattle.eip_route_validity.proofs.fitting.Leaves.{name_leaf}
use Rattle.eip_route_validity.proofs.fitting.Parts.{source_in}
use Rattle.eip_route_validity.proofs.fitting.Steps.{steps_fit}
use Rattle.eip_route_validity.proofs.filed.Ids.{own_name}
use Rattle.eip_route_validity.proofs.filed.Parts.{RouteSaid}
use Rattle.eip_route_validity.proofs.filed.Tables.{for_from, route_id, route_from, route_steps}

-- ---- endpoints

read_given : (n : Names) (w : List ℕ) (ps : List (List ℕ × List ℕ)) → read_cause (consumer_cause n) (read w ps) ≡ None → uri_of (read w ps) ≡ Some (endpoint w ps)
read_given n w ps e = read_by (λ u. uri_of (read w ps) ≡ Some u) (consumer_cause n) (read w ps) (read_told w ps) (λ u r j. ap uri_of r) e

source_read : (n : Names) (ms : Members) → ObjectFits n 0 kind.From ms → uri_in ms ≡ Some (endpoint_in ms)
source_read n ms o =
    let ps = parameters_of ms in
    with_must (λ x. uri_at x ps ≡ Some (endpoint (text_given x) ps)) n 0 kind.From key.Uri (kind.Leaf rule.Consumer) ms from_uri o
    (λ t e. with_text (λ y. uri_at (Some y) ps ≡ Some (endpoint (text_of y) ps)) n 0 ps rule.Consumer t ((λ b. refl), (λ z. refl)) e (λ w h. read_given n w ps h))

-- ---- a `from` that stands alone

no_steps_fit : (n : Names) → BlockFits n 0 none
no_steps_fit n = (omega arith, tt)

from_steps_fit : (n : Names) (ms : Members) → ObjectFits n 0 kind.From ms → BlockFits n 0 (steps_given (value_at key.Steps ms))
from_steps_fit n ms o =
    with_may (λ x. BlockFits n 0 (steps_given x)) n 0 kind.From (row.May key.Steps kind.Steps) ms from_steps o (no_steps_fit n) (λ t e. steps_fit n 0 (parameters_of ms) t e)

given_batched : (o : Option Json) → AreBatched (steps_given o)
given_batched None = tt
given_batched (Some t) = list_batched t

either_batched : (o inner : Option Json) → AreBatched (steps_or o inner)
either_batched (Some t) inner = list_batched t
either_batched None inner = given_batched inner

pub from_said : (n : Names) (ms : Members) → ObjectFits n 0 kind.From ms → RouteSaid n (λ k. from_route k ms) (λ i k. from_head i k ms)
from_said n ms o = record {
  id = own_name;
  from = λ k. source_in n 0 ms o;
  steps = λ k. from_steps_fit n ms o;
  batched = λ k. given_batched (value_at key.Steps ms);
  head = λ i k. (refl, source_read n ms o);
}

-- ---- a `route`

-- what holds of the object of its `from`
with_from : (P : Option Json → Type 0) (n : Names) (ms : Members) → ObjectFits n 0 kind.Route ms → ((inner : Members) → ObjectFits n 0 kind.From inner → P (Some (object inner))) → P (value_at key.From ms)
with_from P n ms o f =
    with_must P n 0 kind.Route key.From kind.From ms route_from o (λ t e. with_object (λ y. P (Some y)) n 0 (parameters_of ms) kind.From t for_from e f)

id_named : (n : Names) (ms : Members) (k : ℕ) → k ≤ 256 → ObjectFits n 0 kind.Route ms → is_name (id_given k (value_at key.Id ms)) ≡ true
id_named n ms k h o =
    with_may (λ x. is_name (id_given k x) ≡ true) n 0 kind.Route (row.May key.Id (kind.Leaf rule.Name)) ms route_id o (own_name k h) (λ t e. name_leaf n 0 (parameters_of ms) t e)

id_same : (n : Names) (ms : Members) (k : ℕ) → ObjectFits n 0 kind.Route ms → id_at k (value_at key.Id ms) ≡ id_given k (value_at key.Id ms)
id_same n ms k o =
    with_may (λ x. id_at k x ≡ id_given k x) n 0 kind.Route (row.May key.Id (kind.Leaf rule.Name)) ms route_id o refl
    (λ t e. with_text (λ y. id_at k (Some y) ≡ id_given k (Some y)) n 0 (parameters_of ms) rule.Name t ((λ b. refl), (λ z. refl)) e (λ w h. refl))

route_steps_fit : (n : Names) (ms : Members) → ObjectFits n 0 kind.Route ms → BlockFits n 0 (steps_or (value_at key.Steps ms) (inner_steps (members_at key.From ms)))
route_steps_fit n ms o =
    let last = inner_steps (members_at key.From ms) in
    with_may (λ x. BlockFits n 0 (steps_or x last)) n 0 kind.Route (row.May key.Steps kind.Steps) ms route_steps o
    (with_from (λ x. BlockFits n 0 (steps_given (inner_steps (members_given x)))) n ms o (λ inner f. from_steps_fit n inner f))
    (λ t e. steps_fit n 0 (parameters_of ms) t e)

pub whole_said : (n : Names) (ms : Members) → ObjectFits n 0 kind.Route ms → RouteSaid n (λ k. whole_route k ms) (λ i k. route_head i k ms)
whole_said n ms o = record {
  id = λ k h. id_named n ms k h o;
  from = λ k. with_from (λ x. SourceFits n (begins_at (members_given x))) n ms o (λ inner f. source_in n 0 inner f);
  steps = λ k. route_steps_fit n ms o;
  batched = λ k. either_batched (value_at key.Steps ms) (inner_steps (members_at key.From ms));
  head = λ i k. (id_same n ms k o, with_from (λ x. uri_in (later.members_in x) ≡ Some (begins_at (members_given x))) n ms o (λ inner f. source_read n inner f));
}

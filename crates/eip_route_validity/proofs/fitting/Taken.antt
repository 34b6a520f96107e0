-- What building takes of steps with which nothing is wrong are predicates that stand there.
use Rattle.std.proofs.Common.{ℕ, ◌≡◌, ◌+◌, ◌≤◌, Bool, true, false, cond, ◌&&◌, ◌||◌, List, [], ◌∷◌, ◌++◌, Option, Some, None, refl, sym, ap, ◌∙◌, subst, arith, bytes_eq, ⊎_elim}
use Rattle.std.proofs.lemmas.Bool.{and_parts, true≢false}
use Rattle.eip_text.specs.Json.{Json, list, object, Items, no_items, item, Members, no_members, member}
use Rattle.eip_route.specs.declared.route.Names.{Names}
use Rattle.eip_route_grammar.specs.Keys.{spelled, dashed, is_spelled}
use Rattle.eip_route_grammar.specs.Table.{rows, key_in, kind_in, rule_of, list_of, shape_of}
use Rattle.eip_route_grammar.specs.Objects.{own_keys, keys_of, value_at, value_kind, value_kind_in, parameters_of, whole_object}
use Rattle.eip_route_grammar.specs.Paths.{key_step, index_step}
use Rattle.eip_route_grammar.specs.declared.fault.Cause.TheVariants as cause
use Rattle.eip_route_grammar.specs.declared.keys.Key.{Key}
use Rattle.eip_route_grammar.specs.declared.keys.Key.TheVariants as key
use Rattle.eip_route_grammar.specs.declared.table.Kind.{Kind}
use Rattle.eip_route_grammar.specs.declared.table.Kind.TheVariants as kind
use Rattle.eip_route_grammar.specs.declared.table.Row.{Row}
use Rattle.eip_route_grammar.specs.declared.table.Row.TheVariants as row
use Rattle.eip_route_grammar.specs.declared.table.Rule.TheVariants as rule
use Rattle.eip_route_faults.specs.Sites.{found, under, own_list, has_none, item_kind, deeper, sites_at, items_sites, members_sites, first_fault}
use Rattle.eip_route_values.specs.Leaves.{members_given, members_at, text_of, text_given, expression_of}
use Rattle.eip_route_values.specs.Nesting.{items_given, places}
use Rattle.eip_route_values.specs.Taken.{by_value, by_plain_check, by_check_from, by_check, by_given_check, by_completion, by_catch, by_object, by_each, at_places, in_list, in_steps, in_step, in_only, in_value, in_own, in_inner, in_each_of, in_each_list, in_each, in_one_of, in_place, in_step_of}
use Rattle.eip_route_values.specs.declared.places.Place.{Place}
use Rattle.eip_route_values.specs.declared.places.Place.TheVariants as place
use Rattle.eip_route_values.proofs.Taking.{occurs, occurs_append}
use Rattle.eip_route_validity.proofs.fitting.Faultless.{IsFaultless, ObjectFits, fits, first_item, first_member}
use Rattle.eip_route_validity.proofs.fitting.Keyed.{HasRow, row_of_key, spelled_one, must_value}
use Rattle.eip_route_validity.proofs.fitting.Values.{with_text, with_object, with_text_or_object, for_test, for_when, for_completion}
use Rattle.eip_route_validity.proofs.fitting.Tables.{case_checks, when_checks, test_checks, condition_text, completion_condition}
use Rattle.eip_route_validity.proofs.fitting.StepTables.{step_kind, IsStepKey, catch_when, group_predicate}
use Rattle.eip_route_validity.proofs.fitting.StepKinds.{step_is}
use Rattle.eip_route_validity.proofs.fitting.Marks.{stands, stands_append, stands_under}
use Rattle.eip_route_validity.proofs.fitting.KeySites.{at_key, at_keys, are_apart, keys_within}

le_same : (n : ℕ) → n ≤ n
le_same n = omega arith

-- ---- an object and a list

pub within_object : (w : List ℕ) (n : Names) (d : ℕ) (ps : List (List ℕ × List ℕ)) (v : Kind) (ms : Members) → stands w (members_sites n d (parameters_of ms) v ms) ≤ stands w (sites_at n d ps v (object ms))
unfolding sites_at
within_object w n d ps v ms =
    let own = found (own_keys (shape_of v) (rows v) (keys_of ms)) in
    let inner = members_sites n d (parameters_of ms) v ms in
    let last = found (whole_object v ms) in
    omega (arith, stands_append w own (inner ++ last), stands_append w inner last)

within_list : (w : List ℕ) (n : Names) (d : ℕ) (ps : List (List ℕ × List ℕ)) (v : Kind) (ts : Items)
    → stands w (items_sites n (deeper d (list_of v)) (item_kind (list_of v)) 0 ts) ≤ stands w (sites_at n d ps v (list ts))
unfolding sites_at
within_list w n d ps v ts = omega (arith, stands_append w (found (own_list d (list_of v) (has_none ts))) (items_sites n (deeper d (list_of v)) (item_kind (list_of v)) 0 ts))

-- nothing is wrong with the members of an object with which nothing is wrong
pub members_of_object : (n : Names) (d : ℕ) (ps : List (List ℕ × List ℕ)) (v : Kind) (ms : Members) → IsFaultless n d ps v (object ms) → first_fault (members_sites n d (parameters_of ms) v ms) ≡ None
members_of_object n d ps v ms e = (fits n d ps v (object ms) e).1.0

-- what is taken at a key, by its value
value_by : (w : List ℕ) (f : Option Json → List (List ℕ)) (b : Bool) (t : Json) (o : Option Json) (s rest : ℕ) → (b ≡ true → occurs w (f (Some t)) ≤ s) → occurs w (f o) ≤ rest → occurs w (f (cond b (Some t) o)) ≤ cond b s 0 + rest
value_by w f true t o s rest h l = omega (arith, h refl)
value_by w f false t o s rest h l = omega (arith, l)

pub value_within : (w : List ℕ) (n : Names) (d : ℕ) (ps : List (List ℕ × List ℕ)) (v : Kind) (r : Row) (ms : Members) (f : Option Json → List (List ℕ)) → HasRow v r → f None ≡ []
    → ((t : Json) → IsFaultless n d ps (kind_in r) t → occurs w (f (Some t)) ≤ stands w (sites_at n d ps (kind_in r) t))
    → first_fault (members_sites n d ps v ms) ≡ None → occurs w (f (value_at (key_in r) ms)) ≤ at_key w n d ps v (key_in r) ms
value_within w n d ps v r no_members f h none g e = omega (arith, ap (occurs w) none)
value_within w n d ps v r (member k t ms) f h none g e =
    let m = first_member n d ps v k t ms e in
    value_by w f (is_spelled (key_in r) k) t (value_at (key_in r) ms) (stands w (sites_at n d ps (value_kind v k) t)) (at_key w n d ps v (key_in r) ms)
    (λ b. let same : value_kind v k ≡ kind_in r = ap value_kind_in (row_of_key v (key_in r) (Some r) k h b) in
    subst (λ (x : Kind). occurs w (f (Some t)) ≤ stands w (sites_at n d ps x t)) (sym same) (g t (subst (λ (x : Kind). IsFaultless n d ps x t) same m.0)))
    (value_within w n d ps v r ms f h none g m.1)

-- ---- predicates

leaf_taken : (w : List ℕ) (n : Names) (d : ℕ) (ps : List (List ℕ × List ℕ)) (t : Json) → IsFaultless n d ps (kind.Leaf rule.Predicate) t → occurs w (text_of t ∷ []) ≤ stands w (sites_at n d ps (kind.Leaf rule.Predicate) t)
unfolding sites_at rule_of
leaf_taken w n d ps t e =
    with_text (λ x. occurs w (text_of x ∷ []) ≤ stands w (sites_at n d ps (kind.Leaf rule.Predicate) x)) n d ps rule.Predicate t ((λ b. refl), (λ z. refl)) e (λ u h. le_same (cond (bytes_eq u w) 1 0 + 0))

abbrev texts_given : Option Json → List (List ℕ)
texts_given None = []
texts_given (Some t) = text_of t ∷ []

-- the text of an object's `expression`
condition_object : (w : List ℕ) (n : Names) (d : ℕ) (ps : List (List ℕ × List ℕ)) (ms : Members) → ObjectFits n d kind.Condition ms → occurs w (text_given (value_at key.Expression ms) ∷ []) ≤ stands w (sites_at n d ps kind.Condition (object ms))
condition_object w n d ps ms o =
    let there = must_value n d kind.Condition key.Expression (kind.Leaf rule.Predicate) ms condition_text o in
    let within = value_within w n d (parameters_of ms) kind.Condition (row.Must key.Expression (kind.Leaf rule.Predicate)) ms texts_given condition_text refl (λ t e. leaf_taken w n d (parameters_of ms) t e) o.members in
    omega (
      arith,
      ap (λ (x : Option Json). occurs w (text_given x ∷ [])) there.1,
      ap (λ (x : Option Json). occurs w (texts_given x)) there.1,
      within,
      keys_within w n d (parameters_of ms) kind.Condition (key.Expression ∷ []) ms refl,
      within_object w n d ps kind.Condition ms,
    )

condition_taken : (w : List ℕ) (n : Names) (d : ℕ) (ps : List (List ℕ × List ℕ)) (t : Json) → IsFaultless n d ps kind.Condition t → occurs w (expression_of t ∷ []) ≤ stands w (sites_at n d ps kind.Condition t)
unfolding sites_at rule_of list_of shape_of
condition_taken w n d ps t e =
    with_text_or_object (λ x. occurs w (expression_of x ∷ []) ≤ stands w (sites_at n d ps kind.Condition x)) n d ps kind.Condition t ((λ b. refl), (λ z. refl)) refl refl e
    (λ u h. le_same (cond (bytes_eq u w) 1 0 + 0))
    (λ ms o. condition_object w n d ps ms o)

-- ---- checks

-- by a row of a condition
simple_taken : (w : List ℕ) (n : Names) (d : ℕ) (ps : List (List ℕ × List ℕ)) (v : Kind) (r : Row) (ms : Members) → HasRow v r → kind_in r ≡ kind.Condition → first_fault (members_sites n d ps v ms) ≡ None
    → occurs w (by_value (value_at (key_in r) ms)) ≤ at_key w n d ps v (key_in r) ms
simple_taken w n d ps v r ms h same e = value_within w n d ps v r ms by_value h refl
    (λ t f. subst (λ (x : Kind). occurs w (expression_of t ∷ []) ≤ stands w (sites_at n d ps x t)) (sym same) (condition_taken w n d ps t (subst (λ (x : Kind). IsFaultless n d ps x t) same f)))
    e

-- by an object that is a condition's, of which the key is `simple`
plain_object_taken : (w : List ℕ) (n : Names) (d : ℕ) (ps : List (List ℕ × List ℕ)) (v : Kind) (r : Row) (ms : Members) → HasRow v r → key_in r ≡ key.Simple → kind_in r ≡ kind.Condition
    → first_fault (members_sites n d (parameters_of ms) v ms) ≡ None → occurs w (by_plain_check ms) ≤ stands w (sites_at n d ps v (object ms))
plain_object_taken w n d ps v r ms h simple same e =
    omega (
      arith,
      subst (λ (q : Key). occurs w (by_value (value_at q ms)) ≤ at_key w n d (parameters_of ms) v q ms) simple (simple_taken w n d (parameters_of ms) v r ms h same e),
      keys_within w n d (parameters_of ms) v (key.Simple ∷ []) ms refl,
      within_object w n d ps v ms,
    )

-- the check that stands in an object of its own, and the one beside
abbrev plain_in : Option Members → List (List ℕ)
plain_in None = []
plain_in (Some ms) = by_plain_check ms

check_parts : (w : List ℕ) (o : Option Members) (ms : Members) → occurs w (by_check_from o ms) ≤ occurs w (plain_in o) + occurs w (by_plain_check ms)
check_parts w None ms = omega arith
check_parts w (Some inner) ms = omega arith

test_taken : (w : List ℕ) (n : Names) (d : ℕ) (ps : List (List ℕ × List ℕ)) (t : Json) → IsFaultless n d ps kind.Test t → occurs w (plain_in (members_given (Some t))) ≤ stands w (sites_at n d ps kind.Test t)
test_taken w n d ps t e =
    with_object (λ x. occurs w (plain_in (members_given (Some x))) ≤ stands w (sites_at n d ps kind.Test x)) n d ps kind.Test t for_test e
    (λ ms o. plain_object_taken w n d ps kind.Test (row.One key.Simple kind.Condition) ms test_checks.simple refl refl o.members)

check_taken : (w : List ℕ) (n : Names) (d : ℕ) (ps : List (List ℕ × List ℕ)) (v : Kind) (ms : Members) → HasRow v (row.One key.Simple kind.Condition) → HasRow v (row.One key.Expression kind.Test) → first_fault (members_sites n d ps v ms) ≡ None
    → occurs w (by_check ms) ≤ at_key w n d ps v key.Simple ms + at_key w n d ps v key.Expression ms
check_taken w n d ps v ms simple expression e =
    omega (
      arith,
      check_parts w (members_at key.Expression ms) ms,
      simple_taken w n d ps v (row.One key.Simple kind.Condition) ms simple refl e,
      value_within w n d ps v (row.One key.Expression kind.Test) ms (λ o. plain_in (members_given o)) expression refl (λ t f. test_taken w n d ps t f) e,
    )

simple_apart : are_apart (key.Simple ∷ key.Expression ∷ []) ≡ true
unfolding spelled dashed is_spelled
simple_apart = refl

when_taken : (w : List ℕ) (n : Names) (d : ℕ) (ps : List (List ℕ × List ℕ)) (t : Json) → IsFaultless n d ps kind.OnWhen t → occurs w (by_given_check (members_given (Some t))) ≤ stands w (sites_at n d ps kind.OnWhen t)
when_taken w n d ps t e =
    with_object (λ x. occurs w (by_given_check (members_given (Some x))) ≤ stands w (sites_at n d ps kind.OnWhen x)) n d ps kind.OnWhen t for_when e
    (λ ms o. omega (
      arith,
      check_taken w n d (parameters_of ms) kind.OnWhen ms when_checks.plain.simple when_checks.expression o.members,
      keys_within w n d (parameters_of ms) kind.OnWhen (key.Simple ∷ key.Expression ∷ []) ms simple_apart,
      within_object w n d ps kind.OnWhen ms,
    ))

completion_taken : (w : List ℕ) (n : Names) (d : ℕ) (ps : List (List ℕ × List ℕ)) (t : Json) → IsFaultless n d ps kind.CompletionPredicate t → occurs w (by_completion (members_given (Some t))) ≤ stands w (sites_at n d ps kind.CompletionPredicate t)
completion_taken w n d ps t e =
    with_object (λ x. occurs w (by_completion (members_given (Some x))) ≤ stands w (sites_at n d ps kind.CompletionPredicate x)) n d ps kind.CompletionPredicate t for_completion e
    (λ ms o. plain_object_taken w n d ps kind.CompletionPredicate (row.Must key.Simple kind.Condition) ms completion_condition refl refl o.members)

-- ---- kinds of what holds steps

-- what the value of a key is to be, in both spellings
abbrev pub has_kind : (Kind → Bool) → Kind → Key → Bool
has_kind f v q = f (value_kind v (spelled q)) && f (value_kind v (dashed (spelled q)))

kind_at : (f : Kind → Bool) (v : Kind) (q : Key) (k : List ℕ) → has_kind f v q ≡ true → is_spelled q k ≡ true → f (value_kind v k) ≡ true
kind_at f v q k h e =
    let both = and_parts (f (value_kind v (spelled q))) (f (value_kind v (dashed (spelled q)))) h in
    ⊎_elim (λ p. ap (λ (x : List ℕ). f (value_kind v x)) p ∙ both.0) (λ p. ap (λ (x : List ℕ). f (value_kind v x)) p ∙ both.1) (spelled_one q k e)

-- a list of steps
abbrev pub is_steps : Kind → Bool
is_steps kind.Steps = true
is_steps kind.BatchSteps = true
is_steps kind.Branches = true
is_steps _ = false

-- an object with nothing but steps
abbrev pub is_nested : Kind → Bool
is_nested kind.Nested = true
is_nested _ = false

abbrev pub is_cases : Kind → Bool
is_cases kind.Cases = true
is_cases _ = false

abbrev pub is_catches : Kind → Bool
is_catches kind.Catches = true
is_catches _ = false

steps_of_items : (v : Kind) → is_steps v ≡ true → item_kind (list_of v) ≡ kind.Step
unfolding list_of
steps_of_items kind.Steps h = refl
steps_of_items kind.BatchSteps h = refl
steps_of_items kind.Branches h = refl
steps_of_items _ h = absurd (true≢false (sym h))

nested_steps : (v : Kind) → is_nested v ≡ true → has_kind is_steps v key.Steps ≡ true
unfolding spelled dashed is_spelled rows
nested_steps kind.Nested h = refl
nested_steps _ h = absurd (true≢false (sym h))

-- what is taken of each object of a list, beside its steps
record Own (w : List ℕ) (n : Names) (f : Members → List (List ℕ)) (u : Kind) : Type 0 where
  steps : has_kind is_steps u key.Steps ≡ true
  within : (d : ℕ) (ms : Members) → first_fault (members_sites n d (parameters_of ms) u ms) ≡ None
      → occurs w (f ms) + at_key w n d (parameters_of ms) u key.Steps ms ≤ stands w (members_sites n d (parameters_of ms) u ms)

-- by a list of a key, item by item
each_by : (w : List ℕ) (f : Members → List (List ℕ)) (b : Bool) (t : Json) (xs : List (List ℕ)) (o : Option Json) (s rest : ℕ)
    → (b ≡ true → occurs w (in_each_list t) + occurs w (by_each f (items_given (Some t))) ≤ s) → occurs w xs + occurs w (by_each f (items_given o)) ≤ rest
    → occurs w (cond b (in_each_list t) xs) + occurs w (by_each f (items_given (cond b (Some t) o))) ≤ cond b s 0 + rest
each_by w f true t xs o s rest h l = omega (arith, h refl)
each_by w f false t xs o s rest h l = omega (arith, l)

own_by : (w : List ℕ) (b : Bool) (xs ys : List (List ℕ)) (s rest : ℕ) → (b ≡ true → occurs w xs ≤ s) → occurs w ys ≤ rest → occurs w (cond b xs ys) ≤ cond b s 0 + rest
own_by w true xs ys s rest h l = omega (arith, h refl)
own_by w false xs ys s rest h l = omega (arith, l)

-- what an object of this kind holds
record Inner (w : List ℕ) (n : Names) (d : ℕ) (v : Kind) (ms : Members) : Type 0 where
  steps : has_kind is_steps v key.Steps ≡ true → occurs w (in_own ms) ≤ at_key w n d (parameters_of ms) v key.Steps ms
  each : (q : Key) (g : Kind → Bool) (f : Members → List (List ℕ)) → has_kind g v q ≡ true → ((u : Kind) → g u ≡ true → Own w n f (item_kind (list_of u)))
      → occurs w (in_each_of q ms) + occurs w (by_each f (items_given (value_at q ms))) ≤ at_key w n d (parameters_of ms) v q ms
  one : (q : Key) → has_kind is_nested v q ≡ true → occurs w (in_one_of q ms) ≤ at_key w n d (parameters_of ms) v q ms

-- ---- one step, by what it holds

case_own : (w : List ℕ) (n : Names) (u : Kind) → is_cases u ≡ true → Own w n by_check (item_kind (list_of u))
unfolding spelled dashed is_spelled rows list_of
case_own w n kind.Cases h = record {
  steps = refl;
  within = λ d ms e. omega (
    arith,
    check_taken w n d (parameters_of ms) kind.Case ms case_checks.plain.simple case_checks.expression e,
    keys_within w n d (parameters_of ms) kind.Case (key.Steps ∷ key.Simple ∷ key.Expression ∷ []) ms refl,
  );
}
case_own w n _ h = absurd (true≢false (sym h))

catch_own : (w : List ℕ) (n : Names) (u : Kind) → is_catches u ≡ true → Own w n by_catch (item_kind (list_of u))
unfolding spelled dashed is_spelled rows list_of
catch_own w n kind.Catches h = record {
  steps = refl;
  within = λ d ms e. omega (
    arith,
    value_within w n d (parameters_of ms) kind.Catch (row.May key.OnWhen kind.OnWhen) ms (λ o. by_given_check (members_given o)) catch_when refl (λ t f. when_taken w n d (parameters_of ms) t f) e,
    keys_within w n d (parameters_of ms) kind.Catch (key.Steps ∷ key.OnWhen ∷ []) ms refl,
  );
}
catch_own w n _ h = absurd (true≢false (sym h))

-- nothing is taken beside the steps
no_own : (w : List ℕ) (n : Names) (u : Kind) → (is_cases u || is_catches u) ≡ true → Own w n (λ ms. []) (item_kind (list_of u))
unfolding spelled dashed is_spelled rows list_of
no_own w n kind.Cases h = record { steps = refl; within = λ d ms e. omega (arith, keys_within w n d (parameters_of ms) kind.Case (key.Steps ∷ []) ms refl) }
no_own w n kind.Catches h = record { steps = refl; within = λ d ms e. omega (arith, keys_within w n d (parameters_of ms) kind.Catch (key.Steps ∷ []) ms refl) }
no_own w n _ h = absurd (true≢false (sym h))

-- the keys of places, and that the table has them
abbrev place_key : Place → Key
place_key (place.Each q) = q
place_key (place.One q) = q
place_key _ = key.Steps

abbrev place_keys : List Place → List Key
place_keys [] = []
place_keys (p ∷ ps) = place_key p ∷ place_keys ps

abbrev has_place : Kind → Place → Bool
has_place v (place.Each q) = has_kind (λ u. is_cases u || is_catches u) v q
has_place v (place.One q) = has_kind is_nested v q
has_place v _ = has_kind is_steps v key.Steps

abbrev has_places : Kind → List Place → Bool
has_places v [] = true
has_places v (p ∷ ps) = has_place v p && has_places v ps

has_step_places : (k : Key) → has_places (step_kind k) (places k) ≡ true
unfolding spelled dashed is_spelled rows
has_step_places key.Choice = refl
has_step_places _ = refl

places_apart : (k : Key) → are_apart (place_keys (places k)) ≡ true
unfolding spelled dashed is_spelled
places_apart key.Choice = refl
places_apart _ = refl

place_taken : (w : List ℕ) (n : Names) (d : ℕ) (v : Kind) (ms : Members) (p : Place) → Inner w n d v ms → has_place v p ≡ true → occurs w (in_place ms p) ≤ at_key w n d (parameters_of ms) v (place_key p) ms
place_taken w n d v ms place.Steps i h = i.steps h
place_taken w n d v ms place.Branches i h = i.steps h
place_taken w n d v ms (place.Each q) i h = omega (arith, i.each q (λ u. is_cases u || is_catches u) (λ ms. []) h (no_own w n))
place_taken w n d v ms (place.One q) i h = i.one q h
place_taken w n d v ms place.Batch i h = i.steps h

places_taken : (w : List ℕ) (n : Names) (d : ℕ) (v : Kind) (ms : Members) (ps : List Place) → Inner w n d v ms → has_places v ps ≡ true → occurs w (at_places (in_place ms) ps) ≤ at_keys w n d (parameters_of ms) v (place_keys ps) ms
places_taken w n d v ms [] i h = omega arith
places_taken w n d v ms (p ∷ ps) i h =
    let both = and_parts (has_place v p) (has_places v ps) h in
    omega (arith, occurs_append w (in_place ms p) (at_places (in_place ms) ps), place_taken w n d v ms p i both.0, places_taken w n d v ms ps i both.1)

plain_step_taken : (w : List ℕ) (n : Names) (d : ℕ) (k : Key) (ms : Members) → Inner w n d (step_kind k) ms → occurs w (at_places (in_place ms) (places k) ++ []) ≤ stands w (members_sites n d (parameters_of ms) (step_kind k) ms)
plain_step_taken w n d k ms i =
    omega (
      arith,
      occurs_append w (at_places (in_place ms) (places k)) [],
      places_taken w n d (step_kind k) ms (places k) i (has_step_places k),
      keys_within w n d (parameters_of ms) (step_kind k) (place_keys (places k)) ms (places_apart k),
    )

choice_taken : (w : List ℕ) (n : Names) (d : ℕ) (ms : Members) → Inner w n d kind.Choice ms → occurs w (in_step_of key.Choice ms) ≤ stands w (members_sites n d (parameters_of ms) kind.Choice ms)
unfolding spelled dashed is_spelled rows
choice_taken w n d ms i =
    let each = in_each_of key.When ms in
    let last = in_one_of key.Otherwise ms in
    omega (
      arith,
      occurs_append w (each ++ (last ++ [])) (by_each by_check (items_given (value_at key.When ms))),
      occurs_append w each (last ++ []),
      occurs_append w last [],
      i.each key.When is_cases by_check refl (case_own w n),
      i.one key.Otherwise refl,
      keys_within w n d (parameters_of ms) kind.Choice (key.When ∷ key.Otherwise ∷ []) ms refl,
    )

filter_taken : (w : List ℕ) (n : Names) (d : ℕ) (ms : Members) → first_fault (members_sites n d (parameters_of ms) kind.Case ms) ≡ None → Inner w n d kind.Case ms
    → occurs w (in_step_of key.Filter ms) ≤ stands w (members_sites n d (parameters_of ms) kind.Case ms)
unfolding spelled dashed is_spelled rows
filter_taken w n d ms e i =
    omega (
      arith,
      occurs_append w (in_own ms ++ []) (by_check ms),
      occurs_append w (in_own ms) [],
      i.steps refl,
      check_taken w n d (parameters_of ms) kind.Case ms case_checks.plain.simple case_checks.expression e,
      keys_within w n d (parameters_of ms) kind.Case (key.Steps ∷ key.Simple ∷ key.Expression ∷ []) ms refl,
    )

aggregate_taken : (w : List ℕ) (n : Names) (d : ℕ) (ms : Members) → first_fault (members_sites n d (parameters_of ms) kind.Aggregate ms) ≡ None → Inner w n d kind.Aggregate ms
    → occurs w (in_step_of key.Aggregate ms) ≤ stands w (members_sites n d (parameters_of ms) kind.Aggregate ms)
unfolding spelled dashed is_spelled rows
aggregate_taken w n d ms e i =
    omega (
      arith,
      occurs_append w (in_own ms ++ []) (by_completion (members_at key.CompletionPredicate ms)),
      occurs_append w (in_own ms) [],
      i.steps refl,
      value_within w n d (parameters_of ms) kind.Aggregate (row.May key.CompletionPredicate kind.CompletionPredicate) ms (λ o. by_completion (members_given o)) group_predicate refl
          (λ t f. completion_taken w n d (parameters_of ms) t f) e,
      keys_within w n d (parameters_of ms) kind.Aggregate (key.Steps ∷ key.CompletionPredicate ∷ []) ms refl,
    )

try_taken : (w : List ℕ) (n : Names) (d : ℕ) (ms : Members) → Inner w n d kind.Try ms → occurs w (in_step_of key.DoTry ms) ≤ stands w (members_sites n d (parameters_of ms) kind.Try ms)
unfolding spelled dashed is_spelled rows
try_taken w n d ms i =
    let each = in_each_of key.DoCatch ms in
    let last = in_one_of key.DoFinally ms in
    omega (
      arith,
      occurs_append w (in_own ms ++ (each ++ (last ++ []))) (by_each by_catch (items_given (value_at key.DoCatch ms))),
      occurs_append w (in_own ms) (each ++ (last ++ [])),
      occurs_append w each (last ++ []),
      occurs_append w last [],
      i.steps refl,
      i.each key.DoCatch is_catches by_catch refl (catch_own w n),
      i.one key.DoFinally refl,
      keys_within w n d (parameters_of ms) kind.Try (key.Steps ∷ key.DoCatch ∷ key.DoFinally ∷ []) ms refl,
    )

object_taken : (w : List ℕ) (n : Names) (d : ℕ) (k : Key) (ms : Members) → first_fault (members_sites n d (parameters_of ms) (step_kind k) ms) ≡ None → Inner w n d (step_kind k) ms
    → occurs w (in_step_of k ms) ≤ stands w (members_sites n d (parameters_of ms) (step_kind k) ms)
object_taken w n d key.Choice ms e i = choice_taken w n d ms i
object_taken w n d key.Filter ms e i = filter_taken w n d ms e i
object_taken w n d key.Aggregate ms e i = aggregate_taken w n d ms e i
object_taken w n d key.DoTry ms e i = try_taken w n d ms i
object_taken w n d k ms e i = plain_step_taken w n d k ms i

-- ---- nested

mutual
  unfolding sites_at shape_of

  pub list_taken : (w : List ℕ) (n : Names) (d : ℕ) (ps : List (List ℕ × List ℕ)) (v : Kind) (t : Json) → is_steps v ≡ true → IsFaultless n d ps v t → occurs w (in_list t) ≤ stands w (sites_at n d ps v t)
  list_taken w n d ps v (list ts) s e =
      let at = steps_of_items v s in
      let d2 = deeper d (list_of v) in
      omega (
        arith,
        steps_taken w n d2 0 ts (subst (λ (x : Kind). first_fault (items_sites n d2 x 0 ts) ≡ None) at (fits n d ps v (list ts) e).1),
        ap (λ (x : Kind). stands w (items_sites n d2 x 0 ts)) at,
        within_list w n d ps v ts,
      )
  list_taken w n d ps v t s e = omega arith

  steps_taken : (w : List ℕ) (n : Names) (d k : ℕ) (ts : Items) → first_fault (items_sites n d kind.Step k ts) ≡ None → occurs w (in_steps ts) ≤ stands w (items_sites n d kind.Step k ts)
  steps_taken w n d k no_items e = omega arith
  steps_taken w n d k (item t ts) e =
      let h = first_item n d kind.Step k t ts e in
      let here = sites_at n d [] kind.Step t in
      omega (
        arith,
        occurs_append w (in_step t) (in_steps ts),
        step_taken w n d [] t h.0,
        steps_taken w n d (k + 1) ts h.1,
        stands_append w (under (index_step k) here) (items_sites n d kind.Step (k + 1) ts),
        stands_under w (index_step k) here,
      )

  step_taken : (w : List ℕ) (n : Names) (d : ℕ) (ps : List (List ℕ × List ℕ)) (t : Json) → IsFaultless n d ps kind.Step t → occurs w (in_step t) ≤ stands w (sites_at n d ps kind.Step t)
  step_taken w n d ps (object ms) e =
      let h = fits n d ps kind.Step (object ms) e in
      omega (arith, only_taken w n d ms h.0 h.1.0, within_object w n d ps kind.Step ms)
  step_taken w n d ps t e = omega arith

  only_taken : (w : List ℕ) (n : Names) (d : ℕ) (ms : Members) → own_keys (shape_of kind.Step) (rows kind.Step) (keys_of ms) ≡ None → first_fault (members_sites n d (parameters_of ms) kind.Step ms) ≡ None
      → occurs w (in_only ms) ≤ stands w (members_sites n d (parameters_of ms) kind.Step ms)
  only_taken w n d no_members o e = omega arith
  only_taken w n d (member k t no_members) o e =
      let ps = parameters_of (member k t no_members) in
      let s = step_is n d k t (cause.UnknownStep k) o e in
      let here = sites_at n d ps (value_kind kind.Step k) t in
      omega (
        arith,
        ap (λ (x : Option Key). occurs w (in_value x t)) s.is,
        value_taken w n d ps s.step t s.known s.faultless,
        ap (λ (x : Kind). stands w (sites_at n d ps x t)) s.by_key,
        stands_append w (under (key_step k) here) [],
        stands_under w (key_step k) here,
      )
  only_taken w n d (member k t (member l u ms)) o e = absurd cc

  value_taken : (w : List ℕ) (n : Names) (d : ℕ) (ps : List (List ℕ × List ℕ)) (k : Key) (t : Json) → IsStepKey k → IsFaultless n d ps (step_kind k) t → occurs w (in_value (Some k) t) ≤ stands w (sites_at n d ps (step_kind k) t)
  value_taken w n d ps k (object ms) known e =
      let m = members_of_object n d ps (step_kind k) ms e in
      omega (
        arith,
        object_taken w n d k ms m (record {
          steps = λ h. own_taken w n d (parameters_of ms) (step_kind k) ms h m;
          each = λ q g f h own. each_of_taken w n d (parameters_of ms) (step_kind k) q g f ms h own m;
          one = λ q h. one_of_taken w n d (parameters_of ms) (step_kind k) q ms h m;
        }),
        within_object w n d ps (step_kind k) ms,
      )
  value_taken w n d ps k t known e = omega arith

  own_taken : (w : List ℕ) (n : Names) (d : ℕ) (ps : List (List ℕ × List ℕ)) (v : Kind) (ms : Members) → has_kind is_steps v key.Steps ≡ true → first_fault (members_sites n d ps v ms) ≡ None
      → occurs w (in_own ms) ≤ at_key w n d ps v key.Steps ms
  own_taken w n d ps v no_members h e = omega arith
  own_taken w n d ps v (member k t ms) h e =
      let m = first_member n d ps v k t ms e in
      own_by w (is_spelled key.Steps k) (in_list t) (in_own ms) (stands w (sites_at n d ps (value_kind v k) t)) (at_key w n d ps v key.Steps ms)
      (λ b. list_taken w n d ps (value_kind v k) t (kind_at is_steps v key.Steps k h b) m.0)
      (own_taken w n d ps v ms h m.1)

  inner_taken : (w : List ℕ) (n : Names) (d : ℕ) (ps : List (List ℕ × List ℕ)) (u : Kind) (t : Json) → has_kind is_steps u key.Steps ≡ true → IsFaultless n d ps u t → occurs w (in_inner t) ≤ stands w (sites_at n d ps u t)
  inner_taken w n d ps u (object ms) h e =
      let m = members_of_object n d ps u ms e in
      omega (
        arith,
        own_taken w n d (parameters_of ms) u ms h m,
        keys_within w n d (parameters_of ms) u (key.Steps ∷ []) ms refl,
        within_object w n d ps u ms,
      )
  inner_taken w n d ps u t h e = omega arith

  each_of_taken : (w : List ℕ) (n : Names) (d : ℕ) (ps : List (List ℕ × List ℕ)) (v : Kind) (q : Key) (g : Kind → Bool) (f : Members → List (List ℕ)) (ms : Members) → has_kind g v q ≡ true
      → ((u : Kind) → g u ≡ true → Own w n f (item_kind (list_of u))) → first_fault (members_sites n d ps v ms) ≡ None
      → occurs w (in_each_of q ms) + occurs w (by_each f (items_given (value_at q ms))) ≤ at_key w n d ps v q ms
  each_of_taken w n d ps v q g f no_members h own e = omega arith
  each_of_taken w n d ps v q g f (member k t ms) h own e =
      let m = first_member n d ps v k t ms e in
      each_by w f (is_spelled q k) t (in_each_of q ms) (value_at q ms) (stands w (sites_at n d ps (value_kind v k) t)) (at_key w n d ps v q ms)
      (λ b. each_list_taken w n d ps (value_kind v k) f t (own (value_kind v k) (kind_at g v q k h b)) m.0)
      (each_of_taken w n d ps v q g f ms h own m.1)

  each_list_taken : (w : List ℕ) (n : Names) (d : ℕ) (ps : List (List ℕ × List ℕ)) (v : Kind) (f : Members → List (List ℕ)) (t : Json) → Own w n f (item_kind (list_of v)) → IsFaultless n d ps v t
      → occurs w (in_each_list t) + occurs w (by_each f (items_given (Some t))) ≤ stands w (sites_at n d ps v t)
  each_list_taken w n d ps v f (list ts) own e =
      omega (
        arith,
        each_taken w n (deeper d (list_of v)) 0 (item_kind (list_of v)) f ts own (fits n d ps v (list ts) e).1,
        within_list w n d ps v ts,
      )
  each_list_taken w n d ps v f t own e = omega arith

  each_taken : (w : List ℕ) (n : Names) (d k : ℕ) (u : Kind) (f : Members → List (List ℕ)) (ts : Items) → Own w n f u → first_fault (items_sites n d u k ts) ≡ None
      → occurs w (in_each ts) + occurs w (by_each f ts) ≤ stands w (items_sites n d u k ts)
  each_taken w n d k u f no_items own e = omega arith
  each_taken w n d k u f (item t ts) own e =
      let h = first_item n d u k t ts e in
      let here = sites_at n d [] u t in
      omega (
        arith,
        occurs_append w (in_inner t) (in_each ts),
        occurs_append w (by_object f t) (by_each f ts),
        each_one_taken w n d [] u f t own h.0,
        each_taken w n d (k + 1) u f ts own h.1,
        stands_append w (under (index_step k) here) (items_sites n d u (k + 1) ts),
        stands_under w (index_step k) here,
      )

  each_one_taken : (w : List ℕ) (n : Names) (d : ℕ) (ps : List (List ℕ × List ℕ)) (u : Kind) (f : Members → List (List ℕ)) (t : Json) → Own w n f u → IsFaultless n d ps u t
      → occurs w (in_inner t) + occurs w (by_object f t) ≤ stands w (sites_at n d ps u t)
  each_one_taken w n d ps u f (object ms) own e =
      let m = members_of_object n d ps u ms e in
      omega (arith, own_taken w n d (parameters_of ms) u ms own.steps m, own.within d ms m, within_object w n d ps u ms)
  each_one_taken w n d ps u f t own e = omega arith

  one_of_taken : (w : List ℕ) (n : Names) (d : ℕ) (ps : List (List ℕ × List ℕ)) (v : Kind) (q : Key) (ms : Members) → has_kind is_nested v q ≡ true → first_fault (members_sites n d ps v ms) ≡ None
      → occurs w (in_one_of q ms) ≤ at_key w n d ps v q ms
  one_of_taken w n d ps v q no_members h e = omega arith
  one_of_taken w n d ps v q (member k t ms) h e =
      let m = first_member n d ps v k t ms e in
      own_by w (is_spelled q k) (in_inner t) (in_one_of q ms) (stands w (sites_at n d ps (value_kind v k) t)) (at_key w n d ps v q ms)
      (λ b. inner_taken w n d ps (value_kind v k) t (nested_steps (value_kind v k) (kind_at is_nested v q k h b)) m.0)
      (one_of_taken w n d ps v q ms h m.1)

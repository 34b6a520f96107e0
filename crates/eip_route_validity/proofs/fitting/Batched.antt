-- In the steps that a file says, a batch's split stands in the block of its aggregator, and nowhere else.
use Rattle.std.proofs.Common.{◌≡◌, Bool, true, false, not, ◌||◌, List, [], ◌∷◌, Option, Some, None, refl, sym, ap, subst}
use Rattle.std.specs.Prelude.{unwrap_or}
use Rattle.std.proofs.lemmas.Bool.{cond_both}
use Rattle.eip_text.specs.Json.{Json, list, object, word, Items, no_items, item, Members, no_members, member}
use Rattle.eip_exchange.specs.declared.setting.Strategy.{Strategy}
use Rattle.eip_exchange.specs.declared.setting.Strategy.TheVariants as strategy
use Rattle.eip_route.specs.Nest.{NestedGroups, splits, no_group, group}
use Rattle.eip_route.specs.Valid.{is_batch_strategy, is_fan_strategy}
use Rattle.eip_route.specs.declared.step.Fan.{Fan}
use Rattle.eip_route_grammar.specs.Keys.{is_spelled}
use Rattle.eip_route_grammar.specs.Objects.{value_at}
use Rattle.eip_route_grammar.specs.declared.keys.Key.{Key}
use Rattle.eip_route_grammar.specs.declared.keys.Key.TheVariants as key
use Rattle.eip_route_values.specs.Nesting.{Said, bare, framed, said, with_groups, followed, at_places, nest_at, nest_list, nest_steps, nest_step, nest_only, nest_value, nest_in, nest_inner, nest_branches_in, nest_branch_list, nest_branches, nest_each_in, nest_each_list, nest_each, nest_one_in, places, step_key}
use Rattle.eip_route_values.specs.Parts.{how_given, strategy_given, fan_in}
use Rattle.eip_route_values.specs.declared.places.Place.{Place}
use Rattle.eip_route_values.specs.declared.places.Place.TheVariants as place
use Rattle.eip_route_validity.specs.Fit.{is_parts, gathers, AreBatched, IsBatched, GroupsBatched}
use Rattle.eip_route_validity.proofs.fitting.Parts.{given_strategy}

-- ---- one step

followed_batched : (gs hs : NestedGroups) → GroupsBatched false gs → GroupsBatched false hs → GroupsBatched false (followed gs hs)
followed_batched no_group hs f g = g
followed_batched (group ss gs) hs f g = (f.0, followed_batched gs hs f.1 g)

no_parts : (o : Option Json) (fan : Fan) → is_parts (splits (how_given o) fan) ≡ false
no_parts None fan = refl
no_parts (Some t) fan = refl

no_batch : (o : Option Strategy) → is_fan_strategy o ≡ true → is_batch_strategy (unwrap_or o strategy.Latest) ≡ false
no_batch None h = refl
no_batch (Some strategy.Original) h = refl
no_batch (Some strategy.Latest) h = refl
no_batch (Some (strategy.Joined between)) h = refl
no_batch (Some strategy.Grouped) h = refl
no_batch (Some strategy.Sum) h = refl
no_batch (Some strategy.Batch) h = absurd (cc)

-- what an object holds, wherever it stands
record InnerBatched (ms : Members) : Type 0 where
  steps : AreBatched (nest_in ms)
  branches : GroupsBatched false (nest_branches_in ms)
  each : (q : Key) → GroupsBatched false (nest_each_in q ms)
  one : (q : Key) → GroupsBatched false (nest_one_in q ms)

-- an object that says no batch and gathers none
abbrev is_plain : Said → Bool
is_plain (bare s) = true
is_plain (framed f) = not (is_parts f || gathers f)

-- every key but that of a resequencer
abbrev IsOther : Key → Type 0
IsOther key.Resequence = ⊥
IsOther _ = Unit {0}

plain_said : (k : Key) (ms : Members) → IsOther k → is_plain (said k ms) ≡ true
plain_said key.Split ms o = ap (λ (b : Bool). not (b || false)) (no_parts (value_at key.Tokenize ms) (fan_in ms))
plain_said key.Aggregate ms o = ap not (no_batch (strategy_given (value_at key.AggregationStrategy ms)) (given_strategy (value_at key.AggregationStrategy ms)))
plain_said key.Resequence ms o = absurd o
plain_said _ ms o = refl

neither : (a b : Bool) → not (a || b) ≡ true → (a ≡ false) × (b ≡ false)
neither true b h = absurd cc
neither false true h = absurd cc
neither false false h = (refl, refl)

said_batched : (s : Said) (gs : NestedGroups) → is_plain s ≡ true → GroupsBatched false gs → IsBatched (with_groups s gs)
said_batched (bare s) gs p g = tt
said_batched (framed f) gs p g =
    let plain = neither (is_parts f) (gathers f) p in
    (plain.0, subst (λ (b : Bool). GroupsBatched b gs) (sym plain.1) g)

-- places of which none is a batch's
abbrev are_plain : List Place → Bool
are_plain [] = true
are_plain (place.Batch ∷ ps) = false
are_plain (_ ∷ ps) = are_plain ps

plain_places : (k : Key) → IsOther k → are_plain (places k) ≡ true
plain_places key.Resequence o = absurd o
plain_places _ o = refl

places_batched : (ms : Members) (ps : List Place) → InnerBatched ms → are_plain ps ≡ true → GroupsBatched false (at_places (nest_at ms) ps)
places_batched ms [] i p = tt
places_batched ms (place.Steps ∷ ps) i p = (i.steps, places_batched ms ps i p)
places_batched ms (place.Branches ∷ ps) i p = followed_batched (nest_branches_in ms) (at_places (nest_at ms) ps) i.branches (places_batched ms ps i p)
places_batched ms (place.Each q ∷ ps) i p = followed_batched (nest_each_in q ms) (at_places (nest_at ms) ps) (i.each q) (places_batched ms ps i p)
places_batched ms (place.One q ∷ ps) i p = followed_batched (nest_one_in q ms) (at_places (nest_at ms) ps) (i.one q) (places_batched ms ps i p)
places_batched ms (place.Batch ∷ ps) i p = absurd cc

other_batched : (k : Key) (ms : Members) → IsOther k → InnerBatched ms → IsBatched (with_groups (said k ms) (at_places (nest_at ms) (places k)))
other_batched k ms o i = said_batched (said k ms) (at_places (nest_at ms) (places k)) (plain_said k ms o) (places_batched ms (places k) i (plain_places k o))

object_batched : (k : Key) (ms : Members) → InnerBatched ms → IsBatched (with_groups (said k ms) (at_places (nest_at ms) (places k)))
object_batched key.Resequence ms i = (refl, (refl, i.steps))
object_batched k ms i = other_batched k ms tt i

-- ---- nested

mutual
  pub list_batched : (t : Json) → AreBatched (nest_list t)
  list_batched (list ts) = steps_batched ts
  list_batched _ = tt

  pub steps_batched : (ts : Items) → AreBatched (nest_steps ts)
  steps_batched no_items = tt
  steps_batched (item t ts) = (step_batched t, steps_batched ts)

  step_batched : (t : Json) → IsBatched (nest_step t)
  step_batched (object ms) = only_batched ms
  step_batched _ = tt

  only_batched : (ms : Members) → IsBatched (nest_only ms)
  only_batched no_members = tt
  only_batched (member k t ms) = value_batched (step_key k) t

  value_batched : (o : Option Key) (t : Json) → IsBatched (nest_value o t)
  value_batched None (object ms) = tt
  value_batched (Some k) (object ms) =
      object_batched k ms (record { steps = in_batched ms; branches = branches_in_batched ms; each = λ q. each_in_batched q ms; one = λ q. one_in_batched q ms })
  value_batched None (word w) = tt
  value_batched (Some k) (word w) = tt
  value_batched o _ = tt

  in_batched : (ms : Members) → AreBatched (nest_in ms)
  in_batched no_members = tt
  in_batched (member k t ms) = cond_both (is_spelled key.Steps k) (nest_list t) (nest_in ms) AreBatched (λ b. list_batched t) (λ b. in_batched ms)

  inner_batched : (t : Json) → AreBatched (nest_inner t)
  inner_batched (object ms) = in_batched ms
  inner_batched _ = tt

  branches_in_batched : (ms : Members) → GroupsBatched false (nest_branches_in ms)
  branches_in_batched no_members = tt
  branches_in_batched (member k t ms) = cond_both (is_spelled key.Steps k) (nest_branch_list t) (nest_branches_in ms) (GroupsBatched false) (λ b. branch_list_batched t) (λ b. branches_in_batched ms)

  branch_list_batched : (t : Json) → GroupsBatched false (nest_branch_list t)
  branch_list_batched (list ts) = branches_batched ts
  branch_list_batched _ = tt

  branches_batched : (ts : Items) → GroupsBatched false (nest_branches ts)
  branches_batched no_items = tt
  branches_batched (item t ts) = ((step_batched t, tt), branches_batched ts)

  each_in_batched : (q : Key) (ms : Members) → GroupsBatched false (nest_each_in q ms)
  each_in_batched q no_members = tt
  each_in_batched q (member k t ms) = cond_both (is_spelled q k) (nest_each_list t) (nest_each_in q ms) (GroupsBatched false) (λ b. each_list_batched t) (λ b. each_in_batched q ms)

  each_list_batched : (t : Json) → GroupsBatched false (nest_each_list t)
  each_list_batched (list ts) = each_batched ts
  each_list_batched _ = tt

  each_batched : (ts : Items) → GroupsBatched false (nest_each ts)
  each_batched no_items = tt
  each_batched (item t ts) = (inner_batched t, each_batched ts)

  one_in_batched : (q : Key) (ms : Members) → GroupsBatched false (nest_one_in q ms)
  one_in_batched q no_members = tt
  one_in_batched q (member k t ms) = cond_both (is_spelled q k) (group (nest_inner t) no_group) (nest_one_in q ms) (GroupsBatched false) (λ b. (inner_batched t, tt)) (λ b. one_in_batched q ms)

-- Steps that hold blocks: what is printed of them has no fault and its keys in order.
use Rattle.std.proofs.Common.{◌≡◌, ℕ, ◌+◌, Bool, true, false, List, [], ◌∷◌, Option, Some, None, is_some, refl, sym, ap, subst, ◌∙◌, arith, ◌<◌, ◌||◌, cond, ◌++◌, suc, ◌-◌, ◌≤◌, codes}
use Rattle.std.specs.Prelude.{nat_le, is_none, not, ◌&&◌}
use Rattle.std.proofs.lemmas.Bool.{and_parts, lt-leb, false≢true}
use Rattle.eip_text.specs.Json.{Json, items_of, Members, members_of, flag, word, list, Items}
use Rattle.eip_exchange.specs.declared.setting.How.{How}
use Rattle.eip_exchange.specs.declared.setting.Key as setting
use Rattle.eip_exchange.specs.declared.setting.Strategy.{Strategy}
use Rattle.eip_route.specs.Nest.{Gathering, Frame, chooses, filters, splits, multicasts, aggregates, runs_once, tries, Catching, NestedSteps, NestedGroups, holds, none, more, no_group, group, rest_of, past, plain_fan, batching, batch_groups}
use Rattle.eip_route.specs.Valid.{is_fan, is_given_name, is_completed, is_token, is_filled, is_split, is_batch_strategy, is_key, is_plain_fan}
use Rattle.eip_uri.specs.Ranges.{is_between}
use Rattle.eip_route.specs.declared.route.Names.{Names}
use Rattle.eip_route.specs.declared.step.Check.{Check}
use Rattle.eip_route.specs.declared.step.Expr.{Expr}
use Rattle.eip_route.specs.declared.step.Fan.{Fan}
use Rattle.eip_route_grammar.specs.Keys.{is_spelled, spelled, dashed}
use Rattle.eip_route_grammar.specs.Objects.{value_at, has_key, plainly, completes}
use Rattle.eip_route_grammar.specs.Table.{rows, rule_of, shape_of, list_of as listed}
use Rattle.eip_route_validity.specs.Fit.{ExprFits, CheckFits, MayCheckFit, ChecksFit, CatchesFit, GatheringFits, AnyGatheringFits, is_parts, gathers, FrameFits, AreBranches, FrameHolds, MayPredicateFit, HasGroup, GroupsFit}
use Rattle.eip_route_values.specs.Nesting.{nest_steps, nest_step}
use Rattle.eip_route_canonical.specs.Canonical.{Pairs, object_of, list_of, alone, check_pairs, words, guarded_json, choice_json, nested_pairs, catch_json, try_json, split_json, splits_json, multicast_json, aggregate_json, resequence_json, idempotent_json, first_json, all_json, cases_json, catches_json, last_steps, frame_json, steps_json, groups_json}
use Rattle.eip_route_roundtrip.proofs.Batches.{resequence_again, resequence_fine, resequence_good, batch_fine}
use Rattle.eip_route_roundtrip.proofs.Objects.{set_value, unset_value, word_value, strategy_value, number_value, completion_value, nested_value, catches_value, when_value}
use Rattle.eip_route_roundtrip.proofs.Slots.{Slot, filled, slot_at, value_filled, sure, key_value, put_one, ◌and◌}
use Rattle.eip_simple_read.specs.Spelling.{predicate_text}
use Rattle.eip_simple_read.specs.declared.tree.Predicate.{Predicate}
use Rattle.eip_route_faults.specs.Sites.{found, has_none, own_list, item_kind, deeper, sites_at, items_sites, first_fault}
use Rattle.eip_route_grammar.specs.declared.keys.Key.{Key}
use Rattle.eip_route_grammar.specs.declared.table.Listed.{Listed}
use Rattle.eip_route_grammar.specs.declared.table.Nests.TheVariants as nests
use Rattle.eip_route_grammar.specs.declared.table.Kind.{Kind}
use Rattle.eip_route_roundtrip.proofs.Fine.{Fine, MayBeFine, ItemsFine, SlotsFine, HasKeys, none_found, none_both, word_fine, object_fine, alone_fine, no_items_fine, item_fine}
use Rattle.eip_route_roundtrip.proofs.FramesAgain.{other_gathering, split_slots, split_puts, multicast_slots, multicast_puts, aggregate_slots, aggregate_puts, idempotent_slots, idempotent_puts, choice_slots, choice_puts, catch_slots, catch_puts, try_slots, try_puts}
use Rattle.eip_route_roundtrip.proofs.Keyed.{keys_fine}
use Rattle.eip_route_roundtrip.proofs.Values.{predicate_fine, filled_fine, repository_fine, stored_fine, flag_fine, set_fine, unset_fine, number_fine, strategy_fine, group_fine}
use Rattle.eip_route_roundtrip.proofs.Ordered.{Good, deeper as higher, AllGood, no_good, more_good, list_good, both_good, Run, join, single, object_good, alone_good, set_in, unset_in, word_in}
use Rattle.eip_route_roundtrip.proofs.OrderedParts.{constant_in, named_in, simple_in, expr_good, check_in, strategy_in, group_in, predicate_in, path_in, token_in, number_in, MayBeGood, nested_in, when_in, catches_in, words_good}
use Rattle.eip_route_roundtrip.proofs.Leaves.{simple_fine, constant_fine, named_fine, value_fine}
use Rattle.eip_exchange.specs.declared.setting.How.TheVariants as how
use Rattle.eip_exchange.specs.declared.setting.Strategy.TheVariants as strategy
use Rattle.eip_route.specs.declared.step.Check.TheVariants as check
use Rattle.eip_route.specs.declared.step.Expr.TheVariants as expr
use Rattle.eip_route_grammar.specs.declared.keys.Key.TheVariants as key
use Rattle.eip_route_grammar.specs.declared.fault.Cause.TheVariants as cause
use Rattle.eip_route_grammar.specs.declared.table.Kind.TheVariants as kind
use Rattle.eip_route_grammar.specs.declared.table.Rule.TheVariants as rule

-- ---- and none has a fault: lists

not_deep : (d : ℕ) → d < 16 → nat_le 16 d ≡ false
not_deep d h = lt-leb 16 d h

pub block_fine : (n : Names) (d : ℕ) (ps : List (List ℕ × List ℕ)) (ts : Items) → d < 16 → ItemsFine n (d + 1) kind.Step ts → Fine n d ps kind.Steps (list ts)
unfolding sites_at listed
block_fine n d ps ts h hs =
    none_both (found (own_list d (listed kind.Steps) (has_none ts))) (items_sites n (d + 1) kind.Step 0 ts)
    (none_found (own_list d (listed kind.Steps) (has_none ts)) (ap (λ (t : Bool). cond t (Some cause.TooNested) None) (not_deep d h))) (hs 0)

pub branches_fine : (n : Names) (d : ℕ) (ps : List (List ℕ × List ℕ)) (ts : Items) → has_none ts ≡ false → d < 16 → ItemsFine n (d + 1) kind.Step ts → Fine n d ps kind.Branches (list ts)
unfolding sites_at listed
branches_fine n d ps ts e h hs =
    none_both (found (own_list d (listed kind.Branches) (has_none ts))) (items_sites n (d + 1) kind.Step 0 ts)
    (none_found (own_list d (listed kind.Branches) (has_none ts))
    (ap (λ (t : Bool). own_list d (listed kind.Branches) t) e ∙ ap (λ (t : Bool). cond t (Some cause.TooNested) None) (not_deep d h))) (hs 0)

-- a list that doesn't nest and has items
pub filled_list_fine : (n : Names) (d : ℕ) (ps : List (List ℕ × List ℕ)) (v u : Kind) (ts : Items) → listed v ≡ Some (record { item = u; nests = nests.Nowhere; filled = true }) → has_none ts ≡ false → ItemsFine n d u ts → Fine n d ps v (list ts)
unfolding sites_at
filled_list_fine n d ps v u ts l e hs =
    ap (λ (r : Option Listed). first_fault (found (own_list d r (has_none ts)) ++ items_sites n (deeper d r) (item_kind r) 0 ts)) l
    ∙ none_both (found (own_list d (Some (record { item = u; nests = nests.Nowhere; filled = true })) (has_none ts))) (items_sites n d u 0 ts)
    (none_found (own_list d (Some (record { item = u; nests = nests.Nowhere; filled = true })) (has_none ts)) (ap (λ (t : Bool). own_list d (Some (record { item = u; nests = nests.Nowhere; filled = true })) t) e)) (hs 0)

-- one that may be empty
pub plain_list_fine : (n : Names) (d : ℕ) (ps : List (List ℕ × List ℕ)) (v u : Kind) (ts : Items) → listed v ≡ Some (record { item = u; nests = nests.Nowhere; filled = false }) → ItemsFine n d u ts → Fine n d ps v (list ts)
unfolding sites_at
plain_list_fine n d ps v u ts l hs =
    ap (λ (r : Option Listed). first_fault (found (own_list d r (has_none ts)) ++ items_sites n (deeper d r) (item_kind r) 0 ts)) l ∙ hs 0

-- ---- names of exceptions

words_fine : (n : Names) (d : ℕ) (ws : List (List ℕ)) → ItemsFine n d (kind.Leaf rule.Word) (items_of (words ws))
unfolding rule_of
words_fine n d [] = no_items_fine n d (kind.Leaf rule.Word)
words_fine n d (w ∷ ws) = item_fine n d (kind.Leaf rule.Word) (word w) (items_of (words ws)) (word_fine n d [] (kind.Leaf rule.Word) rule.Word w refl refl refl) (words_fine n d ws)

has_words : (ws : List (List ℕ)) → is_filled ws ≡ true → has_none (items_of (words ws)) ≡ false
has_words [] h = absurd cc
has_words (w ∷ ws) h = refl

pub exceptions_fine : (n : Names) (d : ℕ) (ws : List (List ℕ)) → is_filled ws ≡ true → Fine n d [] kind.Exceptions (list_of (words ws))
unfolding listed
exceptions_fine n d ws h = filled_list_fine n d [] kind.Exceptions (kind.Leaf rule.Word) (items_of (words ws)) refl (has_words ws h) (words_fine n d ws)

-- ---- choices and filters

-- the steps alone
lone_steps_fine : (n : Names) (d : ℕ) (steps : Json) → Fine n d [] kind.Steps steps → Fine n d [] kind.Nested (alone (codes "steps") steps)
unfolding shape_of rows is_spelled spelled dashed
lone_steps_fine n d steps h = alone_fine n d [] kind.Nested (codes "steps") steps refl refl h

nested_fine : (n : Names) (d : ℕ) (o : Option Json) → MayBeFine n d [] kind.Steps o → MayBeFine n d [] kind.Nested (nested_value o)
nested_fine n d None h = tt
nested_fine n d (Some steps) h = lone_steps_fine n d steps h

pub choice_fine : (n : Names) (d : ℕ) (otherwise : Option Json) (cases : Json) → MayBeFine n d [] kind.Steps otherwise → Fine n d [] kind.Cases cases → Fine n d [] kind.Step (choice_json (nested_pairs (codes "otherwise") otherwise) cases)
unfolding choice_json shape_of rows is_spelled spelled dashed
choice_fine n d otherwise cases o h =
    alone_fine n d [] kind.Step (codes "choice") _ refl refl
    (object_fine n d [] kind.Choice _ (choice_slots otherwise cases) (choice_puts otherwise cases) (record { own = keys_fine (rows kind.Choice) (choice_slots otherwise cases) refl refl; parameters = refl })
    (nested_fine n d otherwise o, (h, tt)) refl)

abbrev guarded_slots : List ℕ → Json → Json → List Slot
guarded_slots k t steps = sure k t ∷ sure (codes "steps") steps ∷ []

-- a case, and what stands in a filter
pub guarded_fine : (n : Names) (d : ℕ) (c : Check) (steps : Json) → CheckFits n c → Fine n d [] kind.Steps steps → Fine n d [] kind.Case (guarded_json c steps)
unfolding guarded_json shape_of rows rule_of is_spelled spelled dashed
guarded_fine n d (check.Simple p) steps fits h =
    object_fine n d [] kind.Case _ (guarded_slots (codes "simple") (word (predicate_text p)) steps) (put_one and put_one)
    (record { own = keys_fine (rows kind.Case) (guarded_slots (codes "simple") (word (predicate_text p)) steps) refl refl; parameters = refl }) (predicate_fine n d [] kind.Condition p refl fits, (h, tt)) refl
guarded_fine n d (check.Fixed b) steps fits h =
    object_fine n d [] kind.Case _ (guarded_slots (codes "constant") (flag b) steps) (put_one and put_one)
    (record { own = keys_fine (rows kind.Case) (guarded_slots (codes "constant") (flag b) steps) refl refl; parameters = refl }) (flag_fine n d [] kind.Fixed b refl, (h, tt)) refl
guarded_fine n d (check.Stored name) steps fits h =
    object_fine n d [] kind.Case _ (guarded_slots (codes "ref") (word name) steps) (put_one and put_one)
    (record { own = keys_fine (rows kind.Case) (guarded_slots (codes "ref") (word name) steps) refl refl; parameters = refl }) (stored_fine n d [] (kind.Leaf rule.StoredPredicate) name refl fits, (h, tt)) refl

pub filter_fine : (n : Names) (d : ℕ) (c : Check) (steps : Json) → CheckFits n c → Fine n d [] kind.Steps steps → Fine n d [] kind.Step (alone (codes "filter") (guarded_json c steps))
unfolding shape_of rows is_spelled spelled dashed
filter_fine n d c steps fits h = alone_fine n d [] kind.Step (codes "filter") (guarded_json c steps) refl refl (guarded_fine n d c steps fits h)

-- ---- splits and multicasts

split_keys : (h : How) (fan : Fan) (steps : Json) → is_token h ≡ true → HasKeys kind.Split (split_slots h fan steps)
unfolding shape_of rows is_spelled spelled dashed
split_keys (how.Token token) fan steps t = record { own = keys_fine (rows kind.Split) (split_slots (how.Token token) fan steps) refl refl; parameters = refl }
split_keys how.JsonArray fan steps t = record { own = keys_fine (rows kind.Split) (split_slots how.JsonArray fan steps) refl refl; parameters = refl }
split_keys (how.Batch k) fan steps t = absurd cc

split_values : (n : Names) (d : ℕ) (h : How) (fan : Fan) (steps : Json) → is_token h ≡ true → MayBeFine n d [] (kind.Leaf rule.Strategy) (strategy_value fan.strategy) → MayBeFine n d [] (kind.Leaf rule.Flag) (set_value fan.parallel)
    → MayBeFine n d [] (kind.Leaf rule.Flag) (set_value fan.share) → MayBeFine n d [] (kind.Leaf rule.Flag) (set_value fan.stop) → Fine n d [] kind.Steps steps → SlotsFine n d [] kind.Split (split_slots h fan steps)
unfolding rows rule_of is_spelled spelled dashed
split_values n d (how.Token token) fan steps t s p u q h = (s, (p, (u, (h, (q, (filled_fine n d [] kind.Tokenize token refl t, tt))))))
split_values n d how.JsonArray fan steps t s p u q h = (s, (word_fine n d [] (kind.Leaf rule.WholeArray) rule.WholeArray (codes "$[*]") refl refl refl, (p, (u, (h, (q, tt))))))
split_values n d (how.Batch k) fan steps t s p u q h = absurd cc

pub split_fine : (n : Names) (d : ℕ) (h : How) (fan : Fan) (steps : Json) → is_token h ≡ true → is_fan fan ≡ true → Fine n d [] kind.Steps steps → Fine n d [] kind.Step (split_json h fan steps)
unfolding split_json shape_of rows rule_of is_spelled spelled dashed
split_fine n d h fan steps t s f =
    alone_fine n d [] kind.Step (codes "split") _ refl refl
    (object_fine n d [] kind.Split _ (split_slots h fan steps) (split_puts h fan steps) (split_keys h fan steps t)
    (split_values n d h fan steps t (strategy_fine n d [] (kind.Leaf rule.Strategy) fan.strategy refl s) (set_fine n d [] (kind.Leaf rule.Flag) fan.parallel refl) (set_fine n d [] (kind.Leaf rule.Flag) fan.share refl) (set_fine n d [] (kind.Leaf rule.Flag) fan.stop refl) f) refl)

pub multicast_fine : (n : Names) (d : ℕ) (fan : Fan) (steps : Json) → is_fan fan ≡ true → Fine n d [] kind.Branches steps → Fine n d [] kind.Step (multicast_json fan steps)
unfolding multicast_json shape_of rows rule_of is_spelled spelled dashed
multicast_fine n d fan steps s f =
    alone_fine n d [] kind.Step (codes "multicast") _ refl refl
    (object_fine n d [] kind.Multicast _ (multicast_slots fan steps) (multicast_puts fan steps) (record { own = keys_fine (rows kind.Multicast) (multicast_slots fan steps) refl refl; parameters = refl })
    (strategy_fine n d [] (kind.Leaf rule.Strategy) fan.strategy refl s, (set_fine n d [] (kind.Leaf rule.Flag) fan.parallel refl, (set_fine n d [] (kind.Leaf rule.Flag) fan.share refl, (f, (set_fine n d [] (kind.Leaf rule.Flag) fan.stop refl, tt))))) refl)

-- ---- aggregators

completion_fine : (n : Names) (d : ℕ) (o : Option Predicate) → MayPredicateFit o → MayBeFine n d [] kind.CompletionPredicate (completion_value o)
unfolding shape_of rows rule_of is_spelled spelled dashed
completion_fine n d None fits = tt
completion_fine n d (Some p) fits = alone_fine n d [] kind.CompletionPredicate (codes "simple") (word (predicate_text p)) refl refl (predicate_fine n d [] kind.Condition p refl fits)

given_number : (o : Option ℕ) → is_some (number_value o) ≡ is_some o
given_number None = refl
given_number (Some k) = refl

given_completion : (o : Option Predicate) → is_some (completion_value o) ≡ is_some o
given_completion None = refl
given_completion (Some p) = refl

plainly_set : (b : Bool) → plainly (set_value b) ≡ b
plainly_set true = refl
plainly_set false = refl

-- an object has a key where the slot has a value
key_slot : (q : Key) (ss : List Slot) → has_key q (members_of (filled ss)) ≡ is_some (slot_at q ss)
key_slot q ss = key_value q (members_of (filled ss)) ∙ ap is_some (value_filled q ss)

completed_by : (ms : Members) (a b c e : Bool) → has_key key.CompletionSize ms ≡ a → has_key key.CompletionTimeout ms ≡ b → has_key key.CompletionPredicate ms ≡ c → plainly (value_at key.ForceCompletionOnStop ms) ≡ e
    → completes ms ≡ ((a || b) || (c || e))
completed_by ms a b c e p q r s = λ i. (p i || q i) || (r i || s i)

completes_again : (g : Gathering) (steps : Json) → completes (members_of (filled (aggregate_slots g steps))) ≡ is_completed g.size g.timeout g.predicate g.force
unfolding is_spelled spelled dashed
completes_again g steps =
    let ss : List Slot = aggregate_slots g steps in
    completed_by (members_of (filled ss)) (is_some g.size) (is_some g.timeout) (is_some g.predicate) g.force
    (key_slot key.CompletionSize ss ∙ given_number g.size) (key_slot key.CompletionTimeout ss ∙ given_number g.timeout)
    (key_slot key.CompletionPredicate ss ∙ given_completion g.predicate) (ap plainly (value_filled key.ForceCompletionOnStop ss) ∙ plainly_set g.force)

pub aggregate_fine : (n : Names) (d : ℕ) (g : Gathering) (steps : Json) → GatheringFits g → Fine n d [] kind.Steps steps → Fine n d [] kind.Step (aggregate_json g steps)
unfolding aggregate_json shape_of rows rule_of is_spelled spelled dashed
aggregate_fine n d g steps fits f =
    alone_fine n d [] kind.Step (codes "aggregate") _ refl refl
    (object_fine n d [] kind.Aggregate _ (aggregate_slots g steps) (aggregate_puts g steps) (record { own = keys_fine (rows kind.Aggregate) (aggregate_slots g steps) refl refl; parameters = refl }) (
      group_fine n d [] (kind.Leaf rule.GroupStrategy) g.strategy refl fits.strategy,
      (
        completion_fine n d g.predicate fits.predicate,
        (
          number_fine n d [] (kind.Leaf (rule.Count 1 1000000)) 1 1000000 g.size refl fits.size,
          (
            number_fine n d [] (kind.Leaf (rule.Count 1 1000000000)) 1 1000000000 g.timeout refl fits.timeout,
            (value_fine n d [] g.key fits.key, (set_fine n d [] (kind.Leaf rule.Flag) g.force refl, (f, tt))),
          ),
        ),
      ),
    )
    (ap (λ (t : Bool). cond t None (Some cause.NoCompletion)) (completes_again g steps ∙ fits.completed)))

-- ---- tries

asked_fine : (n : Names) (d : ℕ) (c : Check) → CheckFits n c → Fine n d [] kind.OnWhen (object_of (check_pairs c))
unfolding shape_of rows rule_of is_spelled spelled dashed
asked_fine n d (check.Simple p) fits = alone_fine n d [] kind.OnWhen (codes "simple") (word (predicate_text p)) refl refl (predicate_fine n d [] kind.Condition p refl fits)
asked_fine n d (check.Fixed b) fits = alone_fine n d [] kind.OnWhen (codes "constant") (flag b) refl refl (flag_fine n d [] kind.Fixed b refl)
asked_fine n d (check.Stored name) fits = alone_fine n d [] kind.OnWhen (codes "ref") (word name) refl refl (stored_fine n d [] (kind.Leaf rule.StoredPredicate) name refl fits)

when_fine : (n : Names) (d : ℕ) (o : Option Check) → MayCheckFit n o → MayBeFine n d [] kind.OnWhen (when_value o)
when_fine n d None fits = tt
when_fine n d (Some c) fits = asked_fine n d c fits

pub catch_fine : (n : Names) (d : ℕ) (names : List (List ℕ)) (o : Option Check) (steps : Json) → is_filled names ≡ true → MayCheckFit n o → Fine n d [] kind.Steps steps → Fine n d [] kind.Catch (catch_json names o steps)
unfolding catch_json shape_of rows is_spelled spelled dashed
catch_fine n d names o steps h fits f =
    object_fine n d [] kind.Catch _ (catch_slots names o steps) (catch_puts names o steps) (record { own = keys_fine (rows kind.Catch) (catch_slots names o steps) refl refl; parameters = refl })
    (exceptions_fine n d names h, (when_fine n d o fits, (f, tt))) refl

pub try_fine : (n : Names) (d : ℕ) (catches : List Json) (finish : Option Json) (steps : Json) → MayBeFine n d [] kind.Catches (catches_value catches) → MayBeFine n d [] kind.Steps finish → Fine n d [] kind.Steps steps
    → Fine n d [] kind.Step (try_json catches finish steps)
unfolding try_json shape_of rows is_spelled spelled dashed
try_fine n d catches finish steps c l f =
    alone_fine n d [] kind.Step (codes "doTry") _ refl refl
    (object_fine n d [] kind.Try _ (try_slots catches finish steps) (try_puts catches finish steps) (record { own = keys_fine (rows kind.Try) (try_slots catches finish steps) refl refl; parameters = refl })
    (c, (nested_fine n d finish l, (f, tt))) refl)

-- ---- steps that run once

once_keys : (e : Expr) (name : Option (List ℕ)) (skip eager remove : Bool) (steps : Json) → HasKeys kind.IdempotentConsumer (idempotent_slots e name skip eager remove steps)
unfolding shape_of rows is_spelled spelled dashed
once_keys (expr.Simple t) name skip eager remove steps = record { own = keys_fine (rows kind.IdempotentConsumer) (idempotent_slots (expr.Simple t) name skip eager remove steps) refl refl; parameters = refl }
once_keys (expr.Constant w) name skip eager remove steps = record { own = keys_fine (rows kind.IdempotentConsumer) (idempotent_slots (expr.Constant w) name skip eager remove steps) refl refl; parameters = refl }
once_keys (expr.Header w) name skip eager remove steps = record { own = keys_fine (rows kind.IdempotentConsumer) (idempotent_slots (expr.Header w) name skip eager remove steps) refl refl; parameters = refl }
once_keys (expr.Property w) name skip eager remove steps = record { own = keys_fine (rows kind.IdempotentConsumer) (idempotent_slots (expr.Property w) name skip eager remove steps) refl refl; parameters = refl }

once_values : (n : Names) (d : ℕ) (e : Expr) (name : Option (List ℕ)) (skip eager remove : Bool) (steps : Json) → ExprFits e → MayBeFine n d [] (kind.Leaf rule.Flag) (unset_value eager)
    → MayBeFine n d [] (kind.Leaf rule.Repository) (word_value name) → MayBeFine n d [] (kind.Leaf rule.Flag) (unset_value remove) → MayBeFine n d [] (kind.Leaf rule.Flag) (unset_value skip)
    → Fine n d [] kind.Steps steps → SlotsFine n d [] kind.IdempotentConsumer (idempotent_slots e name skip eager remove steps)
unfolding rows is_spelled spelled dashed
once_values n d (expr.Simple t) name skip eager remove steps fits p q r s f = (p, (q, (r, (simple_fine n d t fits, (s, (f, tt))))))
once_values n d (expr.Constant w) name skip eager remove steps fits p q r s f = (constant_fine n d w, (p, (q, (r, (s, (f, tt))))))
once_values n d (expr.Header w) name skip eager remove steps fits p q r s f = (p, (named_fine n d w fits, (q, (r, (s, (f, tt))))))
once_values n d (expr.Property w) name skip eager remove steps fits p q r s f = (p, (named_fine n d w fits, (q, (r, (s, (f, tt))))))

pub once_fine : (n : Names) (d : ℕ) (e : Expr) (name : Option (List ℕ)) (skip eager remove : Bool) (steps : Json) → ExprFits e → is_given_name name ≡ true → Fine n d [] kind.Steps steps
    → Fine n d [] kind.Step (idempotent_json e name skip eager remove steps)
unfolding idempotent_json shape_of rows rule_of is_spelled spelled dashed
once_fine n d e name skip eager remove steps fits h f =
    alone_fine n d [] kind.Step (codes "idempotentConsumer") _ refl refl
    (object_fine n d [] kind.IdempotentConsumer _ (idempotent_slots e name skip eager remove steps) (idempotent_puts e name skip eager remove steps) (once_keys e name skip eager remove steps)
    (once_values n d e name skip eager remove steps fits (unset_fine n d [] (kind.Leaf rule.Flag) eager refl) (repository_fine n d [] (kind.Leaf rule.Repository) name refl h)
    (unset_fine n d [] (kind.Leaf rule.Flag) remove refl) (unset_fine n d [] (kind.Leaf rule.Flag) skip refl) f) refl)

-- ---- a batch

-- the frame of the split of a batch that fits
pub record IsParts (f : Frame) : Type 0 where
  pub by : setting.Key
  pub is : f ≡ splits (how.Batch by) plain_fan
  pub good : is_key by ≡ true

plain_by : (s : Option Strategy) (p q r : Bool) → (is_none s && (not p && (not q && not r))) ≡ true → ◌≡◌ {A = Fan} (record { strategy = s; parallel = p; stop = q; share = r }) plain_fan
plain_by None false false false h = refl
plain_by None false false true h = absurd cc
plain_by None false true r h = absurd cc
plain_by None true q r h = absurd cc
plain_by (Some s) p q r h = absurd cc

pub parts_are : (n : Names) (f : Frame) → FrameFits n f → is_parts f ≡ true → IsParts f
parts_are n (splits (how.Batch k) fan) h e =
    let p = and_parts (is_key k) (is_plain_fan fan) h in
    record { by = k; is = ap (λ (x : Fan). splits (how.Batch k) x) (plain_by fan.strategy fan.parallel fan.stop fan.share p.1); good = p.0 }
parts_are n (splits (how.Token token) fan) h e = absurd cc
parts_are n (splits how.JsonArray fan) h e = absurd cc
parts_are n (chooses cs l) h e = absurd cc
parts_are n (filters c) h e = absurd cc
parts_are n (multicasts fan) h e = absurd cc
parts_are n (aggregates g) h e = absurd cc
parts_are n (runs_once k name skip eager remove) h e = absurd cc
parts_are n (tries cs l) h e = absurd cc

-- that of the aggregator that gathers one
pub record IsGatherer (f : Frame) : Type 0 where
  pub size : ℕ
  pub timeout : ℕ
  pub is : f ≡ aggregates (batching size timeout)
  pub small : is_between 1 1000 size ≡ true
  pub soon : is_between 1 1000000000 timeout ≡ true

gatherer_by : (b : Bool) (g : Gathering) → b ≡ true → AnyGatheringFits b g → IsGatherer (aggregates g)
gatherer_by true g e h = record { size = h.size; timeout = h.timeout; is = ap aggregates h.is; small = h.small; soon = h.soon }
gatherer_by false g e h = absurd cc

pub gatherers_are : (n : Names) (f : Frame) → FrameFits n f → gathers f ≡ true → IsGatherer f
gatherers_are n (aggregates g) h e = gatherer_by (is_batch_strategy g.strategy) g e h
gatherers_are n (splits s fan) h e = absurd cc
gatherers_are n (chooses cs l) h e = absurd cc
gatherers_are n (filters c) h e = absurd cc
gatherers_are n (multicasts fan) h e = absurd cc
gatherers_are n (runs_once k name skip eager remove) h e = absurd cc
gatherers_are n (tries cs l) h e = absurd cc

-- what is printed of it
abbrev batch_printed : Frame → Frame → List Json → Json
batch_printed f q js = frame_json f ((frame_json q (js ∷ []) ∷ []) ∷ [])

pub batch_again : (n : Names) (f q : Frame) (ss : NestedSteps) → FrameFits n f → FrameFits n q → gathers f ≡ true → is_parts q ≡ true → nest_steps (items_of (steps_json ss)) ≡ ss
    → nest_step (batch_printed f q (steps_json ss)) ≡ holds f (group (more (holds q (group ss no_group)) none) no_group)
batch_again n f q ss h i e p a =
    let x = gatherers_are n f h e in
    let y = parts_are n q i p in
    let P : Frame → Frame → Type 0 = λ g r. nest_step (batch_printed g r (steps_json ss)) ≡ holds g (group (more (holds r (group ss no_group)) none) no_group) in
    subst (λ (g : Frame). P g q) (sym x.is)
    (subst (P (aggregates (batching x.size x.timeout))) (sym y.is)
    (resequence_again x.size x.timeout y.by (list_of (steps_json ss)) x.small x.soon
    ∙ ap (λ (ts : NestedSteps). holds (aggregates (batching x.size x.timeout)) (batch_groups y.by ts)) a))

pub batch_step_fine : (n : Names) (d : ℕ) (f q : Frame) (js : List Json) → FrameFits n f → FrameFits n q → gathers f ≡ true → is_parts q ≡ true → d < 15 → ItemsFine n (d + 2) kind.Step (items_of js)
    → Fine n d [] kind.Step (batch_printed f q js)
batch_step_fine n d f q js h i e p l a =
    let x = gatherers_are n f h e in
    let y = parts_are n q i p in
    let P : Frame → Frame → Type 0 = λ g r. Fine n d [] kind.Step (batch_printed g r js) in
    subst (λ (g : Frame). P g q) (sym x.is)
    (subst (P (aggregates (batching x.size x.timeout))) (sym y.is) (resequence_fine n d x.size x.timeout y.by (list_of js) x.small x.soon y.good (batch_fine n d (items_of js) l a)))

pub batch_good : (n : Names) (l : ℕ) (f q : Frame) (js : List Json) → FrameFits n f → FrameFits n q → gathers f ≡ true → is_parts q ≡ true → AllGood l js → Good (suc (suc (suc l))) (batch_printed f q js)
batch_good n l f q js h i e p a =
    let x = gatherers_are n f h e in
    let y = parts_are n q i p in
    let P : Frame → Frame → Type 0 = λ g r. Good (suc (suc (suc l))) (batch_printed g r js) in
    subst (λ (g : Frame). P g q) (sym x.is)
    (subst (P (aggregates (batching x.size x.timeout))) (sym y.is) (resequence_good x.size x.timeout y.by x.small x.soon (list_good a)))

-- ---- a frame that fits holds a group

some_group : (n : Names) (f : Frame) (gs : NestedGroups) → FrameHolds n f gs → HasGroup gs
some_group n f (group ss gs) h = tt
some_group n (chooses [] l) no_group h = absurd (false≢true h.setting.0)
some_group n (chooses (c ∷ cs) l) no_group h = absurd (omega (arith, h.number))
some_group n (filters c) no_group h = absurd (omega (arith, h.number))
some_group n (splits how fan) no_group h = absurd (omega (arith, h.number))
some_group n (multicasts fan) no_group h = h.suit.0
some_group n (aggregates g) no_group h = absurd (omega (arith, h.number))
some_group n (runs_once e name skip eager remove) no_group h = absurd (omega (arith, h.number))
some_group n (tries cs l) no_group h = absurd (omega (arith, h.number))

first_inside : (n : Names) (d : ℕ) (gs : NestedGroups) → HasGroup gs → GroupsFit n d gs → d < 16
first_inside n d no_group some h = absurd some
first_inside n d (group ss gs) some h = h.0.0

pub room : (n : Names) (d : ℕ) (f : Frame) (gs : NestedGroups) → FrameHolds n f gs → GroupsFit n d gs → d < 16
room n d f gs h i = first_inside n d gs (some_group n f gs h) i

-- ---- no fault, by the printed steps of each group

abbrev pub StepsFine : Names → ℕ → List Json → Type 0
StepsFine n d [] = Unit {0}
StepsFine n d (j ∷ js) = Fine n d [] kind.Step j × StepsFine n d js

abbrev pub AllFine : Names → ℕ → List (List Json) → Type 0
AllFine n d [] = Unit {0}
AllFine n d (js ∷ gs) = StepsFine n d js × AllFine n d gs

pub items_fine : (n : Names) (d : ℕ) (js : List Json) → StepsFine n d js → ItemsFine n d kind.Step (items_of js)
items_fine n d [] f = no_items_fine n d kind.Step
items_fine n d (j ∷ js) f = item_fine n d kind.Step j (items_of js) f.0 (items_fine n d js f.1)

both_fine : (n : Names) (d : ℕ) (js ks : List Json) → StepsFine n d js → StepsFine n d ks → StepsFine n d (js ++ ks)
both_fine n d [] ks f g = g
both_fine n d (j ∷ js) ks f g = (f.0, both_fine n d js ks f.1 g)

all_fine : (n : Names) (d : ℕ) (gs : List (List Json)) → AllFine n d gs → StepsFine n d (all_json gs)
all_fine n d [] f = tt
all_fine n d (js ∷ gs) f = both_fine n d js (all_json gs) f.0 (all_fine n d gs f.1)

first_fine : (n : Names) (d : ℕ) (gs : List (List Json)) → d < 16 → AllFine n (d + 1) gs → Fine n d [] kind.Steps (list_of (first_json gs))
first_fine n d [] h f = block_fine n d [] (items_of []) h (items_fine n (d + 1) [] tt)
first_fine n d (js ∷ gs) h f = block_fine n d [] (items_of js) h (items_fine n (d + 1) js f.0)

rest_fine : (n : Names) (d : ℕ) (gs : List (List Json)) → AllFine n d gs → AllFine n d (rest_of gs)
rest_fine n d [] f = tt
rest_fine n d (js ∷ gs) f = f.1

past_fine : {A : Type 0} (n : Names) (d : ℕ) (cs : List A) (gs : List (List Json)) → AllFine n d gs → AllFine n d (past cs gs)
past_fine n d [] gs f = f
past_fine n d (c ∷ cs) gs f = past_fine n d cs (rest_of gs) (rest_fine n d gs f)

cases_fine : (n : Names) (d : ℕ) (cs : List Check) (gs : List (List Json)) → ChecksFit n cs → d < 16 → AllFine n (d + 1) gs → ItemsFine n d kind.Case (items_of (cases_json cs gs))
cases_fine n d [] gs fits h f = no_items_fine n d kind.Case
cases_fine n d (c ∷ cs) gs fits h f =
    item_fine n d kind.Case (guarded_json c (list_of (first_json gs))) (items_of (cases_json cs (rest_of gs)))
    (guarded_fine n d c (list_of (first_json gs)) fits.0 (first_fine n d gs h f)) (cases_fine n d cs (rest_of gs) fits.1 h (rest_fine n (d + 1) gs f))

has_cases : (cs : List Check) (gs : List (List Json)) → is_filled cs ≡ true → has_none (items_of (cases_json cs gs)) ≡ false
has_cases [] gs h = absurd (false≢true h)
has_cases (c ∷ cs) gs h = refl

cases_list_fine : (n : Names) (d : ℕ) (cs : List Check) (gs : List (List Json)) → is_filled cs ≡ true → ItemsFine n d kind.Case (items_of (cases_json cs gs)) → Fine n d [] kind.Cases (list_of (cases_json cs gs))
unfolding listed
cases_list_fine n d cs gs h f = filled_list_fine n d [] kind.Cases kind.Case (items_of (cases_json cs gs)) refl (has_cases cs gs h) f

last_steps_fine : (n : Names) (d : ℕ) (l : Bool) (gs : List (List Json)) → d < 16 → AllFine n (d + 1) gs → MayBeFine n d [] kind.Steps (last_steps l gs)
last_steps_fine n d false gs h f = tt
last_steps_fine n d true gs h f = first_fine n d gs h f

catches_fine : (n : Names) (d : ℕ) (cs : List Catching) (gs : List (List Json)) → CatchesFit n cs → d < 16 → AllFine n (d + 1) gs → ItemsFine n d kind.Catch (items_of (catches_json cs gs))
catches_fine n d [] gs fits h f = no_items_fine n d kind.Catch
catches_fine n d (c ∷ cs) gs fits h f =
    item_fine n d kind.Catch (catch_json c.names c.when (list_of (first_json gs))) (items_of (catches_json cs (rest_of gs)))
    (catch_fine n d c.names c.when (list_of (first_json gs)) fits.0.0 fits.0.1 (first_fine n d gs h f)) (catches_fine n d cs (rest_of gs) fits.1 h (rest_fine n (d + 1) gs f))

catches_list_fine : (n : Names) (d : ℕ) (js : List Json) → ItemsFine n d kind.Catch (items_of js) → MayBeFine n d [] kind.Catches (catches_value js)
unfolding listed
catches_list_fine n d [] f = tt
catches_list_fine n d (j ∷ js) f = plain_list_fine n d [] kind.Catches kind.Catch (items_of (j ∷ js)) refl f

has_steps : (gs : NestedGroups) → HasGroup gs → AreBranches gs → has_none (items_of (all_json (groups_json gs))) ≡ false
has_steps no_group h b = absurd h
has_steps (group none gs) h b = absurd b
has_steps (group (more s none) gs) h b = refl
has_steps (group (more s (more t ss)) gs) h b = absurd b

splits_fine : (n : Names) (d : ℕ) (h : How) (fan : Fan) (steps : Json) → is_split h fan ≡ true → is_parts (splits h fan) ≡ false → Fine n d [] kind.Steps steps → Fine n d [] kind.Step (splits_json h fan steps)
splits_fine n d (how.Token token) fan steps t o f = let p = and_parts (is_filled token) (is_fan fan) t in split_fine n d (how.Token token) fan steps p.0 p.1 f
splits_fine n d how.JsonArray fan steps t o f = split_fine n d how.JsonArray fan steps refl (and_parts true (is_fan fan) t).1 f
splits_fine n d (how.Batch k) fan steps t o f = absurd cc

pub frame_fine : (n : Names) (d : ℕ) (f : Frame) (gs : NestedGroups) → FrameHolds n f gs → is_parts f ≡ false → gathers f ≡ false → d < 16 → AllFine n (d + 1) (groups_json gs) → Fine n d [] kind.Step (frame_json f (groups_json gs))
frame_fine n d (chooses cs l) gs h p o i a =
    choice_fine n d (last_steps l (past cs (groups_json gs))) (list_of (cases_json cs (groups_json gs)))
    (last_steps_fine n d l (past cs (groups_json gs)) i (past_fine n (d + 1) cs (groups_json gs) a))
    (cases_list_fine n d cs (groups_json gs) h.setting.0 (cases_fine n d cs (groups_json gs) h.setting.1 i a))
frame_fine n d (filters c) gs h p o i a = filter_fine n d c (list_of (first_json (groups_json gs))) h.setting (first_fine n d (groups_json gs) i a)
frame_fine n d (splits how fan) gs h p o i a = splits_fine n d how fan (list_of (first_json (groups_json gs))) h.setting p (first_fine n d (groups_json gs) i a)
frame_fine n d (multicasts fan) gs h p o i a =
    multicast_fine n d fan (list_of (all_json (groups_json gs))) h.setting
    (branches_fine n d [] (items_of (all_json (groups_json gs))) (has_steps gs h.suit.0 h.suit.1) i (items_fine n (d + 1) (all_json (groups_json gs)) (all_fine n (d + 1) (groups_json gs) a)))
frame_fine n d (aggregates g) gs h p o i a =
    subst (λ (b : Bool). Fine n d [] kind.Step (cond b (resequence_json g (first_json (groups_json gs))) (aggregate_json g (list_of (first_json (groups_json gs)))))) (sym o)
    (aggregate_fine n d g (list_of (first_json (groups_json gs))) (other_gathering g o h.setting) (first_fine n d (groups_json gs) i a))
frame_fine n d (runs_once e name skip eager remove) gs h p o i a =
    once_fine n d e name skip eager remove (list_of (first_json (groups_json gs))) h.setting.0 h.setting.1 (first_fine n d (groups_json gs) i a)
frame_fine n d (tries cs l) gs h p o i a =
    let others = rest_fine n (d + 1) (groups_json gs) a in
    try_fine n d (catches_json cs (rest_of (groups_json gs))) (last_steps l (past cs (rest_of (groups_json gs)))) (list_of (first_json (groups_json gs)))
    (catches_list_fine n d (catches_json cs (rest_of (groups_json gs))) (catches_fine n d cs (rest_of (groups_json gs)) h.setting i others))
    (last_steps_fine n d l (past cs (rest_of (groups_json gs))) i (past_fine n (d + 1) cs (rest_of (groups_json gs)) others))
    (first_fine n d (groups_json gs) i a)

-- ---- and each has its keys in order

guarded_good : {n : ℕ} (c : Check) {j : Json} → Good n j → Good (suc n) (guarded_json c j)
unfolding guarded_json
guarded_good c g = object_good (join (check_in c) (single (codes "steps") g) refl) refl

choice_good : {n : ℕ} {ms : Pairs} {j : Json} → Run n (codes "otherwise") (codes "otherwise") ms → Good n j → Good (suc (suc n)) (choice_json ms j)
unfolding choice_json
choice_good h g = alone_good (codes "choice") (object_good (join h (single (codes "when") g) refl) refl)

split_good : {n : ℕ} (h : How) (fan : Fan) {j : Json} → Good n j → Good (suc (suc n)) (split_json h fan j)
unfolding split_json
split_good h fan g = alone_good (codes "split") (object_good (join (join (join (join (join (join (strategy_in fan.strategy) (path_in h) refl) (set_in (codes "parallelProcessing") fan.parallel) refl) (set_in (codes "shareUnitOfWork") fan.share) refl) (single (codes "steps") g) refl) (set_in (codes "stopOnException") fan.stop) refl) (token_in h) refl) refl)

multicast_good : {n : ℕ} (fan : Fan) {j : Json} → Good n j → Good (suc (suc n)) (multicast_json fan j)
unfolding multicast_json
multicast_good fan g = alone_good (codes "multicast") (object_good (join (join (join (join (strategy_in fan.strategy) (set_in (codes "parallelProcessing") fan.parallel) refl) (set_in (codes "shareUnitOfWork") fan.share) refl) (single (codes "steps") g) refl) (set_in (codes "stopOnException") fan.stop) refl) refl)

aggregate_good : {n : ℕ} (a : Gathering) {j : Json} → GatheringFits a → Good (suc n) j → Good (suc (suc (suc n))) (aggregate_json a j)
unfolding aggregate_json
aggregate_good a f g = alone_good (codes "aggregate") (object_good (join (join (join (join (join (join (group_in a.strategy) (predicate_in a.predicate) refl) (number_in (codes "completionSize") 1 1000000 a.size (omega arith) f.size) refl) (number_in (codes "completionTimeout") 1 1000000000 a.timeout (omega arith) f.timeout) refl) (single (codes "correlationExpression") (expr_good a.key)) refl) (set_in (codes "forceCompletionOnStop") a.force) refl) (single (codes "steps") g) refl) refl)

idempotent_good : {n : ℕ} (e : Expr) (o : Option (List ℕ)) (skip eager remove : Bool) {j : Json} → Good n j → Good (suc (suc n)) (idempotent_json e o skip eager remove j)
unfolding idempotent_json
idempotent_good e o skip eager remove g = alone_good (codes "idempotentConsumer") (object_good (join (join (join (join (join (join (join (constant_in e) (unset_in (codes "eager") eager) refl) (named_in e) refl) (word_in (codes "idempotentRepository") o) refl) (unset_in (codes "removeOnFailure") remove) refl) (simple_in e) refl) (unset_in (codes "skipDuplicate") skip) refl) (single (codes "steps") g) refl) refl)

catch_good : {n : ℕ} (names : List (List ℕ)) (o : Option Check) {j : Json} → Good (suc n) j → Good (suc (suc n)) (catch_json names o j)
unfolding catch_json
catch_good names o g = object_good (join (join (single (codes "exception") (list_good (words_good names))) (when_in o) refl) (single (codes "steps") g) refl) refl

try_good : {n : ℕ} (js : List Json) (o : Option Json) {j : Json} → AllGood n js → Run (suc n) (codes "doFinally") (codes "doFinally") (nested_pairs (codes "doFinally") o) → Good (suc n) j → Good (suc (suc (suc n))) (try_json js o j)
unfolding try_json
try_good js o h f g = alone_good (codes "doTry") (object_good (join (join (catches_in js h) f refl) (single (codes "steps") g) refl) refl)

-- ---- keys in order, by the printed steps of each group

abbrev pub EachGood : ℕ → List (List Json) → Type 0
EachGood l [] = Unit {0}
EachGood l (js ∷ gs) = AllGood l js × EachGood l gs

first_good : (l : ℕ) (gs : List (List Json)) → EachGood l gs → Good (suc l) (list_of (first_json gs))
first_good l [] h = list_good no_good
first_good l (js ∷ gs) h = list_good h.0

rest_good : (l : ℕ) (gs : List (List Json)) → EachGood l gs → EachGood l (rest_of gs)
rest_good l [] h = tt
rest_good l (js ∷ gs) h = h.1

past_good : {A : Type 0} (l : ℕ) (cs : List A) (gs : List (List Json)) → EachGood l gs → EachGood l (past cs gs)
past_good l [] gs h = h
past_good l (c ∷ cs) gs h = past_good l cs (rest_of gs) (rest_good l gs h)

all_good : (l : ℕ) (gs : List (List Json)) → EachGood l gs → AllGood l (all_json gs)
all_good l [] h = no_good
all_good l (js ∷ gs) h = both_good js h.0 (all_good l gs h.1)

cases_good : (l : ℕ) (cs : List Check) (gs : List (List Json)) → EachGood l gs → AllGood (suc (suc l)) (cases_json cs gs)
cases_good l [] gs h = no_good
cases_good l (c ∷ cs) gs h = more_good (guarded_good c (first_good l gs h)) (cases_good l cs (rest_of gs) (rest_good l gs h))

catch_list_good : (l : ℕ) (cs : List Catching) (gs : List (List Json)) → EachGood l gs → AllGood (suc (suc l)) (catches_json cs gs)
catch_list_good l [] gs h = no_good
catch_list_good l (c ∷ cs) gs h = more_good (catch_good c.names c.when (first_good l gs h)) (catch_list_good l cs (rest_of gs) (rest_good l gs h))

last_steps_good : (l : ℕ) (o : Bool) (gs : List (List Json)) → EachGood l gs → MayBeGood (suc l) (last_steps o gs)
last_steps_good l false gs h = tt
last_steps_good l true gs h = first_good l gs h

splits_good : {n : ℕ} (h : How) (fan : Fan) {j : Json} → is_parts (splits h fan) ≡ false → Good n j → Good (suc (suc n)) (splits_json h fan j)
splits_good (how.Token token) fan o g = split_good (how.Token token) fan g
splits_good how.JsonArray fan o g = split_good how.JsonArray fan g
splits_good (how.Batch k) fan o g = absurd cc

pub frame_good : (n : Names) (l : ℕ) (f : Frame) (gs : List (List Json)) → FrameFits n f → is_parts f ≡ false → gathers f ≡ false → 8 ≤ l → EachGood (l - 5) gs → Good l (frame_json f gs)
frame_good n l (chooses cs o) gs h p q i a =
    higher (choice_good (nested_in {n = suc (l - 5)} (codes "otherwise") (last_steps o (past cs gs)) (last_steps_good (l - 5) o (past cs gs) (past_good (l - 5) cs gs a))) (list_good (cases_good (l - 5) cs gs a))) (omega arith)
frame_good n l (filters c) gs h p q i a = higher (alone_good (codes "filter") (guarded_good c (first_good (l - 5) gs a))) (omega arith)
frame_good n l (splits how fan) gs h p q i a = higher (splits_good how fan p (first_good (l - 5) gs a)) (omega arith)
frame_good n l (multicasts fan) gs h p q i a = higher (multicast_good fan (list_good (all_good (l - 5) gs a))) (omega arith)
frame_good n l (aggregates g) gs h p q i a =
    subst (λ (b : Bool). Good l (cond b (resequence_json g (first_json gs)) (aggregate_json g (list_of (first_json gs))))) (sym q)
    (higher (aggregate_good g (other_gathering g q h) (first_good (l - 5) gs a)) (omega arith))
frame_good n l (runs_once e name skip eager remove) gs h p q i a = higher (idempotent_good e name skip eager remove (first_good (l - 5) gs a)) (omega arith)
frame_good n l (tries cs o) gs h p q i a =
    let others = rest_good (l - 5) gs a in
    higher (try_good (catches_json cs (rest_of gs)) (last_steps o (past cs (rest_of gs))) (catch_list_good (l - 5) cs (rest_of gs) others)
    (nested_in {n = suc (l - 5)} (codes "doFinally") (last_steps o (past cs (rest_of gs))) (last_steps_good (l - 5) o (past cs (rest_of gs)) (past_good (l - 5) cs (rest_of gs) others)))
    (higher (first_good (l - 5) gs a) (omega arith))) (omega arith)

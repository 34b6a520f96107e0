-- A resequencer that is printed: it is read again, has no fault, and has its keys in order, where its steps do.
use Rattle.std.proofs.Common.{◌≡◌, ℕ, suc, ◌+◌, ◌^◌, ◌<◌, Bool, true, false, cond, List, [], ◌∷◌, ◌++◌, Option, Some, None, option_map, Result, Ok, refl, sym, ap, subst, ◌∙◌, inl, inr, arith, codes, pos, leb-true}
use Rattle.std.specs.Prelude.{unwrap_or, nat_eq, nat_le}
use Rattle.std.proofs.lemmas.Bool.{and_parts, lt-leb, eqb-true}
use Rattle.eip_text.specs.Json.{Json, word, whole, list, object, items_of, Items, Members, members_of}
use Rattle.eip_exchange.specs.declared.setting.Key as setting
use Rattle.eip_exchange.specs.declared.setting.Key.TheVariants as order
use Rattle.eip_simple_read.specs.Meaning.{template_of}
use Rattle.eip_simple_read.specs.declared.fault.SimpleFault.{SimpleFault}
use Rattle.eip_simple_read.specs.declared.tree.Function.TheVariants as function
use Rattle.eip_simple_read.specs.declared.tree.Part.TheVariants as part
use Rattle.eip_simple_read.specs.declared.tree.Template.{Template}
use Rattle.eip_simple_read.proofs.Laws.{fitting_template}
use Rattle.eip_uri.specs.Ranges.{is_between}
use Rattle.eip_route.specs.Nest.{Gathering, NestedSteps, aggregates, batch_groups, batching, holds}
use Rattle.eip_route.specs.Valid.{is_key}
use Rattle.eip_route.specs.declared.route.Names.{Names}
use Rattle.eip_route_grammar.specs.Keys.{is_spelled, spelled, dashed}
use Rattle.eip_route_grammar.specs.Objects.{value_at}
use Rattle.eip_route_grammar.specs.Table.{rows, rule_of, shape_of, list_of as listed}
use Rattle.eip_route_grammar.specs.Texts.{key_of}
use Rattle.eip_route_grammar.specs.declared.fault.Cause.TheVariants as cause
use Rattle.eip_route_grammar.specs.declared.keys.Key.TheVariants as key
use Rattle.eip_route_grammar.specs.declared.table.Kind.{Kind}
use Rattle.eip_route_grammar.specs.declared.table.Kind.TheVariants as kind
use Rattle.eip_route_grammar.specs.declared.table.Rule.TheVariants as rule
use Rattle.eip_route_faults.specs.Sites.{found, has_none, own_list, sites_at, items_sites}
use Rattle.eip_route_faults.specs.Values.{key_cause}
use Rattle.eip_route_values.specs.Leaves.{members_given, count_of}
use Rattle.eip_route_values.specs.Nesting.{nest_list, nest_in, nest_step}
use Rattle.eip_route_values.specs.Parts.{template_or_empty, order_key_given, order_key_in, batch_size, batch_timeout, batching_in}
use Rattle.eip_route_values.specs.Sets.{steps_given}
use Rattle.eip_route_canonical.specs.Canonical.{Pairs, object_of, one, alone, where_any, order_pairs, where_other, batch_pairs, config_pairs, batch_json, resequence_json}
use Rattle.eip_route_canonical.proofs.Objects.{members_behind}
use Rattle.eip_route_roundtrip.proofs.Fine.{Fine, MayBeFine, ItemsFine, SlotsFine, HasKeys, none_found, none_both, word_fine, object_fine, alone_fine}
use Rattle.eip_route_roundtrip.proofs.Keyed.{keys_fine}
use Rattle.eip_route_roundtrip.proofs.Leaves.{object_step, named_fine}
use Rattle.eip_route_roundtrip.proofs.Nested.{steps_slot}
use Rattle.eip_route_roundtrip.proofs.Objects.{number_value, object_value, other_value, order_slots, config_slots, config_puts, resequence_slots, resequence_puts}
use Rattle.eip_route_roundtrip.proofs.Ordered.{Good, Run, join, single, within, absent, any_in, object_good, alone_good, word_good}
use Rattle.eip_route_roundtrip.proofs.OrderedParts.{number_good}
use Rattle.eip_route_roundtrip.proofs.Parts.{number_again}
use Rattle.eip_route_roundtrip.proofs.Slots.{Slot, sure, maybe, filled, slot_at, value_filled}
use Rattle.eip_route_roundtrip.proofs.Values.{number_fine}

-- ---- its object

-- the attributes of its batches
abbrev pub config_of : ℕ → ℕ → Pairs
config_of size timeout = where_other (codes "batchSize") 100 (Some size) ++ where_other (codes "batchTimeout") 1000 (Some timeout)

abbrev slots_of : ℕ → ℕ → setting.Key → Json → List Slot
slots_of size timeout k steps = resequence_slots (config_of size timeout) k steps

abbrev pairs_of : ℕ → ℕ → setting.Key → Json → Pairs
pairs_of size timeout k steps = where_any (codes "batchConfig") (config_of size timeout) ++ (order_pairs k ++ one (codes "steps") steps)

resequence_same : (size timeout : ℕ) (k : setting.Key) (steps : Json) → resequence_json (batching size timeout) (batch_json k steps ∷ []) ≡ alone (codes "resequence") (object_of (pairs_of size timeout k steps))
unfolding resequence_json batch_json batch_pairs
resequence_same size timeout k steps =
    ap (λ (ms : Members). alone (codes "resequence") (object ms)) (sym (members_behind (config_pairs (batching size timeout)) (order_pairs k ++ one (codes "steps") steps)))

-- ---- its attributes are read again

default_by : (b : Bool) (limit low high default n : ℕ) → nat_eq n default ≡ b → high < limit → is_between low high n ≡ true
    → unwrap_or (option_map (count_of limit) (cond b None (Some (whole (pos n))))) default ≡ n
default_by true limit low high default n e l h = sym (eqb-true n default e)
default_by false limit low high default n e l h = ap (λ (o : Option ℕ). unwrap_or o default) (number_again limit low high (Some n) l h)

other_again : (limit low high default n : ℕ) → high < limit → is_between low high n ≡ true → unwrap_or (option_map (count_of limit) (other_value default (Some n))) default ≡ n
other_again limit low high default n l h = default_by (nat_eq n default) limit low high default n refl l h

given_size : (ps : Pairs) → batch_size (members_given (object_value ps)) ≡ unwrap_or (option_map (count_of (2 ^ 32)) (value_at key.BatchSize (members_of ps))) 100
given_size [] = refl
given_size (p ∷ ps) = refl

given_timeout : (ps : Pairs) → batch_timeout (members_given (object_value ps)) ≡ unwrap_or (option_map (count_of (2 ^ 64)) (value_at key.BatchTimeout (members_of ps))) 1000
given_timeout [] = refl
given_timeout (p ∷ ps) = refl

size_again : (size timeout : ℕ) → is_between 1 1000 size ≡ true → batch_size (members_given (object_value (config_of size timeout))) ≡ size
unfolding is_spelled spelled dashed
size_again size timeout h =
    let ss : List Slot = config_slots size timeout in
    given_size (config_of size timeout)
    ∙ (ap (λ (ps : Pairs). unwrap_or (option_map (count_of (2 ^ 32)) (value_at key.BatchSize (members_of ps))) 100) (config_puts size timeout).same
    ∙ (ap (λ (o : Option Json). unwrap_or (option_map (count_of (2 ^ 32)) o) 100) (value_filled key.BatchSize ss) ∙ other_again (2 ^ 32) 1 1000 100 size (omega arith) h))

timeout_again : (size timeout : ℕ) → is_between 1 1000000000 timeout ≡ true → batch_timeout (members_given (object_value (config_of size timeout))) ≡ timeout
unfolding is_spelled spelled dashed
timeout_again size timeout h =
    let ss : List Slot = config_slots size timeout in
    given_timeout (config_of size timeout)
    ∙ (ap (λ (ps : Pairs). unwrap_or (option_map (count_of (2 ^ 64)) (value_at key.BatchTimeout (members_of ps))) 1000) (config_puts size timeout).same
    ∙ (ap (λ (o : Option Json). unwrap_or (option_map (count_of (2 ^ 64)) o) 1000) (value_filled key.BatchTimeout ss) ∙ other_again (2 ^ 64) 1 1000000000 1000 timeout (omega arith) h))

-- ---- what its messages are put in order by is read again

body_read : template_of (codes "${body}") ≡ Ok (record { parts = part.Call function.Body ∷ [] })
body_read = fitting_template (record { parts = part.Call function.Body ∷ [] }) refl

body_again : unwrap_or (key_of (template_or_empty (template_of (codes "${body}")))) order.Body ≡ order.Body
body_again = ap (λ (r : Result Template SimpleFault). unwrap_or (key_of (template_or_empty r)) order.Body) body_read

record ResequenceAt (size timeout : ℕ) (k : setting.Key) (steps : Json) : Type 0 where
  config : slot_at key.BatchConfig (slots_of size timeout k steps) ≡ object_value (config_of size timeout)
  order_value : order_key_given (slot_at key.Simple (slots_of size timeout k steps)) (slot_at key.Header (slots_of size timeout k steps)) (slot_at key.ExchangeProperty (slots_of size timeout k steps)) ≡ k
  steps_value : steps_given (slot_at key.Steps (slots_of size timeout k steps)) ≡ nest_list steps

resequence_at : (size timeout : ℕ) (k : setting.Key) (steps : Json) → ResequenceAt size timeout k steps
unfolding is_spelled spelled dashed
resequence_at size timeout order.Body steps = record { config = refl; order_value = body_again; steps_value = refl }
resequence_at size timeout (order.Header name) steps = record { config = refl; order_value = refl; steps_value = refl }
resequence_at size timeout (order.Property name) steps = record { config = refl; order_value = refl; steps_value = refl }

order_by : (ms : Members) (s h p : Option Json) → value_at key.Simple ms ≡ s → value_at key.Header ms ≡ h → value_at key.ExchangeProperty ms ≡ p → order_key_in ms ≡ order_key_given s h p
order_by ms s h p a b c = λ i. order_key_given (a i) (b i) (c i)

batching_by : (ms : Members) (size timeout : ℕ) → batch_size (members_given (value_at key.BatchConfig ms)) ≡ size → batch_timeout (members_given (value_at key.BatchConfig ms)) ≡ timeout → batching_in ms ≡ batching size timeout
batching_by ms size timeout p q = λ i. batching (p i) (q i)

resequence_by : (ms : Members) (g : Gathering) (k : setting.Key) (ss : NestedSteps) → batching_in ms ≡ g → order_key_in ms ≡ k → nest_in ms ≡ ss
    → holds (aggregates (batching_in ms)) (batch_groups (order_key_in ms) (nest_in ms)) ≡ holds (aggregates g) (batch_groups k ss)
resequence_by ms g k ss p q r = λ i. holds (aggregates (p i)) (batch_groups (q i) (r i))

pub resequence_again : (size timeout : ℕ) (k : setting.Key) (steps : Json) → is_between 1 1000 size ≡ true → is_between 1 1000000000 timeout ≡ true
    → nest_step (resequence_json (batching size timeout) (batch_json k steps ∷ [])) ≡ holds (aggregates (batching size timeout)) (batch_groups k (nest_list steps))
unfolding rows is_spelled spelled dashed
resequence_again size timeout k steps small soon =
    let ss : List Slot = slots_of size timeout k steps in
    let ms : Members = members_of (filled ss) in
    let at : ResequenceAt size timeout k steps = resequence_at size timeout k steps in
    let config : value_at key.BatchConfig ms ≡ object_value (config_of size timeout) = value_filled key.BatchConfig ss ∙ at.config in
    ap nest_step (resequence_same size timeout k steps)
    ∙ (ap (object_step (codes "resequence")) (resequence_puts (config_of size timeout) k steps).same
    ∙ resequence_by ms (batching size timeout) k (nest_list steps)
    (batching_by ms size timeout
    (ap (λ (o : Option Json). batch_size (members_given o)) config ∙ size_again size timeout small)
    (ap (λ (o : Option Json). batch_timeout (members_given o)) config ∙ timeout_again size timeout soon))
    (order_by ms _ _ _ (value_filled key.Simple ss) (value_filled key.Header ss) (value_filled key.ExchangeProperty ss) ∙ at.order_value)
    (steps_slot ss ∙ at.steps_value))

-- ---- it has no fault

pub given_fine : (n : Names) (d : ℕ) (v : Kind) (ps : Pairs) → Fine n d [] v (object_of ps) → MayBeFine n d [] v (object_value ps)
given_fine n d v [] h = tt
given_fine n d v (m ∷ ms) h = h

pub batch_fine : (n : Names) (d : ℕ) (ts : Items) → d < 15 → ItemsFine n (d + 2) kind.Step ts → Fine n d [] kind.BatchSteps (list ts)
unfolding sites_at listed
batch_fine n d ts h hs =
    none_both (found (own_list d (listed kind.BatchSteps) (has_none ts))) (items_sites n (d + 2) kind.Step 0 ts)
    (none_found (own_list d (listed kind.BatchSteps) (has_none ts)) (ap (λ (t : Bool). cond t (Some cause.TooNested) None) (lt-leb 15 d h))) (hs 0)

other_fine : (n : Names) (d : ℕ) (v : Kind) (low high default : ℕ) (b : Bool) (m : ℕ) → rule_of v ≡ Some (rule.Count low high) → is_between low high m ≡ true → MayBeFine n d [] v (cond b None (Some (whole (pos m))))
other_fine n d v low high default true m e h = tt
other_fine n d v low high default false m e h = number_fine n d [] v low high (Some m) e h

config_fine : (n : Names) (d size timeout : ℕ) → is_between 1 1000 size ≡ true → is_between 1 1000000000 timeout ≡ true → Fine n d [] kind.BatchConfig (object_of (config_of size timeout))
unfolding shape_of rows rule_of is_spelled spelled dashed
config_fine n d size timeout small soon =
    object_fine n d [] kind.BatchConfig (config_of size timeout) (config_slots size timeout) (config_puts size timeout)
    (record { own = keys_fine (rows kind.BatchConfig) (config_slots size timeout) refl refl; parameters = refl }) (
      other_fine n d (kind.Leaf (rule.Count 1 1000)) 1 1000 100 (nat_eq size 100) size refl small,
      (other_fine n d (kind.Leaf (rule.Count 1 1000000000)) 1 1000000000 1000 (nat_eq timeout 1000) timeout refl soon, tt),
    ) refl

body_fine : (n : Names) (d : ℕ) → Fine n d [] kind.OrderKey (word (codes "${body}"))
unfolding rule_of
body_fine n d = word_fine n d [] kind.OrderKey rule.OrderKey (codes "${body}") refl refl (ap (λ (r : Result Template SimpleFault). key_cause r) body_read)

resequence_keys : (ps : Pairs) (k : setting.Key) (steps : Json) → HasKeys kind.Resequence (resequence_slots ps k steps)
unfolding shape_of rows is_spelled spelled dashed
resequence_keys ps order.Body steps = record { own = keys_fine (rows kind.Resequence) (resequence_slots ps order.Body steps) refl refl; parameters = refl }
resequence_keys ps (order.Header name) steps = record { own = keys_fine (rows kind.Resequence) (resequence_slots ps (order.Header name) steps) refl refl; parameters = refl }
resequence_keys ps (order.Property name) steps = record { own = keys_fine (rows kind.Resequence) (resequence_slots ps (order.Property name) steps) refl refl; parameters = refl }

resequence_values : (n : Names) (d : ℕ) (ps : Pairs) (k : setting.Key) (steps : Json) → is_key k ≡ true → MayBeFine n d [] kind.BatchConfig (object_value ps) → Fine n d [] kind.BatchSteps steps
    → SlotsFine n d [] kind.Resequence (resequence_slots ps k steps)
unfolding rows is_spelled spelled dashed
resequence_values n d ps order.Body steps h c f = (c, (body_fine n d, (f, tt)))
resequence_values n d ps (order.Header name) steps h c f = (c, (named_fine n d name h, (f, tt)))
resequence_values n d ps (order.Property name) steps h c f = (c, (named_fine n d name h, (f, tt)))

pub resequence_fine : (n : Names) (d size timeout : ℕ) (k : setting.Key) (steps : Json) → is_between 1 1000 size ≡ true → is_between 1 1000000000 timeout ≡ true → is_key k ≡ true → Fine n d [] kind.BatchSteps steps
    → Fine n d [] kind.Step (resequence_json (batching size timeout) (batch_json k steps ∷ []))
unfolding shape_of rows is_spelled spelled dashed
resequence_fine n d size timeout k steps small soon h f =
    let ps = config_of size timeout in
    subst (λ (t : Json). Fine n d [] kind.Step t) (sym (resequence_same size timeout k steps))
    (alone_fine n d [] kind.Step (codes "resequence") (object_of (pairs_of size timeout k steps)) refl refl
    (object_fine n d [] kind.Resequence (pairs_of size timeout k steps) (resequence_slots ps k steps) (resequence_puts ps k steps) (resequence_keys ps k steps)
    (resequence_values n d ps k steps h (given_fine n d kind.BatchConfig ps (config_fine n d size timeout small soon)) f) refl))

-- ---- it has its keys in order

other_in : {n : ℕ} (k : List ℕ) (low high : ℕ) (b : Bool) (m : ℕ) → high < 2 ^ 64 → is_between low high m ≡ true → Run n k k (cond b [] (one k (whole (pos m))))
other_in k low high true m small h = absent k
other_in k low high false m small h =
    let top = leb-true m high (and_parts (nat_le low m) (nat_le m high) h).1 in
    single k (number_good m (omega (arith, top, small)))

order_in : {n : ℕ} (k : setting.Key) → Run n (codes "exchangeProperty") (codes "simple") (order_pairs k)
order_in order.Body = within (codes "exchangeProperty") (codes "simple") (codes "simple") (word (codes "${body}")) (inr refl) (inl refl) (word_good (codes "${body}"))
order_in (order.Header name) = within (codes "exchangeProperty") (codes "simple") (codes "header") (word name) (inr refl) (inr refl) (word_good name)
order_in (order.Property name) = within (codes "exchangeProperty") (codes "simple") (codes "exchangeProperty") (word name) (inl refl) (inr refl) (word_good name)

config_in : {n : ℕ} (size timeout : ℕ) → is_between 1 1000 size ≡ true → is_between 1 1000000000 timeout ≡ true → Run (suc n) (codes "batchConfig") (codes "batchConfig") (where_any (codes "batchConfig") (config_of size timeout))
config_in size timeout small soon =
    any_in (codes "batchConfig") (config_of size timeout)
    (join (other_in (codes "batchSize") 1 1000 (nat_eq size 100) size (omega arith) small) (other_in (codes "batchTimeout") 1 1000000000 (nat_eq timeout 1000) timeout (omega arith) soon) refl) refl

pub resequence_good : {n : ℕ} (size timeout : ℕ) (k : setting.Key) {j : Json} → is_between 1 1000 size ≡ true → is_between 1 1000000000 timeout ≡ true → Good (suc n) j
    → Good (suc (suc (suc n))) (resequence_json (batching size timeout) (batch_json k j ∷ []))
resequence_good {n} size timeout k {j} small soon g =
    subst (Good (suc (suc (suc n)))) (sym (resequence_same size timeout k j))
    (alone_good (codes "resequence") (object_good (join (config_in size timeout small soon) (join (order_in k) (single (codes "steps") g) refl) refl) refl))

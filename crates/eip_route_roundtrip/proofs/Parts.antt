-- What the parts of a step print is read again.
use Rattle.std.proofs.Common.{◌≡◌, ℕ, ◌<◌, ◌≤◌, pos, Bool, true, false, cond, eqb, List, [], ◌∷◌, ◌++◌, Option, Some, None, option_map, refl, sym, ap, ◌∙◌, arith}
use Rattle.std.specs.Prelude.{codes, nat_le, unwrap_or}
use Rattle.std.specs.List.{list_all}
use Rattle.std.proofs.lemmas.Bool.{and_parts, leb-true, lt-ltb, eqb-true, both_ways}
use Rattle.std.proofs.lemmas.Slice.Eq.{bytes_eq-Decides}
use Rattle.eip_text.specs.Cuts.{holds_byte}
use Rattle.eip_text.specs.Json.{Json, whole, word, items_of, Members, members_of}
use Rattle.eip_text.specs.Names.{is_name, is_name_byte}
use Rattle.eip_exchange.specs.declared.setting.Strategy.{Strategy}
use Rattle.eip_exchange.specs.declared.setting.Strategy.TheVariants as strategy
use Rattle.eip_simple_read.specs.Spelling.{template_text, predicate_text}
use Rattle.eip_simple_read.specs.declared.tree.Predicate.{Predicate}
use Rattle.eip_simple_read.specs.declared.tree.Template.{Template}
use Rattle.eip_uri.specs.Printed.{printed}
use Rattle.eip_uri.specs.Ranges.{is_uri, is_between}
use Rattle.eip_uri.specs.declared.uri.Uri.{Uri}
use Rattle.eip_uri.proofs.AgainForms.{uri_again}
use Rattle.eip_route.specs.Valid.{is_kind, is_kind_byte, is_fan_strategy, is_fan, is_group_strategy, is_given_between, is_given_name}
use Rattle.eip_route.specs.declared.step.Expr.{Expr}
use Rattle.eip_route.specs.declared.step.Expr.TheVariants as expr
use Rattle.eip_route.specs.declared.step.Fan.{Fan}
use Rattle.eip_route_grammar.specs.Keys.{is_spelled, spelled, dashed}
use Rattle.eip_route_grammar.specs.Objects.{value_at}
use Rattle.eip_route_grammar.specs.Texts.{unhashed, last_segment, strategy_of}
use Rattle.eip_route_grammar.specs.declared.keys.Key.TheVariants as key
use Rattle.eip_route_validity.specs.Fit.{TemplateFits, PredicateFits, MayPredicateFit, ExprFits}
use Rattle.eip_route_values.specs.Leaves.{texts_of, count_of, flag_at, flag_given, members_given}
use Rattle.eip_route_values.specs.Parts.{template, predicate, template_or_empty, predicate_or_empty, endpoint, uri_or_input, expr_given, expr_in, expr_from, strategy_given, fan_in, delimiter_given, completion_of, repository_given}
use Rattle.eip_route_canonical.specs.Canonical.{is_comma, strategy_text, words}
use Rattle.eip_route_roundtrip.proofs.Objects.{set_value, unset_value, word_value, number_value, strategy_value, group_value, completion_value, delimiter_value, expr_slots}
use Rattle.eip_route_roundtrip.proofs.Slots.{Slot, filled, slot_at, value_filled}

-- ---- texts

pub template_again : (t : Template) → TemplateFits t → template (template_text t) ≡ t
template_again t fits = ap template_or_empty fits

pub predicate_again : (p : Predicate) → PredicateFits p → predicate (predicate_text p) ≡ p
predicate_again p fits = ap predicate_or_empty fits

pub words_again : (ws : List (List ℕ)) → texts_of (items_of (words ws)) ≡ ws
words_again [] = refl
words_again (w ∷ ws) = ap (λ (us : List (List ℕ)). w ∷ us) (words_again ws)

pub endpoint_again : (u : Uri) → is_uri u ≡ true → endpoint (printed u) [] ≡ u
endpoint_again u h = ap uri_or_input (uri_again u h)

-- a name has no number sign in front
unhashed_by : (t : Bool) (b : ℕ) (bs : List ℕ) → eqb b 35 ≡ t → is_name_byte b ≡ true → unwrap_or (cond t (Some bs) None) (b ∷ bs) ≡ b ∷ bs
unhashed_by true b bs e h = absurd (both_ways (is_name_byte b) (ap is_name_byte (eqb-true b 35 e)) h)
unhashed_by false b bs e h = refl

pub unhashed_name : (w : List ℕ) → is_name w ≡ true → unhashed w ≡ w
unfolding is_name
unhashed_name [] h = refl
unhashed_name (b ∷ bs) h =
    unhashed_by (eqb b 35) b bs refl (and_parts (is_name_byte b) (list_all is_name_byte bs) (and_parts _ (list_all is_name_byte (b ∷ bs)) h).1).0

-- a kind of fault has no dot
kind_lacks : (t : Bool) (b : ℕ) (bs : List ℕ) → eqb b 46 ≡ t → is_kind_byte b ≡ true → holds_byte 46 bs ≡ false → cond t true (holds_byte 46 bs) ≡ false
kind_lacks true b bs e h k = absurd (both_ways (is_kind_byte b) (ap is_kind_byte (eqb-true b 46 e)) h)
kind_lacks false b bs e h k = k

kinds_lack : (bs : List ℕ) → list_all is_kind_byte bs ≡ true → holds_byte 46 bs ≡ false
kinds_lack [] h = refl
kinds_lack (b ∷ bs) h =
    let p = and_parts (is_kind_byte b) (list_all is_kind_byte bs) h in
    kind_lacks (eqb b 46) b bs refl p.0 (kinds_lack bs p.1)

lone_segment : (bs : List ℕ) → holds_byte 46 bs ≡ false → last_segment bs ≡ bs
lone_segment [] h = refl
lone_segment (b ∷ bs) h = ap (λ (t : Bool). cond t (last_segment bs) (b ∷ bs)) h

pub kind_again : (bs : List ℕ) → is_kind bs ≡ true → last_segment bs ≡ bs
unfolding is_kind
kind_again bs h = lone_segment bs (kinds_lack bs (and_parts _ (list_all is_kind_byte bs) h).1)

-- ---- flags and numbers

pub set_again : (b : Bool) → flag_given false (set_value b) ≡ b
set_again true = refl
set_again false = refl

pub unset_again : (b : Bool) → flag_given true (unset_value b) ≡ b
unset_again true = refl
unset_again false = refl

count_again : (limit low high : ℕ) (n : ℕ) → high < limit → is_between low high n ≡ true → count_of limit (whole (pos n)) ≡ n
count_again limit low high n h k =
    let most : n ≤ high = leb-true n high (and_parts (nat_le low n) (nat_le n high) k).1 in
    ap (λ (b : Bool). cond b n 0) (lt-ltb n limit (omega arith))

pub number_again : (limit low high : ℕ) (o : Option ℕ) → high < limit → is_given_between low high o ≡ true → option_map (count_of limit) (number_value o) ≡ o
number_again limit low high None h k = refl
number_again limit low high (Some n) h k = ap Some (count_again limit low high n h k)

-- ---- strategies

strategy_joined : (t : Bool) (between : List ℕ) → is_comma between ≡ t → strategy_of (unhashed (cond t (codes "joined") (codes "joined:" ++ between))) ≡ Some (strategy.Joined between)
unfolding strategy_of is_comma
strategy_joined true between e = ap (λ (w : List ℕ). Some (strategy.Joined w)) (sym ((bytes_eq-Decides between (codes ",")).0 e))
strategy_joined false between e = refl

pub strategy_text_again : (s : Strategy) → is_fan_strategy (Some s) ≡ true → strategy_of (unhashed (strategy_text s)) ≡ Some s
unfolding strategy_text strategy_of
strategy_text_again strategy.Original h = refl
strategy_text_again strategy.Latest h = refl
strategy_text_again (strategy.Joined between) h = strategy_joined (is_comma between) between refl
strategy_text_again strategy.Grouped h = refl
strategy_text_again strategy.Sum h = refl
strategy_text_again strategy.Batch h = absurd cc

strategy_again : (o : Option Strategy) → is_fan_strategy o ≡ true → strategy_given (strategy_value o) ≡ o
strategy_again None h = refl
strategy_again (Some s) h = strategy_text_again s h

pub group_again : (s : Strategy) → is_group_strategy s ≡ true → unwrap_or (strategy_given (group_value s)) strategy.Latest ≡ s
group_again strategy.Latest h = refl
group_again strategy.Original h = absurd cc
group_again (strategy.Joined between) h = ap (λ (o : Option Strategy). unwrap_or o strategy.Latest) (strategy_text_again (strategy.Joined between) refl)
group_again strategy.Grouped h = ap (λ (o : Option Strategy). unwrap_or o strategy.Latest) (strategy_text_again strategy.Grouped refl)
group_again strategy.Sum h = ap (λ (o : Option Strategy). unwrap_or o strategy.Latest) (strategy_text_again strategy.Sum refl)
group_again strategy.Batch h = absurd cc

-- how parts run, by the values of the keys
pub fan_again : (ms : Members) (fan : Fan) → value_at key.AggregationStrategy ms ≡ strategy_value fan.strategy → value_at key.ParallelProcessing ms ≡ set_value fan.parallel
    → value_at key.ShareUnitOfWork ms ≡ set_value fan.share → value_at key.StopOnException ms ≡ set_value fan.stop → is_fan fan ≡ true → fan_in ms ≡ fan
fan_again ms fan s p u h f =
    let strategy : strategy_given (value_at key.AggregationStrategy ms) ≡ fan.strategy = ap strategy_given s ∙ strategy_again fan.strategy f in
    let parallel : flag_at false key.ParallelProcessing ms ≡ fan.parallel = ap (flag_given false) p ∙ set_again fan.parallel in
    let stop : flag_at false key.StopOnException ms ≡ fan.stop = ap (flag_given false) h ∙ set_again fan.stop in
    let share : flag_at false key.ShareUnitOfWork ms ≡ fan.share = ap (flag_given false) u ∙ set_again fan.share in
    λ i. record { strategy = strategy i; parallel = parallel i; stop = stop i; share = share i }

-- ---- expressions and what is asked

-- by the values of the keys
pub expr_slot : (ss : List Slot) (e : Expr) → slot_at key.Expression ss ≡ None
    → expr_given (slot_at key.Simple ss) (slot_at key.Constant ss) (slot_at key.Header ss) (slot_at key.ExchangeProperty ss) ≡ e → expr_in (members_of (filled ss)) ≡ e
expr_slot ss e none given =
    let ms : Members = members_of (filled ss) in
    let inner : members_given (value_at key.Expression ms) ≡ None = ap members_given (value_filled key.Expression ss ∙ none) in
    let simple : value_at key.Simple ms ≡ slot_at key.Simple ss = value_filled key.Simple ss in
    let constant : value_at key.Constant ms ≡ slot_at key.Constant ss = value_filled key.Constant ss in
    let header : value_at key.Header ms ≡ slot_at key.Header ss = value_filled key.Header ss in
    let property : value_at key.ExchangeProperty ms ≡ slot_at key.ExchangeProperty ss = value_filled key.ExchangeProperty ss in
    ap (λ (o : Option Members). expr_from o ms) inner
    ∙ (ap (λ (o : Option Json). expr_given o (value_at key.Constant ms) (value_at key.Header ms) (value_at key.ExchangeProperty ms)) simple
    ∙ (ap (λ (o : Option Json). expr_given (slot_at key.Simple ss) o (value_at key.Header ms) (value_at key.ExchangeProperty ms)) constant
    ∙ (ap (λ (o : Option Json). expr_given (slot_at key.Simple ss) (slot_at key.Constant ss) o (value_at key.ExchangeProperty ms)) header
    ∙ (ap (λ (o : Option Json). expr_given (slot_at key.Simple ss) (slot_at key.Constant ss) (slot_at key.Header ss) o) property ∙ given))))

pub simple_again : (t : Template) → TemplateFits t → expr.Simple (template (template_text t)) ≡ expr.Simple t
simple_again t fits = ap expr.Simple (template_again t fits)

pub plain_expr_again : (e : Expr) → ExprFits e → expr_in (members_of (filled (expr_slots e))) ≡ e
unfolding is_spelled spelled dashed
plain_expr_again (expr.Simple t) fits = expr_slot (expr_slots (expr.Simple t)) (expr.Simple t) refl (simple_again t fits)
plain_expr_again (expr.Constant w) fits = expr_slot (expr_slots (expr.Constant w)) (expr.Constant w) refl refl
plain_expr_again (expr.Header w) fits = expr_slot (expr_slots (expr.Header w)) (expr.Header w) refl refl
plain_expr_again (expr.Property w) fits = expr_slot (expr_slots (expr.Property w)) (expr.Property w) refl refl

-- ---- other settings

delimiter_by : (t : Bool) (d : List ℕ) → is_comma d ≡ t → delimiter_given (cond t None (Some (word d))) ≡ d
unfolding is_comma
delimiter_by true d e = sym ((bytes_eq-Decides d (codes ",")).0 e)
delimiter_by false d e = refl

pub delimiter_again : (d : List ℕ) → delimiter_given (delimiter_value d) ≡ d
delimiter_again d = delimiter_by (is_comma d) d refl

pub completion_again : (o : Option Predicate) → MayPredicateFit o → completion_of (members_given (completion_value o)) ≡ o
unfolding is_spelled spelled dashed
completion_again None fits = refl
completion_again (Some p) fits = ap Some (predicate_again p fits)

pub repository_again : (o : Option (List ℕ)) → is_given_name o ≡ true → repository_given (word_value o) ≡ o
repository_again None h = refl
repository_again (Some name) h = ap Some (unhashed_name name h)

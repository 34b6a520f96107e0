-- The settings of an aggregate with which nothing is wrong fit.
use Rattle.std.proofs.Common.{ℕ, ◌≡◌, ◌^◌, Bool, true, false, cond, not, ◌||◌, List, Option, Some, None, is_some, option_map, refl, sym, ap, ◌∙◌, subst, bytes_eq, codes, ltb-true}
use Rattle.std.specs.Prelude.{unwrap_or}
use Rattle.std.proofs.lemmas.Bool.{and_parts, not-true}
use Rattle.eip_text.specs.Json.{Json, Members}
use Rattle.eip_text.specs.Cuts.{behind}
use Rattle.eip_exchange.specs.declared.setting.Strategy.{Strategy}
use Rattle.eip_exchange.specs.declared.setting.Strategy.TheVariants as strategy
use Rattle.eip_route.specs.declared.route.Names.{Names}
use Rattle.eip_route.specs.Valid.{is_completed, is_group_strategy}
use Rattle.eip_route_grammar.specs.Objects as objects
use Rattle.eip_route_grammar.specs.Objects.{value_at, plainly, parameters_of, whole_object}
use Rattle.eip_route_faults.specs.Values as values
use Rattle.eip_route_grammar.specs.Texts.{unhashed, joined_by, strategy_of}
use Rattle.eip_route_faults.specs.Values.{is_strategy}
use Rattle.eip_route_grammar.specs.declared.fault.Cause.TheVariants as cause
use Rattle.eip_route_grammar.specs.declared.keys.Key.TheVariants as key
use Rattle.eip_route_grammar.specs.declared.table.Kind.TheVariants as kind
use Rattle.eip_route_grammar.specs.declared.table.Row.TheVariants as row
use Rattle.eip_route_grammar.specs.declared.table.Rule.TheVariants as rule
use Rattle.eip_route_validity.specs.Fit.{MayPredicateFit, ExprFits, GatheringFits}
use Rattle.eip_route_values.specs.Leaves.{members_given, count_of, flag_given}
use Rattle.eip_route_values.specs.Parts.{expr_of, strategy_given, completion_given, completion_of, gathering_in}
use Rattle.eip_route_validity.proofs.fitting.Faultless.{ObjectFits}
use Rattle.eip_route_validity.proofs.fitting.Keyed.{MayFit, not_missed, key_there, value_fits, with_must}
use Rattle.eip_route_validity.proofs.fitting.Values.{with_text, with_object, for_completion}
use Rattle.eip_route_validity.proofs.fitting.Tables.{completion_condition}
use Rattle.eip_route_validity.proofs.fitting.StepTables.{group_key, group_strategy, group_size, group_timeout, group_predicate}
use Rattle.eip_route_validity.proofs.fitting.Leaves.{given_count}
use Rattle.eip_route_validity.proofs.fitting.Parts.{condition_fits, value_expr_fits}

-- ---- strategies

-- a strategy of a group, where one is named
abbrev IsForGroup : Option Strategy → Type 0
IsForGroup o = is_group_strategy (unwrap_or o strategy.Latest) ≡ true

joined_fits : (o : Option (List ℕ)) → IsForGroup (joined_by o)
joined_fits None = refl
joined_fits (Some text) = refl

either : (b : Bool) (o p : Option Strategy) → IsForGroup o → IsForGroup p → IsForGroup (cond b o p)
either true o p e f = e
either false o p e f = f

-- any strategy but the one that a group can't have
abbrev others : List ℕ → Option Strategy
others w =
    cond (bytes_eq w (codes "latest")) (Some strategy.Latest)
    (cond (bytes_eq w (codes "joined")) (Some (strategy.Joined (codes ",")))
    (cond (bytes_eq w (codes "grouped")) (Some strategy.Grouped)
    (cond (bytes_eq w (codes "sum")) (Some strategy.Sum) (joined_by (behind (codes "joined:") w)))))

strategy_fits : (w : List ℕ) → bytes_eq w (codes "original") ≡ false → IsForGroup (strategy_of w)
unfolding strategy_of
strategy_fits w e =
    subst (λ (b : Bool). IsForGroup (cond b (Some strategy.Original) (others w))) (sym e)
    (either (bytes_eq w (codes "latest")) (Some strategy.Latest) _ refl
    (either (bytes_eq w (codes "joined")) (Some (strategy.Joined (codes ","))) _ refl
    (either (bytes_eq w (codes "grouped")) (Some strategy.Grouped) _ refl
    (either (bytes_eq w (codes "sum")) (Some strategy.Sum) (joined_by (behind (codes "joined:") w)) refl (joined_fits (behind (codes "joined:") w))))))

group_word : (w : List ℕ) → values.is_group_strategy w ≡ true → IsForGroup (strategy_of w)
group_word w e = strategy_fits w (not-true (bytes_eq w (codes "original")) (and_parts (not (bytes_eq w (codes "original"))) (is_strategy w) e).0)

given_strategy : (n : Names) (d : ℕ) (ps : List (List ℕ × List ℕ)) (o : Option Json) → MayFit n d ps (kind.Leaf rule.GroupStrategy) o → IsForGroup (strategy_given o)
given_strategy n d ps None e = refl
given_strategy n d ps (Some t) e =
    with_text (λ x. IsForGroup (strategy_given (Some x))) n d ps rule.GroupStrategy t ((λ b. refl), (λ z. refl)) e
    (λ w h. group_word (unhashed w) (not_missed (values.is_group_strategy (unhashed w)) cause.BadValue h))

-- ---- what completes a group

abbrev HasPredicate : Option Json → Type 0
HasPredicate o = MayPredicateFit (completion_of (members_given o)) × (is_some (completion_of (members_given o)) ≡ is_some o)

given_predicate : (n : Names) (d : ℕ) (ps : List (List ℕ × List ℕ)) (o : Option Json) → MayFit n d ps kind.CompletionPredicate o → HasPredicate o
given_predicate n d ps None e = (tt, refl)
given_predicate n d ps (Some t) e =
    with_object (λ x. HasPredicate (Some x)) n d ps kind.CompletionPredicate t for_completion e
    (λ ms o. with_must (λ x. MayPredicateFit (completion_given x) × (is_some (completion_given x) ≡ true)) n d kind.CompletionPredicate key.Simple kind.Condition ms completion_condition o
    (λ u h. (condition_fits n d (parameters_of ms) u h, refl)))

mapped_there : (limit : ℕ) (o : Option Json) → is_some (option_map (count_of limit) o) ≡ is_some o
mapped_there limit None = refl
mapped_there limit (Some t) = refl

flag_there : (o : Option Json) → flag_given false o ≡ plainly o
flag_there None = refl
flag_there (Some t) = refl

all_four : {a b c e p q r s : Bool} → p ≡ a → q ≡ b → r ≡ c → s ≡ e → ((a || b) || (c || e)) ≡ true → ((p || q) || (r || s)) ≡ true
all_four {a} {b} {c} {e} {p} {q} {r} {s} f g h k all =
    ap (λ (x : Bool). (x || q) || (r || s)) f ∙ ap (λ (x : Bool). (a || x) || (r || s)) g ∙ ap (λ (x : Bool). (a || b) || (x || s)) h ∙ ap (λ (x : Bool). (a || b) || (c || x)) k ∙ all

completed : (ms : Members) → HasPredicate (value_at key.CompletionPredicate ms) → whole_object kind.Aggregate ms ≡ None
    → is_completed (gathering_in ms).size (gathering_in ms).timeout (gathering_in ms).predicate (gathering_in ms).force ≡ true
completed ms h e =
    all_four
    (mapped_there (2 ^ 32) (value_at key.CompletionSize ms) ∙ sym (key_there key.CompletionSize ms))
    (mapped_there (2 ^ 64) (value_at key.CompletionTimeout ms) ∙ sym (key_there key.CompletionTimeout ms))
    (h.1 ∙ sym (key_there key.CompletionPredicate ms))
    (flag_there (value_at key.ForceCompletionOnStop ms))
    (not_missed (objects.completes ms) cause.NoCompletion e)

-- ---- the whole

pub gathering_fits : (n : Names) (d : ℕ) (ms : Members) → ObjectFits n d kind.Aggregate ms → GatheringFits (gathering_in ms)
gathering_fits n d ms o =
    let ps = parameters_of ms in
    let h = given_predicate n d ps (value_at key.CompletionPredicate ms) (value_fits n d ps kind.Aggregate (row.May key.CompletionPredicate kind.CompletionPredicate) ms group_predicate o.members) in
    record {
      key = with_must (λ x. ExprFits (expr_of (members_given x))) n d kind.Aggregate key.CorrelationExpression kind.Value ms group_key o (λ t e. value_expr_fits n d ps t e);
      strategy = given_strategy n d ps (value_at key.AggregationStrategy ms) (value_fits n d ps kind.Aggregate (row.May key.AggregationStrategy (kind.Leaf rule.GroupStrategy)) ms group_strategy o.members);
      predicate = h.0;
      size =
          given_count n d ps (2 ^ 32) 1 1000000 (value_at key.CompletionSize ms) (ltb-true 1000000 (2 ^ 32) refl)
          (value_fits n d ps kind.Aggregate (row.May key.CompletionSize (kind.Leaf (rule.Count 1 1000000))) ms group_size o.members);
      timeout =
          given_count n d ps (2 ^ 64) 1 1000000000 (value_at key.CompletionTimeout ms) (ltb-true 1000000000 (2 ^ 64) refl)
          (value_fits n d ps kind.Aggregate (row.May key.CompletionTimeout (kind.Leaf (rule.Count 1 1000000000))) ms group_timeout o.members);
      completed = completed ms h o.whole;
    }

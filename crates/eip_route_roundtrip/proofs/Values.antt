-- The single values that are printed have no fault.
use Rattle.std.proofs.Common.{◌≡◌, ℕ, pos, Bool, true, false, cond, List, [], ◌++◌, Option, Some, None, is_some, Result, refl, ap, ◌∙◌}
use Rattle.std.specs.Prelude.{codes, nat_lt, length}
use Rattle.std.proofs.lemmas.Bool.{leb-true, lt-ltb}
use Rattle.eip_text.specs.Json.{flag, word}
use Rattle.eip_text.specs.Names.{is_name}
use Rattle.eip_exchange.specs.declared.setting.Strategy.{Strategy}
use Rattle.eip_exchange.specs.declared.setting.Strategy.TheVariants as strategy
use Rattle.eip_simple_read.specs.Spelling.{template_text, predicate_text}
use Rattle.eip_simple_read.specs.declared.fault.SimpleFault.{SimpleFault}
use Rattle.eip_simple_read.specs.declared.tree.Predicate.{Predicate}
use Rattle.eip_simple_read.specs.declared.tree.Template.{Template}
use Rattle.eip_uri.specs.Inlets.{inlet_of}
use Rattle.eip_uri.specs.Printed.{printed}
use Rattle.eip_uri.specs.declared.fault.UriFault.{UriFault}
use Rattle.eip_uri.specs.declared.uri.Uri.{Uri}
use Rattle.eip_uri.proofs.AgainForms.{uri_again}
use Rattle.eip_route.specs.Goals.{is_among, lane_of}
use Rattle.eip_route.specs.Valid.{is_filled, is_kind, is_given_among, is_given_between, is_given_name, is_fan_strategy, is_group_strategy}
use Rattle.eip_route.specs.declared.route.Names.{Names}
use Rattle.eip_route_faults.specs.Sites.{found, word_sites, sites_at, or_later, first_fault}
use Rattle.eip_route_grammar.specs.Table.{rule_of}
use Rattle.eip_route_grammar.specs.Causes.{or_else}
use Rattle.eip_route_grammar.specs.Texts.{unhashed, strategy_of}
use Rattle.eip_route_faults.specs.Values.{unless, handed_in, name_cause, registered, served, consumer_cause, producer_cause, read_cause, spelled_cause, whole_cause, flag_cause, word_cause}
use Rattle.eip_route_grammar.specs.declared.fault.Cause.{Cause}
use Rattle.eip_route_grammar.specs.declared.fault.Cause.TheVariants as cause
use Rattle.eip_route_grammar.specs.declared.table.Kind.{Kind}
use Rattle.eip_route_grammar.specs.declared.table.Rule.{Rule}
use Rattle.eip_route_grammar.specs.declared.table.Rule.TheVariants as rule
use Rattle.eip_route_validity.specs.Fit.{TemplateFits, PredicateFits, Registered, TargetFits, SourceFits}
use Rattle.eip_route_canonical.specs.Canonical.{is_comma, strategy_text}
use Rattle.eip_route_roundtrip.proofs.Fine.{Fine, MayBeFine, none_at_all, none_found, word_fine}
use Rattle.eip_route_roundtrip.proofs.Objects.{set_value, unset_value, word_value, number_value, strategy_value, group_value, delimiter_value, backing_value}
use Rattle.eip_route_roundtrip.proofs.Parts.{unhashed_name, kind_again, strategy_text_again}

unless_true : (b : Bool) (c : Cause) → b ≡ true → unless b c ≡ None
unless_true b c e = ap (λ (t : Bool). cond t None (Some c)) e

-- the names that are handed in, the blocks around a value, and the parameters beside it
module _ (n : Names) (d : ℕ) (ps : List (List ℕ × List ℕ)) (v : Kind) where
  -- ---- texts

  pub template_fine : (t : Template) → rule_of v ≡ Some rule.Template → TemplateFits t → Fine n d ps v (word (template_text t))
  template_fine t e fits = word_fine n d ps v rule.Template (template_text t) e refl (ap (λ (r : Result Template SimpleFault). spelled_cause r) fits)

  pub predicate_fine : (p : Predicate) → rule_of v ≡ Some rule.Predicate → PredicateFits p → Fine n d ps v (word (predicate_text p))
  unfolding sites_at first_fault
  predicate_fine p e fits =
      ap (λ (o : Option Rule). first_fault (word_sites n ps o (predicate_text p))) e
      ∙ ap (λ (r : Result Predicate SimpleFault). or_later [] (spelled_cause r) None) fits

  pub name_fine : (w : List ℕ) → rule_of v ≡ Some rule.Name → is_name w ≡ true → Fine n d ps v (word w)
  name_fine w e h = word_fine n d ps v rule.Name w e refl (unless_true (is_name w) cause.BadName h)

  pub kind_fine : (w : List ℕ) → rule_of v ≡ Some rule.ExceptionType → is_kind w ≡ true → Fine n d ps v (word w)
  kind_fine w e h =
      word_fine n d ps v rule.ExceptionType w e refl (ap (λ (x : List ℕ). unless (is_kind x) cause.BadName) (kind_again w h) ∙ unless_true (is_kind w) cause.BadName h)

  pub filled_fine : (w : List ℕ) → rule_of v ≡ Some rule.Filled → is_filled w ≡ true → Fine n d ps v (word w)
  filled_fine w e h = word_fine n d ps v rule.Filled w e refl (unless_true (nat_lt 0 (length w)) cause.BadValue (lt-ltb 0 (length w) (leb-true 1 (length w) h)))

  delimiter_by : (w : List ℕ) (b : Bool) → rule_of v ≡ Some rule.Filled → is_filled w ≡ true → MayBeFine n d ps v (cond b None (Some (word w)))
  delimiter_by w true e h = tt
  delimiter_by w false e h = filled_fine w e h

  pub delimiter_fine : (w : List ℕ) → rule_of v ≡ Some rule.Filled → is_filled w ≡ true → MayBeFine n d ps v (delimiter_value w)
  delimiter_fine w e h = delimiter_by w (is_comma w) e h

  pub repository_fine : (o : Option (List ℕ)) → rule_of v ≡ Some rule.Repository → is_given_name o ≡ true → MayBeFine n d ps v (word_value o)
  repository_fine None e h = tt
  repository_fine (Some w) e h = word_fine n d ps v rule.Repository w e refl (ap (λ (x : List ℕ). name_cause x) (unhashed_name w h) ∙ unless_true (is_name w) cause.BadName h)

  -- ---- what is handed in

  registered_none : (w : List ℕ) (names : List (List ℕ)) → Registered w names → registered (unhashed w) names ≡ None
  registered_none w names h =
      ap (λ (x : List ℕ). registered x names) (unhashed_name w h.0)
      ∙ (ap (λ (o : Option Cause). or_else o (handed_in w names)) (unless_true (is_name w) cause.BadName h.0) ∙ unless_true (is_among w names) (cause.NotRegistered w) h.1)

  pub processor_fine : (w : List ℕ) → rule_of v ≡ Some rule.Processor → Registered w n.processors → Fine n d ps v (word w)
  processor_fine w e h = word_fine n d ps v rule.Processor w e refl (registered_none w n.processors h)

  pub stored_fine : (w : List ℕ) → rule_of v ≡ Some rule.StoredPredicate → Registered w n.predicates → Fine n d ps v (word w)
  stored_fine w e h = word_fine n d ps v rule.StoredPredicate w e refl (registered_none w n.predicates h)

  served_none : (o : Option (List ℕ)) (names : List (List ℕ)) → is_given_among o names ≡ true → served o names ≡ None
  served_none None names h = refl
  served_none (Some w) names h = unless_true (is_among w names) (cause.NotRegistered w) h

  pub target_fine : (u : Uri) → rule_of v ≡ Some rule.Producer → ps ≡ [] → TargetFits n u → Fine n d ps v (word (printed u))
  target_fine u e none h =
      word_fine n d ps v rule.Producer (printed u) e refl
      (ap (λ (qs : List (List ℕ × List ℕ)). word_cause n qs rule.Producer (printed u)) none
      ∙ (ap (λ (r : Result Uri UriFault). read_cause (producer_cause n) r) (uri_again u h.0)
      ∙ (ap (λ (t : Bool). cond t (served (lane_of u) n.lanes) (Some cause.NotProducer)) h.1.0 ∙ served_none (lane_of u) n.lanes h.1.1)))

  pub source_fine : (u : Uri) → rule_of v ≡ Some rule.Consumer → ps ≡ [] → SourceFits n u → Fine n d ps v (word (printed u))
  source_fine u e none h =
      word_fine n d ps v rule.Consumer (printed u) e refl
      (ap (λ (qs : List (List ℕ × List ℕ)). word_cause n qs rule.Consumer (printed u)) none
      ∙ (ap (λ (r : Result Uri UriFault). read_cause (consumer_cause n) r) (uri_again u h.0)
      ∙ (ap (λ (t : Bool). cond t (served (inlet_of u) n.inlets) (Some cause.NotConsumer)) h.1.0 ∙ served_none (inlet_of u) n.inlets h.1.1)))

  -- ---- flags and numbers

  pub flag_fine : (b : Bool) → rule_of v ≡ Some rule.Flag → Fine n d ps v (flag b)
  unfolding sites_at
  flag_fine b e = ap (λ (o : Option Rule). first_fault (found (flag_cause o b))) e ∙ none_at_all

  pub set_fine : (b : Bool) → rule_of v ≡ Some rule.Flag → MayBeFine n d ps v (set_value b)
  set_fine true e = flag_fine true e
  set_fine false e = tt

  pub unset_fine : (b : Bool) → rule_of v ≡ Some rule.Flag → MayBeFine n d ps v (unset_value b)
  unset_fine true e = tt
  unset_fine false e = flag_fine false e

  pub backing_fine : (o : Option Bool) → rule_of v ≡ Some rule.Flag → MayBeFine n d ps v (backing_value o)
  backing_fine None e = tt
  backing_fine (Some b) e = flag_fine b e

  pub number_fine : (low high : ℕ) (o : Option ℕ) → rule_of v ≡ Some (rule.Count low high) → is_given_between low high o ≡ true → MayBeFine n d ps v (number_value o)
  unfolding sites_at
  number_fine low high None e h = tt
  number_fine low high (Some k) e h =
      ap (λ (o : Option Rule). first_fault (found (whole_cause o (pos k)))) e
      ∙ none_found (whole_cause (Some (rule.Count low high)) (pos k)) (ap (λ (t : Bool). cond t None (Some cause.BadValue)) h)

  -- ---- strategies

  pub strategy_fine : (o : Option Strategy) → rule_of v ≡ Some rule.Strategy → is_fan_strategy o ≡ true → MayBeFine n d ps v (strategy_value o)
  strategy_fine None e h = tt
  strategy_fine (Some s) e h =
      word_fine n d ps v rule.Strategy (strategy_text s) e refl (ap (λ (x : Option Strategy). unless (is_some x) cause.BadValue) (strategy_text_again s h))

  joined_none : (between : List ℕ) (t : Bool) → word_cause n ps rule.GroupStrategy (cond t (codes "joined") (codes "joined:" ++ between)) ≡ None
  unfolding strategy_of
  joined_none between true = refl
  joined_none between false = refl

  pub group_fine : (s : Strategy) → rule_of v ≡ Some rule.GroupStrategy → is_group_strategy s ≡ true → MayBeFine n d ps v (group_value s)
  unfolding strategy_text strategy_of
  group_fine strategy.Latest e h = tt
  group_fine strategy.Original e h = absurd cc
  group_fine (strategy.Joined between) e h = word_fine n d ps v rule.GroupStrategy (strategy_text (strategy.Joined between)) e refl (joined_none between (is_comma between))
  group_fine strategy.Grouped e h = word_fine n d ps v rule.GroupStrategy (codes "grouped") e refl refl
  group_fine strategy.Sum e h = word_fine n d ps v rule.GroupStrategy (codes "sum") e refl refl
  group_fine strategy.Batch e h = absurd cc

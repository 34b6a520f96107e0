-- No fault of the definition is one that the count of patterns' faults tells.
use Rattle.std.proofs.Common.{ℕ, zero, ℤ, ◌+◌, ◌≡◌, ◌&&◌, inl, inr, Bool, true, false, cond, List, [], ◌∷◌, ◌++◌, Option, Some, None, Result, Ok, Err, refl, sym, ap, ◌∙◌, subst, arith}
use Rattle.eip_text.specs.Causes.{Rises}
use Rattle.eip_text.specs.Json.{Json, null, flag, whole, float, word, list, object, Items, no_items, item, Members, no_members, member}
use Rattle.eip_uri.specs.declared.uri.Uri.{Uri}
use Rattle.eip_uri.specs.declared.fault.UriFault.{UriFault}
use Rattle.eip_uri.specs.declared.fault.UriFault.TheVariants as uri_fault
use Rattle.eip_uri.specs.Inlets.{inlet_of}
use Rattle.eip_uri.specs.Reading.{read}
use Rattle.eip_uri.specs.Sides.{is_consumer, is_producer}
use Rattle.eip_simple_read.specs.declared.fault.SimpleFault.{SimpleFault}
use Rattle.eip_simple_read.specs.declared.tree.Template.{Template}
use Rattle.eip_simple_read.specs.Meaning.{answer, template_of, predicate_of}
use Rattle.eip_simple_read.specs.Reading.{Fault, Bad, Unknown, Refused, template, all_tests}
use Rattle.eip_route.specs.Goals.{is_among, lane_of}
use Rattle.eip_route.specs.declared.route.Names.{Names}
use Rattle.eip_route_grammar.specs.Table.{rows, row_for, rule_of, list_of, shape_of}
use Rattle.eip_route_grammar.specs.Causes.{or_else}
use Rattle.eip_route_grammar.specs.Texts.{unhashed}
use Rattle.eip_route_faults.specs.Values.{unless, name_cause, handed_in, registered, served, consumer_cause, producer_cause, read_cause, spelled_cause, key_cause, word_cause, whole_cause, flag_cause}
use Rattle.eip_route_grammar.specs.Objects.{clashes, missed, missing, known, keyed, known_one, one_key, is_note, one_aside, own_keys, keys_of, value_kind, parameters_of, whole_object, when, completes}
use Rattle.eip_route_grammar.specs.Paths.{key_step, index_step}
use Rattle.eip_route_faults.specs.Sites.{predicate, Site, found, under, has_none, is_deep, own_list, item_kind, deeper, is_predicate, word_sites, sites_at, items_sites, members_sites, cause_at, or_later, first_fault, cause_failures, found_failures, Builder, Walks}
use Rattle.eip_route_grammar.specs.declared.fault.Cause.{Cause}
use Rattle.eip_route_grammar.specs.declared.fault.Cause.TheVariants as cause
use Rattle.eip_route_grammar.specs.declared.fault.RouteFault.{RouteFault}
use Rattle.eip_route_grammar.specs.declared.known.Entry.{Entry}
use Rattle.eip_route_grammar.specs.declared.table.Kind.{Kind}
use Rattle.eip_route_grammar.specs.declared.table.Kind.TheVariants as kind
use Rattle.eip_route_grammar.specs.declared.table.Row.{Row}
use Rattle.eip_route_grammar.specs.declared.table.Row.TheVariants as row
use Rattle.eip_route_grammar.specs.declared.table.Rule.{Rule}
use Rattle.eip_route_grammar.specs.declared.table.Rule.TheVariants as rule
use Rattle.eip_route_grammar.specs.declared.table.Shape.{Shape}
use Rattle.eip_route_grammar.specs.declared.table.Shape.TheVariants as shape
use Rattle.eip_route_grammar.specs.declared.table.Listed.{Listed}

abbrev pub Quiet : Option Cause → Type 0
Quiet None = Unit {0}
Quiet (Some c) = cause_failures c ≡ 0

abbrev pub AreQuiet : List Site → Type 0
AreQuiet [] = Unit {0}
AreQuiet (s ∷ ss) = Quiet (cause_at s.1) × AreQuiet ss

-- ---- sites

pub quiet_found : (o : Option Cause) → Quiet o → AreQuiet (found o)
quiet_found None q = tt
quiet_found (Some c) q = (q, tt)

pub quiet_append : (xs ys : List Site) → AreQuiet xs → AreQuiet ys → AreQuiet (xs ++ ys)
quiet_append [] ys p q = q
quiet_append (s ∷ xs) ys p q = (p.0, quiet_append xs ys p.1 q)

pub quiet_under : (step : List ℕ) (xs : List Site) → AreQuiet xs → AreQuiet (under step xs)
quiet_under step [] p = tt
quiet_under step (s ∷ xs) p = (p.0, quiet_under step xs p.1)

-- ---- causes

quiet_unless : (b : Bool) (c : Cause) → cause_failures c ≡ 0 → Quiet (unless b c)
quiet_unless true c q = tt
quiet_unless false c q = q

quiet_when : (b : Bool) (c : Cause) → cause_failures c ≡ 0 → Quiet (when b c)
quiet_when true c q = q
quiet_when false c q = tt

quiet_or : (o p : Option Cause) → Quiet o → Quiet p → Quiet (or_else o p)
quiet_or None p q r = r
quiet_or (Some c) p q r = q

quiet_cond : (b : Bool) (o p : Option Cause) → Quiet o → Quiet p → Quiet (cond b o p)
quiet_cond true o p q r = q
quiet_cond false o p q r = r

-- ---- values

quiet_handed : (name : List ℕ) (names : List (List ℕ)) → Quiet (handed_in name names)
quiet_handed name names = quiet_unless (is_among name names) (cause.NotRegistered name) refl

quiet_registered : (name : List ℕ) (names : List (List ℕ)) → Quiet (registered name names)
quiet_registered name names = quiet_or (name_cause name) (handed_in name names) (quiet_unless _ cause.BadName refl) (quiet_handed name names)

quiet_served : (o : Option (List ℕ)) (names : List (List ℕ)) → Quiet (served o names)
quiet_served None names = tt
quiet_served (Some name) names = quiet_handed name names

quiet_consumer : (n : Names) (u : Uri) → Quiet (consumer_cause n u)
quiet_consumer n u = quiet_cond (is_consumer u) (served (inlet_of u) n.inlets) (Some cause.NotConsumer) (quiet_served (inlet_of u) n.inlets) refl

quiet_producer : (n : Names) (u : Uri) → Quiet (producer_cause n u)
quiet_producer n u = quiet_cond (is_producer u) (served (lane_of u) n.lanes) (Some cause.NotProducer) (quiet_served (lane_of u) n.lanes) refl

quiet_read : (judge : Uri → Option Cause) (r : Result Uri UriFault) → ((u : Uri) → Quiet (judge u)) → Quiet (read_cause judge r)
quiet_read judge (Ok u) q = q u
quiet_read judge (Err uri_fault.UnknownScheme) q = refl
quiet_read judge (Err (uri_fault.BadUri at)) q = refl
quiet_read judge (Err (uri_fault.UnknownOption name)) q = refl
quiet_read judge (Err (uri_fault.BadOption name)) q = refl
quiet_read judge (Err (uri_fault.DoubleOption name)) q = refl
quiet_read judge (Err uri_fault.NoMemory) q = tt

quiet_answer : {A B : Type 0} (len : ℕ) (make : A → B) (r : Result A Fault) → Quiet (spelled_cause (answer len make r))
quiet_answer len make (Ok x) = tt
quiet_answer len make (Err (Bad left)) = refl
quiet_answer len make (Err (Unknown left)) = refl
quiet_answer len make (Err (Refused left text)) = refl

quiet_template : (w : List ℕ) → Quiet (spelled_cause (template_of w))
unfolding template_of
quiet_template w = quiet_answer _ _ (template zero zero w)

quiet_predicate : (w : List ℕ) → Quiet (spelled_cause (predicate_of w))
unfolding predicate_of
quiet_predicate w = quiet_answer _ _ (all_tests None w)

quiet_key : (r : Result Template SimpleFault) → Quiet (spelled_cause r) → Quiet (key_cause r)
quiet_key (Ok t) q = quiet_unless _ cause.BadValue refl
quiet_key (Err e) q = q

quiet_word : (n : Names) (ps : List (List ℕ × List ℕ)) (r : Rule) (w : List ℕ) → Quiet (word_cause n ps r w)
quiet_word n ps rule.Word w = tt
quiet_word n ps rule.Name w = quiet_unless _ cause.BadName refl
quiet_word n ps rule.Repository w = quiet_unless _ cause.BadName refl
quiet_word n ps rule.Processor w = quiet_registered (unhashed w) n.processors
quiet_word n ps rule.StoredPredicate w = quiet_registered (unhashed w) n.predicates
quiet_word n ps rule.Consumer w = quiet_read (consumer_cause n) (read w ps) (quiet_consumer n)
quiet_word n ps rule.Producer w = quiet_read (producer_cause n) (read w ps) (quiet_producer n)
quiet_word n ps rule.Template w = quiet_template w
quiet_word n ps rule.OrderKey w = quiet_key (template_of w) (quiet_template w)
quiet_word n ps rule.Predicate w = tt
quiet_word n ps rule.Constant w = tt
quiet_word n ps rule.Flag w = quiet_unless _ cause.BadValue refl
quiet_word n ps (rule.Count low high) w = quiet_unless _ cause.BadValue refl
quiet_word n ps rule.Filled w = quiet_unless _ cause.BadValue refl
quiet_word n ps rule.WholeArray w = quiet_unless _ cause.BadValue refl
quiet_word n ps rule.Strategy w = quiet_unless _ cause.BadValue refl
quiet_word n ps rule.GroupStrategy w = quiet_unless _ cause.BadValue refl
quiet_word n ps rule.ExceptionType w = quiet_unless _ cause.BadName refl
quiet_word n ps rule.Level w = quiet_unless _ cause.BadValue refl

quiet_whole : (r : Option Rule) (z : ℤ) → Quiet (whole_cause r z)
quiet_whole (Some rule.Constant) z = tt
quiet_whole (Some (rule.Count low high)) z = quiet_unless _ cause.BadValue refl
quiet_whole _ z = refl

quiet_flag : (r : Option Rule) (b : Bool) → Quiet (flag_cause r b)
quiet_flag (Some rule.Constant) b = tt
quiet_flag (Some rule.Flag) b = tt
quiet_flag _ b = refl

quiet_by : (t : Bool) (n : Names) (ps : List (List ℕ × List ℕ)) (r : Rule) (w : List ℕ) → AreQuiet (cond {A = List Site} t (([], predicate w) ∷ []) (found (word_cause n ps r w)))
quiet_by true n ps r w = (quiet_predicate w, tt)
quiet_by false n ps r w = quiet_found (word_cause n ps r w) (quiet_word n ps r w)

quiet_words : (n : Names) (ps : List (List ℕ × List ℕ)) (r : Option Rule) (w : List ℕ) → AreQuiet (word_sites n ps r w)
quiet_words n ps None w = (refl, tt)
quiet_words n ps (Some r) w = quiet_by (is_predicate r) n ps r w

-- ---- keys

quiet_missed : (r : Row) → Quiet (missed r)
quiet_missed (row.Must k v) = refl
quiet_missed (row.May k v) = tt
quiet_missed (row.One k v) = refl

quiet_missing : (seen rs : List Row) → Quiet (missing seen rs)
quiet_missing seen [] = tt
quiet_missing seen (r ∷ rs) = quiet_or (cond (clashes r seen) None (missed r)) (missing seen rs) (quiet_cond (clashes r seen) None (missed r) tt (quiet_missed r)) (quiet_missing seen rs)

quiet_known : (o : Option Row) (k : List ℕ) (next : Row → Option Cause) → ((r : Row) → Quiet (next r)) → Quiet (known o k next)
quiet_known None k next q = refl
quiet_known (Some r) k next q = q r

quiet_keyed : (rs seen : List Row) (ks : List (List ℕ)) → Quiet (keyed rs seen ks)
quiet_keyed rs seen [] = quiet_missing seen rs
quiet_keyed rs seen (k ∷ ks) = quiet_known (row_for k rs) k _ (λ r. quiet_cond (clashes r seen) _ _ refl (quiet_keyed rs (seen ++ r ∷ []) ks))

quiet_known_one : (o : Option Row) (c : Cause) → cause_failures c ≡ 0 → Quiet (known_one o c)
quiet_known_one None c q = q
quiet_known_one (Some r) c q = tt

quiet_one : (rs : List Row) (unknown : List ℕ → Cause) (ks : List (List ℕ)) → ((k : List ℕ) → cause_failures (unknown k) ≡ 0) → Quiet (one_key rs unknown ks)
quiet_one rs unknown [] q = refl
quiet_one rs unknown (k ∷ []) q = quiet_known_one (row_for k rs) (unknown k) (q k)
quiet_one rs unknown (k ∷ j ∷ ks) q = refl

quiet_aside : (met : Bool) (ks : List (List ℕ)) → Quiet (one_aside met ks)
quiet_aside true [] = tt
quiet_aside false [] = refl
quiet_aside met (k ∷ ks) = quiet_cond (is_note k) (one_aside met ks) _ (quiet_aside met ks) (quiet_cond met (Some cause.NotOneKey) (one_aside true ks) refl (quiet_aside true ks))

quiet_own : (s : Shape) (rs : List Row) (ks : List (List ℕ)) → Quiet (own_keys s rs ks)
quiet_own shape.Keyed rs ks = quiet_keyed rs [] ks
quiet_own shape.Item rs ks = quiet_one rs _ ks (λ k. refl)
quiet_own shape.Step rs ks = quiet_one rs _ ks (λ k. refl)
quiet_own shape.Handler rs ks = quiet_or (one_aside false ks) (keyed rs [] ks) (quiet_aside false ks) (quiet_keyed rs [] ks)
quiet_own shape.Free rs ks = tt
quiet_own shape.Closed rs ks = refl

quiet_object : (v : Kind) (ms : Members) → Quiet (whole_object v ms)
quiet_object kind.Route ms = quiet_when _ cause.StepsTwice refl
quiet_object kind.OnException ms = quiet_when _ cause.BothHandledAndContinued refl
quiet_object kind.Aggregate ms = quiet_cond (completes ms) None (Some cause.NoCompletion) tt refl
quiet_object _ ms = tt

quiet_list : (d : ℕ) (o : Option Listed) (empty : Bool) → Quiet (own_list d o empty)
quiet_list d None empty = refl
quiet_list d (Some r) empty = quiet_cond (r.filled && empty) (Some cause.BadValue) _ refl (quiet_cond (is_deep d r.nests) (Some cause.TooNested) None refl tt)

-- ---- the walk

mutual
  unfolding sites_at

  pub quiet_sites : (n : Names) (d : ℕ) (ps : List (List ℕ × List ℕ)) (v : Kind) (t : Json) → AreQuiet (sites_at n d ps v t)
  quiet_sites n d ps v null = (refl, tt)
  quiet_sites n d ps v (flag b) = quiet_found (flag_cause (rule_of v) b) (quiet_flag (rule_of v) b)
  quiet_sites n d ps v (whole z) = quiet_found (whole_cause (rule_of v) z) (quiet_whole (rule_of v) z)
  quiet_sites n d ps v float = (refl, tt)
  quiet_sites n d ps v (word w) = quiet_words n ps (rule_of v) w
  quiet_sites n d ps v (list ts) =
      quiet_append (found (own_list d (list_of v) (has_none ts))) _ (quiet_found (own_list d (list_of v) (has_none ts)) (quiet_list d (list_of v) (has_none ts)))
      (quiet_items n (deeper d (list_of v)) (item_kind (list_of v)) 0 ts)
  quiet_sites n d ps v (object ms) =
      quiet_append (found (own_keys (shape_of v) (rows v) (keys_of ms))) _ (quiet_found (own_keys (shape_of v) (rows v) (keys_of ms)) (quiet_own (shape_of v) (rows v) (keys_of ms)))
      (quiet_append (members_sites n d (parameters_of ms) v ms) (found (whole_object v ms)) (quiet_members n d (parameters_of ms) v ms) (quiet_found (whole_object v ms) (quiet_object v ms)))

  pub quiet_items : (n : Names) (d : ℕ) (v : Kind) (k : ℕ) (ts : Items) → AreQuiet (items_sites n d v k ts)
  quiet_items n d v k no_items = tt
  quiet_items n d v k (item t ts) =
      quiet_append (under (index_step k) (sites_at n d [] v t)) (items_sites n d v (k + 1) ts) (quiet_under (index_step k) (sites_at n d [] v t) (quiet_sites n d [] v t)) (quiet_items n d v (k + 1) ts)

  pub quiet_members : (n : Names) (d : ℕ) (ps : List (List ℕ × List ℕ)) (v : Kind) (ms : Members) → AreQuiet (members_sites n d ps v ms)
  quiet_members n d ps v no_members = tt
  quiet_members n d ps v (member k t ms) =
      quiet_append (under (key_step k) (sites_at n d ps (value_kind v k) t)) (members_sites n d ps v ms) (quiet_under (key_step k) (sites_at n d ps (value_kind v k) t) (quiet_sites n d ps (value_kind v k) t)) (quiet_members n d ps v ms)

-- ---- the first fault

first_by : (path : List ℕ) (o : Option Cause) (later : Option RouteFault) (f : RouteFault) → Quiet o → (later ≡ Some f → cause_failures f.cause ≡ 0) → or_later path o later ≡ Some f → cause_failures f.cause ≡ 0
first_by path None later f q next e = next e
first_by path (Some c) later f q next e =
    let same : c ≡ f.cause = ap (λ (o : Option RouteFault). elim o as (λ _. Cause) [ None ↦ c | Some g ↦ g.cause ]) e in
    ap cause_failures (sym same) ∙ q

first_quiet : (ss : List Site) (f : RouteFault) → AreQuiet ss → first_fault ss ≡ Some f → cause_failures f.cause ≡ 0
unfolding first_fault
first_quiet [] f q e = cc
first_quiet (s ∷ ss) f q e = first_by s.0 (cause_at s.1) (first_fault ss) f q.0 (λ h. first_quiet ss f q.1 h) e

still : (b : ℕ) → Rises 0 b b
still b = record { never_falls = omega arith; least = omega arith; none = λ h. refl }

stays : (w b n : ℕ) → w ≡ 0 → n ≡ b → Rises w b n
stays w b n e h =
    let P : ℕ → Type 0 = λ x. Rises x b n in
    let Q : ℕ → Type 0 = λ x. Rises 0 b x in
    subst P (sym e) (subst Q (sym h) (still b))

-- the count of patterns' faults rose where a walk answers so
pub walk_rises : (ss : List Site) (a : Option RouteFault) (b n : Builder) (k l : List Entry) → AreQuiet ss → Walks ss a b k n l → Rises (found_failures a) b.faults n.faults
unfolding Walks
walk_rises ss None b n k l q h = stays 0 b.faults n.faults refl h.1.faults
walk_rises ss (Some f) b n k l q (inl h) = stays (cause_failures f.cause) b.faults n.faults (first_quiet ss f q h.0) h.1.faults
walk_rises ss (Some f) b n k l q (inr h) = h.1

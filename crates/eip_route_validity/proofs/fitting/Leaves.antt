-- Texts and numbers with which nothing is wrong are such as their rules take.
use Rattle.std.proofs.Common.{ℕ, suc, ℤ, pos, negsuc, ◌≡◌, ◌<◌, Bool, true, cond, List, length, Option, Some, None, option_map, Result, Ok, Err, refl, sym, ap, ◌∙◌, nat_lt, nat_le, ltb-true, lt-ltb, leb-true, le-leb, arith}
use Rattle.std.proofs.lemmas.Bool.{and_parts, true≢false}
use Rattle.eip_text.specs.Json.{Json, null, flag, whole, float, word, list, object, no_items, item}
use Rattle.eip_text.specs.Names.{is_name}
use Rattle.eip_text.specs.Numbers.{whole_of}
use Rattle.eip_simple_read.specs.declared.fault.SimpleFault.{SimpleFault}
use Rattle.eip_simple_read.specs.declared.fault.SimpleFault.TheVariants as fault
use Rattle.eip_simple_read.specs.declared.tree.Predicate.{Predicate}
use Rattle.eip_simple_read.specs.declared.tree.Template.{Template}
use Rattle.eip_simple_read.specs.Meaning.{answer, template_of, predicate_of}
use Rattle.eip_simple_read.specs.Reading.{Fault, Bad, Unknown, Refused, template, all_tests}
use Rattle.eip_simple_read.proofs.Laws.{template_stays, predicate_stays}
use Rattle.eip_uri.specs.Ranges.{is_between}
use Rattle.eip_route.specs.Goals.{is_among}
use Rattle.eip_route.specs.declared.route.Names.{Names}
use Rattle.eip_route.specs.Valid.{is_filled, is_kind, is_given_name, is_given_between}
use Rattle.eip_route_grammar.specs.Table.{rule_of, list_of, shape_of}
use Rattle.eip_route_grammar.specs.Texts.{unhashed, last_segment}
use Rattle.eip_route_faults.specs.Values.{name_cause, handed_in, registered, simple_cause, spelled_cause, is_within, is_count}
use Rattle.eip_route_grammar.specs.declared.fault.Cause.TheVariants as cause
use Rattle.eip_route_grammar.specs.declared.table.Kind.TheVariants as kind
use Rattle.eip_route_grammar.specs.declared.table.Rule.TheVariants as rule
use Rattle.eip_route_validity.specs.Fit.{TemplateFits, PredicateFits, Registered, TargetFits, SourceFits}
use Rattle.eip_route_values.specs.Leaves.{text_of, texts_of, exceptions_of, natural, natural_given, count_of}
use Rattle.eip_route_values.specs.Parts as parts
use Rattle.eip_route_values.specs.Parts.{template_or_empty, predicate_or_empty, endpoint, repository_given, delimiter_given}
use Rattle.eip_route_validity.proofs.fitting.Faultless.{or_none, IsFaultless, fits}
use Rattle.eip_route_validity.proofs.fitting.Keyed.{MayFit, not_missed}
use Rattle.eip_route_validity.proofs.fitting.Values.{with_text}
use Rattle.eip_route_validity.proofs.fitting.Endpoints.{target_fits, source_fits}

-- ---- templates and predicates

answer_told : {A B : Type 0} (len : ℕ) (make : A → B) (r : Result A Fault) → answer len make r ≡ Err fault.NoMemory → ⊥
answer_told len make (Ok x) e = cc
answer_told len make (Err (Bad left)) e = cc
answer_told len make (Err (Unknown left)) e = cc
answer_told len make (Err (Refused left text)) e = cc

template_told : (w : List ℕ) → template_of w ≡ Err fault.NoMemory → ⊥
unfolding template_of
template_told w e = answer_told (length w) _ (template 0 0 w) e

pub predicate_told : (w : List ℕ) → predicate_of w ≡ Err fault.NoMemory → ⊥
unfolding predicate_of
predicate_told w e = answer_told (length w) _ (all_tests None w) e

pub no_cause : (e : SimpleFault) → simple_cause e ≡ None → e ≡ fault.NoMemory
no_cause (fault.BadSimple at) h = absurd cc
no_cause (fault.UnknownFunction at) h = absurd cc
no_cause (fault.BadPattern at) h = absurd cc
no_cause (fault.PatternTooLarge at) h = absurd cc
no_cause fault.NoMemory h = refl

template_by : (w : List ℕ) (r : Result Template SimpleFault) → template_of w ≡ r → spelled_cause r ≡ None → TemplateFits (template_or_empty r)
template_by w (Ok t) p e = template_stays w t p
template_by w (Err x) p e = absurd (template_told w (p ∙ ap (λ (y : SimpleFault). Err y) (no_cause x e)))

pub template_word : (w : List ℕ) → spelled_cause (template_of w) ≡ None → TemplateFits (parts.template w)
template_word w e = template_by w (template_of w) refl e

predicate_by : (w : List ℕ) (r : Result Predicate SimpleFault) → predicate_of w ≡ r → spelled_cause r ≡ None → PredicateFits (predicate_or_empty r)
predicate_by w (Ok p) q e = predicate_stays w p q
predicate_by w (Err x) q e = absurd (predicate_told w (q ∙ ap (λ (y : SimpleFault). Err y) (no_cause x e)))

pub predicate_word : (w : List ℕ) → spelled_cause (predicate_of w) ≡ None → PredicateFits (parts.predicate w)
predicate_word w e = predicate_by w (predicate_of w) refl e

pub template_leaf : (n : Names) (d : ℕ) (ps : List (List ℕ × List ℕ)) (t : Json) → IsFaultless n d ps (kind.Leaf rule.Template) t → TemplateFits (parts.template (text_of t))
template_leaf n d ps t e = with_text (λ x. TemplateFits (parts.template (text_of x))) n d ps rule.Template t ((λ b. refl), (λ z. refl)) e (λ w h. template_word w h)

pub predicate_leaf : (n : Names) (d : ℕ) (ps : List (List ℕ × List ℕ)) (t : Json) → IsFaultless n d ps (kind.Leaf rule.Predicate) t → PredicateFits (parts.predicate (text_of t))
predicate_leaf n d ps t e = with_text (λ x. PredicateFits (parts.predicate (text_of x))) n d ps rule.Predicate t ((λ b. refl), (λ z. refl)) e (λ w h. predicate_word w h)

-- ---- endpoints

pub target_leaf : (n : Names) (d : ℕ) (ps : List (List ℕ × List ℕ)) (t : Json) → IsFaultless n d ps (kind.Leaf rule.Producer) t → TargetFits n (endpoint (text_of t) ps)
target_leaf n d ps t e = with_text (λ x. TargetFits n (endpoint (text_of x) ps)) n d ps rule.Producer t ((λ b. refl), (λ z. refl)) e (λ w h. target_fits n w ps h)

pub source_leaf : (n : Names) (d : ℕ) (ps : List (List ℕ × List ℕ)) (t : Json) → IsFaultless n d ps (kind.Leaf rule.Consumer) t → SourceFits n (endpoint (text_of t) ps)
source_leaf n d ps t e = with_text (λ x. SourceFits n (endpoint (text_of x) ps)) n d ps rule.Consumer t ((λ b. refl), (λ z. refl)) e (λ w h. source_fits n w ps h)

-- ---- names

pub name_word : (w : List ℕ) → name_cause w ≡ None → is_name w ≡ true
name_word w e = not_missed (is_name w) cause.BadName e

pub name_leaf : (n : Names) (d : ℕ) (ps : List (List ℕ × List ℕ)) (t : Json) → IsFaultless n d ps (kind.Leaf rule.Name) t → is_name (text_of t) ≡ true
name_leaf n d ps t e = with_text (λ x. is_name (text_of x) ≡ true) n d ps rule.Name t ((λ b. refl), (λ z. refl)) e name_word

pub given_name : (n : Names) (d : ℕ) (ps : List (List ℕ × List ℕ)) (o : Option Json) → MayFit n d ps (kind.Leaf rule.Name) o → is_given_name (option_map text_of o) ≡ true
given_name n d ps None e = refl
given_name n d ps (Some t) e = name_leaf n d ps t e

pub given_repository : (n : Names) (d : ℕ) (ps : List (List ℕ × List ℕ)) (o : Option Json) → MayFit n d ps (kind.Leaf rule.Repository) o → is_given_name (repository_given o) ≡ true
given_repository n d ps None e = refl
given_repository n d ps (Some t) e = with_text (λ x. is_name (unhashed (text_of x)) ≡ true) n d ps rule.Repository t ((λ b. refl), (λ z. refl)) e (λ w h. name_word (unhashed w) h)

pub registered_word : (name : List ℕ) (names : List (List ℕ)) → registered name names ≡ None → Registered name names
registered_word name names e =
    let h = or_none (name_cause name) (handed_in name names) e in
    (name_word name h.0, not_missed (is_among name names) (cause.NotRegistered name) h.1)

pub processor_leaf : (n : Names) (d : ℕ) (ps : List (List ℕ × List ℕ)) (t : Json) → IsFaultless n d ps (kind.Leaf rule.Processor) t → Registered (unhashed (text_of t)) n.processors
processor_leaf n d ps t e = with_text (λ x. Registered (unhashed (text_of x)) n.processors) n d ps rule.Processor t ((λ b. refl), (λ z. refl)) e (λ w h. registered_word (unhashed w) n.processors h)

pub stored_leaf : (n : Names) (d : ℕ) (ps : List (List ℕ × List ℕ)) (t : Json) → IsFaultless n d ps (kind.Leaf rule.StoredPredicate) t → Registered (unhashed (text_of t)) n.predicates
stored_leaf n d ps t e = with_text (λ x. Registered (unhashed (text_of x)) n.predicates) n d ps rule.StoredPredicate t ((λ b. refl), (λ z. refl)) e (λ w h. registered_word (unhashed w) n.predicates h)

pub thrown_leaf : (n : Names) (d : ℕ) (ps : List (List ℕ × List ℕ)) (t : Json) → IsFaultless n d ps (kind.Leaf rule.ExceptionType) t → is_kind (last_segment (text_of t)) ≡ true
thrown_leaf n d ps t e = with_text (λ x. is_kind (last_segment (text_of x)) ≡ true) n d ps rule.ExceptionType t ((λ b. refl), (λ z. refl)) e (λ w h. not_missed (is_kind (last_segment w)) cause.BadName h)

-- ---- texts that are not empty

pub filled_word : (w : List ℕ) → nat_lt 0 (length w) ≡ true → is_filled w ≡ true
filled_word w e = let h = ltb-true 0 (length w) e in le-leb 1 (length w) (omega arith)

pub filled_leaf : (n : Names) (d : ℕ) (ps : List (List ℕ × List ℕ)) (t : Json) → IsFaultless n d ps (kind.Leaf rule.Filled) t → is_filled (text_of t) ≡ true
filled_leaf n d ps t e = with_text (λ x. is_filled (text_of x) ≡ true) n d ps rule.Filled t ((λ b. refl), (λ z. refl)) e (λ w h. filled_word w (not_missed (nat_lt 0 (length w)) cause.BadValue h))

pub given_delimiter : (n : Names) (d : ℕ) (ps : List (List ℕ × List ℕ)) (o : Option Json) → MayFit n d ps (kind.Leaf rule.Filled) o → is_filled (delimiter_given o) ≡ true
given_delimiter n d ps None e = refl
given_delimiter n d ps (Some t) e = filled_leaf n d ps t e

-- ---- names of exceptions

pub exceptions_filled : (n : Names) (d : ℕ) (ps : List (List ℕ × List ℕ)) (t : Json) → IsFaultless n d ps kind.Exceptions t → is_filled (exceptions_of t) ≡ true
unfolding list_of
exceptions_filled n d ps (list no_items) e = absurd (let h = (fits n d ps kind.Exceptions (list no_items) e).0 in cc)
exceptions_filled n d ps (list (item t ts)) e = le-leb 1 (suc (length (texts_of ts))) (omega arith)
exceptions_filled n d ps null e = refl
exceptions_filled n d ps (flag b) e = refl
exceptions_filled n d ps (whole z) e = refl
exceptions_filled n d ps float e = refl
exceptions_filled n d ps (word w) e = refl
exceptions_filled n d ps (object ms) e = refl

-- ---- counts

natural_fits : (limit low high : ℕ) (z : ℤ) → high < limit → is_within low high z ≡ true → is_between low high (natural limit z) ≡ true
natural_fits limit low high (pos k) below e =
    let h = leb-true k high (and_parts (nat_le low k) (nat_le k high) e).1 in
    let small : nat_lt k limit ≡ true = lt-ltb k limit (omega arith) in
    ap (λ (b : Bool). is_between low high (cond b k 0)) small ∙ e
natural_fits limit low high (negsuc k) below e = absurd (true≢false (sym e))

spelled_fits : (limit low high : ℕ) (o : Option ℤ) → high < limit → is_count low high o ≡ true → is_between low high (natural_given limit o) ≡ true
spelled_fits limit low high None below e = absurd (true≢false (sym e))
spelled_fits limit low high (Some z) below e = natural_fits limit low high z below e

pub given_count : (n : Names) (d : ℕ) (ps : List (List ℕ × List ℕ)) (limit low high : ℕ) (o : Option Json) → high < limit → MayFit n d ps (kind.Leaf (rule.Count low high)) o
    → is_given_between low high (option_map (count_of limit) o) ≡ true
unfolding rule_of list_of shape_of
given_count n d ps limit low high None below e = refl
given_count n d ps limit low high (Some null) below e = absurd (fits n d ps (kind.Leaf (rule.Count low high)) null e)
given_count n d ps limit low high (Some (flag b)) below e = absurd (let h = fits n d ps (kind.Leaf (rule.Count low high)) (flag b) e in cc)
given_count n d ps limit low high (Some (whole z)) below e = natural_fits limit low high z below (not_missed (is_within low high z) cause.BadValue (fits n d ps (kind.Leaf (rule.Count low high)) (whole z) e))
given_count n d ps limit low high (Some float) below e = absurd (fits n d ps (kind.Leaf (rule.Count low high)) float e)
given_count n d ps limit low high (Some (word w)) below e =
    spelled_fits limit low high (whole_of w) below (not_missed (is_count low high (whole_of w)) cause.BadValue (fits n d ps (kind.Leaf (rule.Count low high)) (word w) e))
given_count n d ps limit low high (Some (list ts)) below e = absurd (let h = (fits n d ps (kind.Leaf (rule.Count low high)) (list ts) e).0 in cc)
given_count n d ps limit low high (Some (object ms)) below e = absurd (let h = (fits n d ps (kind.Leaf (rule.Count low high)) (object ms) e).0 in cc)

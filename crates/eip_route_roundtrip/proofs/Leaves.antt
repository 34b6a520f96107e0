-- Each step that is printed without steps in it: it is read again, has no fault, and has its keys in order.
use Rattle.std.proofs.Common.{◌≡◌, ℕ, true, List, Option, Some, None, refl, ap, ◌∙◌, [], ◌∷◌, ◌++◌, arith, codes}
use Rattle.eip_text.specs.Json.{Json, word, Members, members_of}
use Rattle.eip_text.specs.Names.{is_name}
use Rattle.eip_simple_read.specs.Spelling.{template_text}
use Rattle.eip_simple_read.specs.declared.tree.Template.{Template}
use Rattle.eip_uri.specs.Printed.{printed}
use Rattle.eip_uri.specs.Ranges.{is_uri}
use Rattle.eip_uri.specs.declared.uri.Uri.{Uri}
use Rattle.eip_route.specs.Nest.{NestedStep, leaf}
use Rattle.eip_route.specs.Valid.{is_fan, is_kind, is_filled, is_given_name}
use Rattle.eip_route.specs.declared.route.Names.{Names}
use Rattle.eip_route.specs.declared.step.Expr.{Expr}
use Rattle.eip_route.specs.declared.step.Fan.{Fan}
use Rattle.eip_route.specs.declared.step.Step.{Step}
use Rattle.eip_route_grammar.specs.Keys.{is_spelled, spelled, dashed}
use Rattle.eip_route_grammar.specs.Objects.{value_at}
use Rattle.eip_route_grammar.specs.Table.{rows, rule_of, shape_of}
use Rattle.eip_route_validity.specs.Fit.{TemplateFits, ExprFits, LeafFits, Registered, TargetFits}
use Rattle.eip_route_values.specs.Leaves.{text_given}
use Rattle.eip_route_values.specs.Nesting.{nest_step}
use Rattle.eip_route_values.specs.Parts.{template, expr_in, fan_in, delimiter_given}
use Rattle.eip_route_canonical.specs.Canonical.{Pairs, object_of, alone, set_body_json, named_value_json, log_json, throw_json, text_json, recipients_json, leaf_json, one, where_set, constant_pairs, named_pairs, simple_pairs, expr_pairs, strategy_pairs, delimiter_pairs, is_comma}
use Rattle.eip_route_roundtrip.proofs.Objects.{set_value, strategy_value, delimiter_value, expr_puts, expr_slots, may, must, constant_slots, named_slots, simple_slots, put_set, put_strategy, put_delimiter, put_constant, put_named, put_simple}
use Rattle.eip_route_roundtrip.proofs.Parts.{template_again, endpoint_again, unhashed_name, kind_again, fan_again, expr_slot, simple_again, plain_expr_again, delimiter_again}
use Rattle.eip_route_roundtrip.proofs.Slots.{Slot, Puts, filled, slot_at, value_filled, sure, put_one, ◌and◌}
use Rattle.eip_route_roundtrip.proofs.Fine.{Fine, MayBeFine, SlotsFine, HasKeys, word_fine, object_fine, alone_fine}
use Rattle.eip_route_roundtrip.proofs.Keyed.{keys_fine}
use Rattle.eip_route_roundtrip.proofs.Values.{template_fine, name_fine, kind_fine, delimiter_fine, processor_fine, target_fine, set_fine, strategy_fine}
use Rattle.eip_route_roundtrip.proofs.Ordered.{Good, deeper, word_good, join, single, object_good, alone_good, set_in}
use Rattle.eip_route_roundtrip.proofs.OrderedParts.{constant_in, named_in, simple_in, expr_good, strategy_in, delimiter_in}
use Rattle.eip_route.specs.declared.step.Expr.TheVariants as expr
use Rattle.eip_route.specs.declared.step.Step.TheVariants as step
use Rattle.eip_route_grammar.specs.declared.keys.Key.TheVariants as key
use Rattle.eip_route_grammar.specs.declared.table.Kind.TheVariants as kind
use Rattle.eip_route_grammar.specs.declared.table.Rule.TheVariants as rule

-- ---- the slots of their objects

abbrev named_value_slots : List ℕ → Expr → List Slot
named_value_slots name e = constant_slots e ++ named_slots e ++ must (codes "name") (word name) ++ simple_slots e

named_value_puts : (name : List ℕ) (e : Expr) → Puts (constant_pairs e ++ named_pairs e ++ one (codes "name") (word name) ++ simple_pairs e) (named_value_slots name e)
named_value_puts name e = put_constant e and put_named e and put_one and put_simple e

abbrev recipients_slots : Expr → List ℕ → Fan → List Slot
recipients_slots e delimiter fan = may (codes "aggregationStrategy") (strategy_value fan.strategy)
    ++ constant_slots e
    ++ may (codes "delimiter") (delimiter_value delimiter)
    ++ named_slots e
    ++ may (codes "parallelProcessing") (set_value fan.parallel)
    ++ may (codes "shareUnitOfWork") (set_value fan.share)
    ++ simple_slots e
    ++ may (codes "stopOnException") (set_value fan.stop)

recipients_puts : (e : Expr) (delimiter : List ℕ) (fan : Fan) → Puts (strategy_pairs fan.strategy
    ++ constant_pairs e
    ++ delimiter_pairs delimiter
    ++ named_pairs e
    ++ where_set (codes "parallelProcessing") fan.parallel
    ++ where_set (codes "shareUnitOfWork") fan.share
    ++ simple_pairs e
    ++ where_set (codes "stopOnException") fan.stop) (recipients_slots e delimiter fan)
recipients_puts e delimiter fan =
    put_strategy fan.strategy and put_constant e and put_delimiter delimiter (is_comma delimiter) and put_named e and put_set fan.parallel and put_set fan.share and put_simple e and put_set fan.stop

-- ---- what each says

-- a step of an object that pairs put
abbrev pub object_step : List ℕ → Pairs → NestedStep
object_step k ps = nest_step (alone k (object_of ps))

-- ---- steps without steps

set_body_again : (e : Expr) → ExprFits e → nest_step (set_body_json e) ≡ leaf (step.SetBody e)
unfolding set_body_json rows is_spelled spelled dashed
set_body_again e fits = ap (object_step (codes "setBody")) (expr_puts e).same ∙ ap (λ (x : Expr). leaf (step.SetBody x)) (plain_expr_again e fits)

named_expr_again : (name : List ℕ) (e : Expr) → ExprFits e → expr_in (members_of (filled (named_value_slots name e))) ≡ e
unfolding is_spelled spelled dashed
named_expr_again name (expr.Simple t) fits = expr_slot (named_value_slots name (expr.Simple t)) (expr.Simple t) refl (simple_again t fits)
named_expr_again name (expr.Constant w) fits = expr_slot (named_value_slots name (expr.Constant w)) (expr.Constant w) refl refl
named_expr_again name (expr.Header w) fits = expr_slot (named_value_slots name (expr.Header w)) (expr.Header w) refl refl
named_expr_again name (expr.Property w) fits = expr_slot (named_value_slots name (expr.Property w)) (expr.Property w) refl refl

name_again : (name : List ℕ) (e : Expr) → slot_at key.Name (named_value_slots name e) ≡ Some (word name)
unfolding is_spelled spelled dashed
name_again name (expr.Simple t) = refl
name_again name (expr.Constant w) = refl
name_again name (expr.Header w) = refl
name_again name (expr.Property w) = refl

set_header_again : (name : List ℕ) (e : Expr) → ExprFits e → nest_step (named_value_json (codes "setHeader") name e) ≡ leaf (step.SetHeader name e)
unfolding named_value_json rows is_spelled spelled dashed
set_header_again name e fits =
    let ss : List Slot = named_value_slots name e in
    ap (object_step (codes "setHeader")) (named_value_puts name e).same
    ∙ (ap (λ (o : Option Json). leaf (step.SetHeader (text_given o) (expr_in (members_of (filled ss))))) (value_filled key.Name ss ∙ name_again name e)
    ∙ ap (λ (x : Expr). leaf (step.SetHeader name x)) (named_expr_again name e fits))

set_property_again : (name : List ℕ) (e : Expr) → ExprFits e → nest_step (named_value_json (codes "setProperty") name e) ≡ leaf (step.SetProperty name e)
unfolding named_value_json rows is_spelled spelled dashed
set_property_again name e fits =
    let ss : List Slot = named_value_slots name e in
    ap (object_step (codes "setProperty")) (named_value_puts name e).same
    ∙ (ap (λ (o : Option Json). leaf (step.SetProperty (text_given o) (expr_in (members_of (filled ss))))) (value_filled key.Name ss ∙ name_again name e)
    ∙ ap (λ (x : Expr). leaf (step.SetProperty name x)) (named_expr_again name e fits))

remove_header_again : (name : List ℕ) → nest_step (text_json (codes "removeHeader") name) ≡ leaf (step.RemoveHeader name)
unfolding rows is_spelled spelled dashed
remove_header_again name = refl

to_again : (u : Uri) → is_uri u ≡ true → nest_step (text_json (codes "to") (printed u)) ≡ leaf (step.To u)
unfolding rows is_spelled spelled dashed
to_again u h = ap (λ (v : Uri). leaf (step.To v)) (endpoint_again u h)

log_again : (name : Option (List ℕ)) (t : Template) → TemplateFits t → nest_step (log_json name t) ≡ leaf (step.Log name t)
unfolding log_json rows is_spelled spelled dashed
log_again None t fits = ap (λ (x : Template). leaf (step.Log None x)) (template_again t fits)
log_again (Some name) t fits = ap (λ (x : Template). leaf (step.Log (Some name) x)) (template_again t fits)

throw_again : (fault : List ℕ) (t : Template) → is_kind fault ≡ true → TemplateFits t → nest_step (throw_json fault t) ≡ leaf (step.Throw fault t)
unfolding throw_json rows is_spelled spelled dashed
throw_again fault t h fits =
    ap (λ (w : List ℕ). leaf (step.Throw w (template (template_text t)))) (kind_again fault h) ∙ ap (λ (x : Template). leaf (step.Throw fault x)) (template_again t fits)

process_again : (name : List ℕ) → is_name name ≡ true → nest_step (text_json (codes "process") name) ≡ leaf (step.Process name)
unfolding rows is_spelled spelled dashed
process_again name h = ap (λ (w : List ℕ). leaf (step.Process w)) (unhashed_name name h)

recipients_expr_again : (e : Expr) (delimiter : List ℕ) (fan : Fan) → ExprFits e → expr_in (members_of (filled (recipients_slots e delimiter fan))) ≡ e
unfolding is_spelled spelled dashed
recipients_expr_again (expr.Simple t) delimiter fan fits = expr_slot (recipients_slots (expr.Simple t) delimiter fan) (expr.Simple t) refl (simple_again t fits)
recipients_expr_again (expr.Constant w) delimiter fan fits = expr_slot (recipients_slots (expr.Constant w) delimiter fan) (expr.Constant w) refl refl
recipients_expr_again (expr.Header w) delimiter fan fits = expr_slot (recipients_slots (expr.Header w) delimiter fan) (expr.Header w) refl refl
recipients_expr_again (expr.Property w) delimiter fan fits = expr_slot (recipients_slots (expr.Property w) delimiter fan) (expr.Property w) refl refl

-- the values of the keys that stand among those of an expression
record RecipientsAt (e : Expr) (delimiter : List ℕ) (fan : Fan) : Type 0 where
  strategy : slot_at key.AggregationStrategy (recipients_slots e delimiter fan) ≡ strategy_value fan.strategy
  parallel : slot_at key.ParallelProcessing (recipients_slots e delimiter fan) ≡ set_value fan.parallel
  share : slot_at key.ShareUnitOfWork (recipients_slots e delimiter fan) ≡ set_value fan.share
  stop : slot_at key.StopOnException (recipients_slots e delimiter fan) ≡ set_value fan.stop
  between : slot_at key.Delimiter (recipients_slots e delimiter fan) ≡ delimiter_value delimiter

recipients_at : (e : Expr) (delimiter : List ℕ) (fan : Fan) → RecipientsAt e delimiter fan
unfolding is_spelled spelled dashed
recipients_at (expr.Simple t) delimiter fan = record { strategy = refl; parallel = refl; share = refl; stop = refl; between = refl }
recipients_at (expr.Constant w) delimiter fan = record { strategy = refl; parallel = refl; share = refl; stop = refl; between = refl }
recipients_at (expr.Header w) delimiter fan = record { strategy = refl; parallel = refl; share = refl; stop = refl; between = refl }
recipients_at (expr.Property w) delimiter fan = record { strategy = refl; parallel = refl; share = refl; stop = refl; between = refl }

sent_by : (ms : Members) (e : Expr) (delimiter : List ℕ) (fan : Fan) → expr_in ms ≡ e → delimiter_given (value_at key.Delimiter ms) ≡ delimiter → fan_in ms ≡ fan
    → leaf (step.Recipients (expr_in ms) (delimiter_given (value_at key.Delimiter ms)) (fan_in ms)) ≡ leaf (step.Recipients e delimiter fan)
sent_by ms e delimiter fan p q r = cc

recipients_again : (e : Expr) (delimiter : List ℕ) (fan : Fan) → ExprFits e → is_fan fan ≡ true → nest_step (recipients_json e delimiter fan) ≡ leaf (step.Recipients e delimiter fan)
unfolding recipients_json rows is_spelled spelled dashed
recipients_again e delimiter fan fits f =
    let ss : List Slot = recipients_slots e delimiter fan in
    let at : RecipientsAt e delimiter fan = recipients_at e delimiter fan in
    ap (object_step (codes "recipientList")) (recipients_puts e delimiter fan).same
    ∙ sent_by (members_of (filled ss)) e delimiter fan (recipients_expr_again e delimiter fan fits)
    (ap delimiter_given (value_filled key.Delimiter ss ∙ at.between) ∙ delimiter_again delimiter)
    (fan_again (members_of (filled ss)) fan (value_filled key.AggregationStrategy ss ∙ at.strategy) (value_filled key.ParallelProcessing ss ∙ at.parallel) (value_filled key.ShareUnitOfWork ss ∙ at.share) (value_filled key.StopOnException ss ∙ at.stop) f)

-- ---- all of them

pub leaf_again : (n : Names) (s : Step) → LeafFits n s → nest_step (leaf_json s) ≡ leaf s
leaf_again n (step.SetBody e) f = set_body_again e f
leaf_again n (step.SetHeader name e) f = set_header_again name e f.1
leaf_again n (step.SetProperty name e) f = set_property_again name e f.1
leaf_again n (step.RemoveHeader name) f = remove_header_again name
leaf_again n (step.To u) f = to_again u f.0
leaf_again n (step.Log name message) f = log_again name message f.1
leaf_again n (step.Throw fault message) f = throw_again fault message f.0 f.1
leaf_again n (step.Process name) f = process_again name f.0
leaf_again n (step.Recipients e delimiter fan) f = recipients_again e delimiter fan f.0 f.1.1
leaf_again n _ f = absurd f

-- ---- and has no fault: expressions

pub simple_fine : (n : Names) (d : ℕ) (t : Template) → TemplateFits t → Fine n d [] kind.Simple (word (template_text t))
unfolding rule_of
simple_fine n d t fits = template_fine n d [] kind.Simple t refl fits

pub constant_fine : (n : Names) (d : ℕ) (w : List ℕ) → Fine n d [] kind.Constant (word w)
unfolding rule_of
constant_fine n d w = word_fine n d [] kind.Constant rule.Constant w refl refl refl

pub named_fine : (n : Names) (d : ℕ) (w : List ℕ) → is_name w ≡ true → Fine n d [] (kind.Leaf rule.Name) (word w)
unfolding rule_of
named_fine n d w h = name_fine n d [] (kind.Leaf rule.Name) w refl h

expr_keys : (e : Expr) → HasKeys kind.Value (expr_slots e)
unfolding shape_of rows is_spelled spelled dashed
expr_keys (expr.Simple t) = record { own = keys_fine (rows kind.Value) (expr_slots (expr.Simple t)) refl refl; parameters = refl }
expr_keys (expr.Constant w) = record { own = keys_fine (rows kind.Value) (expr_slots (expr.Constant w)) refl refl; parameters = refl }
expr_keys (expr.Header w) = record { own = keys_fine (rows kind.Value) (expr_slots (expr.Header w)) refl refl; parameters = refl }
expr_keys (expr.Property w) = record { own = keys_fine (rows kind.Value) (expr_slots (expr.Property w)) refl refl; parameters = refl }

expr_values : (n : Names) (d : ℕ) (e : Expr) → ExprFits e → SlotsFine n d [] kind.Value (expr_slots e)
unfolding rows is_spelled spelled dashed
expr_values n d (expr.Simple t) fits = (simple_fine n d t fits, tt)
expr_values n d (expr.Constant w) fits = (constant_fine n d w, tt)
expr_values n d (expr.Header w) fits = (named_fine n d w fits, tt)
expr_values n d (expr.Property w) fits = (named_fine n d w fits, tt)

-- an object that is an expression
pub value_fine : (n : Names) (d : ℕ) (ps : List (List ℕ × List ℕ)) (e : Expr) → ExprFits e → Fine n d ps kind.Value (object_of (expr_pairs e))
value_fine n d ps e fits = object_fine n d ps kind.Value (expr_pairs e) (expr_slots e) (expr_puts e) (expr_keys e) (expr_values n d e fits) refl

-- ---- the steps without steps

set_body_fine : (n : Names) (d : ℕ) (e : Expr) → ExprFits e → Fine n d [] kind.Step (set_body_json e)
unfolding set_body_json shape_of rows is_spelled spelled dashed
set_body_fine n d e fits = alone_fine n d [] kind.Step (codes "setBody") (object_of (expr_pairs e)) refl refl (value_fine n d [] e fits)

named_keys : (name : List ℕ) (e : Expr) → HasKeys kind.NamedValue (named_value_slots name e)
unfolding shape_of rows is_spelled spelled dashed
named_keys name (expr.Simple t) = record { own = keys_fine (rows kind.NamedValue) (named_value_slots name (expr.Simple t)) refl refl; parameters = refl }
named_keys name (expr.Constant w) = record { own = keys_fine (rows kind.NamedValue) (named_value_slots name (expr.Constant w)) refl refl; parameters = refl }
named_keys name (expr.Header w) = record { own = keys_fine (rows kind.NamedValue) (named_value_slots name (expr.Header w)) refl refl; parameters = refl }
named_keys name (expr.Property w) = record { own = keys_fine (rows kind.NamedValue) (named_value_slots name (expr.Property w)) refl refl; parameters = refl }

named_values : (n : Names) (d : ℕ) (name : List ℕ) (e : Expr) → is_name name ≡ true → ExprFits e → SlotsFine n d [] kind.NamedValue (named_value_slots name e)
unfolding rows is_spelled spelled dashed
named_values n d name (expr.Simple t) h fits = (named_fine n d name h, (simple_fine n d t fits, tt))
named_values n d name (expr.Constant w) h fits = (constant_fine n d w, (named_fine n d name h, tt))
named_values n d name (expr.Header w) h fits = (named_fine n d w fits, (named_fine n d name h, tt))
named_values n d name (expr.Property w) h fits = (named_fine n d w fits, (named_fine n d name h, tt))

named_value_fine : (n : Names) (d : ℕ) (name : List ℕ) (e : Expr) → is_name name ≡ true → ExprFits e
    → Fine n d [] kind.NamedValue (object_of (constant_pairs e ++ named_pairs e ++ one (codes "name") (word name) ++ simple_pairs e))
named_value_fine n d name e h fits =
    object_fine n d [] kind.NamedValue (constant_pairs e ++ named_pairs e ++ one (codes "name") (word name) ++ simple_pairs e) (named_value_slots name e)
    (named_value_puts name e) (named_keys name e) (named_values n d name e h fits) refl

set_header_fine : (n : Names) (d : ℕ) (name : List ℕ) (e : Expr) → is_name name ≡ true → ExprFits e → Fine n d [] kind.Step (named_value_json (codes "setHeader") name e)
unfolding named_value_json shape_of rows is_spelled spelled dashed
set_header_fine n d name e h fits = alone_fine n d [] kind.Step (codes "setHeader") _ refl refl (named_value_fine n d name e h fits)

set_property_fine : (n : Names) (d : ℕ) (name : List ℕ) (e : Expr) → is_name name ≡ true → ExprFits e → Fine n d [] kind.Step (named_value_json (codes "setProperty") name e)
unfolding named_value_json shape_of rows is_spelled spelled dashed
set_property_fine n d name e h fits = alone_fine n d [] kind.Step (codes "setProperty") _ refl refl (named_value_fine n d name e h fits)

remove_header_fine : (n : Names) (d : ℕ) (name : List ℕ) → is_name name ≡ true → Fine n d [] kind.Step (text_json (codes "removeHeader") name)
unfolding shape_of rows rule_of is_spelled spelled dashed
remove_header_fine n d name h = alone_fine n d [] kind.Step (codes "removeHeader") (word name) refl refl (name_fine n d [] kind.RemoveHeader name refl h)

to_fine : (n : Names) (d : ℕ) (u : Uri) → TargetFits n u → Fine n d [] kind.Step (text_json (codes "to") (printed u))
unfolding shape_of rows rule_of is_spelled spelled dashed
to_fine n d u h = alone_fine n d [] kind.Step (codes "to") (word (printed u)) refl refl (target_fine n d [] kind.To u refl refl h)

process_fine : (n : Names) (d : ℕ) (name : List ℕ) → Registered name n.processors → Fine n d [] kind.Step (text_json (codes "process") name)
unfolding shape_of rows rule_of is_spelled spelled dashed
process_fine n d name h = alone_fine n d [] kind.Step (codes "process") (word name) refl refl (processor_fine n d [] kind.Process name refl h)

abbrev log_slots : List ℕ → Template → List Slot
log_slots name t = sure (codes "logName") (word name) ∷ sure (codes "message") (word (template_text t)) ∷ []

log_fine : (n : Names) (d : ℕ) (name : Option (List ℕ)) (t : Template) → is_given_name name ≡ true → TemplateFits t → Fine n d [] kind.Step (log_json name t)
unfolding log_json shape_of rows rule_of is_spelled spelled dashed
log_fine n d None t h fits = alone_fine n d [] kind.Step (codes "log") (word (template_text t)) refl refl (template_fine n d [] kind.Log t refl fits)
log_fine n d (Some name) t h fits =
    alone_fine n d [] kind.Step (codes "log") _ refl refl
    (object_fine n d [] kind.Log (one (codes "logName") (word name) ++ one (codes "message") (word (template_text t))) (log_slots name t) (put_one and put_one)
    (record { own = keys_fine (rows kind.Log) (log_slots name t) refl refl; parameters = refl })
    (name_fine n d [] (kind.Leaf rule.Name) name refl h, (template_fine n d [] (kind.Leaf rule.Template) t refl fits, tt)) refl)

abbrev throw_slots : List ℕ → Template → List Slot
throw_slots fault t = sure (codes "exceptionType") (word fault) ∷ sure (codes "message") (word (template_text t)) ∷ []

throw_fine : (n : Names) (d : ℕ) (fault : List ℕ) (t : Template) → is_kind fault ≡ true → TemplateFits t → Fine n d [] kind.Step (throw_json fault t)
unfolding throw_json shape_of rows rule_of is_spelled spelled dashed
throw_fine n d fault t h fits =
    alone_fine n d [] kind.Step (codes "throwException") _ refl refl
    (object_fine n d [] kind.ThrowException (one (codes "exceptionType") (word fault) ++ one (codes "message") (word (template_text t))) (throw_slots fault t) (put_one and put_one)
    (record { own = keys_fine (rows kind.ThrowException) (throw_slots fault t) refl refl; parameters = refl })
    (kind_fine n d [] (kind.Leaf rule.ExceptionType) fault refl h, (template_fine n d [] (kind.Leaf rule.Template) t refl fits, tt)) refl)

recipients_keys : (e : Expr) (delimiter : List ℕ) (fan : Fan) → HasKeys kind.RecipientList (recipients_slots e delimiter fan)
unfolding shape_of rows is_spelled spelled dashed
recipients_keys (expr.Simple t) delimiter fan = record { own = keys_fine (rows kind.RecipientList) (recipients_slots (expr.Simple t) delimiter fan) refl refl; parameters = refl }
recipients_keys (expr.Constant w) delimiter fan = record { own = keys_fine (rows kind.RecipientList) (recipients_slots (expr.Constant w) delimiter fan) refl refl; parameters = refl }
recipients_keys (expr.Header w) delimiter fan = record { own = keys_fine (rows kind.RecipientList) (recipients_slots (expr.Header w) delimiter fan) refl refl; parameters = refl }
recipients_keys (expr.Property w) delimiter fan = record { own = keys_fine (rows kind.RecipientList) (recipients_slots (expr.Property w) delimiter fan) refl refl; parameters = refl }

recipients_values : (n : Names) (d : ℕ) (e : Expr) (delimiter : List ℕ) (fan : Fan) → ExprFits e → MayBeFine n d [] (kind.Leaf rule.Strategy) (strategy_value fan.strategy)
    → MayBeFine n d [] (kind.Leaf rule.Filled) (delimiter_value delimiter) → MayBeFine n d [] (kind.Leaf rule.Flag) (set_value fan.parallel)
    → MayBeFine n d [] (kind.Leaf rule.Flag) (set_value fan.share) → MayBeFine n d [] (kind.Leaf rule.Flag) (set_value fan.stop)
    → SlotsFine n d [] kind.RecipientList (recipients_slots e delimiter fan)
unfolding rows is_spelled spelled dashed
recipients_values n d (expr.Simple t) delimiter fan fits s b p u q = (s, (b, (p, (u, (simple_fine n d t fits, (q, tt))))))
recipients_values n d (expr.Constant w) delimiter fan fits s b p u q = (s, (constant_fine n d w, (b, (p, (u, (q, tt))))))
recipients_values n d (expr.Header w) delimiter fan fits s b p u q = (s, (b, (named_fine n d w fits, (p, (u, (q, tt))))))
recipients_values n d (expr.Property w) delimiter fan fits s b p u q = (s, (b, (named_fine n d w fits, (p, (u, (q, tt))))))

recipients_fine : (n : Names) (d : ℕ) (e : Expr) (delimiter : List ℕ) (fan : Fan) → ExprFits e → is_filled delimiter ≡ true → is_fan fan ≡ true → Fine n d [] kind.Step (recipients_json e delimiter fan)
unfolding recipients_json shape_of rows rule_of is_spelled spelled dashed
recipients_fine n d e delimiter fan fits h s =
    alone_fine n d [] kind.Step (codes "recipientList") _ refl refl
    (object_fine n d [] kind.RecipientList _ (recipients_slots e delimiter fan) (recipients_puts e delimiter fan) (recipients_keys e delimiter fan)
    (recipients_values n d e delimiter fan fits (strategy_fine n d [] (kind.Leaf rule.Strategy) fan.strategy refl s) (delimiter_fine n d [] (kind.Leaf rule.Filled) delimiter refl h)
    (set_fine n d [] (kind.Leaf rule.Flag) fan.parallel refl) (set_fine n d [] (kind.Leaf rule.Flag) fan.share refl) (set_fine n d [] (kind.Leaf rule.Flag) fan.stop refl)) refl)

pub leaf_fine : (n : Names) (d : ℕ) (s : Step) → LeafFits n s → Fine n d [] kind.Step (leaf_json s)
leaf_fine n d (step.SetBody e) f = set_body_fine n d e f
leaf_fine n d (step.SetHeader name e) f = set_header_fine n d name e f.0 f.1
leaf_fine n d (step.SetProperty name e) f = set_property_fine n d name e f.0 f.1
leaf_fine n d (step.RemoveHeader name) f = remove_header_fine n d name f
leaf_fine n d (step.To u) f = to_fine n d u f
leaf_fine n d (step.Log name message) f = log_fine n d name message f.0 f.1
leaf_fine n d (step.Throw fault message) f = throw_fine n d fault message f.0 f.1
leaf_fine n d (step.Process name) f = process_fine n d name f
leaf_fine n d (step.Recipients e delimiter fan) f = recipients_fine n d e delimiter fan f.0 f.1.0 f.1.1
leaf_fine n d _ f = absurd f

-- ---- and has its keys in order

body_good : (e : Expr) → Good 2 (set_body_json e)
unfolding set_body_json
body_good e = alone_good (codes "setBody") (expr_good e)

named_value_good : (k name : List ℕ) (e : Expr) → Good 2 (named_value_json k name e)
unfolding named_value_json
named_value_good k name e = alone_good k (object_good (join (join (join (constant_in e) (named_in e) refl) (single (codes "name") (word_good name)) refl) (simple_in e) refl) refl)

log_good : (o : Option (List ℕ)) (m : Template) → Good 2 (log_json o m)
unfolding log_json
log_good None m = alone_good (codes "log") (word_good (template_text m))
log_good (Some name) m = alone_good (codes "log") (object_good (join (single (codes "logName") (word_good name)) (single (codes "message") (word_good (template_text m))) refl) refl)

throw_good : (fault : List ℕ) (m : Template) → Good 2 (throw_json fault m)
unfolding throw_json
throw_good fault m = alone_good (codes "throwException") (object_good (join (single (codes "exceptionType") (word_good fault)) (single (codes "message") (word_good (template_text m))) refl) refl)

recipients_good : (e : Expr) (d : List ℕ) (fan : Fan) → Good 2 (recipients_json e d fan)
unfolding recipients_json
recipients_good e d fan = alone_good (codes "recipientList") (object_good (join (join (join (join (join (join (join (strategy_in fan.strategy) (constant_in e) refl) (delimiter_in d) refl) (named_in e) refl) (set_in (codes "parallelProcessing") fan.parallel) refl) (set_in (codes "shareUnitOfWork") fan.share) refl) (simple_in e) refl) (set_in (codes "stopOnException") fan.stop) refl) refl)

pub leaf_good : (n : Names) (s : Step) → LeafFits n s → Good 2 (leaf_json s)
leaf_good n (step.SetBody e) h = body_good e
leaf_good n (step.SetHeader name e) h = named_value_good (codes "setHeader") name e
leaf_good n (step.SetProperty name e) h = named_value_good (codes "setProperty") name e
leaf_good n (step.RemoveHeader name) h = deeper (alone_good (codes "removeHeader") (word_good {n = 0} name)) (omega arith)
leaf_good n (step.To u) h = deeper (alone_good (codes "to") (word_good {n = 0} (printed u))) (omega arith)
leaf_good n (step.Log name message) h = log_good name message
leaf_good n (step.Throw fault message) h = throw_good fault message
leaf_good n (step.Process name) h = deeper (alone_good (codes "process") (word_good {n = 0} name)) (omega arith)
leaf_good n (step.Recipients e delimiter fan) h = recipients_good e delimiter fan
leaf_good n _ h = absurd h

-- What is printed is read again.
use Rattle.std.proofs.Common.{◌≡◌, ℕ, suc, ◌+◌, Bool, true, false, not, cond, ◌&&◌, List, [], ◌∷◌, ◌++◌, length, Option, Some, None, Result, Ok, refl, sym, ap, ◌∙◌, append_assoc}
use Rattle.std.specs.Prelude.{is_none}
use Rattle.std.proofs.lemmas.List.{append-nil}
use Rattle.std.proofs.lemmas.Bool.{and_parts}
use Rattle.eip_simple_read.specs.declared.tree.Function.{Function}
use Rattle.eip_simple_read.specs.declared.tree.Function.TheVariants.{Body, Header, Property, ExchangeId, RouteId, ExceptionMessage}
use Rattle.eip_simple_read.specs.declared.tree.Part.{Part}
use Rattle.eip_simple_read.specs.declared.tree.Part.TheVariants as part
use Rattle.eip_simple_read.specs.declared.tree.Side.{Side}
use Rattle.eip_simple_read.specs.declared.tree.Side.TheVariants as side
use Rattle.eip_simple_read.specs.declared.tree.Op.{Op}
use Rattle.eip_simple_read.specs.declared.tree.Op.TheVariants.{Equal, NotEqual, EqualFold, Less, AtMost, Greater, AtLeast, Contains, NotContains, ContainsFold, StartsWith, EndsWith, In, NotIn, Range, NotRange}
use Rattle.eip_simple_read.specs.declared.operators.Operator.TheVariants as operator
use Rattle.eip_simple_read.specs.declared.tree.Test.{Test}
use Rattle.eip_simple_read.specs.declared.tree.Test.TheVariants as test
use Rattle.std.specs.List.{list_all}
use Rattle.eip_text.specs.Cuts.{behind, cut, unspaced, holds_byte}
use Rattle.eip_text.specs.Names.{is_name, is_name_byte}
use Rattle.eip_text.proofs.Cutting.{cut_again, names_lack}
use Rattle.eip_simple_read.specs.Reading.{Fault, ◌>>=◌, closed, known, named, function_behind, plain, plain_or_call, then_call, template, enclosed, quoted, numeral, word, side_at, symbol, named_operator, operator_at, spaced, gap, plain_part, plain_text, begins_quoted, pattern_at, test_at}
use Rattle.eip_simple_read.specs.Spelling.{name_of, function_text, parts_text, quote_for, quoted_text, side_text, op_text, regex_text, test_text, is_function, is_plain, begins_plain, is_some_text, are_parts, is_quotable, is_side, is_test}
use Rattle.eip_simple_read.proofs.TemplateSteps.{Parts, plains, with_plains, one_plain, no_plains, plains_call, plains_end, at_call, after_call}

none_is : {A : Type 0} (o : Option A) → is_none o ≡ true → None ≡ o
none_is None e = refl
none_is (Some x) e = absurd cc

-- ---- functions

-- a Name holds no closing brace
name_lacks : (x : List ℕ) → is_name x ≡ true → holds_byte 125 x ≡ false
unfolding is_name
name_lacks x h = names_lack 125 x refl (and_parts _ (list_all is_name_byte x) h).1

function_lacks : (f : Function) → is_function f ≡ true → holds_byte 125 (name_of f) ≡ false
function_lacks Body h = refl
function_lacks (Header x) h = name_lacks x h
function_lacks (Property x) h = name_lacks x h
function_lacks ExchangeId h = refl
function_lacks RouteId h = refl
function_lacks ExceptionMessage h = refl

named_again : (f : Function) → is_function f ≡ true → named (name_of f) ≡ Some f
unfolding named
named_again Body h = refl
named_again (Header x) h = rw h refl
named_again (Property x) h = rw h refl
named_again ExchangeId h = refl
named_again RouteId h = refl
named_again ExceptionMessage h = refl

pub function_again : (left : ℕ) (f : Function) (rest : List ℕ) → is_function f ≡ true → function_behind left ((name_of f ++ 125 ∷ []) ++ rest) ≡ Ok (f, rest)
unfolding function_behind
function_again left f rest h =
    ap (λ (t : List ℕ). closed left (cut 125 t)) (append_assoc (name_of f) (125 ∷ []) rest)
    ∙ ap (closed left) (cut_again 125 (name_of f) rest (function_lacks f h))
    ∙ ap (λ (o : Option Function). known left o rest) (named_again f h)

-- ---- templates

plain_again : (after : ℕ) (t rest : List ℕ) → is_plain t rest ≡ true → template after 0 (t ++ rest) ≡ with_plains t (template after 0 rest)
unfolding template
plain_again after [] rest h = no_plains (template after 0 rest)
plain_again after (b ∷ bs) rest h =
    let p = and_parts (is_none (behind (36 ∷ 123 ∷ []) (b ∷ (bs ++ rest)))) (is_plain bs rest) h in
    let none : None ≡ behind (36 ∷ 123 ∷ []) (b ∷ (bs ++ rest)) = none_is _ p.0 in
    let one : template after 0 (b ∷ (bs ++ rest)) ≡ (template after 0 (bs ++ rest) >>= λ ps. Ok (plain b ps)) = ap (λ (o : Option (List ℕ)). plain_or_call after b (template after 0 (bs ++ rest)) (λ k. template after k (bs ++ rest)) (length (bs ++ rest)) o) (sym none) in
    one ∙ ap (λ (r : Parts). r >>= λ ps. Ok (plain b ps)) (plain_again after bs rest p.1) ∙ one_plain b bs (template after 0 rest)

plains_before : (t : List ℕ) (ps : List Part) → is_some_text t ≡ true → not (begins_plain ps) ≡ true → plains t ps ≡ part.Plain t ∷ ps
plains_before [] ps some h = absurd cc
plains_before (b ∷ bs) [] some h = plains_end b bs
plains_before (b ∷ bs) (part.Call f ∷ ps) some h = plains_call b bs f ps
plains_before (b ∷ bs) (part.Plain t ∷ ps) some h = absurd cc

pub template_again : (after : ℕ) (ps : List Part) → are_parts ps ≡ true → template after 0 (parts_text ps) ≡ Ok ps
unfolding template
template_again after [] h = refl
template_again after (part.Plain t ∷ ps) h =
    let p = and_parts (is_some_text t && is_plain t (parts_text ps) && not (begins_plain ps)) (are_parts ps) h in
    let q = and_parts (is_some_text t && is_plain t (parts_text ps)) (not (begins_plain ps)) p.0 in
    let r = and_parts (is_some_text t) (is_plain t (parts_text ps)) q.0 in
    plain_again after t (parts_text ps) r.1 ∙ ap (with_plains t) (template_again after ps p.1) ∙ ap (λ (x : List Part). Ok x) (plains_before t ps r.0 q.1)
template_again after (part.Call f ∷ ps) h =
    let p = and_parts (is_function f) (are_parts ps) h in
    let rest = parts_text ps in
    let inner = (name_of f ++ 125 ∷ []) ++ rest in
    let read = function_again (length inner + 2 + after) f rest p.0 in
    at_call after inner
    ∙ ap (λ (r : Result (Function × List ℕ) Fault). then_call (suc (length inner)) (λ k. template after k (123 ∷ inner)) r) read
    ∙ ap (λ (r : Parts). r >>= λ qs. Ok (part.Call f ∷ qs)) (after_call after inner (f, rest) read ∙ template_again after ps p.1)

-- ---- sides

quoted_again : (q : ℕ) (bs : List ℕ) (ps : List Part) (rest : List ℕ) → holds_byte q bs ≡ false → template (length rest + 1) 0 bs ≡ Ok ps
    → quoted q ((bs ++ q ∷ []) ++ rest) ≡ Ok (side.Value (record { parts = ps }), rest)
unfolding quoted
quoted_again q bs ps rest lacks read =
    ap (λ (o : Option (List ℕ × List ℕ)). enclosed (length ((bs ++ q ∷ []) ++ rest) + 1) o) (ap (cut q) (append_assoc bs (q ∷ []) rest) ∙ cut_again q bs rest lacks)
    ∙ ap (λ (r : Parts). r >>= λ qs. Ok (side.Value (record { parts = qs }), rest)) read

one_lacks : (a b : Bool) → not (a && b) ≡ true → a ≡ true → b ≡ false
one_lacks true true h e = absurd cc
one_lacks true false h e = refl
one_lacks false b h e = absurd cc

value_by : (t : Bool) (bs : List ℕ) (ps : List Part) (rest : List ℕ) → holds_byte 39 bs ≡ t → is_quotable bs ≡ true → template (length rest + 1) 0 bs ≡ Ok ps
    → side_at ((cond t 34 39 ∷ (bs ++ cond t 34 39 ∷ [])) ++ rest) ≡ Ok (side.Value (record { parts = ps }), rest)
unfolding side_at
value_by true bs ps rest e h read = quoted_again 34 bs ps rest (one_lacks (holds_byte 39 bs) (holds_byte 34 bs) h e) read
value_by false bs ps rest e h read = quoted_again 39 bs ps rest e read

pub side_again : (s : Side) (rest : List ℕ) → is_side s ≡ true → side_at (side_text s ++ rest) ≡ Ok (s, rest)
unfolding side_at numeral word
side_again (side.Value t) rest h =
    let p = and_parts (are_parts t.parts) (is_quotable (parts_text t.parts)) h in
    value_by (holds_byte 39 (parts_text t.parts)) (parts_text t.parts) t.parts rest refl p.1 (template_again (length rest + 1) t.parts p.0)
side_again (side.Call f) rest h = ap (λ (r : Result (Function × List ℕ) Fault). r >>= λ g. Ok (side.Call g.0, g.1)) (function_again (length (function_text f ++ rest)) f rest h)
side_again side.Null rest h = refl

-- ---- tests

unspaced_by : (t : Bool) (bs rest : List ℕ) → unspaced ((cond t 34 39 ∷ bs) ++ rest) ≡ (cond t 34 39 ∷ bs) ++ rest
unspaced_by true bs rest = refl
unspaced_by false bs rest = refl

pub unspaced_side : (s : Side) (rest : List ℕ) → unspaced (side_text s ++ rest) ≡ side_text s ++ rest
unspaced_side (side.Value t) rest = unspaced_by (holds_byte 39 (parts_text t.parts)) _ rest
unspaced_side (side.Call f) rest = refl
unspaced_side side.Null rest = refl

unspaced_op : (op : Op) (rest : List ℕ) → unspaced (op_text op ++ rest) ≡ op_text op ++ rest
unspaced_op Equal rest = refl
unspaced_op NotEqual rest = refl
unspaced_op EqualFold rest = refl
unspaced_op Less rest = refl
unspaced_op AtMost rest = refl
unspaced_op Greater rest = refl
unspaced_op AtLeast rest = refl
unspaced_op Contains rest = refl
unspaced_op NotContains rest = refl
unspaced_op ContainsFold rest = refl
unspaced_op StartsWith rest = refl
unspaced_op EndsWith rest = refl
unspaced_op In rest = refl
unspaced_op NotIn rest = refl
unspaced_op Range rest = refl
unspaced_op NotRange rest = refl

unspaced_regex : (negated : Bool) (rest : List ℕ) → unspaced (regex_text negated ++ rest) ≡ regex_text negated ++ rest
unspaced_regex false rest = refl
unspaced_regex true rest = refl

operator_again : (op : Op) (rest : List ℕ) → operator_at (op_text op ++ (32 ∷ rest)) ≡ Some (operator.Compares op, 32 ∷ rest)
unfolding operator_at symbol named_operator
operator_again Equal rest = refl
operator_again NotEqual rest = refl
operator_again EqualFold rest = refl
operator_again Less rest = refl
operator_again AtMost rest = refl
operator_again Greater rest = refl
operator_again AtLeast rest = refl
operator_again Contains rest = refl
operator_again NotContains rest = refl
operator_again ContainsFold rest = refl
operator_again StartsWith rest = refl
operator_again EndsWith rest = refl
operator_again In rest = refl
operator_again NotIn rest = refl
operator_again Range rest = refl
operator_again NotRange rest = refl

regex_again : (negated : Bool) (rest : List ℕ) → operator_at (regex_text negated ++ rest) ≡ Some (operator.Matches negated, rest)
unfolding operator_at symbol named_operator
regex_again false rest = refl
regex_again true rest = refl

spaced_again : (bs : List ℕ) → unspaced bs ≡ bs → spaced (32 ∷ bs) ≡ Ok bs
unfolding spaced
spaced_again bs e = ap (λ (t : List ℕ). Ok t) e

pub gap_again : (bs : List ℕ) → unspaced bs ≡ bs → gap (32 ∷ bs) ≡ Ok bs
unfolding gap
gap_again bs e = spaced_again bs e

-- ---- patterns

-- a text's one plain part, or none, is what reading gives of it
plain_parts : (t : List ℕ) → is_plain t [] ≡ true → (are_parts (plain_part t) ≡ true) × (parts_text (plain_part t) ≡ t) × (plain_text (plain_part t) ≡ Some t)
plain_parts [] h = (refl, refl, refl)
plain_parts (b ∷ bs) h = (rw h refl, append-nil (b ∷ bs), refl)

begins_by : (t : Bool) (bs : List ℕ) → begins_quoted (cond t 34 39 ∷ bs) ≡ true
begins_by true bs = refl
begins_by false bs = refl

pattern_again : (t rest : List ℕ) → is_plain t [] ≡ true → is_quotable t ≡ true → pattern_at None (quoted_text t ++ rest) ≡ Ok (t, rest)
unfolding pattern_at
pattern_again t rest h q =
    let p = plain_parts t h in
    let read : template (length rest + 1) 0 t ≡ Ok (plain_part t) = ap (template (length rest + 1) 0) (sym p.1) ∙ template_again (length rest + 1) (plain_part t) p.0 in
    rw (value_by (holds_byte 39 t) t (plain_part t) rest refl q read, begins_by (holds_byte 39 t) ((t ++ quote_for t ∷ []) ++ rest), p.2) refl

-- ---- tests

pub test_again : (t : Test) (rest next : List ℕ) → is_test t ≡ true → gap rest ≡ Ok next → operator_at next ≡ None → test_at None (test_text t ++ rest) ≡ Ok (t, next)
unfolding test_at
test_again (test.Single s) rest next h g o = rw (side_again s rest h, g, o) refl
test_again (test.Compare left op right) rest next h g o =
    let p = and_parts (is_side left) (is_side right) h in
    let last = 32 ∷ (side_text right ++ rest) in
    let regrouped : test_text (test.Compare left op right) ++ rest ≡ side_text left ++ (32 ∷ (op_text op ++ last)) =
    append_assoc (side_text left) (32 ∷ (op_text op ++ (32 ∷ side_text right))) rest ∙ ap (λ (t : List ℕ). side_text left ++ (32 ∷ t)) (append_assoc (op_text op) (32 ∷ side_text right) rest) in
    ap (test_at None) regrouped ∙ rw (
      side_again left (32 ∷ (op_text op ++ last)) p.0,
      gap_again (op_text op ++ last) (unspaced_op op last),
      operator_again op (side_text right ++ rest),
      spaced_again (side_text right ++ rest) (unspaced_side right rest),
      side_again right rest p.1,
      g,
    ) refl
test_again (test.Matches left pattern negated) rest next h g o =
    let p = and_parts (is_side left) (is_plain pattern [] && is_quotable pattern) h in
    let q = and_parts (is_plain pattern []) (is_quotable pattern) p.1 in
    let last = 32 ∷ (quoted_text pattern ++ rest) in
    let regrouped : test_text (test.Matches left pattern negated) ++ rest ≡ side_text left ++ (32 ∷ (regex_text negated ++ last)) =
    append_assoc (side_text left) (32 ∷ (regex_text negated ++ (32 ∷ quoted_text pattern))) rest ∙ ap (λ (t : List ℕ). side_text left ++ (32 ∷ t)) (append_assoc (regex_text negated) (32 ∷ quoted_text pattern) rest) in
    ap (test_at None) regrouped ∙ rw (
      side_again left (32 ∷ (regex_text negated ++ last)) p.0,
      gap_again (regex_text negated ++ last) (unspaced_regex negated last),
      regex_again negated last,
      spaced_again (quoted_text pattern ++ rest) (unspaced_by (holds_byte 39 pattern) _ rest),
      pattern_again pattern rest q.0 q.1,
      g,
    ) refl

-- What is read of a template fits: it is printed so that it is read again.
use Rattle.std.proofs.Common.{◌≡◌, ℕ, zero, suc, ◌+◌, ◌-◌, Bool, true, false, not, cond, eqb, ◌&&◌, ◌⊎◌, inl, inr, List, [], ◌∷◌, ◌++◌, length, drop, Option, Some, None, Result, Ok, Err, refl, sym, ap, subst, ◌∙◌}
use Rattle.std.specs.Prelude.{is_none, codes, option_and_then}
use Rattle.std.specs.Str.{bytes_eq}
use Rattle.std.specs.List.{list_all}
use Rattle.std.proofs.lemmas.Bool.{and_from, and_parts}
use Rattle.std.proofs.lemmas.Option.{same_Some}
use Rattle.eip_text.specs.Cuts.{behind, cut, holds_byte}
use Rattle.eip_text.specs.Names.{is_name, is_name_byte}
use Rattle.eip_text.proofs.Cutting.{guarded, behind_parts, lacks_by, names_lack}
use Rattle.eip_simple_read.specs.declared.tree.Function.{Function}
use Rattle.eip_simple_read.specs.declared.tree.Function.TheVariants.{Body, Header, Property, ExchangeId, RouteId, ExceptionMessage}
use Rattle.eip_simple_read.specs.declared.tree.Part.{Part}
use Rattle.eip_simple_read.specs.declared.tree.Part.TheVariants as part
use Rattle.eip_simple_read.specs.Reading.{Fault, ◌>>=◌, ◌<|>◌, worded, of_name, whole_word, header, property, named, known, closed, function_behind, plain, plain_or_call, template}
use Rattle.eip_simple_read.specs.Spelling.{function_text, parts_text, is_function, is_plain, begins_plain, is_some_text, are_parts}
use Rattle.eip_simple_read.proofs.TemplateSteps.{ok_is}

pub bind_ok : {A B : Type 0} (r : Result A Fault) (f : A → Result B Fault) (y : B) → (r >>= f) ≡ Ok y → (x : A) × (r ≡ Ok x) × (f x ≡ Ok y)
bind_ok (Ok x) f y e = (x, refl, e)
bind_ok (Err d) f y e = absurd cc

-- a choice that has something has it from the first or from the others
pub chosen : {A : Type 0} (o more : Option A) (y : A) → (o <|> more) ≡ Some y → (o ≡ Some y) ⊎ (more ≡ Some y)
chosen None more y e = inr e
chosen (Some x) more y e = inl e

-- ---- functions

word_fits : (bs : List ℕ) (g : Function) (w : List ℕ) (f : Function) → is_function g ≡ true → worded bs g w ≡ Some f → is_function f ≡ true
word_fits bs g w f h e = subst (λ (x : Function). is_function x ≡ true) (same_Some g f (guarded (bytes_eq bs w) (Some g) f e).1) h

name_fits : (make : List ℕ → Function) → ((x : List ℕ) → is_name x ≡ true → is_function (make x) ≡ true) → (o : Option (List ℕ)) (f : Function) → option_and_then (of_name make) o ≡ Some f → is_function f ≡ true
name_fits make h None f e = absurd cc
name_fits make h (Some x) f e =
    let g = guarded (is_name x) (Some (make x)) f e in
    subst (λ (y : Function). is_function y ≡ true) (same_Some (make x) f g.1) (h x g.0)

whole_word_fits : (bs : List ℕ) (f : Function) → whole_word bs ≡ Some f → is_function f ≡ true
whole_word_fits bs f e =
    let o4 = worded bs ExceptionMessage (codes "exception.message") in
    let o3 = worded bs RouteId (codes "routeId") <|> o4 in
    let o2 = worded bs ExchangeId (codes "exchangeId") <|> o3 in
    elim (chosen (worded bs Body (codes "body")) o2 f e) [
      | inl a ↦ word_fits bs Body (codes "body") f refl a
      | inr e2 ↦
          elim (chosen (worded bs ExchangeId (codes "exchangeId")) o3 f e2) [
            | inl a ↦ word_fits bs ExchangeId (codes "exchangeId") f refl a
            | inr e3 ↦
                elim (chosen (worded bs RouteId (codes "routeId")) o4 f e3) [
                  | inl a ↦ word_fits bs RouteId (codes "routeId") f refl a
                  | inr a ↦ word_fits bs ExceptionMessage (codes "exception.message") f refl a
                ]
          ]
    ]

named_fits : (bs : List ℕ) (f : Function) → named bs ≡ Some f → is_function f ≡ true
unfolding named
named_fits bs f e =
    elim (chosen (whole_word bs) (header bs <|> property bs) f e) [
      | inl a ↦ whole_word_fits bs f a
      | inr e2 ↦
          elim (chosen (header bs) (property bs) f e2) [
            | inl a ↦ name_fits Header (λ x h. h) (behind (codes "header.") bs <|> behind (codes "headers.") bs) f a
            | inr a ↦ name_fits Property (λ x h. h) (behind (codes "exchangeProperty.") bs) f a
          ]
    ]

known_fits : (left : ℕ) (bs : List ℕ) (o : Option Function) (rest : List ℕ) (x : Function × List ℕ) → named bs ≡ o → known left o rest ≡ Ok x → is_function x.0 ≡ true
known_fits left bs None rest x n e = absurd cc
known_fits left bs (Some f) rest x n e = subst (λ (y : Function × List ℕ). is_function y.0 ≡ true) (ok_is (f, rest) x e) (named_fits bs f n)

closed_fits : (left : ℕ) (o : Option (List ℕ × List ℕ)) (x : Function × List ℕ) → closed left o ≡ Ok x → is_function x.0 ≡ true
closed_fits left None x e = absurd cc
closed_fits left (Some p) x e = known_fits left p.0 (named p.0) p.1 x refl e

pub function_fits : (left : ℕ) (inner : List ℕ) (x : Function × List ℕ) → function_behind left inner ≡ Ok x → is_function x.0 ≡ true
unfolding function_behind
function_fits left inner x e = closed_fits left (cut 125 inner) x e

-- ---- quotes

-- one of the two quotes
abbrev pub quote : Bool → ℕ
quote double = cond double 34 39

pub lacks_append : (c : ℕ) (xs ys : List ℕ) → holds_byte c xs ≡ false → holds_byte c ys ≡ false → holds_byte c (xs ++ ys) ≡ false
lacks_append c [] ys h k = k
lacks_append c (x ∷ xs) ys h k =
    let p = lacks_by (eqb x c) c xs h in
    rw (p.0, lacks_append c xs ys p.1 k) refl

lacks_drop : (c k : ℕ) (bs : List ℕ) → holds_byte c bs ≡ false → holds_byte c (drop k bs) ≡ false
lacks_drop c zero bs h = h
lacks_drop c (suc k) [] h = refl
lacks_drop c (suc k) (b ∷ bs) h = lacks_drop c k bs (lacks_by (eqb b c) c bs h).1

no_quote : (double : Bool) → is_name_byte (quote double) ≡ false
no_quote true = refl
no_quote false = refl

name_lacks : (double : Bool) (x : List ℕ) → is_name x ≡ true → holds_byte (quote double) x ≡ false
unfolding is_name
name_lacks double x h = names_lack (quote double) x (no_quote double) (and_parts _ (list_all is_name_byte x) h).1

header_lacks : (double : Bool) (x : List ℕ) → holds_byte (quote double) x ≡ false → holds_byte (quote double) (function_text (Header x)) ≡ false
header_lacks true x h = lacks_append 34 x (125 ∷ []) h refl
header_lacks false x h = lacks_append 39 x (125 ∷ []) h refl

property_lacks : (double : Bool) (x : List ℕ) → holds_byte (quote double) x ≡ false → holds_byte (quote double) (function_text (Property x)) ≡ false
property_lacks true x h = lacks_append 34 x (125 ∷ []) h refl
property_lacks false x h = lacks_append 39 x (125 ∷ []) h refl

-- a function's text holds no quote
function_lacks : (double : Bool) (f : Function) → is_function f ≡ true → holds_byte (quote double) (function_text f) ≡ false
function_lacks double (Header x) h = header_lacks double x (name_lacks double x h)
function_lacks double (Property x) h = property_lacks double x (name_lacks double x h)
function_lacks true Body h = refl
function_lacks false Body h = refl
function_lacks true ExchangeId h = refl
function_lacks false ExchangeId h = refl
function_lacks true RouteId h = refl
function_lacks false RouteId h = refl
function_lacks true ExceptionMessage h = refl
function_lacks false ExceptionMessage h = refl

-- ---- templates

-- the first byte
abbrev pub front : List ℕ → Option ℕ
front [] = None
front (b ∷ bs) = Some b

-- whether a `${` begins here is told by this byte and the next one
same_front : (b : ℕ) (xs ys : List ℕ) → front xs ≡ front ys → is_none (behind (36 ∷ 123 ∷ []) (b ∷ xs)) ≡ is_none (behind (36 ∷ 123 ∷ []) (b ∷ ys))
same_front b [] [] e = refl
same_front b [] (y ∷ ys) e = absurd cc
same_front b (x ∷ xs) [] e = absurd cc
same_front b (x ∷ xs) (y ∷ ys) e = subst (λ (z : ℕ). is_none (behind (36 ∷ 123 ∷ []) (b ∷ (x ∷ xs))) ≡ is_none (behind (36 ∷ 123 ∷ []) (b ∷ (z ∷ ys)))) (same_Some x y e) (next_only b (eqb b 36) (eqb x 123) xs ys)
  where
    next_only : (b : ℕ) (t u : Bool) (xs ys : List ℕ) → is_none (cond t (cond u (Some xs) None) None) ≡ is_none (cond t (cond u (Some ys) None) None)
    next_only b true true xs ys = refl
    next_only b true false xs ys = refl
    next_only b false u xs ys = refl

-- the parts fit, their text begins as the text that they were read from, and it holds a quote only where that does
pub record Fits (bs : List ℕ) (ps : List Part) : Type 0 where
  pub parts : are_parts ps ≡ true
  pub begins : front (parts_text ps) ≡ front bs
  pub quotes : (double : Bool) → holds_byte (quote double) bs ≡ false → holds_byte (quote double) (parts_text ps) ≡ false

more_plain : (b : ℕ) (bs : List ℕ) (ps : List Part) → (double : Bool) → ((d : Bool) → holds_byte (quote d) bs ≡ false → holds_byte (quote d) (parts_text ps) ≡ false)
    → holds_byte (quote double) (b ∷ bs) ≡ false → holds_byte (quote double) (b ∷ parts_text ps) ≡ false
more_plain b bs ps double q h =
    let p = lacks_by (eqb b (quote double)) (quote double) bs h in
    rw (p.0, q double p.1) refl

plain_fits : (b : ℕ) (bs : List ℕ) (ps : List Part) → None ≡ behind (36 ∷ 123 ∷ []) (b ∷ bs) → Fits bs ps → Fits (b ∷ bs) (plain b ps)
plain_fits b bs [] n s =
    let here : is_none (behind (36 ∷ 123 ∷ []) (b ∷ [])) ≡ true = same_front b [] bs s.begins ∙ ap (λ (o : Option (List ℕ)). is_none o) (sym n) in
    record { parts = rw here refl; begins = refl; quotes = λ double h. more_plain b bs [] double s.quotes h }
plain_fits b bs (part.Plain t ∷ ps) n s =
    let here : is_none (behind (36 ∷ 123 ∷ []) (b ∷ (t ++ parts_text ps))) ≡ true = same_front b (t ++ parts_text ps) bs s.begins ∙ ap (λ (o : Option (List ℕ)). is_none o) (sym n) in
    let p = and_parts (is_some_text t && is_plain t (parts_text ps) && not (begins_plain ps)) (are_parts ps) s.parts in
    let q = and_parts (is_some_text t && is_plain t (parts_text ps)) (not (begins_plain ps)) p.0 in
    let r = and_parts (is_some_text t) (is_plain t (parts_text ps)) q.0 in
    record { parts = rw (here, r.1, q.1, p.1) refl; begins = refl; quotes = λ double h. more_plain b bs (part.Plain t ∷ ps) double s.quotes h }
plain_fits b bs (part.Call f ∷ ps) n s =
    let here : is_none (behind (36 ∷ 123 ∷ []) (b ∷ (parts_text (part.Call f ∷ ps)))) ≡ true = same_front b (parts_text (part.Call f ∷ ps)) bs s.begins ∙ ap (λ (o : Option (List ℕ)). is_none o) (sym n) in
    let p = and_parts (is_function f) (are_parts ps) s.parts in
    record { parts = rw (here, p.0, p.1) refl; begins = refl; quotes = λ double h. more_plain b bs (part.Call f ∷ ps) double s.quotes h }

call_fits : (b k : ℕ) (bs inner : List ℕ) (f : Function) (ps : List Part) → b ∷ bs ≡ 36 ∷ 123 ∷ inner → is_function f ≡ true → Fits (drop k bs) ps → Fits (b ∷ bs) (part.Call f ∷ ps)
call_fits b k bs inner f ps e h s = record {
  parts = and_from (is_function f) (are_parts ps) h s.parts;
  begins = ap front (sym e);
  quotes = λ double lacks. lacks_append (quote double) (function_text f) (parts_text ps) (function_lacks double f h) (s.quotes double (lacks_drop (quote double) k bs (lacks_by (eqb b (quote double)) (quote double) bs lacks).1));
}

step_fits : (after b : ℕ) (bs : List ℕ) (o : Option (List ℕ)) (ps : List Part) → ((k : ℕ) (qs : List Part) → template after k bs ≡ Ok qs → Fits (drop k bs) qs)
    → behind (36 ∷ 123 ∷ []) (b ∷ bs) ≡ o → plain_or_call after b (template after zero bs) (λ k. template after k bs) (length bs) o ≡ Ok ps → Fits (b ∷ bs) ps
step_fits after b bs None ps ih n e =
    let x = bind_ok (template after zero bs) (λ qs. Ok (plain b qs)) ps e in
    subst (Fits (b ∷ bs)) (ok_is (plain b x.0) ps x.2) (plain_fits b bs x.0 (sym n) (ih zero x.0 x.1))
step_fits after b bs (Some inner) ps ih n e =
    let f = bind_ok (function_behind (length inner + 2 + after) inner) (λ g. template after (length bs - length g.1) bs >>= λ qs. Ok (part.Call g.0 ∷ qs)) ps e in
    let x = bind_ok (template after (length bs - length f.0.1) bs) (λ qs. Ok (part.Call f.0.0 ∷ qs)) ps f.2 in
    let fits = function_fits (length inner + 2 + after) inner f.0 f.1 in
    let whole : b ∷ bs ≡ 36 ∷ 123 ∷ inner = behind_parts (36 ∷ 123 ∷ []) (b ∷ bs) inner n in
    subst (Fits (b ∷ bs)) (ok_is (part.Call f.0.0 ∷ x.0) ps x.2)
    (call_fits b (length bs - length f.0.1) bs inner f.0.0 x.0 whole fits (ih (length bs - length f.0.1) x.0 x.1))

nothing_fits : Fits [] []
nothing_fits = record { parts = refl; begins = refl; quotes = λ double h. refl }

pub template_fits : (after k : ℕ) (bs : List ℕ) (ps : List Part) → template after k bs ≡ Ok ps → Fits (drop k bs) ps
unfolding template
template_fits after zero [] ps e = subst (Fits []) (ok_is [] ps e) nothing_fits
template_fits after (suc k) [] ps e = subst (Fits []) (ok_is [] ps e) nothing_fits
template_fits after (suc k) (b ∷ bs) ps e = template_fits after k bs ps e
template_fits after zero (b ∷ bs) ps e = step_fits after b bs (behind (36 ∷ 123 ∷ []) (b ∷ bs)) ps (λ k qs. template_fits after k bs qs) refl e

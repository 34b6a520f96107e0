-- What it says of the predicates that are known that some of them are taken.
use Rattle.std.proofs.Common.{◌≡◌, ℕ, ◌+◌, ◌-◌, ◌≤◌, Bool, true, false, cond, ◌&&◌, List, [], ◌∷◌, ◌++◌, Option, Some, None, refl, sym, ap, ◌∙◌, arith, bytes_eq, nat_lt, lt-ltb}
use Rattle.std.proofs.Math.Path.{fun_ext}
use Rattle.std.proofs.lemmas.Bool.{and_parts, and_from, true≢false}
use Rattle.std.proofs.lemmas.Slice.Eq.{bytes_eq-Decides}
use Rattle.eip_simple_read.specs.declared.tree.Predicate.{Predicate}
use Rattle.eip_route_grammar.specs.Known.{first_read, IsWithoutOne}
use Rattle.eip_route_grammar.specs.declared.known.Entry.{Entry}
use Rattle.eip_route_values.specs.Taken.{stock, without, spent, holds, Spends}

-- ---- one behind the other

pub spent_append : (xs ys : List (List ℕ)) (s : List ℕ → ℕ) → spent (xs ++ ys) s ≡ spent ys (spent xs s)
spent_append [] ys s = refl
spent_append (x ∷ xs) ys s = spent_append xs ys (without x s)

and_assoc : (a b c : Bool) → (a && (b && c)) ≡ ((a && b) && c)
and_assoc true b c = refl
and_assoc false b c = refl

pub holds_append : (xs ys : List (List ℕ)) (s : List ℕ → ℕ) → holds (xs ++ ys) s ≡ (holds xs s && holds ys (spent xs s))
holds_append [] ys s = refl
holds_append (x ∷ xs) ys s =
    ap (λ (b : Bool). nat_lt 0 (s x) && b) (holds_append xs ys (without x s)) ∙ and_assoc (nat_lt 0 (s x)) (holds xs (without x s)) (holds ys (spent xs (without x s)))

pub holds_first : (xs ys : List (List ℕ)) (s : List ℕ → ℕ) → holds (xs ++ ys) s ≡ true → holds xs s ≡ true
holds_first xs ys s h = (and_parts (holds xs s) (holds ys (spent xs s)) (sym (holds_append xs ys s) ∙ h)).0

pub holds_behind : (xs ys : List (List ℕ)) (s : List ℕ → ℕ) → holds (xs ++ ys) s ≡ true → holds ys (spent xs s) ≡ true
holds_behind xs ys s h = (and_parts (holds xs s) (holds ys (spent xs s)) (sym (holds_append xs ys s) ∙ h)).1

-- the same as equations, which begin with what is held
keep_first : (x a b : Bool) → x ≡ (a && b) → x ≡ (x && a)
keep_first true true b e = refl
keep_first true false b e = absurd (true≢false e)
keep_first false a b e = refl

keep_behind : (x a b : Bool) → x ≡ (a && b) → x ≡ (x && b)
keep_behind true true b e = e
keep_behind true false b e = absurd (true≢false e)
keep_behind false a b e = refl

pub with_first : (xs ys : List (List ℕ)) (s : List ℕ → ℕ) → holds (xs ++ ys) s ≡ (holds (xs ++ ys) s && holds xs s)
with_first xs ys s = keep_first (holds (xs ++ ys) s) (holds xs s) (holds ys (spent xs s)) (holds_append xs ys s)

pub with_behind : (xs ys : List (List ℕ)) (s : List ℕ → ℕ) → holds (xs ++ ys) s ≡ (holds (xs ++ ys) s && holds ys (spent xs s))
with_behind xs ys s = keep_behind (holds (xs ++ ys) s) (holds xs s) (holds ys (spent xs s)) (holds_append xs ys s)

pub ruleset taking = (spent_append, with_first, with_behind)

-- ---- one text

-- one that is not known
unread_by : (b : Bool) (p : Predicate) (o : Option Predicate) (n : ℕ) → cond b (Some p) o ≡ None → (o ≡ None → n ≡ 0) → cond b 1 0 + n ≡ 0
unread_by true p o n e next = absurd cc
unread_by false p o n e next = omega (arith, next e)

unread : (w : List ℕ) (es : List Entry) → first_read w es ≡ None → stock es w ≡ 0
unfolding stock
unread w [] e = refl
unread w (f ∷ es) e = unread_by (bytes_eq f.text w) f.predicate (first_read w es) (stock es w) e (unread w es)

-- one that is held was read
pub is_read : (w : List ℕ) (es : List Entry) → holds (w ∷ []) (stock es) ≡ true → first_read w es ≡ None → ⊥
is_read w es h e =
    let some : nat_lt 0 (stock es w) ≡ true = (and_parts (nat_lt 0 (stock es w)) true h).0 in
    true≢false (sym some ∙ ap (nat_lt 0) (unread w es e))

stock_append : (w : List ℕ) (es fs : List Entry) → stock (es ++ fs) w ≡ stock es w + stock fs w
unfolding stock
stock_append w [] fs = omega arith
stock_append w (e ∷ es) fs = omega (arith, stock_append w es fs)

one_fewer : (w v : List ℕ) (before behind : List Entry) (e : Entry) → e.text ≡ w → stock (before ++ behind) v ≡ without w (stock (before ++ e ∷ behind)) v
unfolding stock without
one_fewer w v before behind e same =
    let text : cond {A = ℕ} (bytes_eq e.text v) 1 0 ≡ cond {A = ℕ} (bytes_eq w v) 1 0 = ap (λ (t : List ℕ). cond {A = ℕ} (bytes_eq t v) 1 0) same in
    omega (arith, stock_append v before behind, stock_append v before (e ∷ behind), text)

-- it is taken out
pub spends_one : (w : List ℕ) (old left : List Entry) → IsWithoutOne w old left → Spends (w ∷ []) old left
spends_one w old left h =
    let fewer : stock (h.0 ++ h.2) ≡ without w (stock (h.0 ++ h.1 ∷ h.2)) = fun_ext (λ (v : List ℕ). one_fewer w v h.0 h.2 h.1 h.3) in
    ap stock h.5 ∙ (fewer ∙ ap (λ (es : List Entry). without w (stock es)) (sym h.4))

-- ---- enough of all

-- how often a text stands among these
abbrev pub occurs : List ℕ → List (List ℕ) → ℕ
occurs w [] = 0
occurs w (t ∷ ts) = cond (bytes_eq t w) 1 0 + occurs w ts

pub occurs_append : (w : List ℕ) (xs ys : List (List ℕ)) → occurs w (xs ++ ys) ≡ occurs w xs + occurs w ys
occurs_append w [] ys = omega arith
occurs_append w (x ∷ xs) ys = omega (arith, occurs_append w xs ys)

itself : (t : List ℕ) → cond {A = ℕ} (bytes_eq t t) 1 0 ≡ 1
itself t = ap (λ (b : Bool). cond {A = ℕ} b 1 0) ((bytes_eq-Decides t t).1 refl)

fewer_left : (t w : List ℕ) (n : ℕ) (s : List ℕ → ℕ) → cond (bytes_eq t w) 1 0 + n ≤ s w → n ≤ without t s w
unfolding without
fewer_left t w n s h = omega (arith, h)

pub enough_held : (ts : List (List ℕ)) (s : List ℕ → ℕ) → ((w : List ℕ) → occurs w ts ≤ s w) → holds ts s ≡ true
enough_held [] s h = refl
enough_held (t ∷ ts) s h =
    and_from (nat_lt 0 (s t)) (holds ts (without t s)) (lt-ltb 0 (s t) (omega (arith, h t, itself t))) (enough_held ts (without t s) (λ w. fewer_left t w (occurs w ts) s (h w)))

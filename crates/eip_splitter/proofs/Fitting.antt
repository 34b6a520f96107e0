-- Headers and properties that are set one by one.
use Rattle.std.proofs.Common.{◌≡◌, ℕ, ◌+◌, ◌<◌, ◌≤◌, Bool, true, false, cond, not, ◌&&◌, nat_le, List, [], ◌∷◌, ◌++◌, length, Option, Some, None, Bor, ⊎_elim, refl, sym, ap, ◌∙◌, arith, append_assoc, append-nil}
use Rattle.std.specs.Option.{is_none, is_some, option_copied}
use Rattle.std.proofs.lemmas.Bool.{and_parts, and_cases, and_left, and_right, not-true, not-false, leb-true, leb-false, le-leb, lt-leb}
use Rattle.eip_exchange.specs.Headers.{same_name, get_header, counted, is_redelivery, is_one_too_many}
use Rattle.eip_exchange.specs.Pairs.{Pairs, value_of, put}
use Rattle.eip_splitter.specs.declared.fault.SplitFault.{SplitFault}
use Rattle.eip_splitter.specs.declared.fault.SplitFault.TheVariants as fault
use Rattle.eip_splitter.specs.Batches.{are_new, are_headers, may_add, IsRefused}

-- nothing was found
pub none_copied : {A : Type 0} (r : Option (Bor A)) (o : Option A) → is_some r ≡ false → option_copied r ≡ o → is_none o ≡ true
none_copied None o h e = ap is_none (sym e)
none_copied (Some x) o h e = absurd (cc)

module _ (same : List ℕ → List ℕ → Bool) (name value : List ℕ) where
  new_by : (t : Bool) (p : List ℕ × List ℕ) (ps : Pairs) → (is_none (value_of same name ps) ≡ true → put same name value ps ≡ ps ++ (name, value) ∷ [])
      → is_none (cond t (Some p.1) (value_of same name ps)) ≡ true → cond t ((p.0, value) ∷ ps) (p ∷ put same name value ps) ≡ p ∷ (ps ++ (name, value) ∷ [])
  new_by true p ps ih h = absurd (cc)
  new_by false p ps ih h = ap (λ (qs : Pairs). p ∷ qs) (ih h)

  -- a new name goes last
  pub put_new : (ps : Pairs) → is_none (value_of same name ps) ≡ true → put same name value ps ≡ ps ++ (name, value) ∷ []
  put_new [] h = refl
  put_new (p ∷ ps) h = new_by (same name p.0) p ps (put_new ps) h

-- ---- how many headers

counted_by : (t : Bool) (n m : ℕ) → cond t n (1 + n) + m ≡ cond t (n + m) (1 + (n + m))
counted_by true n m = refl
counted_by false n m = omega arith

counted_append : (xs ys : Pairs) → counted (xs ++ ys) ≡ counted xs + counted ys
counted_append [] ys = omega arith
counted_append (x ∷ xs) ys = ap (λ (n : ℕ). cond (is_redelivery x.0) n (1 + n)) (counted_append xs ys) ∙ sym (counted_by (is_redelivery x.0) (counted xs) (counted ys))

-- one header more is counted, unless it tells of redelivery
one_more : (t : Bool) (n : ℕ) → n ≤ 64 → (not t && nat_le 64 n) ≡ false → n + cond t 0 1 ≤ 64
one_more true n le h = omega arith
one_more false n le h = let few : n < 64 = leb-false 64 n h in omega arith

one_beyond : (t : Bool) (n : ℕ) → (not t && nat_le 64 n) ≡ true → 64 < n + cond t 0 1
one_beyond true n h = absurd (cc)
one_beyond false n h = let full : 64 ≤ n = leb-true 64 n h in omega arith

full_false : (s t : Bool) → s ≡ true → (s && t) ≡ false → t ≡ false
full_false true t e h = h
full_false false t e h = absurd (cc)

-- behind a header that may be added there are still few enough
pub few_more : (name value : List ℕ) (hs gs : Pairs) → counted hs ≤ 64 → may_add name hs ≡ true → gs ≡ hs ++ (name, value) ∷ [] → counted gs ≤ 64
few_more name value hs gs le h e =
    let p = and_parts (is_none (get_header name hs)) (not (is_one_too_many name hs)) h in
    let few = full_false (is_none (get_header name hs)) (not (is_redelivery name) && nat_le 64 (counted hs)) p.0 (not-true (is_one_too_many name hs) p.1) in
    let one : counted hs + counted ((name, value) ∷ []) ≤ 64 = one_more (is_redelivery name) (counted hs) le few in
    omega (arith, ap counted e, counted_append hs ((name, value) ∷ []))

too_many : (name value : List ℕ) (hs : Pairs) → is_one_too_many name hs ≡ true → 64 < counted (hs ++ (name, value) ∷ [])
too_many name value hs h =
    let p = and_parts (is_none (get_header name hs)) (not (is_redelivery name) && nat_le 64 (counted hs)) h in
    let one : 64 < counted hs + counted ((name, value) ∷ []) = one_beyond (is_redelivery name) (counted hs) p.1 in
    omega (arith, counted_append hs ((name, value) ∷ []))

-- ---- whether one may be added

pub may_not-there : (name : List ℕ) (hs : Pairs) → is_none (get_header name hs) ≡ false → may_add name hs ≡ false
may_not-there name hs e = and_left (is_none (get_header name hs)) (not (is_one_too_many name hs)) e

pub may_not-many : (name : List ℕ) (hs : Pairs) → is_one_too_many name hs ≡ true → may_add name hs ≡ false
may_not-many name hs e = and_right (is_none (get_header name hs)) (not (is_one_too_many name hs)) (ap not e)

pub new_of_may : (name : List ℕ) (hs : Pairs) → may_add name hs ≡ true → is_none (get_header name hs) ≡ true
new_of_may name hs h = (and_parts (is_none (get_header name hs)) (not (is_one_too_many name hs)) h).0

-- ---- the pairs so far, and those that follow

-- one more pair whose name is new
pub new_more : (same : List ℕ → List ℕ → Bool) (before qs : Pairs) (p : List ℕ × List ℕ) (rest ps : Pairs) (total : Bool) → rest ≡ p ∷ ps → is_none (value_of same p.0 before) ≡ true
    → qs ≡ before ++ p ∷ [] → are_new same before rest ≡ total → are_new same qs ps ≡ total
new_more same before qs p rest ps total r n e h =
    ap (λ (x : Pairs). are_new same x ps) e
    ∙ sym (ap (λ (t : Bool). t && are_new same (before ++ p ∷ []) ps) n)
    ∙ ap (are_new same before) (sym r) ∙ h

pub all_more : (before qs rest ps all : Pairs) (p : List ℕ × List ℕ) → rest ≡ p ∷ ps → qs ≡ before ++ p ∷ [] → before ++ rest ≡ all → qs ++ ps ≡ all
all_more before qs rest ps all p r e h =
    ap (λ (x : Pairs). x ++ ps) e ∙ append_assoc before (p ∷ []) ps ∙ ap (λ (x : Pairs). before ++ x) (sym r) ∙ h

-- a name that is there ends it
pub new_not : (same : List ℕ → List ℕ → Bool) (before rest ps : Pairs) (p : List ℕ × List ℕ) (total : Bool) → rest ≡ p ∷ ps → is_none (value_of same p.0 before) ≡ false
    → are_new same before rest ≡ total → total ≡ false
new_not same before rest ps p total r n h =
    sym h ∙ ap (are_new same before) r ∙ ap (λ (t : Bool). t && are_new same (before ++ p ∷ []) ps) n

-- so does one header too many
too_full : (before : Pairs) (p : List ℕ × List ℕ) (rest ps all : Pairs) → rest ≡ p ∷ ps → 64 < counted (before ++ p ∷ []) → before ++ rest ≡ all → are_headers all ≡ false
too_full before p rest ps all r lt e =
    let whole : (before ++ p ∷ []) ++ ps ≡ all = all_more before (before ++ p ∷ []) rest ps all p r refl e in
    let many : 64 < counted all = omega (arith, counted_append (before ++ p ∷ []) ps, ap counted whole) in
    and_right (are_new same_name [] all) (nat_le (counted all) 64) (lt-leb (counted all) 64 many)

pub headers_not : (before rest ps all : Pairs) (p : List ℕ × List ℕ) → rest ≡ p ∷ ps → before ++ rest ≡ all → are_new same_name before rest ≡ are_new same_name [] all
    → may_add p.0 before ≡ false → are_headers all ≡ false
headers_not before rest ps all p r e h may =
    ⊎_elim (λ n. and_left (are_new same_name [] all) (nat_le (counted all) 64) (new_not same_name before rest ps p (are_new same_name [] all) r n h))
    (λ n. too_full before p rest ps all r (too_many p.0 p.1 before (not-false (is_one_too_many p.0 before) n)) e)
    (and_cases (is_none (get_header p.0 before)) (not (is_one_too_many p.0 before)) may)

-- a refusal is handed on
pub refused_on : (e : SplitFault) (s t : Bool) → (s ≡ false → t ≡ false) → IsRefused e s → IsRefused e t
refused_on fault.NoMemory s t h r = tt
refused_on fault.NotArray s t h r = h r
refused_on (fault.TooManyParts n) s t h r = r

-- behind the last pair
pub all_new : (same : List ℕ → List ℕ → Bool) (before rest all : Pairs) → length rest ≡ 0 → are_new same before rest ≡ are_new same [] all → are_new same [] all ≡ true
all_new same before [] all e h = sym h
all_new same before (p ∷ ps) all e h = absurd (omega arith)

pub all_held : (before rest all : Pairs) → length rest ≡ 0 → before ++ rest ≡ all → before ≡ all
all_held before [] all e h = sym (append-nil before) ∙ h
all_held before (p ∷ ps) all e h = absurd (omega arith)

pub headers_fit : (before all : Pairs) → before ≡ all → are_new same_name [] all ≡ true → counted before ≤ 64 → are_headers all ≡ true
headers_fit before all e n le = rw (n, le-leb (counted all) 64 (omega (arith, ap counted e))) refl

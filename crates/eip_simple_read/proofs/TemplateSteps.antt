-- Reading a template piece by piece, as a loop does.
use Rattle.std.proofs.Common.{◌≡◌, ◌≢◌, ℕ, zero, suc, ◌+◌, ◌-◌, ◌<◌, ◌≤◌, List, [], ◌∷◌, ◌++◌, length, take, drop, Option, Some, None, Result, Ok, Err, refl, sym, ap, ◌∙◌, append_assoc, arith}
use Rattle.std.specs.Str.Pattern.{SplitsAroundMatch, FindsText}
use Rattle.std.proofs.lemmas.List.{drop_at, length-append}
use Rattle.eip_simple_read.specs.declared.tree.Function.{Function}
use Rattle.eip_simple_read.specs.declared.tree.Part.{Part}
use Rattle.eip_simple_read.specs.declared.tree.Part.TheVariants as part
use Rattle.eip_simple_read.specs.declared.fault.Stop.{Stop}
use Rattle.eip_simple_read.specs.declared.fault.Stop.TheVariants as stop
use Rattle.eip_text.specs.Cuts.{behind, cut}
use Rattle.eip_simple_read.specs.Reading.{Fault, Bad, Unknown, ◌>>=◌, Fails, known, closed, named, function_behind, plain, plain_part, plain_or_call, then_call, template}
use Rattle.eip_text.proofs.Cutting.{none_since, behind_parts, cut_parts}

-- ---- results

abbrev pub Parts : Type 0
Parts = Result (List Part) Fault

-- what was read before, and what is still read
abbrev pub with_front : List Part → Parts → Parts
with_front front r = r >>= λ ps. Ok (front ++ ps)

pub with_front_twice : (a b : List Part) (r : Parts) → with_front a (with_front b r) ≡ with_front (a ++ b) r
with_front_twice a b (Ok ps) = ap (λ (x : List Part). Ok x) (sym (append_assoc a b ps))
with_front_twice a b (Err e) = refl

-- plain bytes in front, one by one
abbrev pub plains : List ℕ → List Part → List Part
plains [] ps = ps
plains (b ∷ bs) ps = plain b (plains bs ps)

abbrev pub with_plains : List ℕ → Parts → Parts
with_plains bs r = r >>= λ ps. Ok (plains bs ps)

pub no_plains : (r : Parts) → r ≡ with_plains [] r
no_plains (Ok ps) = refl
no_plains (Err e) = refl

pub one_plain : (b : ℕ) (bs : List ℕ) (r : Parts) → (with_plains bs r >>= λ ps. Ok (plain b ps)) ≡ with_plains (b ∷ bs) r
one_plain b bs (Ok ps) = refl
one_plain b bs (Err e) = refl

pub plains_call : (b : ℕ) (bs : List ℕ) (f : Function) (ps : List Part) → plains (b ∷ bs) (part.Call f ∷ ps) ≡ part.Plain (b ∷ bs) ∷ part.Call f ∷ ps
plains_call b [] f ps = refl
plains_call b (c ∷ bs) f ps = rw (plains_call c bs f ps) refl

pub plains_end : (b : ℕ) (bs : List ℕ) → plains (b ∷ bs) [] ≡ part.Plain (b ∷ bs) ∷ []
plains_end b [] = refl
plains_end b (c ∷ bs) = rw (plains_end c bs) refl

then_one : (bs : List ℕ) (f : Function) (ps : List Part) → plains bs (part.Call f ∷ ps) ≡ (plain_part bs ++ part.Call f ∷ []) ++ ps
then_one [] f ps = refl
then_one (b ∷ bs) f ps = plains_call b bs f ps

then_end : (bs : List ℕ) → plains bs [] ≡ plain_part bs
then_end [] = refl
then_end (b ∷ bs) = plains_end b bs

-- ---- the reading

pub skipped : (after k : ℕ) (bs : List ℕ) → template after k bs ≡ template after 0 (drop k bs)
unfolding template
skipped after k [] = drop_nothing k
  where
    drop_nothing : (k : ℕ) → template after k [] ≡ template after 0 (drop {A = ℕ} k [])
    drop_nothing zero = refl
    drop_nothing (suc k) = refl
skipped after zero (b ∷ bs) = refl
skipped after (suc k) (b ∷ bs) = skipped after k bs

-- a `${` stands nowhere before i
abbrev pub LacksBefore : List ℕ → ℕ → Type 0
LacksBefore bs i = (k : ℕ) → k < i → (rest : List ℕ) → drop k bs ≢ (36 ∷ 123 ∷ []) ++ rest

pub over_plain : (after : ℕ) (bs : List ℕ) (i : ℕ) → i ≤ length bs → LacksBefore bs i → template after 0 bs ≡ with_plains (take i bs) (template after 0 (drop i bs))
unfolding template
over_plain after bs zero le h = no_plains (template after 0 bs)
over_plain after [] (suc i) le h = absurd (omega arith)
over_plain after (b ∷ bs) (suc i) le h =
    let none : None ≡ behind (36 ∷ 123 ∷ []) (b ∷ bs) = none_since (behind (36 ∷ 123 ∷ []) (b ∷ bs)) (λ r e. h 0 (omega arith) r (behind_parts (36 ∷ 123 ∷ []) (b ∷ bs) r e)) in
    let one : template after 0 (b ∷ bs) ≡ (template after 0 bs >>= λ ps. Ok (plain b ps)) = ap (λ (o : Option (List ℕ)). plain_or_call after b (template after 0 bs) (λ k. template after k bs) (length bs) o) (sym none) in
    let more = over_plain after bs i (omega arith) (λ k lt. h (suc k) (omega arith)) in
    one ∙ ap (λ (r : Parts). r >>= λ ps. Ok (plain b ps)) more ∙ one_plain b (take i bs) (template after 0 (drop i bs))

pub all_plain : (after : ℕ) (bs : List ℕ) → ((k : ℕ) → k ≤ length bs → (rest : List ℕ) → drop k bs ≢ (36 ∷ 123 ∷ []) ++ rest) → template after 0 bs ≡ Ok (plain_part bs)
unfolding template
all_plain after bs h = all_plains after bs h ∙ ap (λ (ps : List Part). Ok ps) (then_end bs)
  where
    all_plains : (after : ℕ) (bs : List ℕ) → ((k : ℕ) → k ≤ length bs → (rest : List ℕ) → drop k bs ≢ (36 ∷ 123 ∷ []) ++ rest) → template after 0 bs ≡ Ok (plains bs [])
    all_plains after [] h = refl
    all_plains after (b ∷ bs) h =
        let none : None ≡ behind (36 ∷ 123 ∷ []) (b ∷ bs) = none_since (behind (36 ∷ 123 ∷ []) (b ∷ bs)) (λ r e. h 0 (omega arith) r (behind_parts (36 ∷ 123 ∷ []) (b ∷ bs) r e)) in
        let one : template after 0 (b ∷ bs) ≡ (template after 0 bs >>= λ ps. Ok (plain b ps)) = ap (λ (o : Option (List ℕ)). plain_or_call after b (template after 0 bs) (λ k. template after k bs) (length bs) o) (sym none) in
        one ∙ ap (λ (r : Parts). r >>= λ ps. Ok (plain b ps)) (all_plains after bs (λ k le. h (suc k) (omega arith)))

-- what a function takes is in front of what stands behind it
pub ok_is : {A : Type 0} (x y : A) → ◌≡◌ {A = Result A Fault} (Ok x) (Ok y) → x ≡ y
ok_is x y e = cc

known_ok : (left : ℕ) (o : Option Function) (rest : List ℕ) (x : Function × List ℕ) → known left o rest ≡ Ok x → rest ≡ x.1
known_ok left None rest x e = absurd cc
known_ok left (Some f) rest x e = ap (λ (p : Function × List ℕ). p.1) (ok_is (f, rest) x e)

closed_ok : (left : ℕ) (o : Option (List ℕ × List ℕ)) (x : Function × List ℕ) → closed left o ≡ Ok x → (p : List ℕ × List ℕ) × (o ≡ Some p) × (p.1 ≡ x.1)
closed_ok left None x e = absurd cc
closed_ok left (Some p) x e = (p, refl, known_ok left (named p.0) p.1 x e)

read_suffix : (left : ℕ) (inner : List ℕ) (x : Function × List ℕ) → function_behind left inner ≡ Ok x → (taken : List ℕ) × (inner ≡ taken ++ x.1)
unfolding function_behind
read_suffix left inner x e =
    let q = closed_ok left (cut 125 inner) x e in
    let parts : inner ≡ q.0.0 ++ (125 ∷ x.1) = cut_parts 125 inner q.0 q.1 ∙ ap (λ (r : List ℕ). q.0.0 ++ (125 ∷ r)) q.2 in
    (q.0.0 ++ 125 ∷ [], parts ∙ sym (append_assoc q.0.0 (125 ∷ []) x.1))

pub at_call : (after : ℕ) (inner : List ℕ) → template after 0 (36 ∷ 123 ∷ inner) ≡ then_call (suc (length inner)) (λ k. template after k (123 ∷ inner)) (function_behind (length inner + 2 + after) inner)
unfolding template
at_call after inner = refl

pub after_call : (after : ℕ) (inner : List ℕ) (x : Function × List ℕ) → function_behind (length inner + 2 + after) inner ≡ Ok x → template after (suc (length inner) - length x.1) (123 ∷ inner) ≡ template after 0 x.1
after_call after inner x e =
    let s = read_suffix (length inner + 2 + after) inner x e in
    let whole : 123 ∷ inner ≡ (123 ∷ s.0) ++ x.1 = ap (λ (t : List ℕ). 123 ∷ t) s.1 in
    let long : length (123 ∷ s.0) ≡ suc (length inner) - length x.1 = omega (arith, ap length s.1, length-append s.0 x.1) in
    skipped after (suc (length inner) - length x.1) (123 ∷ inner) ∙ ap (λ (t : List ℕ). template after 0 (drop (suc (length inner) - length x.1) t)) whole ∙ ap (template after 0) (drop_at (123 ∷ s.0) x.1 (suc (length inner) - length x.1) long)

one_call : (front : List ℕ) (f : Function) (r : Parts) → with_plains front (r >>= λ ps. Ok (part.Call f ∷ ps)) ≡ with_front (plain_part front ++ part.Call f ∷ []) r
one_call front f (Ok ps) = ap (λ (x : List Part). Ok x) (then_one front f ps)
one_call front f (Err e) = refl

-- a piece of plain text, and a function
pub record Begins (bs front inner : List ℕ) : Type 0 where
  pub at : ℕ
  pub within : at ≤ length bs
  pub lacks : LacksBefore bs at
  pub front_is : front ≡ take at bs
  pub rest_is : drop at bs ≡ 36 ∷ 123 ∷ inner

pub found_begins : (bs front inner : List ℕ) → SplitsAroundMatch (FindsText (36 ∷ 123 ∷ [])) bs front inner → Begins bs front inner
found_begins bs front inner h = record {
  at = h.0;
  within = omega (arith, h.5, h.7);
  lacks = h.2.0;
  front_is = h.3;
  rest_is = h.2.1.split ∙ ap (λ (t : List ℕ). 36 ∷ 123 ∷ t) (sym h.4);
}

to_call : (after : ℕ) (bs front inner : List ℕ) → Begins bs front inner → template after 0 bs ≡ with_plains front (then_call (suc (length inner)) (λ k. template after k (123 ∷ inner)) (function_behind (length inner + 2 + after) inner))
to_call after bs front inner b =
    over_plain after bs b.at b.within b.lacks
    ∙ ap (λ (t : List ℕ). with_plains t (template after 0 (drop b.at bs))) (sym b.front_is)
    ∙ ap (λ (t : List ℕ). with_plains front (template after 0 t)) b.rest_is
    ∙ ap (with_plains front) (at_call after inner)

pub goes_on : (after : ℕ) (bs front inner : List ℕ) (f : Function) (more : List ℕ) → Begins bs front inner → function_behind (length inner + 2 + after) inner ≡ Ok (f, more)
    → template after 0 bs ≡ with_front (plain_part front ++ part.Call f ∷ []) (template after 0 more)
goes_on after bs front inner f more b e =
    to_call after bs front inner b
    ∙ ap (λ (r : Result (Function × List ℕ) Fault). with_plains front (then_call (suc (length inner)) (λ k. template after k (123 ∷ inner)) r)) e
    ∙ ap (λ (r : Parts). with_plains front (r >>= λ ps. Ok (part.Call f ∷ ps))) (after_call after inner (f, more) e)
    ∙ one_call front f (template after 0 more)

stops_at : (after : ℕ) (bs front inner : List ℕ) (e : Fault) → Begins bs front inner → function_behind (length inner + 2 + after) inner ≡ Err e → template after 0 bs ≡ Err e
stops_at after bs front inner e b h =
    to_call after bs front inner b
    ∙ ap (λ (r : Result (Function × List ℕ) Fault). with_plains front (then_call (suc (length inner)) (λ k. template after k (123 ∷ inner)) r)) h

-- a function that is none stops the reading
pub ends : (stopped : Stop) (after : ℕ) (bs front inner : List ℕ) (parts : List Part) (total : Parts) → Begins bs front inner → Fails stopped (function_behind (length inner + 2 + after) inner)
    → with_front parts (template after 0 bs) ≡ total → Fails stopped total
ends stop.Memory after bs front inner parts total b h so_far = tt
ends (stop.Bad left) after bs front inner parts total b h so_far = sym so_far ∙ ap (with_front parts) (stops_at after bs front inner (Bad left) b h)
ends (stop.Unknown left) after bs front inner parts total b h so_far = sym so_far ∙ ap (with_front parts) (stops_at after bs front inner (Unknown left) b h)
ends (stop.Pattern left fault) after bs front inner parts total b h so_far = absurd h

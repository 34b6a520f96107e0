-- Cutting a text at its front, as std's methods do it.
use Rattle.std.proofs.Common.{◌≡◌, ◌≢◌, ℕ, zero, suc, ◌+◌, ◌<◌, Bool, true, false, cond, eqb, List, [], ◌∷◌, ◌++◌, length, get_or, take, drop, Option, Some, None, MatchOption, option_map, is_some, map, refl, sym, ap, subst, ◌∙◌, arith, append_assoc}
use denote.Ref.{Bor}
use Rattle.std.specs.Str.Pattern.{FindsTextPrefix}
use Rattle.std.proofs.lemmas.Bool.{eq-eqb, eqb-true, ne_eqb, cond-false, and_parts, both_ways}
use Rattle.std.proofs.lemmas.Option.{same_Some}
use Rattle.std.specs.List.{list_all}
use Rattle.eip_text.specs.Names.{is_name_byte}
use Rattle.eip_text.specs.Cuts.{unspaced, behind, cut, holds_byte, digits, is_digit, in_front, pieces}

-- a test that passed
pub guarded : {A : Type 0} (t : Bool) (o : Option A) (y : A) → cond t o None ≡ Some y → (t ≡ true) × (o ≡ Some y)
guarded true o y e = (refl, e)
guarded false o y e = absurd cc

pub none_since : {A : Type 0} (o : Option A) → ((x : A) → o ≡ Some x → ⊥) → None ≡ o
none_since None h = refl
none_since (Some x) h = absurd (h x refl)

pub behind_again : (w r : List ℕ) → behind w (w ++ r) ≡ Some r
behind_again [] r = refl
behind_again (x ∷ xs) r = rw (eq-eqb x x refl) (behind_again xs r)

pub behind_parts : (w s r : List ℕ) → behind w s ≡ Some r → s ≡ w ++ r
behind_parts [] s r e = cc
behind_parts (x ∷ xs) [] r e = absurd cc
behind_parts (x ∷ xs) (b ∷ bs) r e =
    let p = guarded (eqb b x) (behind xs bs) r e in
    let same : b ≡ x = eqb-true b x p.0 in
    let rest : bs ≡ xs ++ r = behind_parts xs bs r p.1 in
    cc

pub stripped : (w s : List ℕ) (r : Option (Bor (List ℕ))) → MatchOption r (FindsTextPrefix w s None) (λ x. (n : ℕ) × FindsTextPrefix w s (Some n) × (x.now ≡ drop n s) × (length x.now + n ≡ length s)) → option_map (λ x. x.now) r ≡ behind w s
stripped w s None h = none_since (behind w s) (λ r e. h r (behind_parts w s r e))
stripped w s (Some x) h =
    let whole : s ≡ w ++ x.now = h.1.1 ∙ ap (λ (t : List ℕ). w ++ t) (sym h.2) in
    sym (ap (behind w) whole ∙ behind_again w x.now)

-- ---- spaces

pub unspaced_done : (bs : List ℕ) → ((rest : List ℕ) → bs ≢ 32 ∷ rest) → unspaced bs ≡ bs
unspaced_done [] h = refl
unspaced_done (b ∷ bs) h = cond-false (eqb b 32) (unspaced bs) (b ∷ bs) (ne_eqb b 32 (λ e. h bs (ap (λ (x : ℕ). x ∷ bs) e)))

-- ---- a mark

pub cut_none : (c : ℕ) (bs : List ℕ) → ((i : ℕ) → i < length bs → get_or bs i 0 ≢ c) → cut c bs ≡ None
cut_none c [] h = refl
cut_none c (b ∷ bs) h = rw (ne_eqb b c (h 0 (omega arith)), cut_none c bs (λ i lt. h (suc i) (omega arith))) refl

pub cut_some : (c : ℕ) (xs ys : List ℕ) → ((i : ℕ) → i < length xs → get_or xs i 0 ≢ c) → cut c (xs ++ (c ∷ ys)) ≡ Some (xs, ys)
cut_some c [] ys h = rw (eq-eqb c c refl) refl
cut_some c (x ∷ xs) ys h = rw (ne_eqb x c (h 0 (omega arith)), cut_some c xs ys (λ i lt. h (suc i) (omega arith))) refl

pub cuts : (c : ℕ) (bs : List ℕ) (r : Option (Bor (List ℕ) × Bor (List ℕ))) → MatchOption r ((i : ℕ) → i < length bs → get_or bs i 0 ≢ c) (λ x. (bs ≡ x.0.now ++ (c ∷ x.1.now)) × ((i : ℕ) → i < length x.0.now → get_or x.0.now i 0 ≢ c)) → option_map (λ x. (x.0.now, x.1.now)) r ≡ cut c bs
cuts c bs None h = sym (cut_none c bs h)
cuts c bs (Some x) h = sym (ap (cut c) h.0 ∙ cut_some c x.0.now x.1.now h.1)

-- ---- digits

-- the digits so far, and those of the rest
abbrev pub with_front : List ℕ → List ℕ × List ℕ → List ℕ × List ℕ
with_front front p = (front ++ p.0, p.1)

pub one_more : (bs : List ℕ) (i : ℕ) → i < length bs → is_digit (get_or bs i 0) ≡ true → with_front (take i bs) (digits (drop i bs)) ≡ with_front (take (suc i) bs) (digits (drop (suc i) bs))
one_more (b ∷ bs) zero lt d = rw d refl
one_more (b ∷ bs) (suc i) lt d = ap (λ (p : List ℕ × List ℕ). (b ∷ p.0, p.1)) (one_more bs i (omega arith) d)
one_more [] i lt d = absurd (omega arith)

pub no_more : (bs : List ℕ) (i : ℕ) → i < length bs → is_digit (get_or bs i 0) ≡ false → digits (drop i bs) ≡ ([], drop i bs)
no_more (b ∷ bs) zero lt d = rw d refl
no_more (b ∷ bs) (suc i) lt d = no_more bs i (omega arith) d
no_more [] i lt d = absurd (omega arith)

-- ---- what a mark leaves

pub mapped : {A B : Type 0} (f : A → B) (o : Option A) (y : B) → option_map f o ≡ Some y → (x : A) × (o ≡ Some x) × (f x ≡ y)
mapped f None y e = absurd cc
mapped f (Some x) y e = (x, refl, cc)

pub unmapped : {A B : Type 0} (f : A → B) (o : Option A) → option_map f o ≡ None → o ≡ None
unmapped f None e = refl
unmapped f (Some x) e = absurd cc

cut_by : (t : Bool) (b c : ℕ) (bs : List ℕ) (p : List ℕ × List ℕ) → ((q : List ℕ × List ℕ) → cut c bs ≡ Some q → bs ≡ q.0 ++ (c ∷ q.1)) → eqb b c ≡ t
    → cond t (Some ([], bs)) (option_map (λ q. (b ∷ q.0, q.1)) (cut c bs)) ≡ Some p → b ∷ bs ≡ p.0 ++ (c ∷ p.1)
cut_by true b c bs p ih t e =
    let made : List ℕ × List ℕ = ([], bs) in
    let same : made ≡ p = same_Some made p e in
    let first : b ≡ c = eqb-true b c t in
    subst (λ (q : List ℕ × List ℕ). b ∷ bs ≡ q.0 ++ (c ∷ q.1)) same (ap (λ (x : ℕ). x ∷ bs) first)
cut_by false b c bs p ih t e =
    let m = mapped (λ (q : List ℕ × List ℕ). (b ∷ q.0, q.1)) (cut c bs) p e in
    subst (λ (q : List ℕ × List ℕ). b ∷ bs ≡ q.0 ++ (c ∷ q.1)) m.2 (ap (λ (x : List ℕ). b ∷ x) (ih m.0 m.1))

-- a text is what stands before its first mark, the mark, and what stands behind it
pub cut_parts : (c : ℕ) (bs : List ℕ) (p : List ℕ × List ℕ) → cut c bs ≡ Some p → bs ≡ p.0 ++ (c ∷ p.1)
cut_parts c [] p e = absurd cc
cut_parts c (b ∷ bs) p e = cut_by (eqb b c) b c bs p (λ q. cut_parts c bs q) refl e

-- a text that lacks a byte lacks it at its head and behind it
pub lacks_by : (t : Bool) (c : ℕ) (bs : List ℕ) → cond t true (holds_byte c bs) ≡ false → (t ≡ false) × (holds_byte c bs ≡ false)
lacks_by true c bs e = absurd cc
lacks_by false c bs e = (refl, e)

-- a text cut at its first mark is read again
pub cut_again : (c : ℕ) (xs ys : List ℕ) → holds_byte c xs ≡ false → cut c (xs ++ (c ∷ ys)) ≡ Some (xs, ys)
cut_again c [] ys h = rw (eq-eqb c c refl) refl
cut_again c (x ∷ xs) ys h =
    let p = lacks_by (eqb x c) c xs h in
    rw (p.0, cut_again c xs ys p.1) refl

pub cut_none_again : (c : ℕ) (bs : List ℕ) → holds_byte c bs ≡ false → cut c bs ≡ None
cut_none_again c [] h = refl
cut_none_again c (b ∷ bs) h =
    let p = lacks_by (eqb b c) c bs h in
    rw (p.0, cut_none_again c bs p.1) refl

lacks_before : (t : Bool) (b c : ℕ) (bs : List ℕ) (p : List ℕ × List ℕ) → ((q : List ℕ × List ℕ) → cut c bs ≡ Some q → holds_byte c q.0 ≡ false) → eqb b c ≡ t
    → cond t (Some ([], bs)) (option_map (λ q. (b ∷ q.0, q.1)) (cut c bs)) ≡ Some p → holds_byte c p.0 ≡ false
lacks_before true b c bs p ih t e =
    let made : List ℕ × List ℕ = ([], bs) in
    subst (λ (q : List ℕ × List ℕ). holds_byte c q.0 ≡ false) (same_Some made p e) refl
lacks_before false b c bs p ih t e =
    let m = mapped (λ (q : List ℕ × List ℕ). (b ∷ q.0, q.1)) (cut c bs) p e in
    subst (λ (q : List ℕ × List ℕ). holds_byte c q.0 ≡ false) m.2 (rw t (ih m.0 m.1))

-- the text before the first mark lacks it
pub cut_lacks : (c : ℕ) (bs : List ℕ) (p : List ℕ × List ℕ) → cut c bs ≡ Some p → holds_byte c p.0 ≡ false
cut_lacks c [] p e = absurd cc
cut_lacks c (b ∷ bs) p e = lacks_before (eqb b c) b c bs p (λ q. cut_lacks c bs q) refl e

held_by : (t : Bool) (b c : ℕ) (bs : List ℕ) → is_some (cut c bs) ≡ holds_byte c bs
    → is_some {T = List ℕ × List ℕ} (cond {A = Option (List ℕ × List ℕ)} t (Some ([], bs)) (option_map (λ q. (b ∷ q.0, q.1)) (cut c bs))) ≡ cond t true (holds_byte c bs)
held_by true b c bs ih = refl
held_by false b c bs ih = same_test (cut c bs) ∙ ih
  where
    same_test : (o : Option (List ℕ × List ℕ)) → is_some {T = List ℕ × List ℕ} (option_map (λ q. (b ∷ q.0, q.1)) o) ≡ is_some o
    same_test None = refl
    same_test (Some q) = refl

held : (c : ℕ) (bs : List ℕ) → is_some (cut c bs) ≡ holds_byte c bs
held c [] = refl
held c (b ∷ bs) = held_by (eqb b c) b c bs (held c bs)

pub found : (c : ℕ) (bs : List ℕ) (r : Option (Bor (List ℕ) × Bor (List ℕ))) → option_map (λ x. (x.0.now, x.1.now)) r ≡ cut c bs → is_some r ≡ holds_byte c bs
found c bs None e = ap is_some e ∙ held c bs
found c bs (Some x) e = ap is_some e ∙ held c bs

-- a Name holds no byte that may not stand in a Name
pub names_lack : (c : ℕ) (bs : List ℕ) → is_name_byte c ≡ false → list_all is_name_byte bs ≡ true → holds_byte c bs ≡ false
names_lack c [] n h = refl
names_lack c (b ∷ bs) n h =
    let p = and_parts (is_name_byte b) (list_all is_name_byte bs) h in
    let other : eqb b c ≡ false = ne_eqb b c (λ e. both_ways (is_name_byte c) n (subst (λ (x : ℕ). is_name_byte x ≡ true) e p.0)) in
    rw (other, names_lack c bs n p.1) refl

-- ---- pieces

first_by : (t : Bool) (b c : ℕ) (bs : List ℕ) (p : List ℕ × List ℕ) → ((q : List ℕ × List ℕ) → cut c bs ≡ Some q → pieces c bs ≡ q.0 ∷ pieces c q.1)
    → cond t (Some ([], bs)) (option_map (λ q. (b ∷ q.0, q.1)) (cut c bs)) ≡ Some p → cond t ([] ∷ pieces c bs) (in_front b (pieces c bs)) ≡ p.0 ∷ pieces c p.1
first_by true b c bs p ih e =
    let made : List ℕ × List ℕ = ([], bs) in
    subst (λ (q : List ℕ × List ℕ). [] ∷ pieces c bs ≡ q.0 ∷ pieces c q.1) (same_Some made p e) refl
first_by false b c bs p ih e =
    let m = mapped (λ (q : List ℕ × List ℕ). (b ∷ q.0, q.1)) (cut c bs) p e in
    subst (λ (q : List ℕ × List ℕ). in_front b (pieces c bs) ≡ q.0 ∷ pieces c q.1) m.2 (ap (in_front b) (ih m.0 m.1))

-- a text with a mark: its first piece, and the pieces of what stands behind the mark
pub first_piece : (c : ℕ) (bs : List ℕ) (p : List ℕ × List ℕ) → cut c bs ≡ Some p → pieces c bs ≡ p.0 ∷ pieces c p.1
first_piece c [] p e = absurd cc
first_piece c (b ∷ bs) p e = first_by (eqb b c) b c bs p (λ q. first_piece c bs q) e

last_by : (t : Bool) (b c : ℕ) (bs : List ℕ) → (cut c bs ≡ None → pieces c bs ≡ bs ∷ [])
    → cond {A = Option (List ℕ × List ℕ)} t (Some ([], bs)) (option_map (λ q. (b ∷ q.0, q.1)) (cut c bs)) ≡ None → cond t ([] ∷ pieces c bs) (in_front b (pieces c bs)) ≡ (b ∷ bs) ∷ []
last_by true b c bs ih e = absurd cc
last_by false b c bs ih e = ap (in_front b) (ih (unmapped (λ (q : List ℕ × List ℕ). (b ∷ q.0, q.1)) (cut c bs) e))

-- a text without a mark is one piece
pub last_piece : (c : ℕ) (bs : List ℕ) → cut c bs ≡ None → pieces c bs ≡ bs ∷ []
last_piece c [] e = refl
last_piece c (b ∷ bs) e = last_by (eqb b c) b c bs (last_piece c bs) e

-- pieces joined by marks are read again
pub piece_again : (c : ℕ) (xs ys : List ℕ) → holds_byte c xs ≡ false → pieces c (xs ++ (c ∷ ys)) ≡ xs ∷ pieces c ys
piece_again c [] ys h = rw (eq-eqb c c refl) refl
piece_again c (x ∷ xs) ys h =
    let p = lacks_by (eqb x c) c xs h in
    rw (p.0, piece_again c xs ys p.1) refl

pub one_piece : (c : ℕ) (xs : List ℕ) → holds_byte c xs ≡ false → pieces c xs ≡ xs ∷ []
one_piece c [] h = refl
one_piece c (x ∷ xs) h =
    let p = lacks_by (eqb x c) c xs h in
    rw (p.0, one_piece c xs p.1) refl

nows_append : (xs : List (Bor (List ℕ))) (x : Bor (List ℕ)) → map (λ y. y.now) (xs ++ x ∷ []) ≡ map (λ y. y.now) xs ++ x.now ∷ []
nows_append [] x = refl
nows_append (y ∷ ys) x = ap (λ (t : List (List ℕ)). y.now ∷ t) (nows_append ys x)

-- the pieces so far with those of the rest, as a loop goes on
pub more_pieces : (c : ℕ) (xs : List (Bor (List ℕ))) (piece more : Bor (List ℕ)) (rest : List ℕ) (total : List (List ℕ)) → Some (piece.now, more.now) ≡ cut c rest
    → map (λ x. x.now) xs ++ pieces c rest ≡ total → map (λ x. x.now) (xs ++ piece ∷ []) ++ pieces c more.now ≡ total
more_pieces c xs piece more rest total e h =
    ap (λ (t : List (List ℕ)). t ++ pieces c more.now) (nows_append xs piece)
    ∙ append_assoc (map (λ x. x.now) xs) (piece.now ∷ []) (pieces c more.now)
    ∙ ap (λ (t : List (List ℕ)). map (λ x. x.now) xs ++ t) (sym (first_piece c rest (piece.now, more.now) (sym e))) ∙ h

pub whole_pieces : (c : ℕ) (xs : List (Bor (List ℕ))) (rest : Bor (List ℕ)) (total : List (List ℕ)) → None ≡ cut c rest.now
    → map (λ x. x.now) xs ++ pieces c rest.now ≡ total → map (λ x. x.now) (xs ++ rest ∷ []) ≡ total
whole_pieces c xs rest total e h =
    nows_append xs rest ∙ ap (λ (t : List (List ℕ)). map (λ x. x.now) xs ++ t) (sym (last_piece c rest.now (sym e))) ∙ h

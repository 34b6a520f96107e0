-- Escapes byte by byte, and where a text is cut for them.
use Rattle.std.proofs.Common.{ℕ, ◌+◌, ◌<◌, ◌≤◌, ◌≡◌, Bool, true, false, not, cond, nat_lt, Some, None, List, [], ◌∷◌, ◌++◌, length, get_or, take, drop, refl, sym, ap, ◌∙◌, arith, add-one, drop-cons, subst, append_assoc, inl, inr, suc}
use Rattle.std.proofs.lemmas.Bool.{cases_Bool}
use Rattle.std.proofs.lemmas.Bool.Decides.{nat_tests}
use Rattle.std.proofs.lemmas.Grind.{common_steps, flat_map-append}
use Rattle.std.proofs.lemmas.List.{take-append-drop}
use Rattle.std.proofs.lemmas.List.Concat.{flat_map-cons}
use Rattle.std.proofs.lemmas.List.Sums.{prefix_len_stops}
use Rattle.std.specs.List.{position, position_or_len, flat_map}
use Rattle.eip_text.specs.Escapes.{escaped_byte, escaped, with_quote_escaped, quoted, is_marked, shown_byte, shown, CutAtMark}

-- a byte that is not marked is shown as it is
plain_byte : (quotes : Bool) (b : ℕ) → is_marked quotes b ≡ false → shown_byte quotes b ≡ b ∷ []
plain_byte quotes b h = grind (arith, nat_tests)

-- marks are ASCII
pub mark_below : (quotes : Bool) (b : ℕ) → is_marked quotes b ≡ true → b < 128
mark_below quotes b h = grind (arith, nat_tests)

pub mark_any : (quotes : Bool) (b : ℕ) → is_marked quotes b ≡ true → is_marked true b ≡ true
mark_any quotes b h = grind (arith, nat_tests)

pub shown_mark : (quotes : Bool) (b : ℕ) → is_marked quotes b ≡ true → shown_byte true b ≡ shown_byte quotes b
shown_mark quotes b h = grind (arith, nat_tests)

before_at : (marked : Bool) (quotes : Bool) (b : ℕ) (bs : List ℕ) (n k : ℕ) → is_marked quotes b ≡ marked → k ≡ suc n
    → flat_map (shown_byte quotes) (take n bs) ≡ take n bs
    → flat_map (shown_byte quotes) (take (cond (not marked) k 0) (b ∷ bs)) ≡ take (cond (not marked) k 0) (b ∷ bs)
before_at true quotes b bs n k m e ih = refl
before_at false quotes b bs n k m e ih =
    rw e (flat_map-cons (shown_byte quotes) b (take n bs) ∙ ap (λ x. x ++ flat_map (shown_byte quotes) (take n bs)) (plain_byte quotes b m) ∙ ap (λ x. b ∷ x) ih)

-- what stands before the first mark is shown as it is
before : (quotes : Bool) (bs : List ℕ) → flat_map (shown_byte quotes) (take (position_or_len (is_marked quotes) bs) bs) ≡ take (position_or_len (is_marked quotes) bs) bs
before quotes [] = refl
before quotes (b ∷ bs) = before_at (is_marked quotes b) quotes b bs (position_or_len (is_marked quotes) bs) _ refl (omega arith) (before quotes bs)

-- where a search ends
where_found : (quotes : Bool) (bs : List ℕ) (i : ℕ) → Some i ≡ position (is_marked quotes) bs → (position_or_len (is_marked quotes) bs ≡ i) × (i < length bs)
where_found quotes bs i e = elim (cases_Bool (nat_lt (position_or_len (is_marked quotes) bs) (length bs))) [
  | inl t ↦ (let at : Some i ≡ Some (position_or_len (is_marked quotes) bs) = rw t at e in let same : i ≡ position_or_len (is_marked quotes) bs = cc in (sym same, grind (arith, nat_tests, same, t)))
  | inr f ↦ (let none : Some i ≡ None = rw f at e in absurd (cc))
]

-- nothing is marked where a search finds nothing
pub shown-unmarked : (quotes : Bool) (bs : List ℕ) → None ≡ position (is_marked quotes) bs → shown quotes bs ≡ bs
unfolding shown
shown-unmarked quotes bs e = elim (cases_Bool (nat_lt (position_or_len (is_marked quotes) bs) (length bs))) [
  | inl t ↦ (let some : None ≡ Some (position_or_len (is_marked quotes) bs) = rw t at e in absurd (cc))
  | inr f ↦ (let all : length bs ≤ position_or_len (is_marked quotes) bs = grind (arith, nat_tests) in
      let whole : take (position_or_len (is_marked quotes) bs) bs ≡ bs = grind (arith, common_steps) in
      ap (flat_map (shown_byte quotes)) (sym whole) ∙ before quotes bs ∙ whole)
]

not_false : (b : Bool) → not b ≡ false → b ≡ true
not_false true e = refl
not_false false e = cc

pub found_mark : (quotes : Bool) (bs : List ℕ) (i : ℕ) → Some i ≡ position (is_marked quotes) bs → (i < length bs) × (is_marked quotes (get_or bs i 0) ≡ true)
found_mark quotes bs i e =
    let at = where_found quotes bs i e in
    let short : position_or_len (is_marked quotes) bs < length bs = omega arith in
    let stops : not (is_marked quotes (get_or bs (position_or_len (is_marked quotes) bs) 0)) ≡ false = prefix_len_stops (λ x. not (is_marked quotes x)) bs 0 short in
    (at.1, subst (λ n. is_marked quotes (get_or bs n 0) ≡ true) at.0 (not_false _ stops))

-- a text cut where a search ended
pub CutAtMark-found : (quotes : Bool) (text front rest : List ℕ) (i : ℕ) → Some i ≡ position (is_marked quotes) text → front ≡ take i text → rest ≡ drop (i + 1) text
    → CutAtMark quotes text front (get_or text i 0) rest
unfolding shown
CutAtMark-found quotes text front rest i e p q =
    let at = where_found quotes text i e in
    let step : drop i text ≡ get_or text i 0 ∷ drop (i + 1) text = rw add-one (drop-cons text i 0 at.1) in
    let plain : flat_map (shown_byte quotes) (take i text) ≡ take i text = subst (λ n. flat_map (shown_byte quotes) (take n text) ≡ take n text) at.0 (before quotes text) in
    record {
      whole = rw (p, q) (sym (take-append-drop i text) ∙ ap (λ x. take i text ++ x) step);
      plain = rw p plain;
      marked = (found_mark quotes text i e).1;
    }

pub shown-append : (quotes : Bool) (xs ys : List ℕ) → shown quotes (xs ++ ys) ≡ shown quotes xs ++ shown quotes ys
unfolding shown
shown-append quotes xs ys = flat_map-append (shown_byte quotes) xs ys

-- of a text that is cut at a mark
pub shown-cut : (quotes : Bool) (text front rest : List ℕ) (mark : ℕ) → CutAtMark quotes text front mark rest
    → shown quotes text ≡ (front ++ shown_byte true mark) ++ shown quotes rest
unfolding shown
shown-cut quotes text front rest mark cut =
    ap (shown quotes) cut.whole ∙ shown-append quotes front (mark ∷ rest) ∙ ap (λ x. x ++ shown quotes (mark ∷ rest)) cut.plain
    ∙ ap (λ x. front ++ (x ++ shown quotes rest)) (sym (shown_mark quotes mark cut.marked)) ∙ sym (append_assoc front (shown_byte true mark) (shown quotes rest))

-- without the escape of quotation marks
pub shown-escaped : (bs : List ℕ) → shown false bs ≡ escaped bs
unfolding shown escaped
shown-escaped bs = refl

quote_late : (b : ℕ) → shown_byte true b ≡ flat_map with_quote_escaped (escaped_byte b)
quote_late b = grind (arith, nat_tests)

-- with it
quotes_late : (bs : List ℕ) → flat_map (shown_byte true) bs ≡ flat_map with_quote_escaped (flat_map escaped_byte bs)
quotes_late [] = refl
quotes_late (b ∷ bs) =
    ap (λ x. x ++ flat_map (shown_byte true) bs) (quote_late b) ∙ ap (λ x. flat_map with_quote_escaped (escaped_byte b) ++ x) (quotes_late bs)
    ∙ sym (flat_map-append with_quote_escaped (escaped_byte b) (flat_map escaped_byte bs))

pub shown-quoted : (bs : List ℕ) → quoted bs ≡ 34 ∷ (shown true bs ++ 34 ∷ [])
unfolding shown escaped quoted
shown-quoted bs = ap (λ x. 34 ∷ (x ++ 34 ∷ [])) (sym (quotes_late bs))

-- ---- for callers

pub escaped-append : (xs ys : List ℕ) → escaped (xs ++ ys) ≡ escaped xs ++ escaped ys
unfolding escaped
escaped-append xs ys = flat_map-append escaped_byte xs ys

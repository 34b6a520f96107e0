-- Laws of the length of a line.
use Rattle.std.proofs.Common.{ℕ, ◌≡◌, ◌+◌, ◌-◌, ◌<◌, ◌≤◌, Bool, true, false, not, List, ◌++◌, Some, None, refl, sym, subst, length, drop, get_or, arith, ⊎_elim}
use Rattle.std.proofs.lemmas.Bool.{cases_lt, false_from_ne_true}
use Rattle.std.proofs.lemmas.Bool.Decides.{nat_tests}
use Rattle.std.proofs.lemmas.List.{get_or-drop, length-drop, drop-append-le}
use Rattle.std.proofs.lemmas.List.Sums.{position_or_len_is, fails_before_first, prefix_len-le-length}
use Rattle.std.proofs.lemmas.List.Folds.{prefix_len-append}
use Rattle.memchr.specs.Find.{IsFirstByte, Nowhere, Passes, is_byte}
use Rattle.eip_line.specs.Lines.{is_end, line_length}

pub line_length-le : (bytes : List ℕ) → line_length bytes ≤ length bytes
line_length-le bytes = prefix_len-le-length (λ b. not (is_end b)) bytes

-- where no LF is among the first ones and none among n behind them, none is among all these
none-before : (bytes : List ℕ) (from n : ℕ) → from ≤ line_length bytes → Nowhere (Passes (is_byte 10) (drop from bytes)) 0 n → (k : ℕ) → k < from + n → is_end (get_or bytes k 0) ≡ false
none-before bytes from n h none k below =
    let Is : Bool → Type 0 = λ b. b ≡ true in
    ⊎_elim
    (λ (early : k < from). fails_before_first is_end bytes k 0 (omega arith))
    (λ (late : from ≤ k).
    let e : from + (k - from) ≡ k = omega arith in
    let at : get_or (drop from bytes) (k - from) 0 ≡ get_or bytes k 0 = rw (get_or-drop from bytes (k - from) 0, e) refl in
    false_from_ne_true (is_end (get_or bytes k 0)) (λ yes. none (k - from) (omega arith) (omega arith) (subst (λ (b : ℕ). is_end b ≡ true) (sym at) yes)))
    (cases_lt k from)

-- the first LF behind bytes that hold none ends the line
pub line_length-found : (bytes : List ℕ) (from index : ℕ) → from ≤ line_length bytes → IsFirstByte (is_byte 10) (drop from bytes) (Some index) → from + index ≡ line_length bytes
line_length-found bytes from index h first =
    let high : index < length (drop from bytes) = first.0.high in
    let shorter : from + index < length bytes = omega (arith, length-drop from bytes) in
    let at : get_or (drop from bytes) index 0 ≡ get_or bytes (from + index) 0 = get_or-drop from bytes index 0 in
    sym (position_or_len_is is_end bytes (from + index) 0 (omega arith) (none-before bytes from index h first.0.before) (λ _. subst (λ (b : ℕ). is_end b ≡ true) at first.1))

-- without one the line is all there is
pub line_length-none : (bytes : List ℕ) (from : ℕ) → from ≤ line_length bytes → IsFirstByte (is_byte 10) (drop from bytes) None → length bytes ≡ line_length bytes
line_length-none bytes from h none =
    let le : line_length bytes ≤ length bytes = line_length-le bytes in
    let e : from + length (drop from bytes) ≡ length bytes = omega (arith, length-drop from bytes) in
    sym (position_or_len_is is_end bytes (length bytes) 0 (omega arith)
    (λ k below. none-before bytes from (length (drop from bytes)) h none k (omega arith)) (λ never. absurd (omega arith)))

-- more bytes behind make no line shorter
pub line_length-more : (bytes more : List ℕ) → line_length bytes ≤ line_length (bytes ++ more)
line_length-more bytes more =
    let le : line_length bytes ≤ length bytes = line_length-le bytes in
    rw (prefix_len-append (λ b. not (is_end b)) bytes more) (grind (arith, nat_tests))

-- a line that is ended stays as it is where more bytes come
pub line_length-ended : (bytes more : List ℕ) → line_length bytes < length bytes → line_length (bytes ++ more) ≡ line_length bytes
line_length-ended bytes more ended =
    rw (prefix_len-append (λ b. not (is_end b)) bytes more) (grind (arith, nat_tests))

-- bytes that hold no LF still hold none where more come behind them
pub searched-still : (bytes more : List ℕ) (start searched : ℕ) → start ≤ length bytes → searched ≤ line_length (drop start bytes) → searched ≤ line_length (drop start (bytes ++ more))
searched-still bytes more start searched h low =
    let longer : line_length (drop start bytes) ≤ line_length (drop start bytes ++ more) = line_length-more (drop start bytes) more in
    rw (drop-append-le start bytes more) (omega arith)

-- Laws of what a link in memory reads.
use Rattle.std.proofs.Common.{ℕ, ◌≡◌, ◌+◌, ◌-◌, ◌<◌, ◌≤◌, min, List, [], ◌++◌, sym, ap, subst, ◌∙◌, length, take, drop, arith}
use Rattle.std.proofs.Math.Seq.{take-append_seam, take-length}
use Rattle.std.proofs.lemmas.List.{take-append-drop, length-take-le, length-append, length-drop, drop-drop, drop_all}

-- the bytes from an index on are all of those behind it
pub left-from :
    (slice input : List ℕ) (start : ℕ) → slice ≡ input → take (length slice - start) (drop start slice) ≡ drop start input
left-from slice input start same =
    subst (λ (n : ℕ). take n (drop start slice) ≡ drop start slice) (length-drop start slice) (take-length (drop start slice)) ∙ ap (drop start) same

-- a reading gives the front of the bytes that are left
pub read-front :
    (unread left input piece copied : List ℕ) (start count : ℕ) → unread ≡ drop start input → left ≡ drop start input → copied ≡ take count left
    → count ≡ min (length left) (length piece) → unread ≡ take count (copied ++ drop count piece) ++ drop (start + count) input
read-front unread left input piece copied start count is from gave least =
    let long : length copied ≡ count = ap length gave ∙ length-take-le count left (omega arith) in
    let front : take count (copied ++ drop count piece) ≡ take count left =
    subst (λ (n : ℕ). take n (copied ++ drop count piece) ≡ copied) long (take-append_seam copied (drop count piece)) ∙ gave in
    let rest : drop (start + count) input ≡ drop count left = sym (ap (drop count) from ∙ drop-drop count start input) in
    rw (front, rest) (is ∙ sym from ∙ sym (take-append-drop count left))

-- none are read into a piece that is not empty only where none are left
pub read-none :
    (left input piece copied : List ℕ) (start count : ℕ) → left ≡ drop start input → copied ≡ take count left → count ≡ min (length left) (length piece)
    → count ≡ 0 → 0 < length (copied ++ drop count piece) → drop (start + count) input ≡ []
read-none left input piece copied start count from gave least none room =
    let long : length copied ≡ count = ap length gave ∙ length-take-le count left (omega arith) in
    let whole : length (copied ++ drop count piece) ≡ length copied + length (drop count piece) = length-append copied (drop count piece) in
    let behind : length (drop count piece) ≤ length piece = omega (arith, length-drop count piece) in
    let short : length left ≡ 0 = omega arith in
    drop_all (start + count) input (omega (arith, ap length from, length-drop start input))

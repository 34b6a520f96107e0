-- Laws of what a reader of lines gives.
use Rattle.std.proofs.Common.{ℕ, ◌≡◌, ◌+◌, ◌<◌, ◌≤◌, nat_le, nat_lt, true, false, List, [], ◌∷◌, ◌++◌, Option, Some, None, Result, Ok, Err, refl, sym, ap, subst, ◌∙◌, length, take, drop, arith, append_assoc, append-nil}
use Rattle.std.proofs.lemmas.Bool.{lt-ltb, lt-leb, le-ltb, le-leb}
use Rattle.std.proofs.lemmas.List.{take-append-le, drop-append-le, length-append}
use Rattle.std.specs.Io.KnownBytes.{Consumes, IsAtEnd, prepend_known}
use Rattle.eip_endpoint.specs.declared.source.Pulled.{Pulled}
use Rattle.eip_endpoint.specs.declared.source.Pulled.TheVariants.{End}
use Rattle.eip_line.specs.declared.reader.LineFault.{LineFault}
use Rattle.eip_line.specs.declared.reader.LineFault.TheVariants as fault
use Rattle.eip_line.specs.Lines.{Next, Line, Nothing, Endless, HasLine, line_length, without_return, last_line, next_line}
use Rattle.eip_line.specs.Readers.{TookLine, TookLast, Gave, Took, TookKnown}
use Rattle.eip_line.proofs.LineLaws.{line_length-ended}

-- where an LF stands early enough, it ends the next line, whatever comes behind
pub next-ended : (bytes more : List ℕ) → line_length bytes < 1048576 → line_length bytes < length bytes
    → next_line (bytes ++ more) ≡ Line (without_return (take (line_length bytes) bytes)) (drop (line_length bytes + 1) bytes ++ more)
unfolding next_line
next-ended bytes more small ended =
    let k : ℕ = line_length bytes in
    let same : line_length (bytes ++ more) ≡ k = line_length-ended bytes more ended in
    let within : nat_le 1048576 (line_length (bytes ++ more)) ≡ false = lt-leb 1048576 (line_length (bytes ++ more)) (omega (arith, same, small)) in
    let longer : length (bytes ++ more) ≡ length bytes + length more = length-append bytes more in
    let stands : nat_lt (line_length (bytes ++ more)) (length (bytes ++ more)) ≡ true = lt-ltb (line_length (bytes ++ more)) (length (bytes ++ more)) (omega (arith, same, longer, ended)) in
    let front : take k (bytes ++ more) ≡ take k bytes = take-append-le k bytes more (omega (arith, ended)) in
    let rest : drop (k + 1) (bytes ++ more) ≡ drop (k + 1) bytes ++ more = drop-append-le (k + 1) bytes more (omega (arith, ended)) in
    rw (within, stands, same, front, rest) refl

-- where none does and no more come, the bytes are the last line
pub next-last : (bytes : List ℕ) → line_length bytes < 1048576 → length bytes ≤ line_length bytes → next_line bytes ≡ last_line bytes
unfolding next_line
next-last bytes small all =
    let within : nat_le 1048576 (line_length bytes) ≡ false = lt-leb 1048576 (line_length bytes) small in
    let none : nat_lt (line_length bytes) (length bytes) ≡ false = le-ltb (line_length bytes) (length bytes) all in
    rw (within, none) refl

-- a line that was taken out of a buffer is the next one of all bytes left
pub took-ended : (n n' : ℕ) (bytes more kept : List ℕ) (r : Result Pulled LineFault) → line_length bytes < 1048576 → line_length bytes < length bytes
    → TookLine n bytes (without_return (take (line_length bytes) bytes)) (drop (line_length bytes + 1) bytes) r n' kept → Took n (bytes ++ more) r n' (kept ++ more)
took-ended n n' bytes more kept (Ok p) small ended (l, c, k) =
    let e = next-ended bytes more small ended in
    subst (λ (x : Next). Gave n x p n' (kept ++ more)) (sym e) (l, c, ap (λ bs. bs ++ more) k)
took-ended n n' bytes more kept (Err fault.NoMemory) small ended (c, k) = (c, ap (λ bs. bs ++ more) k)
took-ended n n' bytes more kept (Err fault.Failed) small ended h = absurd h
took-ended n n' bytes more kept (Err fault.Endless) small ended h = absurd h

last-bytes : (n n' : ℕ) (b : ℕ) (bs kept : List ℕ) (r : Result Pulled LineFault) → next_line (b ∷ bs) ≡ last_line (b ∷ bs)
    → TookLine n (b ∷ bs) (b ∷ bs) [] r n' kept → Took n (b ∷ bs) r n' kept
last-bytes n n' b bs kept (Ok p) e h = subst (λ (x : Next). Gave n x p n' kept) (sym e) h
last-bytes n n' b bs kept (Err fault.NoMemory) e h = h
last-bytes n n' b bs kept (Err fault.Failed) e h = absurd h
last-bytes n n' b bs kept (Err fault.Endless) e h = absurd h

last-none : (n n' : ℕ) (kept : List ℕ) (r : Result Pulled LineFault) → next_line [] ≡ Nothing → r ≡ Ok End → n' ≡ n → kept ≡ [] → Took n [] r n' kept
last-none n n' kept (Ok p) e h c k =
    let is : p ≡ End = cc in
    subst (λ (x : Next). Gave n x p n' kept) (sym e) (is, c, k)
last-none n n' kept (Err f) e h c k = absurd (cc)

-- the last line, or none, where no more come
pub took-last : (n n' : ℕ) (bytes kept : List ℕ) (r : Result Pulled LineFault) → line_length bytes < 1048576 → length bytes ≤ line_length bytes
    → TookLast n bytes r n' kept → Took n bytes r n' kept
took-last n n' [] kept r small all (h, c, k) = last-none n n' kept r (next-last [] small all) h c k
took-last n n' (b ∷ bs) kept r small all h = last-bytes n n' b bs kept r (next-last (b ∷ bs) small all) h

-- bytes that moved from the link into the buffer are left still
same-left : (b0 b1 more xs ys : List ℕ) → b1 ≡ b0 ++ more → xs ≡ more ++ ys → b1 ++ ys ≡ b0 ++ xs
same-left b0 b1 more xs ys behind taken = rw (behind, taken) (append_assoc b0 more ys)

-- what was taken of the bytes in a buffer and those left in its link, where these are known
pub took-known : (n n' : ℕ) (b0 b1 more kept : List ℕ) (o0 o1 : Option (List ℕ)) (r : Result Pulled LineFault)
    → b1 ≡ b0 ++ more → Consumes o0 o1 more → ((ys : List ℕ) → o1 ≡ Some ys → Took n (b1 ++ ys) r n' (kept ++ ys))
    → TookKnown n (prepend_known b0 o0) r n' (prepend_known kept o1)
took-known n n' b0 b1 more kept None o1 r behind taken h = tt
took-known n n' b0 b1 more kept (Some xs) None r behind taken h = absurd taken
took-known n n' b0 b1 more kept (Some xs) (Some ys) r behind taken h =
    subst (λ (left : List ℕ). Took n left r n' (kept ++ ys)) (same-left b0 b1 more xs ys behind taken) (h ys refl)

-- the same at the end of what the link has
pub at-end : (n n' : ℕ) (bytes kept : List ℕ) (o : Option (List ℕ)) (r : Result Pulled LineFault) → IsAtEnd o → Took n bytes r n' kept
    → (ys : List ℕ) → o ≡ Some ys → Took n (bytes ++ ys) r n' (kept ++ ys)
at-end n n' bytes kept o r ended took ys e =
    let none : ys ≡ [] = subst IsAtEnd e ended in
    let now : bytes ≡ bytes ++ ys = rw none (sym (append-nil bytes)) in
    let later : kept ≡ kept ++ ys = rw none (sym (append-nil kept)) in
    subst (λ (bs : List ℕ). Took n bs r n' (kept ++ ys)) now (subst (λ (bs : List ℕ). Took n bytes r n' bs) later took)

-- a line that was taken out of a buffer, behind readings that put enough into it
pub known-ended : (n n' e : ℕ) (b0 b1 more kept : List ℕ) (o0 o1 : Option (List ℕ)) (r : Result Pulled LineFault)
    → b1 ≡ b0 ++ more → Consumes o0 o1 more → e ≡ line_length b1 → e < 1048576 → e < length b1
    → TookLine n b1 (without_return (take e b1)) (drop (e + 1) b1) r n' kept → TookKnown n (prepend_known b0 o0) r n' (prepend_known kept o1)
known-ended n n' e b0 b1 more kept o0 o1 r behind taken first small ended took =
    let now = subst (λ (k : ℕ). TookLine n b1 (without_return (take k b1)) (drop (k + 1) b1) r n' kept) first took in
    took-known n n' b0 b1 more kept o0 o1 r behind taken (λ ys _. took-ended n n' b1 ys kept r (omega (arith, first, small)) (omega (arith, first, ended)) now)

-- the last line, or none, behind readings to the end of what the link has
pub known-last : (n n' e : ℕ) (b0 b1 more kept : List ℕ) (o0 o1 : Option (List ℕ)) (r : Result Pulled LineFault)
    → b1 ≡ b0 ++ more → Consumes o0 o1 more → e ≡ line_length b1 → (e < 1048576 → length b1 ≤ e → IsAtEnd o1) → e < 1048576 → length b1 ≤ e
    → TookLast n b1 r n' kept → TookKnown n (prepend_known b0 o0) r n' (prepend_known kept o1)
known-last n n' e b0 b1 more kept o0 o1 r behind taken first ended small all took =
    took-known n n' b0 b1 more kept o0 o1 r behind taken
    (at-end n n' b1 kept o1 r (ended small all) (took-last n n' b1 kept r (omega (arith, first, small)) (omega (arith, first, all)) took))

-- a whole line that was there is as long as it was, behind more readings
pub still-short : (old more new : List ℕ) (e : ℕ) → new ≡ old ++ more → e ≡ line_length new → HasLine old → e < 1048576
still-short old more new e behind first (ended, short) =
    let same : line_length new ≡ line_length old = ap line_length behind ∙ line_length-ended old more ended in
    omega (arith, first, same, short)

-- bytes without an LF among the first 1,048,576 are the beginning of a line without end
pub next-endless : (bytes : List ℕ) → 1048576 ≤ line_length bytes → next_line bytes ≡ Endless
unfolding next_line
next-endless bytes long = rw (le-leb 1048576 (line_length bytes) long) refl

-- a fault takes nothing of the bytes in a buffer and those left in its link
pub known-same : (n : ℕ) (b0 b1 more : List ℕ) (o0 o1 : Option (List ℕ)) (f : LineFault) → b1 ≡ b0 ++ more → Consumes o0 o1 more
    → TookKnown n (prepend_known b0 o0) (Err f) n (prepend_known b1 o1)
known-same n b0 b1 more None o1 f behind taken = tt
known-same n b0 b1 more (Some xs) None f behind taken = absurd taken
known-same n b0 b1 more (Some xs) (Some ys) f behind taken = (refl, same-left b0 b1 more xs ys behind taken)

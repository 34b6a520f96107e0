-- A text that grows piece by piece.
use Rattle.std.proofs.Common.{◌≡◌, ℕ, List, ◌++◌, append_assoc}

-- one more line behind what was there
pub grown : (new before old text line next : List ℕ) → new ≡ before ++ line → before ≡ old ++ text → next ≡ text ++ line → new ≡ old ++ next
grown new before old text line next a b c = rw (a, b, c) (simp append_assoc)

pub three-joined : (old a b c r1 r2 r3 : List ℕ) → r1 ≡ old ++ a → r2 ≡ r1 ++ b → r3 ≡ r2 ++ c → r3 ≡ old ++ (a ++ (b ++ c))
three-joined old a b c r1 r2 r3 e1 e2 e3 = rw (e3, e2, e1) (simp append_assoc)

pub four-joined : (old a b c d r1 r2 r3 r4 : List ℕ) → r1 ≡ old ++ a → r2 ≡ r1 ++ b → r3 ≡ r2 ++ c → r4 ≡ r3 ++ d → r4 ≡ old ++ (a ++ (b ++ (c ++ d)))
four-joined old a b c d r1 r2 r3 r4 e1 e2 e3 e4 = rw (e4, e3, e2, e1) (simp append_assoc)

pub six-joined : (old a b c d e f r1 r2 r3 r4 r5 r6 : List ℕ) → r1 ≡ old ++ a → r2 ≡ r1 ++ b → r3 ≡ r2 ++ c → r4 ≡ r3 ++ d → r5 ≡ r4 ++ e → r6 ≡ r5 ++ f
    → r6 ≡ old ++ (a ++ (b ++ (c ++ (d ++ (e ++ f)))))
six-joined old a b c d e f r1 r2 r3 r4 r5 r6 e1 e2 e3 e4 e5 e6 = rw (e6, e5, e4, e3, e2, e1) (simp append_assoc)

-- Cutting a text at its front: the elementary words of the small languages' grammars.
use Rattle.std.specs.Prelude.{ℕ, Bool, true, false, ◌&&◌, ◌==◌, nat_le, List, [], ◌∷◌, Option, Some, None, option_map, if◌then◌else◌}

-- the text without the spaces in front
abbrev pub unspaced : List ℕ → List ℕ
unspaced [] = []
unspaced (b ∷ bs) = if b == 32 then unspaced bs else b ∷ bs

-- what stands behind the word, where the text begins with it
abbrev pub behind : List ℕ → List ℕ → Option (List ℕ)
behind [] bs = Some bs
behind (w ∷ ws) [] = None
behind (w ∷ ws) (b ∷ bs) = if b == w then behind ws bs else None

-- the text before its first byte c, and the text behind it
abbrev pub cut : ℕ → List ℕ → Option (List ℕ × List ℕ)
cut c [] = None
cut c (b ∷ bs) = if b == c then Some ([], bs) else option_map (λ p. (b ∷ p.0, p.1)) (cut c bs)

-- whether the byte stands in the text
abbrev pub holds_byte : ℕ → List ℕ → Bool
holds_byte c [] = false
holds_byte c (b ∷ bs) = if b == c then true else holds_byte c bs

-- an ASCII digit
abbrev pub is_digit : ℕ → Bool
is_digit b = nat_le 48 b && nat_le b 57

-- the digits in front, and what stands behind them
abbrev pub digits : List ℕ → List ℕ × List ℕ
digits [] = ([], [])
digits (b ∷ bs) = if is_digit b then (b ∷ (digits bs).0, (digits bs).1) else ([], b ∷ bs)

-- the byte in front of the first piece
abbrev pub in_front : ℕ → List (List ℕ) → List (List ℕ)
in_front b [] = (b ∷ []) ∷ []
in_front b (p ∷ ps) = (b ∷ p) ∷ ps

-- the pieces between the bytes c: one more than there are bytes c
abbrev pub pieces : ℕ → List ℕ → List (List ℕ)
pieces c [] = [] ∷ []
pieces c (b ∷ bs) = if b == c then [] ∷ pieces c bs else in_front b (pieces c bs)

-- A quoted text is read again.
use Rattle.std.proofs.Common.{◌≡◌, ℕ, zero, suc, ◌+◌, ◌/◌, ◌%◌, ◌<◌, ◌≤◌, true, false, eqb, nat_lt, nat_le, ◌&&◌, List, [], ◌∷◌, ◌++◌, length, Option, Some, refl, sym, ap, subst, ◌∙◌, append_assoc, length-append, arith, inl, inr}
use Rattle.std.specs.Str.{IsUtf8}
use Rattle.std.proofs.lemmas.Bool.{cases_Bool}
use Rattle.std.proofs.lemmas.Bool.Decides.{nat_tests, eqb_tells}
use Rattle.std.proofs.lemmas.Str.{is_utf8-from_IsUtf8}
use Rattle.eip_text.specs.Escapes.{hex_digit, hex_escape, is_control, shown_byte, shown}
use Rattle.eip_text.proofs.Escaping.{shown-quoted}
use Rattle.eip_dump.specs.Lines.{phrase}
use Rattle.eip_dump.specs.Reading.{hex_value, hex_at, escape_at, shown_at, one_more, unquoted, closed, phrase_at}

hex_again : (n : ℕ) → n < 16 → hex_value (hex_digit n) ≡ Some n
hex_again n l = elim (cases_Bool (nat_lt n 10)) [
  | inl t ↦ (let low : n < 10 = grind (arith, nat_tests, t) in
      let here : hex_digit n ≡ 48 + n = rw t refl in
      let digit : (nat_le 48 (48 + n) && nat_le (48 + n) 57) ≡ true = grind (arith, nat_tests, low) in
      rw here (rw digit (ap Some (omega arith))))
  | inr f ↦ (let high : 10 ≤ n = grind (arith, nat_tests, f) in
      let here : hex_digit n ≡ 87 + n = rw f refl in
      let digit : (nat_le 48 (87 + n) && nat_le (87 + n) 57) ≡ false = grind (arith, nat_tests, high) in
      let letter : (nat_le 97 (87 + n) && nat_le (87 + n) 102) ≡ true = grind (arith, nat_tests, high, l) in
      rw here (rw (digit, letter) (ap Some (omega arith))))
]

hex_pair : (b : ℕ) (rest : List ℕ) → b < 256 → hex_at (hex_digit (b / 16) ∷ hex_digit (b % 16) ∷ rest) ≡ Some (b, rest)
unfolding hex_at
hex_pair b rest l =
    rw (hex_again (b / 16) (omega arith), hex_again (b % 16) (omega arith)) (ap (λ (n : ℕ). Some (n, rest)) (omega arith))

control_again : (b : ℕ) (rest : List ℕ) → is_control b ≡ true → shown_at (hex_escape b ++ rest) ≡ Some (b, rest)
unfolding shown_at escape_at
control_again b rest c = hex_pair b rest (grind (arith, nat_tests, c))

plain_again : (b : ℕ) (rest : List ℕ) → eqb b 34 ≡ false → eqb b 92 ≡ false → shown_at (b ∷ rest) ≡ Some (b, rest)
unfolding shown_at
plain_again b rest q s = rw (q, s) refl

-- each byte as it is shown
shown_again : (b : ℕ) (rest : List ℕ) → shown_at (shown_byte true b ++ rest) ≡ Some (b, rest)
unfolding shown_at escape_at
shown_again b rest = elim (eqb_tells b 34) [
  | inl q ↦ subst (λ (x : ℕ). shown_at (shown_byte true x ++ rest) ≡ Some (x, rest)) (sym q.1) refl
  | inr q ↦ elim (eqb_tells b 92) [
    | inl s ↦ subst (λ (x : ℕ). shown_at (shown_byte true x ++ rest) ≡ Some (x, rest)) (sym s.1) refl
    | inr s ↦ elim (eqb_tells b 10) [
      | inl n ↦ subst (λ (x : ℕ). shown_at (shown_byte true x ++ rest) ≡ Some (x, rest)) (sym n.1) refl
      | inr n ↦ elim (eqb_tells b 13) [
        | inl r ↦ subst (λ (x : ℕ). shown_at (shown_byte true x ++ rest) ≡ Some (x, rest)) (sym r.1) refl
        | inr r ↦ elim (cases_Bool (is_control b)) [
          | inl c ↦ (let look : shown_byte true b ≡ hex_escape b = rw (q.0, s.0, n.0, r.0, c) refl in
              ap (λ (t : List ℕ). shown_at (t ++ rest)) look ∙ control_again b rest c)
          | inr c ↦ (let look : shown_byte true b ≡ b ∷ [] = rw (q.0, s.0, n.0, r.0, c) refl in
              ap (λ (t : List ℕ). shown_at (t ++ rest)) look ∙ plain_again b rest q.0 s.0)
        ]
      ]
    ]
  ]
]

some_bytes : (b : ℕ) → 1 ≤ length (shown_byte true b)
some_bytes b = grind (arith, nat_tests)

not_longer : (t : List ℕ) → length t ≤ length (shown true t)
unfolding shown
not_longer [] = omega arith
not_longer (b ∷ bs) = let h = not_longer bs in let one = some_bytes b in simp length-append (omega (arith, h, one))

unquoted_again : (n : ℕ) (t rest : List ℕ) → length t ≤ n → unquoted n (shown true t ++ (34 ∷ rest)) ≡ (t, 34 ∷ rest)
unfolding unquoted shown shown_at
unquoted_again zero [] rest l = refl
unquoted_again (suc n) [] rest l = refl
unquoted_again zero (b ∷ bs) rest l = absurd (omega (arith, l))
unquoted_again (suc n) (b ∷ bs) rest l =
    let more : List ℕ = shown true bs ++ (34 ∷ rest) in
    let later : List ℕ → List ℕ × List ℕ = λ r. unquoted n r in
    ap (λ (r : List ℕ). one_more r (shown_at r) later) (append_assoc (shown_byte true b) (shown true bs) (34 ∷ rest))
    ∙ ap (λ (o : Option (ℕ × List ℕ)). one_more (shown_byte true b ++ more) o later) (shown_again b more)
    ∙ ap (λ (p : List ℕ × List ℕ). (b ∷ p.0, p.1)) (unquoted_again n bs rest (omega arith))

pub phrase_again : (t rest : List ℕ) → IsUtf8 t → phrase_at (phrase t ++ rest) ≡ Some (t, rest)
unfolding phrase_at
phrase_again t rest u =
    let inner : List ℕ = shown true t ++ (34 ∷ rest) in
    let whole : phrase t ++ rest ≡ 32 ∷ 34 ∷ inner = ap (λ (x : List ℕ). 32 ∷ (x ++ rest)) (shown-quoted t) ∙ ap (λ (x : List ℕ). 32 ∷ 34 ∷ x) (append_assoc (shown true t) (34 ∷ []) rest) in
    let enough : length t ≤ length inner = simp length-append (omega (arith, not_longer t)) in
    ap phrase_at whole ∙ ap closed (unquoted_again (length inner) t rest enough) ∙ rw (is_utf8-from_IsUtf8 t u) refl

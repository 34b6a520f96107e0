-- Pairs of options and their values, and words that go by a form.
use Rattle.std.proofs.Common.{◌≡◌, ℕ, ◌<◌, ◌≤◌, ◌-◌, Bool, true, false, not, ◌&&◌, List, [], ◌∷◌, length, get_or, take, drop, refl, sym, ap, ◌∙◌, arith, zero, suc}
use Rattle.std.proofs.Math.Seq.{take-length}
use Rattle.eip_command.specs.declared.forms.Rule.{Rule}
use Rattle.eip_command.specs.Forms.{Options, is_option, is_given, are_pairs, follow}

-- what stands behind the first pair
abbrev pub behind : List (List ℕ) → List (List ℕ)
behind rest = take (length rest - 2) (drop 2 rest)

behind_pair : (w v : List ℕ) (more : List (List ℕ)) → behind (w ∷ (v ∷ more)) ≡ more
behind_pair w v more = let e : suc (suc (length more)) - 2 ≡ length more = omega arith in ap (λ n. take n more) e ∙ take-length more

and_false : (a b : Bool) → (a && (false && b)) ≡ false
and_false true b = refl
and_false false b = refl

given_twice : (os : Options) (w v : List ℕ) (more : List (List ℕ)) → is_given w more ≡ true → are_pairs os (w ∷ (v ∷ more)) ≡ false
given_twice os w v more h = ap (λ t. is_option os w v && (not t && are_pairs os more)) h ∙ and_false (is_option os w v) (are_pairs os more)

one_more : (os : Options) (w v : List ℕ) (more : List (List ℕ)) → is_option os w v ≡ true → is_given w more ≡ false → are_pairs os (w ∷ (v ∷ more)) ≡ are_pairs os more
one_more os w v more e h = ap (λ t. t && (not (is_given w more) && are_pairs os more)) e ∙ ap (λ t. not t && are_pairs os more) h

pub twice : (os : Options) (rest : List (List ℕ)) (w s : List ℕ) (t : Bool) → 2 ≤ length rest → w ≡ get_or rest 0 w → s ≡ w → t ≡ is_given s (behind rest) → t ≡ true → are_pairs os rest ≡ false
twice os [] w s t le is same given holds = absurd (omega arith)
twice os (a ∷ []) w s t le is same given holds = absurd (omega arith)
twice os (a ∷ (v ∷ more)) w s t le is same given holds =
    given_twice os a v more (ap (is_given a) (sym (behind_pair a v more)) ∙ ap (λ x. is_given x (behind (a ∷ (v ∷ more)))) (sym (same ∙ is)) ∙ sym given ∙ holds)

pub next : (os : Options) (rest : List (List ℕ)) (w v s z r : List ℕ) (t u : Bool) → 2 ≤ length rest → w ≡ get_or rest 0 w → v ≡ get_or rest 1 v → s ≡ w → z ≡ v → r ≡ w
    → t ≡ is_option os s z → t ≡ true → u ≡ is_given r (behind rest) → u ≡ false → are_pairs os rest ≡ are_pairs os (behind rest)
next os [] w v s z r t u le w_is v_is s_same z_same r_same option holds given lacks = absurd (omega arith)
next os (a ∷ []) w v s z r t u le w_is v_is s_same z_same r_same option holds given lacks = absurd (omega arith)
next os (a ∷ (b ∷ more)) w v s z r t u le w_is v_is s_same z_same r_same option holds given lacks =
    one_more os a b more
    (ap (λ x. is_option os x b) (sym (s_same ∙ w_is)) ∙ ap (is_option os s) (sym (z_same ∙ v_is)) ∙ sym option ∙ holds)
    (ap (is_given a) (sym (behind_pair a b more)) ∙ ap (λ x. is_given x (behind (a ∷ (b ∷ more)))) (sym (r_same ∙ w_is)) ∙ sym given ∙ lacks)
    ∙ ap (are_pairs os) (sym (behind_pair a b more))

-- no word is left for an operand
pub wanting : (rs : List Rule) (os : Options) (i : ℕ) (words : List (List ℕ)) → i < length rs → length words < 1 → follow (drop i rs) os words ≡ false
wanting rs os i (w ∷ words) lt none = absurd (omega arith)
wanting [] os i [] lt none = absurd (omega arith)
wanting (r ∷ rs) os zero [] lt none = refl
wanting (r ∷ rs) os (suc i) [] lt none = wanting rs os i [] (omega arith) none

-- Words in texts.
use Rattle.std.proofs.Common.{◌≡◌, ◌≢◌, ℕ, zero, suc, ◌≤◌, Bool, true, false, ◌||◌, List, [], ◌∷◌, ◌++◌, length, drop, Option, Some, None, refl, sym, ap, ◌∙◌, arith}
use Rattle.std.specs.Option.{is_some}
use Rattle.std.specs.Bool.{MatchBool}
use Rattle.std.specs.Str.Pattern.{FindsText, HasMatch}
use Rattle.eip_text.specs.Cuts.{behind}
use Rattle.eip_text.proofs.Cutting.{behind_again, behind_parts}
use Rattle.eip_uri.specs.Options.{holds_word}

some_false : {A : Type 0} (o : Option A) → ((x : A) → o ≡ Some x → ⊥) → is_some o ≡ false
some_false None h = refl
some_false (Some x) h = absurd (h x refl)

-- a text where the word stands at no place lacks it
pub word_lacks : (w bs : List ℕ) → ((i : ℕ) → i ≤ length bs → (rest : List ℕ) → drop i bs ≢ w ++ rest) → holds_word w bs ≡ false
word_lacks w [] h = some_false (behind w []) (λ r e. h 0 (omega arith) r (behind_parts w [] r e))
word_lacks w (b ∷ bs) h =
    let first : is_some (behind w (b ∷ bs)) ≡ false = some_false (behind w (b ∷ bs)) (λ r e. h 0 (omega arith) r (behind_parts w (b ∷ bs) r e)) in
    let more : holds_word w bs ≡ false = word_lacks w bs (λ i le. h (suc i) (omega arith)) in
    rw (first, more) refl

or_true : (t : Bool) → (t || true) ≡ true
or_true true = refl
or_true false = refl

-- a text where the word stands at some place holds it
pub word_stands : (w bs : List ℕ) (i : ℕ) (rest : List ℕ) → drop i bs ≡ w ++ rest → holds_word w bs ≡ true
word_stands w [] zero rest e = ap (λ (s : List ℕ). is_some (behind w s)) e ∙ ap is_some (behind_again w rest)
word_stands w [] (suc i) rest e = ap (λ (s : List ℕ). is_some (behind w s)) e ∙ ap is_some (behind_again w rest)
word_stands w (b ∷ bs) zero rest e =
    let first : is_some (behind w (b ∷ bs)) ≡ true = ap (λ (s : List ℕ). is_some (behind w s)) e ∙ ap is_some (behind_again w rest) in
    rw first refl
word_stands w (b ∷ bs) (suc i) rest e =
    let more : holds_word w bs ≡ true = word_stands w bs i rest e in
    rw more (or_true (is_some (behind w (b ∷ bs))))

-- `contains` answers whether the text holds the word
pub contains_is : (w bs : List ℕ) (r : Bool) → MatchBool r (HasMatch (FindsText w) bs) (FindsText w bs None) → r ≡ holds_word w bs
contains_is w bs true h = sym (word_stands w bs h.0 (drop h.1 bs) h.2.1.split)
contains_is w bs false h = sym (word_lacks w bs h)

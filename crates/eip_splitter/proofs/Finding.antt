-- The value of a name, as the pairs are looked through one by one.
use Rattle.std.proofs.Common.{◌≡◌, ℕ, ◌+◌, ◌<◌, ◌≤◌, Bool, true, false, cond, List, ◌∷◌, length, get_or, drop, Option, Some, None, sym, ap, ap₂, ◌∙◌, add-one, drop-cons, drop_of_length-le}
use Rattle.std.proofs.lemmas.Bool.{false_from_ne_true}
use Rattle.std.proofs.lemmas.Slice.Eq.{bytes_eq-Decides}
use Rattle.eip_exchange.specs.Headers.{same_name, folded}
use Rattle.eip_exchange.specs.Pairs.{Pairs, value_of}

pub same_true : (a b : List ℕ) → folded a ≡ folded b → same_name a b ≡ true
same_true a b e = (bytes_eq-Decides (folded a) (folded b)).1 e

pub same_false : (a b : List ℕ) → (folded a ≡ folded b → ⊥) → same_name a b ≡ false
same_false a b h = false_from_ne_true (same_name a b) (λ t. h ((bytes_eq-Decides (folded a) (folded b)).0 t))

module _ (same : List ℕ → List ℕ → Bool) (name : List ℕ) (ps : Pairs) (i : ℕ) (total : Option (List ℕ)) where
  module _ (p : List ℕ × List ℕ) (lt : i < length ps) (is : p ≡ get_or ps i p) where
    at : drop i ps ≡ p ∷ drop (i + 1) ps
    at = drop-cons ps i p lt ∙ ap₂ (λ (q : List ℕ × List ℕ) (j : ℕ). q ∷ drop j ps) (sym is) (sym (add-one i))

    first : (t : Bool) → same name p.0 ≡ t → value_of same name (drop i ps) ≡ total → cond t (Some p.1) (value_of same name (drop (i + 1) ps)) ≡ total
    first t e h = ap (λ (b : Bool). cond b (Some p.1) (value_of same name (drop (i + 1) ps))) (sym e) ∙ ap (value_of same name) (sym at) ∙ h

    pub value_here : same name p.0 ≡ true → value_of same name (drop i ps) ≡ total → Some p.1 ≡ total
    value_here e h = first true e h

    pub value_later : same name p.0 ≡ false → value_of same name (drop i ps) ≡ total → value_of same name (drop (i + 1) ps) ≡ total
    value_later e h = first false e h

  pub value_nowhere : length ps ≤ i → value_of same name (drop i ps) ≡ total → None ≡ total
  value_nowhere le h = sym (ap (value_of same name) (drop_of_length-le ps le)) ∙ h

-- A lane's name, from its front.
use Rattle.std.proofs.Common.{ℕ, List, [], ◌∷◌, ◌++◌, ◌≡◌, refl, ap, ◌∙◌, Bool, true, false, cond, eqb, ◌&&◌}
use Rattle.std.specs.Prelude.{Option, Some, None, bytes_eq}
use Rattle.eip_text.specs.Cuts.{behind}

abbrev is_rest : Option (List ℕ) → List ℕ → Bool
is_rest None n = false
is_rest (Some r) n = bytes_eq r n

guarded : (t x : Bool) (o : Option (List ℕ)) (n : List ℕ) → x ≡ is_rest o n → t && x ≡ is_rest (cond t o None) n
guarded true x o n e = e
guarded false x o n e = refl

same : (w n s : List ℕ) → bytes_eq s (w ++ n) ≡ is_rest (behind w s) n
same [] n s = refl
same (w ∷ ws) n [] = refl
same (w ∷ ws) n (b ∷ bs) = guarded (eqb b w) (bytes_eq bs (ws ++ n)) (behind ws bs) n (same ws n bs)

pub behind_same : (w n s r : List ℕ) → behind w s ≡ Some r → bytes_eq s (w ++ n) ≡ bytes_eq r n
behind_same w n s r e = same w n s ∙ ap (λ o. is_rest o n) e

pub behind_none : (w n s : List ℕ) → behind w s ≡ None → bytes_eq s (w ++ n) ≡ false
behind_none w n s e = same w n s ∙ ap (λ o. is_rest o n) e

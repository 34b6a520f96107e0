-- A text that grows by the texts of a list's items, one by one.
use Rattle.std.proofs.Common.{◌≡◌, ℕ, zero, suc, ◌≤◌, List, [], ◌∷◌, ◌++◌, length, drop, Some, None, refl, sym, ap, ◌∙◌, append_assoc}
use Rattle.std.specs.List.{flat_map, slice_get}
use Rattle.std.proofs.lemmas.List.{append-nil}
use Rattle.std.proofs.lemmas.Option.{slice_get_past}
use Rattle.std.proofs.lemmas.List.Concat.{flat_map-cons}

-- the items from a place on, by the one that stands there
pub at_place : {X : Type 0} (xs : List X) (k : ℕ) (x : X) → slice_get xs k ≡ Some x → drop k xs ≡ x ∷ drop (suc k) xs
at_place [] k x e = absurd cc
at_place (y ∷ ys) zero x e = let same : y ≡ x = cc in ap (λ (z : _). z ∷ ys) same
at_place (y ∷ ys) (suc k) x e = at_place ys k x e

pub past_place : {X : Type 0} (xs : List X) (k : ℕ) → slice_get xs k ≡ None → drop k xs ≡ []
past_place [] zero e = refl
past_place [] (suc k) e = refl
past_place (y ∷ ys) zero e = absurd cc
past_place (y ∷ ys) (suc k) e = past_place ys k e

-- one more item's text
pub grows : {X : Type 0} (f : X → List ℕ) (x : X) (items rest : List X) (out next whole : List ℕ) → items ≡ x ∷ rest → next ≡ out ++ f x → out ++ flat_map f items ≡ whole → next ++ flat_map f rest ≡ whole
grows f x items rest out next whole i n h =
    ap (λ (t : List ℕ). t ++ flat_map f rest) n ∙ append_assoc out (f x) (flat_map f rest) ∙ ap (λ (t : List ℕ). out ++ t) (sym (flat_map-cons f x rest))
    ∙ ap (λ (ys : List _). out ++ flat_map f ys) (sym i) ∙ h

-- no item is left
pub grown : {X : Type 0} (f : X → List ℕ) (items : List X) (out whole : List ℕ) → items ≡ [] → out ++ flat_map f items ≡ whole → out ≡ whole
grown f items out whole i h = sym (append-nil out) ∙ ap (λ (ys : List _). out ++ flat_map f ys) (sym i) ∙ h

-- all items' texts
pub all_grown : {X : Type 0} (f : X → List ℕ) (xs : List X) (k : ℕ) (out whole : List ℕ) → length xs ≤ k → out ++ flat_map f (drop k xs) ≡ whole → out ≡ whole
all_grown f xs k out whole l h = grown f (drop k xs) out whole (past_place xs k (slice_get_past xs k l)) h
